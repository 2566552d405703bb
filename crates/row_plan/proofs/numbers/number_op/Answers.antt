-- `row_plan::numbers::number_op` meets its contract. Assumes nothing.
use Prim.Native.Nat.{◌≤◌, ◌<◌}
use mathlib.Core.Path.{sym, ◌∙◌}
use Rattle.temporal.specs.declared.storage.Storage.TheVariants.{Newdate}
use Rattle.value.specs.Ops.{shape_for}
use native.Mathlib.Omega.{arith}
use Rattle.value.proofs.Ops.{at_timestamp, at_datetime, at_time}
use Rattle.row_plan.proofs.NumberLaws.{at_op, at_shape, timed_told}
use Rattle.row_plan.proofs.numbers.number_op.Goals as goal

pub returns-in-24 : goal.returns-in-24
unfolding shape_for
returns-in-24 c =
    let a = c.args in
    c.number_timed.ensures a.by ∙ timed_told Newdate a.by a.place a.s.now a.at c.read_newdate.ensures
    ∙ sym (at_op a.by a.place a.s.now a.at c.in-24.is)

pub returns-in-25-to-31 : goal.returns-in-25-to-31
returns-in-25-to-31 c =
    let a = c.args in
    let h : 25 ≤ a.op = omega arith in
    let l : a.op < 32 = omega arith in
    c.number_timed-in-25-to-31.ensures a.by
    ∙ timed_told _ a.by a.place a.s.now a.at c.read_timestamp2.ensures
    ∙ sym (at_shape a.by a.place a.s.now a.at
    (at_timestamp a.op h l))

pub returns-in-32-to-38 : goal.returns-in-32-to-38
returns-in-32-to-38 c =
    let a = c.args in
    let h : 32 ≤ a.op = omega arith in
    let l : a.op < 39 = omega arith in
    c.number_timed-in-32-to-38.ensures a.by
    ∙ timed_told _ a.by a.place a.s.now a.at c.read_datetime2.ensures
    ∙ sym (at_shape a.by a.place a.s.now a.at
    (at_datetime a.op h l))

pub returns-in-39-to-45 : goal.returns-in-39-to-45
returns-in-39-to-45 c =
    let a = c.args in
    let h : 39 ≤ a.op = omega arith in
    let l : a.op < 46 = omega arith in
    c.number_timed-in-39-to-45.ensures a.by
    ∙ timed_told _ a.by a.place a.s.now a.at c.read_time2.ensures
    ∙ sym (at_shape a.by a.place a.s.now a.at
    (at_time a.op h l))
