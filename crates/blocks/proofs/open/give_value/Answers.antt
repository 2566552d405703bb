-- `blocks::open::give_value` meets its contract. Assumes nothing.
use Prim.Native.Nat.{ℕ}
use mathlib.Core.Path.{◌≡◌, sym, subst, ◌∙◌}
use mathlib.Core.List.{List}
use native.Mathlib.Omega.{arith}
use Rattle.value.specs.declared.shape.Shape.{Shape}
use Rattle.value.specs.Shapes.{fault}
use Rattle.value.specs.Inner.Shapes.{Sized}
use Rattle.value.proofs.Tables.{sized}
use Rattle.blocks.proofs.Values.{prefix_few, wait_fits, long_fits, whole_fits}
use Rattle.blocks.proofs.Values.{whole_answers, no_fault}
use Rattle.blocks.proofs.open.give_value.Goals as goal

pub turn_of-requires : goal.turn_of-requires
turn_of-requires c = subst Sized (sym c.shape_of-shape.ensures) (sized c.args.due.kind)

pub take_to-requires : goal.take_to-requires
take_to-requires c =
    let a = c.args in
    let w = wait_fits a.due.kind a.carry.now a.due.call.block.now c.requires c.head-head.ensures c.shape_of-shape.ensures c.turn_of.ensures c.in-Wait.is in
    (c.requires.fits, omega (arith, w), omega arith)

pub overflow_add-upto : goal.overflow_add-upto
overflow_add-upto c =
    let a = c.args in
    omega (
      arith,
      c.requires.narrow,
      c.prefix_of.ensures,
      prefix_few a.due.kind a.carry.now a.due.call.block.now c.requires c.head-head.ensures c.shape_of-shape.ensures c.turn_of.ensures,
    )

pub take_to-requires-in-Long : goal.take_to-requires-in-Long
take_to-requires-in-Long c =
    let a = c.args in
    let w = long_fits a.due.kind a.carry.now a.due.call.block.now c.requires c.head-head.ensures c.shape_of-shape.ensures c.turn_of.ensures c.in-Long.is in
    (c.requires.fits, omega (arith, w.0, c.prefix_of.ensures), omega (arith, w.1, c.prefix_of.ensures))

pub give_timed-requires : goal.give_timed-requires
give_timed-requires c =
    let a = c.args in
    let w = whole_fits a.due.kind a.carry.now a.due.call.block.now c.requires c.head-head.ensures c.shape_of-shape.ensures c.turn_of.ensures c.in-Whole.is in
    (w, (c.in-Timed.field-0, sym c.shape_of-shape.ensures ∙ c.in-Timed.is), c.head-head.ensures)

pub give_stored-requires : goal.give_stored-requires
give_stored-requires c =
    let a = c.args in
    let w = whole_fits a.due.kind a.carry.now a.due.call.block.now c.requires c.head-head.ensures c.shape_of-shape.ensures c.turn_of.ensures c.in-Whole.is in
    (w, subst (λ (s : Shape). (b : List ℕ) → fault s b ≡ 0) c.shape_of-shape.ensures (no_fault _ c.in_default.not-Timed))

pub returns-in_default : goal.returns-in_default
returns-in_default c =
    let a = c.args in
    rw (whole_answers a.due.kind a.carry.now a.due.call.block.now c.requires c.head-head.ensures c.shape_of-shape.ensures c.turn_of.ensures a.due.column c.in-Whole.is)
    (record { value = c.give_stored.ensures.value; carry_after = c.give_stored.ensures.carry_after })
