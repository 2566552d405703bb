-- `temporal::judge::datetime_of` meets its contract. A date's own part is out of range before the clock's. Assumes nothing.
use mathlib.Core.Path.{◌≡◌}
use native.Mathlib.Omega.{arith}
use borrow.Author.Tests.{ne_eqb}
use Rattle.std.proofs.Common.{rules, Err}
use Rattle.temporal.specs.Ranges.{clock_fault}
use Rattle.temporal.proofs.Ranges.{Day, day_none, day_out}
use Rattle.temporal.proofs.judge.datetime_of.Goals as goal

pub returns-in_err-check_day : goal.returns-in_err-check_day
returns-in_err-check_day c =
    let a = c.args in
    let p = c.in_err-check_day.field-0.0 in
    let x = c.in_err-check_day.ensures.first in
    let r : c.from_residual.result ≡ Err p = search rules in
    rw (day_out a.y a.mo a.d (clock_fault 23 a.h a.mi a.s a.u) p x.0 x.1, ne_eqb p 0 (λ e. omega arith)) r

pub returns-in_err-check_clock : goal.returns-in_err-check_clock
returns-in_err-check_clock c =
    let a = c.args in
    let p = c.in_err-check_clock.field-0.0 in
    let x = c.in_err-check_clock.ensures.first in
    let d = c.in_ok-check_day.ensures.within in
    let day : Day a.y a.mo a.d = record { year = d.0; month = d.1; day = d.2 } in
    let r : c.from_residual-in_err-check_clock.result ≡ Err p = search rules in
    rw (day_none (clock_fault 23 a.h a.mi a.s a.u) day, ← x.0, ne_eqb p 0 (λ e. omega arith)) r
