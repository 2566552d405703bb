-- `temporal::read::read_temporal` meets its contract. The test for room says whether the bytes are there; what `judge` answers of their two
-- numbers is what is read. Assumes nothing.
use mathlib.Core.Path.{◌≡◌, sym, ap, ◌∙◌}
use Prim.Native.Nat.{◌+◌, ◌≤◌}
use lib.ListN.{length}
use Rattle.std.specs.Prelude.{Err}
use Rattle.std.proofs.Common.{rules}
use Rattle.wire.specs.Outcome.{refused}
use Rattle.temporal.specs.Reading.{temporal_size}
use Rattle.temporal.proofs.Steps.{read_judged, read_short, ends, ends_not}
use Rattle.temporal.proofs.read.read_temporal.Goals as goal

pub returns-in_err-next : goal.returns-in_err-next
returns-in_err-next c =
    let a = c.args in
    let r : c.from_residual.result ≡ Err c.in_err-next.field-0.0 = search rules in
    let e = ends_not a.s.now a.at c.temporal_size.result a.place _ (sym c.in_err-next.ensures) in
    r ∙ ap refused e.1 ∙ sym (read_short a.storage a.place a.s.now a.at (rw (← c.temporal_size.ensures) e.0))

pub returns : goal.returns
returns c =
    let a = c.args in
    let e = ends a.s.now a.at c.temporal_size.result a.place _ (sym c.in_ok-next.ensures) in
    let there : a.at + temporal_size a.storage ≤ length a.s.now = rw (← c.temporal_size.ensures) e.0 in
    let x = c.stored_in-stored.ensures in
    c.answer.ensures
    ∙ rw (e.1, c.temporal_size.ensures) (read_judged a.storage a.place a.s.now a.at _ _ there x.whole.0 x.units _ c.judge.ensures)
