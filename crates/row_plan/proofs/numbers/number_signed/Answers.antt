-- `row_plan::numbers::number_signed` meets its contract. Assumes nothing.
use Prim.Native.Nat.{ℕ}
use mathlib.Core.Path.{ap, ◌∙◌}
use mathlib.Core.List.{List}
use Rattle.std.proofs.lemmas.Result.{err_from_is_err_and}
use Rattle.wire.specs.Outcome.{ok}
use Rattle.row_plan.specs.Inner.Numbers.{one_listed}
use Rattle.row_plan.proofs.NumberLaws.{signed_read}
use Rattle.row_plan.proofs.numbers.number_signed.Goals as goal

pub returns-in_err-x : goal.returns-in_err-x
returns-in_err-x c = let a = c.args in
    let p = err_from_is_err_and c.from_residual.result c.from_residual.ensures.1 in
    λ by. rw (p.1, p.2) (signed_read a.width.bytes by a.place a.s.now a.at a.width.some c.in_err-x.ensures)

pub returns : goal.returns
returns c = let a = c.args in
    λ by. ap (λ (ns : List ℕ). ok (ns, c.in_ok-x.next)) (c.one.ensures ∙ ap (one_listed 2) c.widened.ensures) ∙ signed_read a.width.bytes by a.place a.s.now a.at a.width.some c.in_ok-x.ensures
