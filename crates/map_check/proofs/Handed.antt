-- What `?` hands on: the refusal that it met. Assumes nothing.
use mathlib.Core.Path.{◌≡◌}
use Rattle.std.specs.Result.{IsErrAnd}
use Rattle.std.proofs.lemmas.Result.{err_from_is_err_and}
use Rattle.wire.specs.declared.refusal.Refusal.{Refusal}
use Rattle.wire.specs.Outcome.{Outcome, refused}

pub handed_on : {A : Type 0} {r : Outcome A} {w : Refusal} → IsErrAnd r (λ v. v ≡ w) → r ≡ refused w
handed_on {A} {r} {w} h = let p = err_from_is_err_and r h in rw (p.1, p.2)
