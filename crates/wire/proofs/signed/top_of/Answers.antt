-- `wire::signed::top_of` meets its contract. Assumes nothing.
use Prim.Native.Nat.{ℕ, ◌^◌}
use mathlib.Core.Path.{ap, ◌∙◌}
use native.Mathlib.Omega.{arith}
use Rattle.wire.proofs.Signs.{top_is}
use Rattle.wire.proofs.signed.top_of.Goals as goal

pub returns : goal.returns
returns c = top_is c.min.result (omega (arith, c.min.ensures)) ∙ ap (λ (k : ℕ). 256 ^ k) c.min.ensures
