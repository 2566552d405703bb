-- `wire::signed::magnitude` meets its contract. Assumes nothing.
use mathlib.Core.Path.{sym, ap, subst, ◌∙◌}
use native.Mathlib.Nat.{lt_trans}
use lib.Dec.{T, lit<}
use lib.IntN.{ℤ, nat_abs}
use lib.Signed.{non_neg}
use mir.Syntax.{w64}
use mir.Val.{Fits}
use Rattle.wire.proofs.Signs.{turned, same, magnitude_neg, magnitude_pos}
use Rattle.wire.proofs.signed.magnitude.Goals as goal

pub overflow_sub-n : goal.overflow_sub-n
overflow_sub-n c = (turned c.args.z c.ranges.z c.if-z-lt0.true).4

pub overflow_cast-result : goal.overflow_cast-result
overflow_cast-result c = let w = turned c.args.z c.ranges.z c.if-z-lt0.true in
    subst (λ (y : ℤ). T (non_neg y) × Fits w64 (nat_abs y)) (sym w.2) (tt, record { fits = lt_trans w.3 (lit< tt) })

pub overflow_cast-result-else-z-lt0 : goal.overflow_cast-result-else-z-lt0
overflow_cast-result-else-z-lt0 c = (same c.args.z c.ranges.z c.if-z-lt0.false).0

pub returns-then-z-lt0 : goal.returns-then-z-lt0
returns-then-z-lt0 c = let w = turned c.args.z c.ranges.z c.if-z-lt0.true in
    ap nat_abs w.2 ∙ sym (magnitude_neg _ _ w.1)

pub returns-else-z-lt0 : goal.returns-else-z-lt0
returns-else-z-lt0 c = sym (magnitude_pos c.args.z _ (same c.args.z c.ranges.z c.if-z-lt0.false).1)
