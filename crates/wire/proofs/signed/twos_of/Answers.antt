-- `wire::signed::twos_of` meets its contract. Assumes nothing.
use Prim.Native.Nat.{◌-◌, ◌^◌, min}
use mathlib.Core.Path.{◌≡◌, sym, ap, ◌∙◌}
use native.Mathlib.Omega.{arith}
use mir.Syntax.{w64}
use mir.ValLaws.{to_z-of_z}
use Rattle.wire.specs.Inner.Signed.{magnitude_of}
use Rattle.wire.proofs.Signs.{turned, same, magnitude_neg, magnitude_pos, twos_neg, twos_pos}
use Rattle.wire.proofs.signed.twos_of.Goals as goal

pub returns-then-z-lt0 : goal.returns-then-z-lt0
returns-then-z-lt0 c =
    let a = c.args in
    let m = 256 ^ min a.k 8 in
    let w = turned a.z c.ranges.z c.if-z-lt0.true in
    let n = c.magnitude.ensures ∙ ap magnitude_of (to_z-of_z w64 a.z c.ranges.z) ∙ magnitude_neg _ _ w.1 in
    let e : c.saturating_sub.result ≡ m - 1 - w.0 = omega (arith, c.saturating_sub.ensures, n, c.top_of.ensures) in
    e ∙ sym (twos_neg m a.z w.0 w.1)

pub returns : goal.returns
returns c =
    let a = c.args in
    let w = (same a.z c.ranges.z c.if-z-lt0.false).1 in
    c.magnitude-2.ensures ∙ ap magnitude_of (to_z-of_z w64 a.z c.ranges.z) ∙ magnitude_pos _ _ w
    ∙ sym (twos_pos (256 ^ min a.k 8) a.z _ w)
