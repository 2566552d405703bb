-- `wire::signed::in_halves` meets its contract. Assumes nothing.
use Prim.Native.Nat.{◌+◌, ◌/◌, ◌%◌, ◌^◌, min}
use mathlib.Core.Path.{◌≡◌, sym, ap, ◌∙◌}
use native.Mathlib.Omega.{arith}
use mir.Syntax.{w64}
use mir.ValLaws.{to_z-of_z}
use Rattle.wire.specs.Inner.Signed.{magnitude_of}
use Rattle.wire.proofs.Signs.{halves_is}
use Rattle.wire.proofs.signed.in_halves.Goals as goal

pub returns : goal.returns
returns c = let a = c.args in
    let n = c.magnitude.ensures ∙ ap magnitude_of (to_z-of_z w64 a.z c.ranges.z) in
    let t = c.top_of-top.result in
    let e : 256 ^ min a.k 8 / 2 ≡ t / 2 + t % 2 = omega (arith, c.top_of-top.ensures) in
    rw (n, ← e) (sym (halves_is (256 ^ min a.k 8) a.z))
