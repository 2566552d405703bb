-- A value that does not tell its own length has 64 bytes at most. Assumes nothing.
use Prim.Native.Nat.{ℕ, ◌≤◌}
use mathlib.Core.Path.{◌≡◌}
use mathlib.Core.List.{List}
use native.Mathlib.Omega.{arith}
use Rattle.temporal.proofs.Forms.{size_most}
use Rattle.value.specs.declared.shape.Shape.{Shape}
use Rattle.value.specs.declared.shape.Shape.TheVariants.{Unsigned, Signed, FloatBits, DoubleBits, YearByte, Timed, Fixed, Counted}
use Rattle.value.specs.declared.shape.Shape.TheVariants.{NotTaken}
use Rattle.value.specs.declared.column.Column.{Column}
use Rattle.value.specs.Columns.{shape_of}
use Rattle.value.specs.Shapes.{need, prefix}
use Rattle.value.proofs.Tables.{Fine, fine}

narrow_of : (sh : Shape) → Fine sh → prefix sh ≡ 0 → (s : List ℕ) → need sh s ≤ 64
unfolding need prefix
narrow_of (Unsigned k) h e s = omega (arith, h.1)
narrow_of (Signed k) h e s = omega (arith, h.1)
narrow_of FloatBits h e s = omega arith
narrow_of DoubleBits h e s = omega arith
narrow_of YearByte h e s = omega arith
narrow_of (Timed k) h e s = omega (arith, size_most k)
narrow_of (Fixed n) h e s = h.1
narrow_of (Counted k) h e s = absurd (omega (arith, h.0, e))
narrow_of (NotTaken n) h e s = omega arith

pub narrow : (c : Column) → prefix (shape_of c) ≡ 0 → (s : List ℕ) → need (shape_of c) s ≤ 64
narrow c = narrow_of (shape_of c) (fine c)
