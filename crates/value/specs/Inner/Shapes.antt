-- The widths of the shapes that there are. Assumes nothing.
use Rattle.std.specs.Prelude.{◌≤◌, ◌<◌}
use Rattle.std.specs.Coded.{×_prop, Unit-prop, le_prop}
use Rattle.value.specs.declared.shape.Shape.{Shape}
use Rattle.value.specs.declared.shape.Shape.TheVariants.{Unsigned, Signed, FloatBits, DoubleBits, YearByte, Timed, Fixed, Counted}
use Rattle.value.specs.declared.shape.Shape.TheVariants.{NotTaken}

-- the widths that there are
abbrev pub Sized : Shape → Type 0
Sized (Unsigned k) = k ≤ 8
Sized (Signed k) = (0 < k) × (k ≤ 8)
Sized FloatBits = Unit {0}
Sized DoubleBits = Unit {0}
Sized YearByte = Unit {0}
Sized (Timed k) = Unit {0}
Sized (Fixed n) = Unit {0}
Sized (Counted k) = k ≤ 4
Sized (NotTaken n) = Unit {0}

-- any two proofs of it are equal, so a struct can keep it
pub sized_prop : (sh : Shape) → IsProp (Sized sh)
sized_prop (Unsigned k) = le_prop
sized_prop (Signed k) = ×_prop le_prop le_prop
sized_prop FloatBits = Unit-prop
sized_prop DoubleBits = Unit-prop
sized_prop YearByte = Unit-prop
sized_prop (Timed k) = Unit-prop
sized_prop (Fixed n) = Unit-prop
sized_prop (Counted k) = le_prop
sized_prop (NotTaken n) = Unit-prop
