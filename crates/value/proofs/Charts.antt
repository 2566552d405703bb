-- Document 01's own facts of column types, computed. Assumes nothing.
use Prim.Native.Nat.{ℕ, ◌+◌, ◌≤◌}
use mathlib.Core.Bool.{false}
use mathlib.Core.Path.{◌≡◌, refl, ap}
use mathlib.Core.List.{[], ◌∷◌}
use native.Mathlib.Omega.{arith}
use borrow.Author.Tests.{ne_eqb}
use Rattle.wire.specs.Outcome.{ok}
use Rattle.wire.specs.Number.{le_value}
use Rattle.value.specs.declared.shape.Shape.TheVariants.{Unsigned, Fixed, Counted, NotTaken}
use Rattle.value.specs.declared.column.Column.{Column}
use Rattle.value.specs.Types.{real_type}
use Rattle.value.specs.declared.datum.Value.TheVariants.{Year}
use Rattle.value.specs.Columns.{declared_length, decimal_bytes, shape_of}
use Rattle.value.specs.Years.{year_of}
use Rattle.value.specs.Reading.{read_value}

-- a column that is not flagged unsigned
abbrev column : ℕ → ℕ → ℕ → Column
column t a b = record { real = t; m0 = a; m1 = b; unsigned = false }

-- "CHAR FE FF: 255, one length byte; EE 00: 256, two"
char_fe_ff : (declared_length 254 254 255 ≡ 255) × (shape_of (column 254 254 255) ≡ Counted 1)
unfolding declared_length shape_of
char_fe_ff = (refl, refl)

char_ee_00 : (declared_length 254 238 0 ≡ 256) × (shape_of (column 254 238 0) ≡ Counted 2)
unfolding declared_length shape_of
char_ee_00 = (refl, refl)

-- "CHAR with m0 0: ... refused here"
char_00 : shape_of (column 254 0 20) ≡ NotTaken 5
unfolding shape_of
char_00 = refl

-- VARCHAR of 255 and of 256
varchars : (shape_of (column 15 255 0) ≡ Counted 1) × (shape_of (column 15 0 1) ≡ Counted 2)
unfolding shape_of
varchars = (refl, refl)

-- eleven integer digits take 4 + 1 bytes, nine fraction digits 4
decimal_20_9 : (decimal_bytes 20 9 ≡ 9) × (shape_of (column 246 20 9) ≡ Fixed 9)
unfolding shape_of decimal_bytes
decimal_20_9 = (refl, refl)

-- YEAR: bytes 1 to 255 are 1901 to 2155
pub year_read : (b : ℕ) → 1 ≤ b → read_value (shape_of (column 13 0 0)) 0 (b ∷ []) 0 ≡ ok (Year (1900 + b), 1)
unfolding shape_of read_value le_value
year_read b h =
    let e : year_of (le_value (b ∷ [])) ≡ 1900 + b = rw (ne_eqb (b + 0) 0 (λ e. omega arith)) (omega arith) in
    ap (λ (n : ℕ). ok (Year n, 1)) e

-- BIT(1) has m0 = 1, BIT(64) m1 = 8; there is no BIT(0) and no BIT(65)
bits : (shape_of (column 16 1 0) ≡ Fixed 1) × (shape_of (column 16 0 8) ≡ Fixed 8) × (shape_of (column 16 0 0) ≡ NotTaken 5)
    × (shape_of (column 16 1 8) ≡ NotTaken 5)
unfolding shape_of
bits = (refl, refl, refl, refl)

-- SET of up to 64 members, ENUM of more than 255; m0 is any byte
sets : (shape_of (column 248 248 8) ≡ Fixed 8) × (shape_of (column 248 0 5) ≡ NotTaken 5)
unfolding shape_of
sets = (refl, refl)

enums : (shape_of (column 247 247 2) ≡ Unsigned 2) × (shape_of (column 247 0 3) ≡ NotTaken 5)
unfolding shape_of
enums = (refl, refl)

-- 10 is no real type, and 6 no type
not_types : (shape_of (column 10 0 0) ≡ NotTaken 4) × (shape_of (column 6 0 0) ≡ NotTaken 4)
unfolding shape_of
not_types = (refl, refl)

-- the real types of 254 with m0 F7, F8 and CE, and of 10
real_types : (real_type 254 247 ≡ 247) × (real_type 254 248 ≡ 248) × (real_type 254 206 ≡ 254) × (real_type 10 0 ≡ 14)
unfolding real_type
real_types = (refl, refl, refl, refl)
