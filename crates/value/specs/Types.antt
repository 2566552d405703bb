-- The one table of column types, and what a type alone tells: how many bytes of metadata it has, whether it is numeric, and the real type.
-- Assumes nothing.
use Rattle.std.specs.Prelude.{ℕ, ◌+◌, ◌*◌, ◌/◌, ◌%◌, Bool, true, false, cond, eqb}
use Rattle.value.specs.declared.types.Family.{Family}
use Rattle.value.specs.declared.types.Family.TheVariants.{Integer, Float, Double, Year, Timestamp, Date, Time, Datetime, Timestamp2}
use Rattle.value.specs.declared.types.Family.TheVariants.{Datetime2, Time2, Varchar, Char, Blob, Json, Bit, Decimal, Enum, Set}
use Rattle.value.specs.declared.types.Family.TheVariants.{Unknown}

-- ---- the table
unfoldable pub family_of : ℕ → Family
family_of t =
    cond (eqb t 1) (Integer 1)
    (cond (eqb t 2) (Integer 2)
    (cond (eqb t 3) (Integer 4)
    (cond (eqb t 4) Float
    (cond (eqb t 5) Double
    (cond (eqb t 7) Timestamp
    (cond (eqb t 8) (Integer 8)
    (cond (eqb t 9) (Integer 3)
    (cond (eqb t 10) Date
    (cond (eqb t 11) Time
    (cond (eqb t 12) Datetime
    (cond (eqb t 13) Year
    (cond (eqb t 14) Date
    (cond (eqb t 15) Varchar
    (cond (eqb t 16) Bit
    (cond (eqb t 17) Timestamp2
    (cond (eqb t 18) Datetime2
    (cond (eqb t 19) Time2
    (cond (eqb t 242) Blob
    (cond (eqb t 245) Json
    (cond (eqb t 246) Decimal
    (cond (eqb t 247) Enum
    (cond (eqb t 248) Set
    (cond (eqb t 249) Blob
    (cond (eqb t 250) Blob
    (cond (eqb t 251) Blob
    (cond (eqb t 252) Blob
    (cond (eqb t 253) Varchar
    (cond (eqb t 254) Char
    (cond (eqb t 255) Blob
    Unknown)))))))))))))))))))))))))))))

-- ---- what the family alone tells
pub record Traits : Type 0 where
  -- whether there is such a type
  pub known : Bool
  -- how many bytes of metadata it has
  pub metadata : ℕ
  -- "Numeric are types 1, 2, 3, 4, 5, 8, 9, 246": to these document 01 gives a signedness bit
  pub numeric : Bool

unfoldable pub traits_of : Family → Traits
traits_of (Integer k) = record { known = true; metadata = 0; numeric = true }
traits_of Float = record { known = true; metadata = 1; numeric = true }
traits_of Double = record { known = true; metadata = 1; numeric = true }
traits_of Year = record { known = true; metadata = 0; numeric = false }
traits_of Timestamp = record { known = true; metadata = 0; numeric = false }
traits_of Date = record { known = true; metadata = 0; numeric = false }
traits_of Time = record { known = true; metadata = 0; numeric = false }
traits_of Datetime = record { known = true; metadata = 0; numeric = false }
traits_of Timestamp2 = record { known = true; metadata = 1; numeric = false }
traits_of Datetime2 = record { known = true; metadata = 1; numeric = false }
traits_of Time2 = record { known = true; metadata = 1; numeric = false }
traits_of Varchar = record { known = true; metadata = 2; numeric = false }
traits_of Char = record { known = true; metadata = 2; numeric = false }
traits_of Blob = record { known = true; metadata = 1; numeric = false }
traits_of Json = record { known = true; metadata = 1; numeric = false }
traits_of Bit = record { known = true; metadata = 2; numeric = false }
traits_of Decimal = record { known = true; metadata = 2; numeric = true }
traits_of Enum = record { known = true; metadata = 2; numeric = false }
traits_of Set = record { known = true; metadata = 2; numeric = false }
traits_of Unknown = record { known = false; metadata = 0; numeric = false }

unfoldable pub is_known : Family → Bool
unfolding traits_of
is_known f = (traits_of f).known

unfoldable pub metadata_bytes : Family → ℕ
unfolding traits_of
metadata_bytes f = (traits_of f).metadata

unfoldable pub is_numeric : Family → Bool
unfolding traits_of
is_numeric f = (traits_of f).numeric

-- ---- the real type. "m0 or-ed with 0x30": the two bits of 0x30 set, the others as they are
abbrev pub or30 : ℕ → ℕ
or30 m0 = m0 / 64 * 64 + 48 + m0 % 16

-- "Real type of 10 is 14"; of 254 it is told by m0
unfoldable pub real_type : ℕ → ℕ → ℕ
real_type t m0 = cond (eqb t 10) 14 (cond (eqb t 254) (or30 m0) t)
