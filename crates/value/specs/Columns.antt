-- How the values of a column are stored: what follows from its type and its metadata m0, m1, which metadata are accepted, and the sizes
-- that they tell. Assumes nothing.
use Rattle.std.specs.Prelude.{ℕ, ◌+◌, ◌-◌, ◌*◌, ◌/◌, ◌%◌, Bool, true, false, cond, ◌&&◌, ◌||◌, leb, ltb, eqb}
use Rattle.temporal.specs.declared.storage.Storage.TheVariants.{Timestamp as StoredTimestamp, OldTime, OldDatetime, Newdate}
use Rattle.temporal.specs.declared.storage.Storage.TheVariants.{Timestamp2 as StoredTimestamp2, Datetime2 as StoredDatetime2}
use Rattle.temporal.specs.declared.storage.Storage.TheVariants.{Time2 as StoredTime2}
use Rattle.value.specs.declared.shape.Shape.{Shape}
use Rattle.value.specs.declared.shape.Shape.TheVariants.{Unsigned, Signed, FloatBits, DoubleBits, YearByte, Timed, Fixed, Counted}
use Rattle.value.specs.declared.shape.Shape.TheVariants.{NotTaken}
use Rattle.value.specs.declared.column.Column.{Column}
use Rattle.value.specs.declared.types.Family.{Family}
use Rattle.value.specs.declared.types.Family.TheVariants.{Integer, Float, Double, Year, Timestamp, Date, Time, Datetime, Timestamp2}
use Rattle.value.specs.declared.types.Family.TheVariants.{Datetime2, Time2, Varchar, Char, Blob, Json, Bit, Decimal, Enum, Set}
use Rattle.value.specs.declared.types.Family.TheVariants.{Unknown}
use Rattle.value.specs.Types.{family_of, or30}

-- ---- sizes that metadata tell
-- "254: m1 + 16·((m0 and 0x30) xor 0x30)"
abbrev pub char_length : ℕ → ℕ → ℕ
char_length m0 m1 = m1 + 16 * (48 - m0 / 16 % 4 * 16)

-- the declared length of a string, in bytes: "15, 253: declared length m0+256·m1", and that of 254; other types declare none
unfoldable pub declared_in : Family → ℕ → ℕ → ℕ
declared_in (Integer k) m0 m1 = 0
declared_in Float m0 m1 = 0
declared_in Double m0 m1 = 0
declared_in Year m0 m1 = 0
declared_in Timestamp m0 m1 = 0
declared_in Date m0 m1 = 0
declared_in Time m0 m1 = 0
declared_in Datetime m0 m1 = 0
declared_in Timestamp2 m0 m1 = 0
declared_in Datetime2 m0 m1 = 0
declared_in Time2 m0 m1 = 0
declared_in Varchar m0 m1 = m0 + 256 * m1
declared_in Char m0 m1 = char_length m0 m1
declared_in Blob m0 m1 = 0
declared_in Json m0 m1 = 0
declared_in Bit m0 m1 = 0
declared_in Decimal m0 m1 = 0
declared_in Enum m0 m1 = 0
declared_in Set m0 m1 = 0
declared_in Unknown m0 m1 = 0

-- the same by the type
unfoldable pub declared_length : ℕ → ℕ → ℕ → ℕ
unfolding family_of declared_in
declared_length t m0 m1 = declared_in (family_of t) m0 m1

-- "Declared below 256: one length byte, else two"
abbrev pub length_bytes : ℕ → ℕ
length_bytes declared = cond (ltb declared 256) 1 2

-- leftover digits take "the half of one more than the digits, rounded down"; for 0 to 8 that is document 01's table (`leftover_table`)
unfoldable pub leftover_bytes : ℕ → ℕ
leftover_bytes digits = (digits + 1) / 2

-- "integer and fraction digits each take 4 bytes per nine"
abbrev pub digits_bytes : ℕ → ℕ
digits_bytes digits = digits / 9 * 4 + leftover_bytes (digits % 9)

unfoldable pub decimal_bytes : ℕ → ℕ → ℕ
unfolding leftover_bytes
decimal_bytes precision scale = digits_bytes (precision - scale) + digits_bytes scale

-- ---- which metadata are accepted, and the stored shape; metadata bytes that a type does not have are 0
-- a shape where a test holds, and refusal 5 otherwise
abbrev pub shape_if : Bool → Shape → Shape
shape_if t sh = cond t sh (NotTaken 5)

unfoldable pub shape_in : Family → ℕ → ℕ → Bool → Shape
unfolding declared_in decimal_bytes
shape_in (Integer k) m0 m1 unsigned = shape_if (eqb m0 0 && eqb m1 0) (cond unsigned (Unsigned k) (Signed k))
shape_in Float m0 m1 unsigned = shape_if (eqb m0 4 && eqb m1 0) FloatBits
shape_in Double m0 m1 unsigned = shape_if (eqb m0 8 && eqb m1 0) DoubleBits
shape_in Year m0 m1 unsigned = shape_if (eqb m0 0 && eqb m1 0) YearByte
shape_in Timestamp m0 m1 unsigned = shape_if (eqb m0 0 && eqb m1 0) (Timed StoredTimestamp)
shape_in Date m0 m1 unsigned = shape_if (eqb m0 0 && eqb m1 0) (Timed Newdate)
shape_in Time m0 m1 unsigned = shape_if (eqb m0 0 && eqb m1 0) (Timed OldTime)
shape_in Datetime m0 m1 unsigned = shape_if (eqb m0 0 && eqb m1 0) (Timed OldDatetime)
shape_in Timestamp2 m0 m1 unsigned = shape_if (leb m0 6 && eqb m1 0) (Timed (StoredTimestamp2 m0))
shape_in Datetime2 m0 m1 unsigned = shape_if (leb m0 6 && eqb m1 0) (Timed (StoredDatetime2 m0))
shape_in Time2 m0 m1 unsigned = shape_if (leb m0 6 && eqb m1 0) (Timed (StoredTime2 m0))
shape_in Varchar m0 m1 unsigned = Counted (length_bytes (declared_in Varchar m0 m1))
shape_in Char m0 m1 unsigned = shape_if (eqb (or30 m0) 254) (Counted (length_bytes (declared_in Char m0 m1)))
shape_in Blob m0 m1 unsigned = shape_if (leb 1 m0 && (leb m0 4 && eqb m1 0)) (Counted m0)
shape_in Json m0 m1 unsigned = shape_if (eqb m0 4 && eqb m1 0) (Counted 4)
shape_in Bit m0 m1 unsigned = shape_if (leb m0 7 && (leb 1 (8 * m1 + m0) && leb (8 * m1 + m0) 64)) (Fixed ((8 * m1 + m0 + 7) / 8))
shape_in Decimal m0 m1 unsigned = shape_if (leb 1 m0 && (leb m0 65 && (leb m1 30 && leb m1 m0))) (Fixed (decimal_bytes m0 m1))
shape_in Enum m0 m1 unsigned = shape_if (leb 1 m1 && leb m1 2) (Unsigned m1)
shape_in Set m0 m1 unsigned = shape_if (leb 1 m1 && (leb m1 4 || eqb m1 8)) (Fixed m1)
shape_in Unknown m0 m1 unsigned = NotTaken 4

-- of a column, as a record and a lone value have it: by its real type, which 10 is not
unfoldable pub shape_of : Column → Shape
unfolding family_of shape_in
shape_of c = cond (eqb c.real 10) (NotTaken 4) (shape_in (family_of c.real) c.m0 c.m1 c.unsigned)

-- whether there is such a column
unfoldable pub is_taken : Shape → Bool
is_taken (Unsigned k) = true
is_taken (Signed k) = true
is_taken FloatBits = true
is_taken DoubleBits = true
is_taken YearByte = true
is_taken (Timed k) = true
is_taken (Fixed n) = true
is_taken (Counted k) = true
is_taken (NotTaken n) = false

-- the refusal number where there is none
unfoldable pub refusal_of : Shape → ℕ
refusal_of (Unsigned k) = 0
refusal_of (Signed k) = 0
refusal_of FloatBits = 0
refusal_of DoubleBits = 0
refusal_of YearByte = 0
refusal_of (Timed k) = 0
refusal_of (Fixed n) = 0
refusal_of (Counted k) = 0
refusal_of (NotTaken n) = n
