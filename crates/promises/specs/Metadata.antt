-- Metadata: document 01's table, in numbers. Which types are taken, and with how many bytes; for each, which bytes are accepted, least,
-- greatest and all between; and how values of it are stored. The real type of 254 and its declared length, which the document tells by
-- bits, in bits. `metadata` in proofs/Readings/Metadata.antt proves all of it. Assumes nothing.
use Rattle.std.specs.Prelude.{ℕ, ◌+◌, ◌*◌, ◌≤◌, ◌<◌, ◌≡◌, Bool, false, ◌&&◌, ◌||◌, not, List, [], ◌∷◌, eqb, pos, negsuc, length, replicate}
use Rattle.std.specs.Int.Bits.{bit_and, bit_or, bit_xor}
use Rattle.wire.specs.Outcome.{ok, refuse}
use Rattle.wire.specs.Bits.{digit}
use Rattle.wire.specs.Parts.{part}
use Rattle.value.specs.declared.datum.Value.TheVariants.{Null, Int, Uint, Float, Double, Year, Bytes}
use Rattle.value.specs.Types.{family_of, metadata_bytes, real_type}
use Rattle.value.specs.Columns.{declared_length, shape_of, is_taken}
use Rattle.value.specs.Data.{year}
use Rattle.value.specs.Domains.{domain}
use Rattle.value.specs.Shapes.{need}
use Rattle.value.specs.Reading.{read_value}
use Rattle.value.specs.Storing.{write_value}
use Rattle.map_check.specs.Columns.{take_columns}
use Rattle.promises.specs.Tables.{EachRow, bytes_that, is_answered, refusal_number, Stored, stored, unread, unwritten, IsStored, column}
use Rattle.promises.specs.Tables.{unsigned_column}

-- ---- which metadata the check accepts
-- whether a map of one column of this type with these bytes of metadata is accepted
abbrev pub accepts : ℕ → List ℕ → Bool
accepts kind meta = is_answered (take_columns (kind ∷ []) meta 0)

-- a type, and the m0 that it accepts
abbrev pub OneByte : ℕ × List ℕ → Type 0
OneByte r = bytes_that (λ m0. accepts r.0 (m0 ∷ [])) ≡ r.1

-- types with one byte: every m0 that is accepted
unfoldable pub one_byte : List (ℕ × List ℕ)
one_byte =
    (4, 4 ∷ [])
    ∷ (5, 8 ∷ [])
    ∷ (17, 0 ∷ 1 ∷ 2 ∷ 3 ∷ 4 ∷ 5 ∷ 6 ∷ [])
    ∷ (18, 0 ∷ 1 ∷ 2 ∷ 3 ∷ 4 ∷ 5 ∷ 6 ∷ [])
    ∷ (19, 0 ∷ 1 ∷ 2 ∷ 3 ∷ 4 ∷ 5 ∷ 6 ∷ [])
    ∷ (242, 1 ∷ 2 ∷ 3 ∷ 4 ∷ [])
    ∷ (249, 1 ∷ 2 ∷ 3 ∷ 4 ∷ [])
    ∷ (250, 1 ∷ 2 ∷ 3 ∷ 4 ∷ [])
    ∷ (251, 1 ∷ 2 ∷ 3 ∷ 4 ∷ [])
    ∷ (252, 1 ∷ 2 ∷ 3 ∷ 4 ∷ [])
    ∷ (255, 1 ∷ 2 ∷ 3 ∷ 4 ∷ [])
    ∷ (245, 4 ∷ [])
    ∷ []

-- a type, an m1 and the m0 that it accepts with it; a type, an m0 and the m1
abbrev pub with_second : ℕ → ℕ → List ℕ
with_second kind m1 = bytes_that (λ m0. accepts kind (m0 ∷ m1 ∷ []))

abbrev pub with_first : ℕ → ℕ → List ℕ
with_first kind m0 = bytes_that (λ m1. accepts kind (m0 ∷ m1 ∷ []))

abbrev pub FirstBytes : ℕ × ℕ × List ℕ → Type 0
FirstBytes r = with_second r.0 r.1 ≡ r.2

abbrev pub SecondBytes : ℕ × ℕ × List ℕ → Type 0
SecondBytes r = with_first r.0 r.1 ≡ r.2

unfoldable pub first_bytes : List (ℕ × ℕ × List ℕ)
first_bytes =
    -- BIT of 1 to 64 bits: m0 0..7, 8·m1+m0 in 1..64
    (16, 0, 1 ∷ 2 ∷ 3 ∷ 4 ∷ 5 ∷ 6 ∷ 7 ∷ [])
    ∷ (16, 1, 0 ∷ 1 ∷ 2 ∷ 3 ∷ 4 ∷ 5 ∷ 6 ∷ 7 ∷ [])
    ∷ (16, 7, 0 ∷ 1 ∷ 2 ∷ 3 ∷ 4 ∷ 5 ∷ 6 ∷ 7 ∷ [])
    ∷ (16, 8, 0 ∷ [])
    ∷ (16, 9, [])
    -- DECIMAL: precision 1..65, at least the scale
    ∷ (
      246,
      0,
      1 ∷ 2 ∷ 3 ∷ 4 ∷ 5 ∷ 6 ∷ 7 ∷ 8 ∷ 9 ∷ 10 ∷ 11 ∷ 12 ∷ 13 ∷ 14 ∷ 15 ∷ 16 ∷ 17 ∷ 18 ∷ 19 ∷ 20 ∷ 21 ∷ 22 ∷ 23 ∷ 24 ∷ 25 ∷ 26 ∷ 27 ∷ 28 ∷
          29 ∷ 30 ∷ 31 ∷ 32 ∷ 33 ∷ 34 ∷ 35 ∷ 36 ∷ 37 ∷ 38 ∷ 39 ∷ 40 ∷ 41 ∷ 42 ∷ 43 ∷ 44 ∷ 45 ∷ 46 ∷ 47 ∷ 48 ∷ 49 ∷ 50 ∷ 51 ∷ 52 ∷ 53 ∷ 54 ∷
          55 ∷ 56 ∷ 57 ∷ 58 ∷ 59 ∷ 60 ∷ 61 ∷ 62 ∷ 63 ∷ 64 ∷ 65 ∷ [],
    )
    ∷ (
      246,
      30,
      30 ∷ 31 ∷ 32 ∷ 33 ∷ 34 ∷ 35 ∷ 36 ∷ 37 ∷ 38 ∷ 39 ∷ 40 ∷ 41 ∷ 42 ∷ 43 ∷ 44 ∷ 45 ∷ 46 ∷ 47 ∷ 48 ∷ 49 ∷ 50 ∷ 51 ∷ 52 ∷ 53 ∷ 54 ∷ 55 ∷
          56 ∷ 57 ∷ 58 ∷ 59 ∷ 60 ∷ 61 ∷ 62 ∷ 63 ∷ 64 ∷ 65 ∷ [],
    )
    ∷ (246, 31, [])
    -- 254: or-ed with 0x30 it is 247, 248 or 254
    ∷ (254, 1, 0xc7 ∷ 0xc8 ∷ 0xce ∷ 0xd7 ∷ 0xd8 ∷ 0xde ∷ 0xe7 ∷ 0xe8 ∷ 0xee ∷ 0xf7 ∷ 0xf8 ∷ 0xfe ∷ [])
    ∷ []

unfoldable pub second_bytes : List (ℕ × ℕ × List ℕ)
second_bytes =
    -- scale at most 30 and at most the precision
    (246, 1, 0 ∷ 1 ∷ [])
    ∷ (246, 10, 0 ∷ 1 ∷ 2 ∷ 3 ∷ 4 ∷ 5 ∷ 6 ∷ 7 ∷ 8 ∷ 9 ∷ 10 ∷ [])
    ∷ (
      246,
      65,
      0 ∷ 1 ∷ 2 ∷ 3 ∷ 4 ∷ 5 ∷ 6 ∷ 7 ∷ 8 ∷ 9 ∷ 10 ∷ 11 ∷ 12 ∷ 13 ∷ 14 ∷ 15 ∷ 16 ∷ 17 ∷ 18 ∷ 19 ∷ 20 ∷ 21 ∷ 22 ∷ 23 ∷ 24 ∷ 25
          ∷ 26 ∷ 27 ∷ 28 ∷ 29 ∷ 30 ∷ [],
    )
    ∷ (246, 66, [])
    -- ENUM and SET, of their own type and sent as 254; m0 of their own types is any byte
    ∷ (247, 0, 1 ∷ 2 ∷ [])
    ∷ (247, 255, 1 ∷ 2 ∷ [])
    ∷ (248, 0, 1 ∷ 2 ∷ 3 ∷ 4 ∷ 8 ∷ [])
    ∷ (248, 255, 1 ∷ 2 ∷ 3 ∷ 4 ∷ 8 ∷ [])
    ∷ (254, 0xf7, 1 ∷ 2 ∷ [])
    ∷ (254, 0xc7, 1 ∷ 2 ∷ [])
    ∷ (254, 0xf8, 1 ∷ 2 ∷ 3 ∷ 4 ∷ 8 ∷ [])
    -- and as no other type
    ∷ (254, 0, [])
    ∷ (254, 0x0e, [])
    ∷ (254, 0xf6, [])
    ∷ []

-- all 256 of them: VARCHAR and CHAR, and ENUM and SET of their own types whatever m0
abbrev pub AllFirstBytes : ℕ × ℕ → Type 0
AllFirstBytes r = length (with_second r.0 r.1) ≡ 256

abbrev pub AllSecondBytes : ℕ × ℕ → Type 0
AllSecondBytes r = length (with_first r.0 r.1) ≡ 256

-- ---- how values are stored
unfoldable pub values : List Stored
values =
    -- types 1, 2, 9, 3, 8 are 1, 2, 3, 4, 8 bytes, signed unless flagged; the least and the greatest, and one beyond each. negsuc n is -1 -
    -- n
    stored (column 1 0 0) (0x80 ∷ []) (Int (negsuc 127))
    ∷ stored (column 1 0 0) (0x7f ∷ []) (Int (pos 127))
    ∷ unwritten (column 1 0 0) (Int (negsuc 128))
    ∷ unwritten (column 1 0 0) (Int (pos 128))
    ∷ stored (unsigned_column 1) (0xff ∷ []) (Uint 255)
    ∷ unwritten (unsigned_column 1) (Uint 256)
    ∷ unread (column 1 0 0) [] 9
    ∷ stored (column 2 0 0) (0x00 ∷ 0x80 ∷ []) (Int (negsuc 32767))
    ∷ stored (column 2 0 0) (0xff ∷ 0x7f ∷ []) (Int (pos 32767))
    ∷ unwritten (column 2 0 0) (Int (negsuc 32768))
    ∷ unwritten (column 2 0 0) (Int (pos 32768))
    ∷ stored (unsigned_column 2) (0xff ∷ 0xff ∷ []) (Uint 65535)
    ∷ unwritten (unsigned_column 2) (Uint 65536)
    ∷ unread (column 2 0 0) (0x00 ∷ []) 9
    ∷ stored (column 9 0 0) (0x00 ∷ 0x00 ∷ 0x80 ∷ []) (Int (negsuc 8388607))
    ∷ stored (column 9 0 0) (0xff ∷ 0xff ∷ 0x7f ∷ []) (Int (pos 8388607))
    ∷ unwritten (column 9 0 0) (Int (negsuc 8388608))
    ∷ unwritten (column 9 0 0) (Int (pos 8388608))
    ∷ stored (unsigned_column 9) (0xff ∷ 0xff ∷ 0xff ∷ []) (Uint 16777215)
    ∷ unwritten (unsigned_column 9) (Uint 16777216)
    ∷ unread (column 9 0 0) (0x00 ∷ 0x00 ∷ []) 9
    ∷ stored (column 3 0 0) (0x00 ∷ 0x00 ∷ 0x00 ∷ 0x80 ∷ []) (Int (negsuc 2147483647))
    ∷ stored (column 3 0 0) (0xff ∷ 0xff ∷ 0xff ∷ 0x7f ∷ []) (Int (pos 2147483647))
    ∷ unwritten (column 3 0 0) (Int (negsuc 2147483648))
    ∷ unwritten (column 3 0 0) (Int (pos 2147483648))
    ∷ stored (unsigned_column 3) (0xff ∷ 0xff ∷ 0xff ∷ 0xff ∷ []) (Uint 4294967295)
    ∷ unwritten (unsigned_column 3) (Uint 4294967296)
    ∷ unread (column 3 0 0) (0x00 ∷ 0x00 ∷ 0x00 ∷ []) 9
    ∷ stored (column 8 0 0) (0x00 ∷ 0x00 ∷ 0x00 ∷ 0x00 ∷ 0x00 ∷ 0x00 ∷ 0x00 ∷ 0x80 ∷ []) (Int (negsuc 9223372036854775807))
    ∷ stored (column 8 0 0) (0xff ∷ 0xff ∷ 0xff ∷ 0xff ∷ 0xff ∷ 0xff ∷ 0xff ∷ 0x7f ∷ []) (Int (pos 9223372036854775807))
    ∷ unwritten (column 8 0 0) (Int (negsuc 9223372036854775808))
    ∷ unwritten (column 8 0 0) (Int (pos 9223372036854775808))
    ∷ stored (unsigned_column 8) (0xff ∷ 0xff ∷ 0xff ∷ 0xff ∷ 0xff ∷ 0xff ∷ 0xff ∷ 0xff ∷ []) (Uint 18446744073709551615)
    ∷ unwritten (unsigned_column 8) (Uint 18446744073709551616)
    ∷ unread (column 8 0 0) (0x00 ∷ 0x00 ∷ 0x00 ∷ 0x00 ∷ 0x00 ∷ 0x00 ∷ 0x00 ∷ []) 9
    -- a signed value for a flagged column, and the reverse, and NULL for any
    ∷ unwritten (column 3 0 0) (Uint 1)
    ∷ unwritten (unsigned_column 3) (Int (pos 1))
    ∷ unwritten (column 3 0 0) Null
    -- 4, 5: floats by their bits: 1.0, and the greatest pattern
    ∷ stored (column 4 4 0) (0x00 ∷ 0x00 ∷ 0x80 ∷ 0x3f ∷ []) (Float 0x3f800000)
    ∷ stored (column 4 4 0) (0xff ∷ 0xff ∷ 0xff ∷ 0xff ∷ []) (Float 0xffffffff)
    ∷ stored (column 5 8 0) (0x00 ∷ 0x00 ∷ 0x00 ∷ 0x00 ∷ 0x00 ∷ 0x00 ∷ 0xf0 ∷ 0x3f ∷ []) (Double 0x3ff0000000000000)
    ∷ stored (column 5 8 0) (0xff ∷ 0xff ∷ 0xff ∷ 0xff ∷ 0xff ∷ 0xff ∷ 0xff ∷ 0xff ∷ []) (Double 0xffffffffffffffff)
    ∷ unwritten (column 4 4 0) (Double 0)
    ∷ unwritten (column 5 8 0) (Float 0)
    ∷ unwritten (column 4 4 0) (Float 0x100000000)
    ∷ unwritten (column 5 8 0) (Double 0x10000000000000000)
    -- 13: byte 0 is the year 0000, any other 1900 plus the byte; so there is no 1900
    ∷ stored (column 13 0 0) (0x00 ∷ []) (Year 0)
    ∷ stored (column 13 0 0) (0x01 ∷ []) (Year 1901)
    ∷ stored (column 13 0 0) (0x64 ∷ []) (Year 2000)
    ∷ stored (column 13 0 0) (0xff ∷ []) (Year 2155)
    ∷ unwritten (column 13 0 0) (Year 1)
    ∷ unwritten (column 13 0 0) (Year 1900)
    ∷ unwritten (column 13 0 0) (Year 2156)
    ∷ unwritten (column 13 0 0) (Uint 2000)
    -- 247: m1-byte number
    ∷ stored (column 247 247 1) (0xff ∷ []) (Uint 255)
    ∷ unwritten (column 247 247 1) (Uint 256)
    ∷ stored (column 247 247 2) (0x01 ∷ 0x02 ∷ []) (Uint 513)
    ∷ unwritten (column 247 247 2) (Uint 65536)
    ∷ unwritten (column 247 247 2) (Int (pos 1))
    -- 248: m1 bytes
    ∷ stored (column 248 248 1) (0x01 ∷ []) (Bytes (part 0 1))
    ∷ stored (column 248 248 2) (0x01 ∷ 0x02 ∷ []) (Bytes (part 0 2))
    ∷ stored (column 248 248 3) (0x01 ∷ 0x02 ∷ 0x03 ∷ []) (Bytes (part 0 3))
    ∷ stored (column 248 248 4) (0x01 ∷ 0x02 ∷ 0x03 ∷ 0x04 ∷ []) (Bytes (part 0 4))
    ∷ stored (column 248 248 8) (0x01 ∷ 0x02 ∷ 0x03 ∷ 0x04 ∷ 0x05 ∷ 0x06 ∷ 0x07 ∷ 0x08 ∷ []) (Bytes (part 0 8))
    ∷ unread (column 248 248 8) (0x00 ∷ 0x00 ∷ 0x00 ∷ 0x00 ∷ 0x00 ∷ 0x00 ∷ 0x00 ∷ []) 9
    -- 16: ceil((8·m1+m0)/8) bytes
    ∷ stored (column 16 1 0) (0x01 ∷ []) (Bytes (part 0 1))
    ∷ stored (column 16 7 0) (0x01 ∷ []) (Bytes (part 0 1))
    ∷ stored (column 16 0 1) (0x01 ∷ []) (Bytes (part 0 1))
    ∷ stored (column 16 1 1) (0x01 ∷ 0x02 ∷ []) (Bytes (part 0 2))
    ∷ stored (column 16 7 7) (0x01 ∷ 0x02 ∷ 0x03 ∷ 0x04 ∷ 0x05 ∷ 0x06 ∷ 0x07 ∷ 0x08 ∷ []) (Bytes (part 0 8))
    ∷ stored (column 16 0 8) (0x01 ∷ 0x02 ∷ 0x03 ∷ 0x04 ∷ 0x05 ∷ 0x06 ∷ 0x07 ∷ 0x08 ∷ []) (Bytes (part 0 8))
    -- 242, 249..252, 255: m0-byte length, then bytes; 245: 4-byte length
    ∷ stored (column 242 2 0) (0x02 ∷ 0x00 ∷ 0x61 ∷ 0x62 ∷ []) (Bytes (part 2 2))
    ∷ stored (column 249 2 0) (0x02 ∷ 0x00 ∷ 0x61 ∷ 0x62 ∷ []) (Bytes (part 2 2))
    ∷ stored (column 250 2 0) (0x02 ∷ 0x00 ∷ 0x61 ∷ 0x62 ∷ []) (Bytes (part 2 2))
    ∷ stored (column 251 2 0) (0x02 ∷ 0x00 ∷ 0x61 ∷ 0x62 ∷ []) (Bytes (part 2 2))
    ∷ stored (column 252 1 0) (0x02 ∷ 0x61 ∷ 0x62 ∷ []) (Bytes (part 1 2))
    ∷ stored (column 252 2 0) (0x02 ∷ 0x00 ∷ 0x61 ∷ 0x62 ∷ []) (Bytes (part 2 2))
    ∷ stored (column 252 3 0) (0x02 ∷ 0x00 ∷ 0x00 ∷ 0x61 ∷ 0x62 ∷ []) (Bytes (part 3 2))
    ∷ stored (column 252 4 0) (0x02 ∷ 0x00 ∷ 0x00 ∷ 0x00 ∷ 0x61 ∷ 0x62 ∷ []) (Bytes (part 4 2))
    ∷ stored (column 255 2 0) (0x02 ∷ 0x00 ∷ 0x61 ∷ 0x62 ∷ []) (Bytes (part 2 2))
    ∷ stored (column 245 4 0) (0x02 ∷ 0x00 ∷ 0x00 ∷ 0x00 ∷ 0x61 ∷ 0x62 ∷ []) (Bytes (part 4 2))
    ∷ unread (column 252 2 0) (0x02 ∷ []) 9
    ∷ unread (column 252 2 0) (0x02 ∷ 0x00 ∷ 0x61 ∷ []) 9
    -- 15, 253: declared length m0+256·m1, and 254 by its bits; below 256 one length byte, else two, whatever the value's length
    ∷ stored (column 15 255 0) (0x01 ∷ 0x61 ∷ []) (Bytes (part 1 1))
    ∷ stored (column 15 0 1) (0x01 ∷ 0x00 ∷ 0x61 ∷ []) (Bytes (part 2 1))
    ∷ stored (column 253 255 0) (0x01 ∷ 0x61 ∷ []) (Bytes (part 1 1))
    ∷ stored (column 253 0 1) (0x01 ∷ 0x00 ∷ 0x61 ∷ []) (Bytes (part 2 1))
    ∷ stored (column 254 0xfe 0xff) (0x01 ∷ 0x61 ∷ []) (Bytes (part 1 1))
    ∷ stored (column 254 0xee 0) (0x01 ∷ 0x00 ∷ 0x61 ∷ []) (Bytes (part 2 1))
    ∷ stored (column 254 0xde 0) (0x01 ∷ 0x00 ∷ 0x61 ∷ []) (Bytes (part 2 1))
    ∷ stored (column 254 0xce 0) (0x01 ∷ 0x00 ∷ 0x61 ∷ []) (Bytes (part 2 1))
    -- 246: raw; 20 digits, 9 of them of the fraction: 4 + 1 + 4 bytes
    ∷ stored (column 246 20 9) (0x01 ∷ 0x02 ∷ 0x03 ∷ 0x04 ∷ 0x05 ∷ 0x06 ∷ 0x07 ∷ 0x08 ∷ 0x09 ∷ []) (Bytes (part 0 9))
    -- not taken, 4; metadata not accepted, 5: bytes that the type has not, 10, which is no real type, and CHAR with m0 0
    ∷ unread (column 0 0 0) [] 4
    ∷ unread (column 6 0 0) [] 4
    ∷ unread (column 10 0 0) [] 4
    ∷ unread (column 20 0 0) [] 4
    ∷ unread (column 240 0 0) [] 4
    ∷ unread (column 241 0 0) [] 4
    ∷ unread (column 243 0 0) [] 4
    ∷ unread (column 244 0 0) [] 4
    ∷ unread (column 3 1 0) [] 5
    ∷ unread (column 3 0 1) [] 5
    ∷ unread (column 4 5 0) [] 5
    ∷ unread (column 4 4 1) [] 5
    ∷ unread (column 5 4 0) [] 5
    ∷ unread (column 13 1 0) [] 5
    ∷ unread (column 14 1 0) [] 5
    ∷ unread (column 17 7 0) [] 5
    ∷ unread (column 18 7 0) [] 5
    ∷ unread (column 19 7 0) [] 5
    ∷ unread (column 19 0 1) [] 5
    ∷ unread (column 245 3 0) [] 5
    ∷ unread (column 252 0 0) [] 5
    ∷ unread (column 252 5 0) [] 5
    ∷ unread (column 252 1 1) [] 5
    ∷ unread (column 16 0 0) [] 5
    ∷ unread (column 16 8 0) [] 5
    ∷ unread (column 16 1 8) [] 5
    ∷ unread (column 246 0 0) [] 5
    ∷ unread (column 246 66 0) [] 5
    ∷ unread (column 246 9 10) [] 5
    ∷ unread (column 246 65 31) [] 5
    ∷ unread (column 247 0 0) [] 5
    ∷ unread (column 247 0 3) [] 5
    ∷ unread (column 248 0 0) [] 5
    ∷ unread (column 248 0 5) [] 5
    ∷ unread (column 248 0 9) [] 5
    ∷ unread (column 254 0 20) [] 5
    ∷ unread (column 254 247 1) [] 5
    ∷ unread (column 254 248 1) [] 5
    ∷ []

-- decimals: precision, scale and the bytes that their digits take
abbrev pub DecimalTakes : ℕ × ℕ × ℕ → Type 0
DecimalTakes r = need (shape_of (column 246 r.0 r.1)) [] ≡ r.2

unfoldable pub decimals : List (ℕ × ℕ × ℕ)
decimals =
    (1, 0, 1)
    ∷ (2, 0, 1)
    ∷ (3, 0, 2)
    ∷ (4, 0, 2)
    ∷ (5, 0, 3)
    ∷ (6, 0, 3)
    ∷ (7, 0, 4)
    ∷ (8, 0, 4)
    ∷ (9, 0, 4)
    ∷ (10, 0, 5)
    ∷ (11, 0, 5)
    ∷ (12, 0, 6)
    ∷ (13, 0, 6)
    ∷ (14, 0, 7)
    ∷ (15, 0, 7)
    ∷ (16, 0, 8)
    ∷ (17, 0, 8)
    ∷ (18, 0, 8)
    ∷ (1, 1, 1)
    ∷ (2, 2, 1)
    ∷ (3, 3, 2)
    ∷ (4, 4, 2)
    ∷ (5, 5, 3)
    ∷ (6, 6, 3)
    ∷ (7, 7, 4)
    ∷ (8, 8, 4)
    ∷ (9, 9, 4)
    ∷ (20, 9, 9)
    ∷ (30, 30, 14)
    ∷ (65, 0, 29)
    ∷ (65, 30, 30)
    ∷ []

-- BIT: m0, m1 and the bytes that its bits take, at both ends of every byte
abbrev pub BitTakes : ℕ × ℕ × ℕ → Type 0
BitTakes r = need (shape_of (column 16 r.0 r.1)) [] ≡ r.2

unfoldable pub bits : List (ℕ × ℕ × ℕ)
bits =
    (1, 0, 1)
    ∷ (0, 1, 1)
    ∷ (1, 1, 2)
    ∷ (0, 2, 2)
    ∷ (1, 2, 3)
    ∷ (0, 3, 3)
    ∷ (1, 3, 4)
    ∷ (0, 4, 4)
    ∷ (1, 4, 5)
    ∷ (0, 5, 5)
    ∷ (1, 5, 6)
    ∷ (0, 6, 6)
    ∷ (1, 6, 7)
    ∷ (0, 7, 7)
    ∷ (1, 7, 8)
    ∷ (0, 8, 8)
    ∷ []

-- declared lengths of strings: type, m0, m1 and the length in bytes; of other types 0
abbrev pub Declares : ℕ × ℕ × ℕ × ℕ → Type 0
Declares r = declared_length r.0 r.1 r.2 ≡ r.3

unfoldable pub declared_lengths : List (ℕ × ℕ × ℕ × ℕ)
declared_lengths =
    (15, 0x2c, 0x01, 300)
    ∷ (15, 0xff, 0xff, 65535)
    ∷ (253, 0x2c, 0x01, 300)
    ∷ (254, 0xfe, 0xff, 255)
    ∷ (254, 0xee, 0x00, 256)
    ∷ (254, 0xde, 0x01, 513)
    ∷ (254, 0xce, 0xff, 1023)
    ∷ (252, 0x02, 0x00, 0)
    ∷ (246, 0x14, 0x09, 0)
    ∷ []

-- ---- 254, in bits
-- a number below 256 has these binary digits
pub record HasDigits (x : ℕ) (digits : ℕ → Bool) : Type 0 where
  pub small : x < 256
  pub each : (j : ℕ) → j < 8 → digit x j ≡ digits j

-- the two digits of 0x30
abbrev pub in30 : ℕ → Bool
in30 j = eqb j 4 || eqb j 5

pub record Metadata : Type 0 where
  -- ---- the check
  -- 4 for all types but the thirty
  pub types_taken : bytes_that (λ t. not (eqb (refusal_number (take_columns (t ∷ []) [] 0)) 4))
      ≡ 1 ∷ 2 ∷ 3 ∷ 4 ∷ 5 ∷ 7 ∷ 8 ∷ 9 ∷ 10 ∷ 11 ∷ 12 ∷ 13 ∷ 14 ∷ 15 ∷ 16 ∷ 17 ∷ 18 ∷ 19 ∷ 242 ∷ 245 ∷ 246 ∷ 247 ∷ 248 ∷ 249 ∷ 250 ∷ 251
      ∷ 252 ∷ 253 ∷ 254 ∷ 255 ∷ []
  -- no metadata, always accepted
  pub types_0 : bytes_that (λ t. accepts t []) ≡ 1 ∷ 2 ∷ 3 ∷ 7 ∷ 8 ∷ 9 ∷ 10 ∷ 11 ∷ 12 ∷ 13 ∷ 14 ∷ []
  -- one byte
  pub types_1 : bytes_that (λ t. accepts t (4 ∷ []) || accepts t (8 ∷ []))
      ≡ 4 ∷ 5 ∷ 17 ∷ 18 ∷ 19 ∷ 242 ∷ 245 ∷ 249 ∷ 250 ∷ 251 ∷ 252 ∷ 255 ∷ []
  -- two
  pub types_2 : bytes_that (λ t. accepts t (1 ∷ 1 ∷ []) || accepts t (0xfe ∷ 1 ∷ [])) ≡ 15 ∷ 16 ∷ 246 ∷ 247 ∷ 248 ∷ 253 ∷ 254 ∷ []
  -- how many there are, whatever they are; of an unknown type none
  pub bytes_1 : bytes_that (λ t. eqb (metadata_bytes (family_of t)) 1) ≡ 4 ∷ 5 ∷ 17 ∷ 18 ∷ 19 ∷ 242 ∷ 245 ∷ 249 ∷ 250 ∷ 251 ∷ 252 ∷ 255 ∷ []
  pub bytes_2 : bytes_that (λ t. eqb (metadata_bytes (family_of t)) 2) ≡ 15 ∷ 16 ∷ 246 ∷ 247 ∷ 248 ∷ 253 ∷ 254 ∷ []
  pub bytes_0 : length (bytes_that (λ t. eqb (metadata_bytes (family_of t)) 0)) ≡ 237
  pub one_byte_lem : EachRow OneByte one_byte
  pub first_bytes_lem : EachRow FirstBytes first_bytes
  pub second_bytes_lem : EachRow SecondBytes second_bytes
  pub all_firsts : EachRow AllFirstBytes ((15, 0) ∷ (15, 255) ∷ (253, 0) ∷ (253, 255) ∷ (247, 1) ∷ (248, 1) ∷ [])
  pub all_seconds : EachRow AllSecondBytes ((15, 0) ∷ (253, 255) ∷ (254, 0xce) ∷ (254, 0xfe) ∷ [])
  -- ---- lone values
  -- the types that are taken with metadata 0 and 0, and every m0 of 254
  pub lone_types : bytes_that (λ t. is_taken (shape_of (column t 0 0)))
      ≡ 1 ∷ 2 ∷ 3 ∷ 7 ∷ 8 ∷ 9 ∷ 11 ∷ 12 ∷ 13 ∷ 14 ∷ 15 ∷ 17 ∷ 18 ∷ 19 ∷ 253 ∷ []
  pub lone_254 : bytes_that (λ m0. is_taken (shape_of (column 254 m0 0))) ≡ 0xce ∷ 0xde ∷ 0xee ∷ 0xfe ∷ []
  pub stored_values : EachRow IsStored values
  -- YEAR: bytes 1 to 255 are the years 1901 to 2155, byte 0 is in the table; and 1900 is no value of its domain
  pub years : (b : ℕ) → 1 ≤ b → b ≤ 255 → read_value (shape_of (column 13 0 0)) 0 (b ∷ []) 0 ≡ ok (Year (1900 + b), 1)
  pub no_1900 : domain (shape_of (column 13 0 0)) (year 1900) ≡ false
  -- counted bytes: as many as their length byte counts; SET: just as many as m1; of those that are lent
  pub most_bytes : write_value (shape_of (column 252 1 0)) 0 (replicate 255 0) (Bytes (part 0 255)) [] 0 ≡ refuse 8 0
  pub more_bytes : write_value (shape_of (column 252 1 0)) 0 (replicate 256 0) (Bytes (part 0 256)) [] 0 ≡ refuse 13 0
  pub other_size : write_value (shape_of (column 248 248 2)) 0 (0x01 ∷ []) (Bytes (part 0 1)) (replicate 2 0) 0 ≡ refuse 13 0
  pub not_lent : write_value (shape_of (column 252 1 0)) 0 (replicate 2 0) (Bytes (part 1 2)) (replicate 3 0) 0 ≡ refuse 13 0
  pub decimal_sizes : EachRow DecimalTakes decimals
  pub bit_sizes : EachRow BitTakes bits
  pub declared_lengths_lem : EachRow Declares declared_lengths
  -- the types that declare one
  pub declared_types : bytes_that (λ t. not (eqb (declared_length t 1 1) 0)) ≡ 15 ∷ 253 ∷ 254 ∷ []
  -- ---- 254
  -- "m0 or-ed with 0x30": by the `|` of the language; so digits 4 and 5 are set, and the others are as they were
  pub real_type_lem : (m0 : ℕ) → m0 < 256 → real_type 254 m0 ≡ bit_or m0 0x30
  pub real_digits : (m0 : ℕ) → m0 < 256 → HasDigits (real_type 254 m0) (λ j. digit m0 j || in30 j)
  -- "m1 + 16·((m0 and 0x30) xor 0x30)": by its `&` and `^`; so digits 4 and 5 of the factor are the other way round than those of m0, and
  -- the others are not set
  pub declared_length_lem : (m0 m1 : ℕ) → m0 < 256 → declared_length 254 m0 m1 ≡ m1 + 16 * bit_xor (bit_and m0 0x30) 0x30
  pub length_digits : (m0 : ℕ) → m0 < 256 → HasDigits (bit_xor (bit_and m0 0x30) 0x30) (λ j. in30 j && not (digit m0 j))
