-- What the tables of worked readings share. A table is a list of rows, every one a fact of document 01 or of its reading, in numbers; it
-- holds if each of its rows does. Assumes nothing.
use Rattle.std.specs.Prelude.{ℕ, zero, suc, ◌≡◌, Bool, true, false, cond, List, [], ◌∷◌, negsuc, length, replicate}
use Rattle.wire.specs.Outcome.{Outcome, ok, refused, refuse, out_of}
use Rattle.value.specs.declared.column.Column.{Column}
use Rattle.value.specs.declared.datum.Value.{Value}
use Rattle.value.specs.Columns.{shape_of}
use Rattle.value.specs.Data.{Datum, int, uint, bytes as raw}
use Rattle.value.specs.Reading.{read_value}
use Rattle.value.specs.Storing.{write_value}

infixr 60 ◌and◌
-- each row of a table holds
pub data EachRow {A : Type 0} (P : A → Type 0) : List A → Type 0 where
  done : EachRow P []
  ◌and◌ : {a : A} {l : List A} → P a → EachRow P l → EachRow P (a ∷ l)

-- two things said at once
abbrev pub both : {A B : Type 0} → A → B → A × B
both a b = (a, b)

-- ---- bytes that pass a test
-- of n numbers from `low` on
abbrev pub passing : (ℕ → Bool) → ℕ → ℕ → List ℕ
passing test zero low = []
passing test (suc n) low = cond (test low) (low ∷ passing test n (suc low)) (passing test n (suc low))

-- of 0 to 255
abbrev pub bytes_that : (ℕ → Bool) → List ℕ
bytes_that test = passing test 256 0

-- whether a call was answered, and the number of the refusal if it was not
abbrev pub is_answered : {A : Type 0} → Outcome A → Bool
is_answered (ok a) = true
is_answered (refused w) = false

abbrev pub refusal_number : {A : Type 0} → Outcome A → ℕ
refusal_number (ok a) = 0
refusal_number (refused w) = w.number

-- ---- stored values
-- a column of a type, m0 and m1, not flagged unsigned; and one that is, whose type has no metadata
abbrev pub column : ℕ → ℕ → ℕ → Column
column real m0 m1 = record { real = real; m0 = m0; m1 = m1; unsigned = false }

abbrev pub unsigned_column : ℕ → Column
unsigned_column real = record { real = real; m0 = 0; m1 = 0; unsigned = true }

pub data Stored : Type 0 where
  -- a value of the column, and its stored bytes
  stored : Column → List ℕ → Value → Stored
  -- bytes that are no value of it, and the refusal's number
  unread : Column → List ℕ → ℕ → Stored
  -- bytes that have a part out of range, and the first such part
  out_of_range : Column → List ℕ → ℕ → Stored
  -- a value that it does not take
  unwritten : Column → Value → Stored

abbrev pub IsStored : Stored → Type 0
-- the bytes are read as the value, to their end, and the value is written as the bytes
IsStored (stored c bytes v) =
    both (read_value (shape_of c) 0 bytes 0) (write_value (shape_of c) 0 bytes v (replicate (length bytes) 0) 0)
    ≡ both (ok (v, length bytes)) (ok (length bytes, bytes))
IsStored (unread c bytes number) = read_value (shape_of c) 0 bytes 0 ≡ refuse number 0
IsStored (out_of_range c bytes part) = read_value (shape_of c) 0 bytes 0 ≡ refused (out_of 0 part)
-- 13, whatever the room
IsStored (unwritten c v) = write_value (shape_of c) 0 [] v [] 0 ≡ refuse 13 0

-- ---- document 01's worked event, its record, an image under that, and its values: -2, "ab", 200
abbrev pub worked_event : List ℕ
worked_event =
    0x2a ∷ 0x00 ∷ 0x00 ∷ 0x00 ∷ 0x00 ∷ 0x00 ∷ 0x01 ∷ 0x00 ∷ 0x01 ∷ 0x74 ∷ 0x00 ∷ 0x01 ∷ 0x72 ∷ 0x00
    ∷ 0x03 ∷ 0x03 ∷ 0x0f ∷ 0x01 ∷ 0x02 ∷ 0x14 ∷ 0x00 ∷ 0x02 ∷ 0x01 ∷ 0x01 ∷ 0x40 ∷ []

abbrev pub worked : List ℕ
worked =
    0x18 ∷ 0x00 ∷ 0x01 ∷ 0x00 ∷ 0x03 ∷ 0x00 ∷ 0x03 ∷ 0x0c ∷ 0x00 ∷ 0x00 ∷ 0x00 ∷ 0x00 ∷ 0x0f ∷ 0x0a ∷ 0x14 ∷ 0x00 ∷ 0x00 ∷ 0x00 ∷ 0x01
    ∷ 0x0d ∷ 0x00 ∷ 0x00 ∷ 0x00 ∷ 0x00 ∷ []

abbrev pub worked_image : List ℕ
worked_image = 0xf8 ∷ 0xfe ∷ 0xff ∷ 0xff ∷ 0xff ∷ 0x02 ∷ 0x61 ∷ 0x62 ∷ 0xc8 ∷ []

abbrev pub worked_answers : List (ℕ × Datum)
worked_answers = (0, int (negsuc 1)) ∷ (1, raw (0x61 ∷ 0x62 ∷ [])) ∷ (2, uint 200) ∷ []
