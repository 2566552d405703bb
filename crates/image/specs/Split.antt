-- Document 01's split of an image under a record and presence bits: "null bits, one per present column, both lowest first, padded to a
-- byte; then each present, non-null value". A step over it, from any cursor. Assumes nothing.
use Rattle.std.specs.Prelude.{ℕ, suc, ◌+◌, ◌-◌, Bool, cond, List, [], ◌∷◌, length, ltb, eqb}
use Rattle.wire.specs.Outcome.{Outcome, ok, refuse, after}
use Rattle.wire.specs.Bits.{bytes_for, bit_lsb0}
use Rattle.value.specs.Reading.{read_value}
use Rattle.record.specs.Records.{count_of, read_record}
use Rattle.image.specs.declared.cursor.Cursor.{Cursor}
use Rattle.image.specs.declared.cursor.Head.{Head}
use Rattle.image.specs.declared.step.Step.{Step}
pub use Rattle.image.specs.declared.step.Step.TheVariants.{Null as null, Value as value, End as end}
use Rattle.image.specs.Present.{Present, count_bits, present_from}

abbrev pub cursor : ℕ → ℕ → Cursor
cursor column offset = record { column = column; offset = offset }

-- a present column with its null bit
pub record Slot : Type 0 where
  pub present : Present
  pub null : Bool

-- the null bit goes by the rank among the present columns: k stand before these
unfoldable pub slots : List Present → ℕ → List ℕ → List Slot
unfolding bit_lsb0
slots [] k nulls = []
slots (c ∷ cs) k nulls = record { present = c; null = bit_lsb0 nulls k } ∷ slots cs (suc k) nulls

-- those from a column on
unfoldable pub slots_at : List ℕ → List ℕ → List ℕ → ℕ → List Slot
unfolding present_from count_bits slots
slots_at profile presence nulls j = slots (present_from (count_of profile - j) profile presence j) (count_bits presence j) nulls

-- ---- the tests before a call on an image goes on: 11, then 12 for the presence bits. What they tell is how many columns there are, how
-- many of them are present, and how many bytes of null bits these have
abbrev pub head_with : ℕ → ℕ → Head
head_with columns present = record { columns = columns; present = present; nulls = bytes_for present }

unfoldable pub head_of : List ℕ → List ℕ → Outcome Head
unfolding read_record count_bits
head_of profile presence =
    after (read_record profile) (λ n. cond (eqb (length presence) (bytes_for n)) (ok (head_with n (count_bits presence n))) (refuse 12 0))

-- the first cursor: column 0, behind the null bits
unfoldable pub first_cursor : List ℕ → List ℕ → Outcome Cursor
unfolding head_of
first_cursor profile presence = after (head_of profile presence) (λ h. ok (cursor 0 h.nulls))

-- ---- one step
-- NULL or a value with its column and the next cursor, or the end with the bytes used
abbrev pub ColumnStepped : Type 0
ColumnStepped = Step Cursor

-- over the slots that are left, from an offset of the image on
unfoldable pub step_over : List Slot → List ℕ → ℕ → Outcome ColumnStepped
unfolding read_value
step_over [] image o = ok (end o)
step_over (i ∷ is) image o =
    cond i.null (ok (null i.present.column (cursor (i.present.column + 1) o)))
    (after (read_value i.present.shape i.present.column image o) (λ x.
    ok (value i.present.column x.0 (cursor (i.present.column + 1) x.1))))

-- the slots that are left from any cursor on: 14 for a column above n; 9 at 0 for null bits that are not whole; 9 at the cursor's column
-- for an offset past the image
unfoldable pub slots_left : List ℕ → List ℕ → List ℕ → Cursor → Outcome (List Slot)
unfolding head_of slots_at
slots_left profile presence image c =
    after (head_of profile presence) (λ h.
    cond (ltb h.columns c.column) (refuse 14 c.column)
    (cond (ltb (length image) h.nulls) (refuse 9 0)
    (cond (ltb (length image) c.offset) (refuse 9 c.column)
    (ok (slots_at profile presence image c.column)))))

-- a step from any cursor
unfoldable pub step_from : List ℕ → List ℕ → List ℕ → Cursor → Outcome ColumnStepped
unfolding slots_left step_over
step_from profile presence image c = after (slots_left profile presence image c) (λ is. step_over is image c.offset)
