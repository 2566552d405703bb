-- The whole walk: the slots from a cursor on, one after the other, up to the end or up to a refusal. Assumes nothing.
use Rattle.std.specs.Prelude.{ℕ, ◌+◌, cond, List, [], ◌∷◌, drop}
use Rattle.wire.specs.Outcome.{Outcome, ok, refused}
use Rattle.value.specs.Data.{Datum, null}
use Rattle.value.specs.Reading.{read_datum, datum_of}
use Rattle.image.specs.declared.cursor.Cursor.{Cursor}
use Rattle.image.specs.Split.{Slot, ColumnStepped, null as null₁, value, end, slots_left, first_cursor}

-- an answer for each column that was met, NULL or a value; and the bytes used, or why the walk stopped
pub record RowWalked : Type 0 where
  pub answers : List (ℕ × Datum)
  pub how : Outcome ℕ

abbrev pub row_stopped : Outcome ℕ → RowWalked
row_stopped how = record { answers = []; how = how }

-- one answer, and then those of the rest
abbrev pub with_answer : ℕ × Datum → RowWalked → RowWalked
with_answer a w = record { answers = a ∷ w.answers; how = w.how }

-- a walk that goes on from what was read, or stops at a refusal
abbrev pub going_on : {A : Type 0} → (A → RowWalked) → Outcome A → RowWalked
going_on f (ok a) = f a
going_on f (refused w) = row_stopped (refused w)

-- ---- slots
-- what stands in a slot, s being the image from there on, and how many bytes it takes: NULL takes none
unfoldable pub read_slot : Slot → List ℕ → Outcome (Datum × ℕ)
unfolding read_datum
read_slot i s = cond i.null (ok (null, 0)) (read_datum i.present.shape i.present.column s)

-- the answer of column j, and then the walk f from so many bytes on
abbrev pub answered : ℕ → (ℕ → RowWalked) → Outcome (Datum × ℕ) → RowWalked
answered j f = going_on (λ x. with_answer (j, x.0) (f x.1))

-- slots one after the other, s being the image from offset o on
unfoldable pub read_slots : List Slot → List ℕ → ℕ → RowWalked
unfolding read_slot
read_slots [] s o = row_stopped (ok o)
read_slots (i ∷ is) s o = answered i.present.column (λ n. read_slots is (drop n s) (o + n)) (read_slot i s)

-- ---- the walk from a cursor on
unfoldable pub walk_from : List ℕ → List ℕ → List ℕ → Cursor → RowWalked
unfolding slots_left read_slots
walk_from profile presence image c = going_on (λ is. read_slots is (drop c.offset image) c.offset) (slots_left profile presence image c)

-- the whole walk
unfoldable pub walk_image : List ℕ → List ℕ → List ℕ → RowWalked
unfolding first_cursor walk_from
walk_image profile presence image = going_on (walk_from profile presence image) (first_cursor profile presence)

-- ---- by steps: what a step told, and then the walk f from its cursor
abbrev pub row_onward : (Cursor → RowWalked) → List ℕ → Outcome ColumnStepped → RowWalked
row_onward f image (ok (null₁ j c)) = with_answer (j, null) (f c)
row_onward f image (ok (value j v c)) = with_answer (j, datum_of image v) (f c)
row_onward f image (ok (end used)) = row_stopped (ok used)
row_onward f image (refused r) = row_stopped (refused r)
