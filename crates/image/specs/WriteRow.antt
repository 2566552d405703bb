-- A whole row written: a start, and then a step for each value given. Assumes nothing.
use Rattle.std.specs.Prelude.{ℕ, suc, ◌+◌, ◌≤◌, ◌<◌, ◌≡◌, Bool, true, ◌&&◌, List, [], ◌∷◌, ◌++◌, length, take}
use Rattle.wire.specs.Outcome.{Outcome, ok, refused, after}
use Rattle.wire.specs.Bits.{bytes_for}
use Rattle.wire.specs.Stored.{stored}
use Rattle.value.specs.declared.datum.Value.{Value}
use Rattle.value.specs.Reading.{datum_of}
use Rattle.value.specs.Storing.{is_lent}
use Rattle.record.specs.Records.{count_of, record_valid}
use Rattle.image.specs.declared.cursor.Cursor.{Cursor}
use Rattle.image.specs.Present.{Present, present}
use Rattle.image.specs.Walk.{walk_image}
use Rattle.image.specs.Rows.{Row, in_domains, row_bytes, answers_of, Marks}
use Rattle.image.specs.Puts.{filled, start_image, put_from}

-- a value as a step takes it, with the bytes lent beside it
pub record LentValue : Type 0 where
  pub lent : List ℕ
  pub value : Value

-- the row that they say
unfoldable pub row_of : List LentValue → Row
unfolding datum_of
row_of [] = []
row_of (g ∷ gs) = datum_of g.lent g.value ∷ row_of gs

-- whether each value's bytes are all there
unfoldable pub are_lent : List LentValue → Bool
unfolding is_lent
are_lent [] = true
are_lent (g ∷ gs) = is_lent g.lent g.value && are_lent gs

-- what a row is given with: a valid record and presence bits of its length; for each present column a value that it takes, or NULL, with
-- its bytes; and null bits that say which are NULL
pub record Fit (profile presence nulls : List ℕ) (gs : List LentValue) : Type 0 where
  pub valid : record_valid profile ≡ true
  pub bits : length presence ≡ bytes_for (count_of profile)
  pub row : in_domains (present profile presence) (row_of gs) ≡ true
  pub lent : are_lent gs ≡ true
  pub marks : Marks nulls 0 (row_of gs)
  pub size : length nulls ≡ bytes_for (length (row_of gs))

-- a step for each, from a cursor on: the cursor behind them, and the buffer
unfoldable pub put_row : List ℕ → List ℕ → List ℕ → List LentValue → Cursor → List ℕ → Outcome (Cursor × List ℕ)
unfolding put_from
put_row profile presence nulls [] c buf = ok (c, buf)
put_row profile presence nulls (g ∷ gs) c buf =
    after (put_from profile presence nulls c g.lent g.value buf) (λ x. put_row profile presence nulls gs x.0 x.1)

-- a start, and then the row
unfoldable pub write_row : List ℕ → List ℕ → List ℕ → List LentValue → List ℕ → Outcome (Cursor × List ℕ)
unfolding start_image put_row
write_row profile presence nulls gs buf = after (start_image profile presence nulls buf) (λ x. put_row profile presence nulls gs x.0 x.1)

-- ---- what the calls leave of the buffer, one after the other: one that refuses leaves it as it was, and is the last
abbrev pub left_then : List ℕ → (Cursor → List ℕ → List ℕ) → Outcome (Cursor × List ℕ) → List ℕ
left_then buf f (ok x) = f x.0 x.1
left_then buf f (refused w) = buf

unfoldable pub put_left : List ℕ → List ℕ → List ℕ → List LentValue → Cursor → List ℕ → List ℕ
unfolding put_from
put_left profile presence nulls [] c buf = buf
put_left profile presence nulls (g ∷ gs) c buf =
    left_then buf (put_left profile presence nulls gs) (put_from profile presence nulls c g.lent g.value buf)

unfoldable pub write_left : List ℕ → List ℕ → List ℕ → List LentValue → List ℕ → List ℕ
unfolding start_image put_left
write_left profile presence nulls gs buf = left_then buf (put_left profile presence nulls gs) (start_image profile presence nulls buf)

-- ---- what a row that was written is
-- how many bytes the image of a row has
abbrev pub image_size : List ℕ → List ℕ → List ℕ → Row → ℕ
image_size profile presence nulls ds = length nulls + length (row_bytes (present profile presence) ds)

-- the last cursor tells the bytes used, the buffer begins with the image, and the walk over it gives the row; so does the walk over the
-- bytes used, whatever stands behind them
pub record Wrote (profile presence nulls : List ℕ) (ds : Row) (buf : List ℕ) (w : Outcome (Cursor × List ℕ)) : Type 0 where
  pub last : Cursor
  pub left : List ℕ
  pub is : w ≡ ok (last, left)
  pub offset : last.offset ≡ image_size profile presence nulls ds
  pub buffer : left ≡ stored (filled (length ds) nulls ++ row_bytes (present profile presence) ds) buf 0
  pub walked : walk_image profile presence left ≡ record { answers = answers_of (present profile presence) ds; how = ok last.offset }
  pub anywhere : (rest : List ℕ)
      → walk_image profile presence (take last.offset left ++ rest)
      ≡ record { answers = answers_of (present profile presence) ds; how = ok last.offset }

-- ---- what a row without room leaves: as much as had room
pub data Stopped (cs : List Present) (nulls : List ℕ) (ds : Row) (buf : List ℕ) : List ℕ → Type 0 where
  -- no room for the null bits: the buffer as it was
  at_start : length buf < length nulls → Stopped cs nulls ds buf buf
  -- room for them and for the first k of the row, and not for the next: these at its head, and the rest as it was
  at_value : (k : ℕ) → length nulls + length (row_bytes cs (take k ds)) ≤ length buf
      → length buf < length nulls + length (row_bytes cs (take (suc k) ds))
      → Stopped cs nulls ds buf (stored (filled (length ds) nulls ++ row_bytes cs (take k ds)) buf 0)
