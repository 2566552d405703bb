-- What an answer may become when bytes are put behind the image that it was read from. Assumes nothing.
use Rattle.std.specs.Prelude.{ℕ, ◌≤◌, ◌≡◌, List, ◌++◌}
use Rattle.wire.specs.Outcome.{Outcome, ok, refused, refuse, out_of}
use Rattle.value.specs.declared.datum.Value.{Value}
use Rattle.value.specs.Data.{Datum}
use Rattle.image.specs.declared.cursor.Cursor.{Cursor}
use Rattle.image.specs.Split.{ColumnStepped, value}
use Rattle.image.specs.Walk.{RowWalked}

-- an answer, or 9 or 10 at the column j or a later one
pub data Later {A : Type 0} (j : ℕ) : Outcome A → Type 0 where
  answer : (a : A) → Later j (ok a)
  nine : (p : ℕ) → j ≤ p → Later j (refuse 9 p)
  ten : (p part : ℕ) → j ≤ p → Later j (refused (out_of p part))

-- the value of the column j, or 9 or 10 there
pub data Filled (j : ℕ) : Outcome ColumnStepped → Type 0 where
  told : (v : Value) (c : Cursor) → Filled j (ok (value j v c))
  still : Filled j (refuse 9 j)
  range : (part : ℕ) → Filled j (refused (out_of j part))

-- one step: itself, or, a refusal 9 at a column, what P says of that column
pub data Grows {A : Type 0} (P : ℕ → Outcome A → Type 0) : Outcome A → Outcome A → Type 0 where
  same : (o : Outcome A) → Grows P o o
  more : (j : ℕ) (o : Outcome A) → P j o → Grows P (refuse 9 j) o

-- a whole walk: itself, or, one that ended in a refusal 9, the same answers, perhaps more of them, and an end of which `Later` is true
pub data Grown : RowWalked → RowWalked → Type 0 where
  same : (w : RowWalked) → Grown w w
  more : (w w' : RowWalked) (j : ℕ) (behind : List (ℕ × Datum)) → w.how ≡ refuse 9 j → w'.answers ≡ w.answers ++ behind
      → Later j w'.how
      → Grown w w'
