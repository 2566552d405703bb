-- What a run by a plan does with one image, held against a walk: value by value, to the same end or refusal. Assumes nothing.
use Rattle.std.specs.Prelude.{ℕ, ◌+◌, ◌*◌, ◌≡◌, List, [], ◌∷◌, length, drop}
use Rattle.wire.specs.declared.refusal.Refusal.{Refusal}
use Rattle.wire.specs.Outcome.{Outcome, ok, refused}
use Rattle.wire.specs.Stored.{stored}
use Rattle.value.specs.declared.datum.Value.{Value}
use Rattle.value.specs.Data.{Datum}
use Rattle.value.specs.Reading.{datum_of}
use Rattle.image.specs.Walk.{RowWalked}
use Rattle.row_plan.specs.Plan.{item_count, row_cursor, plan_step}
use Rattle.row_plan.specs.Runs.{value_numbers, run_from}

-- values that say the answers of a walk, in their order
unfoldable pub Same : List ℕ → List Value → List (ℕ × Datum) → Type 0
Same image [] [] = Unit {0}
Same image [] (a ∷ bs) = ⊥
Same image (x ∷ xs) [] = ⊥
Same image (x ∷ xs) (a ∷ bs) = (datum_of image x ≡ a.1) × Same image xs bs

-- values of the image at `start`, as numbers one behind the other, v having been stored before
unfoldable pub put_values : ℕ → List Value → ℕ → List ℕ → List ℕ
put_values start [] v buf = buf
put_values start (x ∷ xs) v buf = put_values start xs (v + 1) (stored (value_numbers start x) buf (8 * v))

-- where a run stands behind the values of an image: behind its last item, the walk having ended there; or at an item that is refused as
-- the walk was
pub data Stopped (plan images : List ℕ) (start item offset : ℕ) : Outcome ℕ → Type 0 where
  at_end : item ≡ item_count plan → Stopped plan images start item offset (ok offset)
  at_refusal : (w : Refusal) → plan_step plan images (row_cursor start item offset) ≡ refused w
      → Stopped plan images start item offset (refused w)

-- from an item of the image at `start` on: the values that the walk w answers are stored, and then the run goes on from where w stopped,
-- whatever room is left
pub record RowRun (plan images : List ℕ) (start item offset : ℕ) (w : RowWalked) : Type 0 where
  pub values : List Value
  pub last : ℕ
  pub same : Same (drop start images) values w.answers
  pub goes : (m v : ℕ) (buf : List ℕ)
      → run_from (length values + m) plan images (row_cursor start item offset) v buf
      ≡ run_from m plan images (row_cursor start (item + length values) last) (v + length values) (put_values start values v buf)
  pub stops : Stopped plan images start (item + length values) last w.how
