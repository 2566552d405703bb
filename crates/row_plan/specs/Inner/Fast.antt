-- A value read fast, or left to another reader. Assumes nothing.
use Rattle.std.specs.Prelude.{ℕ, ◌+◌, ◌≤◌, ◌≡◌, List, length, take, drop, Option, Some, None}
use Rattle.wire.specs.Number.{Bytes}
use Rattle.wire.specs.Outcome.{ok}
use Rattle.value.specs.declared.shape.Shape.{Shape}
use Rattle.value.specs.Reading.{read_value}
use Rattle.row_plan.specs.Inner.Numbers.{numbered, item_numbers}

-- wherever eight bytes stand, in any image and for any place of a refusal, n of them are a value of a shape, which is these numbers
pub record Reads (sh : Shape) (eight : List ℕ) (n : ℕ) (numbers : List ℕ) : Type 0 where
  pub few : n ≤ 8
  pub reads : (s : List ℕ) → Bytes s → (at : ℕ) → at + 8 ≤ length s → eight ≡ take 8 (drop at s) → (by p : ℕ)
      → numbered by (read_value sh p s at) ≡ ok (numbers, at + n)

-- the value's slot has its numbers; or nothing was read, and the slot stayed as it was
abbrev pub Took : Shape → List ℕ → List ℕ → List ℕ → Option ℕ → Type 0
Took sh eight slot exit (Some n) = Reads sh eight n exit
Took sh eight slot exit None = exit ≡ slot

-- the same of an item of a plan, from an offset of an image on
pub record ReadsItem (plan image : List ℕ) (item offset n : ℕ) (numbers : List ℕ) : Type 0 where
  pub few : n ≤ 8
  pub reads : Bytes image → (by : ℕ) → item_numbers plan image by item offset ≡ ok (numbers, offset + n)

abbrev pub TookItem : List ℕ → List ℕ → ℕ → ℕ → List ℕ → List ℕ → Option ℕ → Type 0
TookItem plan image item offset slot exit (Some n) = ReadsItem plan image item offset n exit
TookItem plan image item offset slot exit None = exit ≡ slot
