-- What the bytes behind the presence bits must be for the images that the walk over them gives: "Demands 2 and 3 then read for each image
-- in turn; an event is accepted only if images cover it exactly." Assumes nothing.
use Rattle.std.specs.Prelude.{ℕ, ◌≡◌, Bool, true, false, ◌&&◌, not, List, [], ◌∷◌, ◌++◌, length}
use Rattle.wire.specs.declared.refusal.Refusal.{Refusal}
use Rattle.wire.specs.Outcome.{ok, refused, refuse}
use Rattle.value.specs.Data.{Datum}
use Rattle.image.specs.Present.{present}
use Rattle.image.specs.Rows.{Says}
use Rattle.rows_event.specs.declared.event.Rows.{Rows}
use Rattle.rows_event.specs.Images.{in_pairs, set_of, is_empty, Met, ImagesWalked}

-- an image that takes just these bytes under the set, and its answers, as demand 3 has them
abbrev pub WholeImage : List ℕ → Rows → List ℕ → Bool → List ℕ → List (ℕ × Datum) → Type 0
WholeImage profile w s second image xs = Says (present profile (set_of w s second)) image (record { answers = xs; how = ok (length image) })

-- images laid end to end over the bytes t, up to those in `left`: the first under the set `b`, before and after by turns, so that one
-- behind them would stand under the set `e`. A `before` begins only where bytes are left
pub data Laid (profile : List ℕ) (w : Rows) (s : List ℕ) : Bool → List ℕ → List Met → Bool → List ℕ → Type 0 where
  none : {b : Bool} {t : List ℕ} → Laid profile w s b t [] b t
  more : {b e : Bool} {t left : List ℕ} {ms : List Met} (image rest : List ℕ) (xs : List (ℕ × Datum)) → t ≡ image ++ rest
      → (b ≡ false → t ≡ [] → ⊥) → WholeImage profile w s b image xs
      → Laid profile w s (in_pairs w && not b) rest ms e left
      → Laid profile w s b t (record { second = b; bytes = image; answers = xs } ∷ ms) e left

-- t is what stands behind the presence bits
pub data RowsSay (profile : List ℕ) (w : Rows) (s t : List ℕ) : ImagesWalked → Type 0 where
  -- images cover it exactly, in whole pairs for updates
  covered : {ms : List Met} → Laid profile w s false t ms false [] → RowsSay profile w s t (record { images = ms; how = ok tt })
  -- no set has a column, and so whatever there is is left over
  left_over : is_empty profile w s ≡ true → (t ≡ [] → ⊥) → RowsSay profile w s t (record { images = []; how = refuse 9 0 })
  -- images, and then what is no image: bytes that are none, or an end behind a `before`. The refusal is that of demand 3
  broken : {ms : List Met} {b : Bool} (left : List ℕ) (xs : List (ℕ × Datum)) (v : Refusal) → Laid profile w s false t ms b left
      → (b ≡ false → left ≡ [] → ⊥)
      → Says (present profile (set_of w s b)) left (record { answers = xs; how = refused v })
      → RowsSay profile w s t (record { images = ms; how = refused v })
