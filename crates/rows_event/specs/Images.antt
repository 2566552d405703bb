-- The images of a rows event: "then images to the end. Updates hold whole pairs, before then after"; "Where no set has a column present an
-- image takes no bytes, so any byte after the presence bits is then left over". A step over them from any cursor, and the whole walk.
-- Assumes nothing.
use Rattle.std.specs.Prelude.{ℕ, zero, suc, ◌+◌, ◌-◌, ◌*◌, Bool, true, false, cond, ◌&&◌, not, Option, Some, None, List, [], ◌∷◌, length, drop, ltb, eqb}
use Rattle.wire.specs.declared.part.Part.{Part}
use Rattle.wire.specs.Outcome.{Outcome, ok, refused, refuse, after}
use Rattle.wire.specs.Parts.{part, part_of, lent_part}
use Rattle.value.specs.Data.{Datum}
use Rattle.record.specs.Records.{count_of}
use Rattle.image.specs.Present.{count_bits}
use Rattle.image.specs.Walk.{walk_image}
use Rattle.rows_event.specs.declared.event.Rows.{Rows}
use Rattle.rows_event.specs.declared.images.Images.{Images}
use Rattle.rows_event.specs.declared.images.Image.{Image}
pub use Rattle.std.specs.Prelude.{None as end}

-- ---- the sets of presence bits
-- whether there is a second, so that images come in pairs
abbrev pub is_there : Option Part → Bool
is_there None = false
is_there (Some p) = true

abbrev pub in_pairs : Rows → Bool
in_pairs w = is_there w.after

-- its bits
abbrev pub second_bits : List ℕ → Option Part → List ℕ
second_bits s None = []
second_bits s (Some p) = lent_part s p

-- the set that an image stands under: the first, or the second
abbrev pub set_of : Rows → List ℕ → Bool → List ℕ
set_of w s second = cond second (second_bits s w.after) (lent_part s w.before)

-- no set has a column of the record present: spare bits count for nothing
unfoldable pub is_empty : List ℕ → Rows → List ℕ → Bool
unfolding count_bits
is_empty profile w s = eqb (count_bits (set_of w s false) (count_of profile)) 0 && eqb (count_bits (set_of w s true) (count_of profile)) 0

-- ---- one step
-- an image, under which set it stands, and the next cursor; or the end
abbrev pub ImageStepped : Type 0
ImageStepped = Option (Image × Images)

abbrev pub image_met : Part → Bool → Images → ImageStepped
image_met p second next = Some (record { part = p; second = second }, next)

-- a cursor's image stands under the second set only in an event that has one, whatever a made-up cursor says
abbrev pub is_second : Rows → Images → Bool
is_second w c = in_pairs w && c.second

-- and behind it comes the other set's
abbrev pub behind_image : Rows → ℕ → Bool → Images
behind_image w at second = record { at = at; second = in_pairs w && not second }

-- the image at a place, by the walk over what is left of the event. Where no set has a column it takes no bytes, so what is left is left
-- over: 9 at 0
abbrev pub image_at : List ℕ → Rows → List ℕ → ℕ → Bool → Outcome ImageStepped
image_at profile w s at second =
    after (walk_image profile (set_of w s second) (drop at s)).how (λ used.
    cond (is_empty profile w s) (refuse 9 0) (ok (image_met (part at used) second (behind_image w (at + used) second))))

-- from any cursor: an offset past the event is 9 at 0; at its end, behind whole pairs, the walk has ended
unfoldable pub next_image : List ℕ → Rows → List ℕ → Images → Outcome ImageStepped
unfolding is_empty walk_image
next_image profile w s c =
    cond (ltb (length s) c.at) (refuse 9 0)
    (cond (eqb c.at (length s) && not (is_second w c)) (ok end)
    (image_at profile w s c.at (is_second w c)))

-- ---- the whole walk
-- an image that was met: the set that it stands under, its bytes, and the answers of the walk over them
pub record Met : Type 0 where
  pub second : Bool
  pub bytes : List ℕ
  pub answers : List (ℕ × Datum)

-- those that were met, and whether they go to the end
pub record ImagesWalked : Type 0 where
  pub images : List Met
  pub how : Outcome (Unit {0})

abbrev pub images_stopped : Outcome (Unit {0}) → ImagesWalked
images_stopped how = record { images = []; how = how }

abbrev pub with_image : Met → ImagesWalked → ImagesWalked
with_image m x = record { images = m ∷ x.images; how = x.how }

unfoldable pub met_image : List ℕ → Rows → List ℕ → Part → Bool → Met
unfolding walk_image
met_image profile w s p second =
    record { second = second; bytes = part_of s p; answers = (walk_image profile (set_of w s second) (part_of s p)).answers }

-- what a step told, and then the walk f from its cursor
abbrev pub images_onward : (Images → ImagesWalked) → List ℕ → Rows → List ℕ → Outcome ImageStepped → ImagesWalked
images_onward f profile w s (ok end) = images_stopped (ok tt)
images_onward f profile w s (ok (Some (image, c))) = with_image (met_image profile w s image.part image.second) (f c)
images_onward f profile w s (refused v) = images_stopped (refused v)

-- at most m steps
unfoldable pub image_steps : ℕ → List ℕ → Rows → List ℕ → Images → ImagesWalked
unfolding next_image
image_steps zero profile w s c = images_stopped (ok tt)
image_steps (suc m) profile w s c = images_onward (image_steps m profile w s) profile w s (next_image profile w s c)

-- from a cursor on. Of two images one takes a byte at least, so these steps are enough (`image_by_image` in promises)
abbrev pub images_from : List ℕ → Rows → List ℕ → Images → ImagesWalked
images_from profile w s c = image_steps (2 * (length s - c.at) + 2) profile w s c

-- all images of an event that was read
abbrev pub first_image : Rows → Images
first_image w = record { at = w.images; second = false }

abbrev pub images_of : List ℕ → Rows → List ℕ → ImagesWalked
images_of profile w s = images_from profile w s (first_image w)
