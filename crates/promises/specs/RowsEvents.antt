-- Rows events, request 1: "Demands 2 and 3 then read for each image in turn; an event is accepted only if images cover it exactly." Under a
-- record, which is `profile`, code and id being the event's code and the map's table id, and s the event. `rows_events` in
-- proofs/RowsEvents.antt proves all of it. Assumes nothing.
use Rattle.std.specs.Prelude.{ℕ, ◌≡◌, ◌⊎◌, List, drop}
use Rattle.wire.specs.declared.refusal.Refusal.{Refusal}
use Rattle.wire.specs.Outcome.{ok, refused}
use Rattle.wire.specs.Number.{Bytes}
use Rattle.rows_event.specs.declared.event.Rows.{Rows}
use Rattle.rows_event.specs.declared.images.Images.{Images}
use Rattle.rows_event.specs.Events.{read_rows}
use Rattle.rows_event.specs.Images.{next_image, images_onward, images_from, images_of, ImagesWalked}
use Rattle.rows_event.specs.Says.{RowsSay}

pub record RowsEvents : Type 0 where
  -- the images of an event that was read are what the bytes behind its presence bits say: images that cover them exactly, in whole pairs
  -- for updates, each as demand 3 has it; or bytes left over where no set has a column; or images and then the refusal of the first that
  -- fails
  pub rows_walked : (code : ℕ) (profile : List ℕ) (id : ℕ) (s : List ℕ) (w : Rows) → read_rows code profile id s ≡ ok w → Bytes s
      → RowsSay profile w s (drop w.images s) (images_of profile w s)
  -- exactly so: whatever the bytes say is what the walk gives
  pub rows_exactly : (code : ℕ) (profile : List ℕ) (id : ℕ) (s : List ℕ) (w : Rows) (x : ImagesWalked) → read_rows code profile id s ≡ ok w
      → RowsSay profile w s (drop w.images s) x → images_of profile w s ≡ x
  -- under what was read, no step refuses the record or the presence bits: 9 or 10 alone
  pub own_record : (code : ℕ) (profile : List ℕ) (id : ℕ) (s : List ℕ) (w : Rows) (c : Images) (v : Refusal)
      → read_rows code profile id s ≡ ok w → Bytes s → next_image profile w s c ≡ refused v
      → (v.number ≡ 9) ⊎ (v.number ≡ 10)
  -- the walk is its steps, which are what the library has, and they come to an end: from any cursor, over any parts, made up or not
  pub image_by_image : (profile : List ℕ) (w : Rows) (s : List ℕ) (c : Images)
      → images_from profile w s c ≡ images_onward (λ c'. images_from profile w s c') profile w s (next_image profile w s c)
