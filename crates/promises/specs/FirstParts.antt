-- Request 4: "Each temporal reader shall name the first offending part." What a refusal 10 tells is the first part out of range, exactly
-- so, and no other fits; and which parts each kind can tell. That all other refusals name none is `parted` in `Refusals`; that the image
-- walk and rows events hand it on is `Says` in demand 3. `first_parts` in proofs/FirstParts.antt proves it. Assumes nothing.
use Rattle.std.specs.Prelude.{ℕ, ◌+◌, ◌≤◌, ◌≡◌, true, List, length, take, drop}
use Rattle.wire.specs.Number.{Bytes, is_among}
use Rattle.wire.specs.Outcome.{refused, out_of}
use Rattle.temporal.specs.declared.storage.Storage.{Storage}
use Rattle.temporal.specs.Reading.{temporal_size, read_temporal}
use Rattle.temporal.specs.Firsts.{FirstOut, tellable}

pub record FirstParts : Type 0 where
  -- the part that is told is out of range, and every part before it, in the order 8, 1, .., 7, is in range
  pub first_part : (k : Storage) (place : ℕ) (s : List ℕ) (at part : ℕ) → read_temporal k place s at ≡ refused (out_of place part)
      → (at + temporal_size k ≤ length s) × FirstOut k (take (temporal_size k) (drop at s)) part
  -- and such a part is told, where the bytes are all there
  pub part_told : (k : Storage) (place : ℕ) (s : List ℕ) (at part : ℕ) → at + temporal_size k ≤ length s
      → FirstOut k (take (temporal_size k) (drop at s)) part → read_temporal k place s at ≡ refused (out_of place part)
  -- so exactly one fits
  pub one_part : (k : Storage) (b : List ℕ) (p q : ℕ) → FirstOut k b p → FirstOut k b q → p ≡ q
  -- which parts a kind tells; that it tells each of them are rows of `Temporals`
  pub parts_told : (k : Storage) (place : ℕ) (s : List ℕ) (at part : ℕ) → Bytes s → read_temporal k place s at ≡ refused (out_of place part)
      → is_among part (tellable k) ≡ true
