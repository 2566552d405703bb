-- Request 8: room for one image. "Given a valid record and presence bits, report the most bytes an image under them can take: null bits
-- plus each present column's largest stored size, length bytes included." The definition is `image_room` in image/specs/Room, over `most_of`
-- in value/specs/Shapes. What `image_room` refuses is in `Refusals`. `rooms` in proofs/Room.antt proves all of it. Assumes nothing.
use Rattle.std.specs.Prelude.{ℕ, ◌+◌, ◌*◌, ◌^◌, ◌≤◌, ◌<◌, ◌≡◌, true, false, List, [], ◌∷◌, length}
use Rattle.wire.specs.declared.refusal.Refusal.{Refusal}
use Rattle.wire.specs.Outcome.{ok, refused}
use Rattle.wire.specs.Number.{Bytes}
use Rattle.wire.specs.Bits.{bytes_for, bit_lsb0}
use Rattle.value.specs.declared.column.Column.{Column}
use Rattle.value.specs.declared.shape.Shape.TheVariants.{Counted}
use Rattle.value.specs.Columns.{shape_of}
use Rattle.value.specs.Shapes.{most_of}
use Rattle.record.specs.Records.{count_of, record_valid}
use Rattle.image.specs.declared.cursor.Cursor.{Cursor}
use Rattle.image.specs.Present.{count_bits, shape_at, present}
use Rattle.image.specs.Walk.{walk_image}
use Rattle.image.specs.Rows.{Row, in_domains}
use Rattle.image.specs.WriteRow.{LentValue, Fit, write_row, image_size}
use Rattle.image.specs.Room.{image_room, read_room}
use Rattle.promises.specs.Demand3.{RowHeld}
use Rattle.promises.specs.RowPlans.{worked_record}

-- a row in the domains, as a program has it, that takes all of the room: the cursor behind its last value tells the bytes used
pub record Reached (profile presence : List ℕ) : Type 0 where
  pub nulls : List ℕ
  pub row : List LentValue
  pub fit : Fit profile presence nulls row
  pub bytes : Bytes nulls
  pub held : RowHeld row
  pub writes : (buf : List ℕ) → image_room profile presence ≤ length buf
      → (last : Cursor) × (left : List ℕ) × (write_row profile presence nulls row buf ≡ ok (last, left))
      × (last.offset ≡ image_room profile presence)

-- a column of a type and its metadata m0
abbrev pub column_with : ℕ → ℕ → Column
column_with real m0 = record { real = real; m0 = m0; m1 = 0; unsigned = false }

pub record Rooms : Type 0 where
  -- it is told where record and presence bits stand the tests before any step
  pub told : (profile presence : List ℕ) → record_valid profile ≡ true → length presence ≡ bytes_for (count_of profile)
      → read_room profile presence ≡ ok (image_room profile presence)
  -- "no row in the domains writes more"
  pub no_more : (profile presence nulls : List ℕ) (ds : Row) → in_domains (present profile presence) ds ≡ true
      → length nulls ≡ bytes_for (length ds)
      → image_size profile presence nulls ds ≤ image_room profile presence
  -- and no image that is read to its end used more
  pub read_no_more : (profile presence image : List ℕ) (used : ℕ) → Bytes image → (walk_image profile presence image).how ≡ ok used
      → used ≤ image_room profile presence
  -- "some row writes exactly that many"
  pub reached : (profile presence : List ℕ) → record_valid profile ≡ true → length presence ≡ bytes_for (count_of profile)
      → Reached profile presence
  -- "the image writer, run from its start and lent this much, never refuses for room": whatever record and bits it is lent, and whatever
  -- values, in the domains or not, fewer or more than there are columns
  pub never_for_room : (profile presence nulls : List ℕ) (gs : List LentValue) (buf : List ℕ) (w : Refusal)
      → image_room profile presence ≤ length buf → write_row profile presence nulls gs buf ≡ refused w → w.number ≡ 8 → ⊥
  -- "The number is a 64-bit count": under a valid record it is no more than 4,096 LONGBLOB columns take, and so never too large;
  -- and as many, all present, take just that
  pub most : (profile presence : List ℕ) → record_valid profile ≡ true → image_room profile presence ≤ 512 + 4096 * (2 ^ 32 + 3)
  pub fits : (profile presence : List ℕ) → record_valid profile ≡ true → image_room profile presence < 2 ^ 64
  pub widest : (profile presence : List ℕ) → count_of profile ≡ 4096
      → ((i : ℕ) → i < 4096 → (bit_lsb0 presence i ≡ true) × (shape_at profile i ≡ Counted 4))
      → image_room profile presence ≡ 512 + 4096 * (2 ^ 32 + 3)
  -- no present column: nothing, be there columns or not
  pub none : (profile presence : List ℕ) → count_bits presence (count_of profile) ≡ 0 → image_room profile presence ≡ 0
  -- it goes by the length's bytes and not by the declared length: VARCHAR(20), LONGBLOB
  pub varchar : most_of (shape_of (column_with 15 20)) ≡ 256
  pub longblob : most_of (shape_of (column_with 252 4)) ≡ 2 ^ 32 + 3
  -- document 01's worked record: a null byte, INT, VARCHAR(20), TINYINT UNSIGNED; the same without the string
  pub worked : (read_room worked_record (7 ∷ []) ≡ ok 262) × (read_room worked_record (5 ∷ []) ≡ ok 6)
