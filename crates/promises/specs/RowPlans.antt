-- Request 11: faster wide rows. "Reading may be reorganised if every promise stands." A plan is made once of a record and presence bits;
-- under a valid record its steps are the walk's, value by value, image by image, to the same end or refusal, and so is what a run by it
-- stores; and a row is written by it as under the record. Any other bytes are a plan too, and give what `plan_step`, `read_run` and `plan_put`
-- say of them. What each call refuses is in `Refusals`.
-- `row_plans` in proofs/RowPlans.antt proves it. Assumes nothing.
use Rattle.std.specs.Prelude.{ℕ, ◌*◌, ◌^◌, ◌-◌, ◌≤◌, ◌<◌, ◌≡◌, true, List, [], ◌∷◌, ◌++◌, negsuc, length, drop, get_or, replicate}
use Rattle.wire.specs.Outcome.{ok, refuse, after}
use Rattle.wire.specs.Bits.{bytes_for, bit_lsb0}
use Rattle.wire.specs.Parts.{part}
use Rattle.value.specs.declared.datum.Value.{Value}
use Rattle.value.specs.declared.datum.Value.TheVariants.{Int, Uint, Bytes}
use Rattle.record.specs.Records.{count_of, record_valid}
use Rattle.image.specs.declared.cursor.Cursor.{Cursor}
use Rattle.image.specs.Present.{present, count_bits}
use Rattle.image.specs.Split.{first_cursor, step_from}
use Rattle.image.specs.Rows.{answers_of}
use Rattle.image.specs.Puts.{put_from}
use Rattle.image.specs.WriteRow.{LentValue, row_of, Fit, write_row, write_left, image_size}
use Rattle.image.specs.Walk.{walk_image}
use Rattle.row_plan.specs.declared.row.RowCursor.{RowCursor}
use Rattle.row_plan.specs.declared.put.ItemCursor.{ItemCursor}
use Rattle.row_plan.specs.Plan.{plan_of, item_count, item_at, row_cursor, plan_step, row_at, rows_next, make_plan}
use Rattle.row_plan.specs.Runs.{run_from, read_run}
use Rattle.row_plan.specs.Rows.{RowRun}
use Rattle.row_plan.specs.Puts.{item_cursor, plan_put, plan_write, plan_left, item_of}

-- a valid record, and presence bits of its length
pub record Under (profile presence : List ℕ) : Type 0 where
  pub valid : record_valid profile ≡ true
  pub bits : length presence ≡ bytes_for (count_of profile)

-- document 01's worked record and image
abbrev pub worked_record : List ℕ
worked_record = 24 ∷ 0 ∷ 1 ∷ 0 ∷ 3 ∷ 0 ∷ 3 ∷ 12 ∷ 0 ∷ 0 ∷ 0 ∷ 0 ∷ 15 ∷ 10 ∷ 20 ∷ 0 ∷ 0 ∷ 0 ∷ 1 ∷ 13 ∷ 0 ∷ 0 ∷ 0 ∷ 0 ∷ []

abbrev pub worked_image : List ℕ
worked_image = 248 ∷ 254 ∷ 255 ∷ 255 ∷ 255 ∷ 2 ∷ 97 ∷ 98 ∷ 200 ∷ []

-- its values: -2, "ab", which stands behind a byte of what is lent, and 200
abbrev pub worked_values : List LentValue
worked_values =
    record { lent = []; value = Int (negsuc 1) } ∷ record { lent = 122 ∷ 97 ∷ 98 ∷ []; value = Bytes (part 1 2) }
    ∷ record { lent = []; value = Uint 200 } ∷ []

-- its plan: INT as a signed number of four bytes, VARCHAR with one length byte, TINYINT as an unsigned number of one, each with its place
abbrev pub worked_plan : List ℕ
worked_plan = 13 ∷ 0 ∷ 0 ∷ 47 ∷ 1 ∷ 0 ∷ 2 ∷ 2 ∷ 0 ∷ []

pub record RowPlans : Type 0 where
  -- the plan has an item for each present column
  pub items : (profile presence : List ℕ) → item_count (plan_of profile presence) ≡ length (present profile presence)
  -- from every cursor that a walk can have, a step by the plan is the step under the record, over the image that starts at `start` among
  -- the images: NULL or the same value of the same column, the same end, the same refusal; and its cursor is again the walk's
  pub plan_step_lem : (profile presence images : List ℕ) (start : ℕ) (c : Cursor) → Under profile presence → c.column ≤ count_of profile
      → c.offset ≤ length (drop start images)
      → plan_step (plan_of profile presence) images (row_at presence start c)
      ≡ after (step_from profile presence (drop start images) c) (λ t. ok (rows_next presence start t))
  -- the cursor that a walk begins with
  pub plan_first : (profile presence : List ℕ) (start : ℕ) (c : Cursor) → first_cursor profile presence ≡ ok c
      → row_at presence start c ≡ row_cursor start 0 (bytes_for (item_count (plan_of profile presence)))
  -- a run from there stores the values that the walk answers, each in its turn, and then stands where the walk stopped: behind the last
  -- item, its offset being the bytes used, or at the item that is refused with the walk's refusal
  pub run_walk : (profile presence images : List ℕ) (start : ℕ) → Under profile presence
      → RowRun (plan_of profile presence) images start 0 (bytes_for (item_count (plan_of profile presence)))
      (walk_image profile presence (drop start images))
  -- of whatever plan, from whatever cursor: no more values than there is room for; and where none was stored, the
  -- buffer is as it was
  pub run_room : (m : ℕ) (plan images : List ℕ) (c : RowCursor) (buf : List ℕ) → (run_from m plan images c 0 buf).values ≤ m
  pub run_kept : (m : ℕ) (plan images : List ℕ) (c : RowCursor) (buf : List ℕ) → (run_from m plan images c 0 buf).values ≡ 0
      → (run_from m plan images c 0 buf).left ≡ buf
  -- a made-up plan: op 0 is none, and its column is refused with 11 when it is met
  pub no_op : (plan images : List ℕ) (c : RowCursor) → c.item < item_count plan → get_or plan (3 * c.item) 0 ≡ 0
      → bytes_for (item_count plan) ≤ length (drop c.start images) → c.offset ≤ length (drop c.start images)
      → (bit_lsb0 (drop c.start images) c.item ≡ true → ⊥)
      → plan_step plan images c ≡ refuse 11 (item_at plan c.item).column
  -- document 01's worked reading, by its plan, from the last value of a first image on: 200; then -2 and "ab" of the one behind it, whose
  -- bytes start at 15 of both
  pub worked_plan_lem : make_plan worked_record (7 ∷ []) (replicate 9 0) ≡ ok ((9, 3), worked_plan)
  pub worked_run : read_run worked_plan (worked_image ++ worked_image) (row_cursor 0 2 8) (replicate 24 0)
      ≡ ok (
        (3, row_cursor 9 2 8),
        3 ∷ 200 ∷ 0 ∷ 0 ∷ 0 ∷ 0 ∷ 0 ∷ 0 ∷ 2 ∷ (2 ^ 64 - 2) ∷ 0 ∷ 0 ∷ 0 ∷ 0 ∷ 0 ∷ 0
            ∷ 11 ∷ 15 ∷ 2 ∷ 0 ∷ 0 ∷ 0 ∷ 0 ∷ 0 ∷ [],
      )
  -- a plan under other presence bits than its own gives what it says, and nothing else: of an image of the first and third column, by the
  -- plan of all three, -2; and then 200 is taken for the length of the string, which is not there
  pub other_presence : (read_run worked_plan (252 ∷ 254 ∷ 255 ∷ 255 ∷ 255 ∷ 200 ∷ []) (row_cursor 0 0 1) (replicate 16 0)
      ≡ ok ((1, row_cursor 0 1 5), 2 ∷ (2 ^ 64 - 2) ∷ 0 ∷ 0 ∷ 0 ∷ 0 ∷ 0 ∷ 0 ∷ 0 ∷ 0 ∷ 0 ∷ 0 ∷ 0 ∷ 0 ∷ 0 ∷ 0 ∷ []))
      × (read_run worked_plan (252 ∷ 254 ∷ 255 ∷ 255 ∷ 255 ∷ 200 ∷ []) (row_cursor 0 1 5) (replicate 16 0) ≡ refuse 9 1)
  -- writing, which is our own: from every cursor of the writer that has a present column left, a value put by the plan is that value put
  -- under the record, the same buffer or the same refusal, and its cursor is again the writer's
  pub plan_put_lem : (profile presence nulls lent : List ℕ) (v : Value) (buf : List ℕ) (c : Cursor) → Under profile presence
      → count_bits presence c.column < count_bits presence (count_of profile)
      → plan_put (plan_of profile presence) nulls (item_of presence c) lent v buf
      ≡ after (put_from profile presence nulls c lent v buf) (λ x. ok (item_of presence x.0, x.1))
  -- so a row that is written by a start, and then by the plan of its record, is the row written under the record, be it stored or refused,
  -- whatever the record and the bits are: of no more values than there are present columns, since one more is 14 at the item
  pub plan_write_lem : (profile presence nulls : List ℕ) (gs : List LentValue) (buf : List ℕ)
      → length gs ≤ count_bits presence (count_of profile)
      → plan_write profile presence nulls gs buf ≡ after (write_row profile presence nulls gs buf) (λ x. ok (item_of presence x.0, x.1))
  -- and so is what the calls leave of the buffer, one after the other, also where one refuses
  pub plan_left_lem : (profile presence nulls : List ℕ) (gs : List LentValue) (buf : List ℕ) → length gs ≤ count_bits presence (count_of profile)
      → plan_left profile presence nulls gs buf ≡ write_left profile presence nulls gs buf
  -- every row in the domains, with null bits that say which of it is NULL, is written so given room: the last cursor tells the bytes used,
  -- and the walk over what was written gives the row
  pub plan_back : (profile presence nulls : List ℕ) (gs : List LentValue) (buf : List ℕ) → Fit profile presence nulls gs
      → image_size profile presence nulls (row_of gs) ≤ length buf
      → (next : ItemCursor) × (left : List ℕ) × (plan_write profile presence nulls gs buf ≡ ok (next, left))
      × (next.offset ≡ image_size profile presence nulls (row_of gs))
      × (walk_image profile presence left ≡ record { answers = answers_of (present profile presence) (row_of gs); how = ok next.offset })
  -- document 01's worked row, written by its plan with a byte to spare; and with a byte less than it takes
  pub worked_write : (plan_write worked_record (7 ∷ []) (0 ∷ []) worked_values (replicate 10 0) ≡ ok (item_cursor 3 9, worked_image ++ (0 ∷ [])))
      × (plan_write worked_record (7 ∷ []) (0 ∷ []) worked_values (replicate 8 0) ≡ refuse 8 0)
