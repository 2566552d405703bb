-- A plan: three bytes for each present column, its op and its place in the table. Any bytes are a plan: a step by it looks at no record and
-- tests nothing of the plan again. Assumes nothing.
use Rattle.std.specs.Prelude.{ℕ, zero, suc, ◌+◌, ◌-◌, ◌*◌, ◌/◌, cond, List, [], ◌∷◌, ◌++◌, length, get_or, take, drop, ltb}
use Rattle.wire.specs.Outcome.{Outcome, ok, refuse, after}
use Rattle.wire.specs.Number.{le_value, le_bytes}
use Rattle.wire.specs.Bits.{bytes_for}
use Rattle.wire.specs.Stored.{store}
use Rattle.value.specs.Ops.{shape_for, op_of}
use Rattle.image.specs.declared.cursor.Cursor.{Cursor}
use Rattle.image.specs.Present.{Present, present, count_bits}
use Rattle.image.specs.declared.step.Step.{Step}
use Rattle.image.specs.Split.{Slot, slots, head_of, ColumnStepped, step_over}
pub use Rattle.image.specs.declared.step.Step.TheVariants.{Null as null, Value as value, End as end}
use Rattle.row_plan.specs.declared.row.RowCursor.{RowCursor}

-- ---- the bytes of a plan
unfoldable pub item_bytes : Present → List ℕ
unfolding op_of le_bytes
item_bytes c = op_of c.shape ∷ le_bytes 2 c.column

unfoldable pub plan_bytes : List Present → List ℕ
unfolding item_bytes
plan_bytes [] = []
plan_bytes (c ∷ cs) = item_bytes c ++ plan_bytes cs

unfoldable pub plan_of : List ℕ → List ℕ → List ℕ
unfolding plan_bytes
plan_of profile presence = plan_bytes (present profile presence)

-- made at the start of a lent buffer: 11 and 12, then 8. How many bytes and items it has, and the buffer
unfoldable pub make_plan : List ℕ → List ℕ → List ℕ → Outcome ((ℕ × ℕ) × List ℕ)
unfolding head_of plan_of store
make_plan profile presence buf =
    after (head_of profile presence) (λ h. after (store (plan_of profile presence) buf 0) (λ x. ok ((x.0, h.present), x.1)))

-- ---- what any bytes say as a plan
abbrev pub item_count : List ℕ → ℕ
item_count plan = length plan / 3

unfoldable pub item_at : List ℕ → ℕ → Present
unfolding shape_for le_value
item_at plan k = record { column = le_value (take 2 (drop (3 * k + 1) plan)); shape = shape_for (get_or plan (3 * k) 0) }

-- m items from k on
unfoldable pub items_from : ℕ → List ℕ → ℕ → List Present
unfolding item_at
items_from zero plan k = []
items_from (suc m) plan k = item_at plan k ∷ items_from m plan (suc k)

-- the items from k on with their null bits
unfoldable pub plan_slots : List ℕ → List ℕ → ℕ → List Slot
unfolding items_from slots
plan_slots plan image k = slots (items_from (item_count plan - k) plan k) k image

-- ---- a step. A cursor says where its image starts among the images, which item comes next, and where its value starts in its image
abbrev pub row_cursor : ℕ → ℕ → ℕ → RowCursor
row_cursor start item offset = record { start = start; item = item; offset = offset }

abbrev pub RowStepped : Type 0
RowStepped = Step RowCursor

-- a step over slots told with the cursor's next item in place of a column
abbrev pub row_next : RowCursor → ColumnStepped → RowStepped
row_next c (null j n) = null j (row_cursor c.start (c.item + 1) n.offset)
row_next c (value j v n) = value j v (row_cursor c.start (c.item + 1) n.offset)
row_next c (end used) = end used

-- from any cursor, by any plan: 14 for an item above their count; 9 at 0 for null bits that are not whole; 9 at the item for an offset past
-- the image
unfoldable pub plan_step : List ℕ → List ℕ → RowCursor → Outcome RowStepped
unfolding plan_slots step_over
plan_step plan images c =
    cond (ltb (item_count plan) c.item) (refuse 14 c.item)
    (cond (ltb (length (drop c.start images)) (bytes_for (item_count plan))) (refuse 9 0)
    (cond (ltb (length (drop c.start images)) c.offset) (refuse 9 c.item)
    (after (step_over (plan_slots plan (drop c.start images) c.item) (drop c.start images) c.offset) (λ t. ok (row_next c t)))))

-- ---- a cursor of a walk under a record, as a plan has it; what a step told, with such cursors
unfoldable pub row_at : List ℕ → ℕ → Cursor → RowCursor
unfolding count_bits
row_at p start c = row_cursor start (count_bits p c.column) c.offset

abbrev pub rows_next : List ℕ → ℕ → ColumnStepped → RowStepped
rows_next p start (null j n) = null j (row_at p start n)
rows_next p start (value j v n) = value j v (row_at p start n)
rows_next p start (end used) = end used
