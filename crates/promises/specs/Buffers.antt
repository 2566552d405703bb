-- "Success touches only the bytes reported." For every public call that writes: where it went well, the buffer after the call is the buffer
-- before it, but for the bytes from where the call began to the place that it answers. Where it refused, see `Refusals`. `buffers` in
-- proofs/Demand1/Buffers.antt proves it. Assumes nothing.
use Rattle.std.specs.Prelude.{ℕ, ◌+◌, ◌*◌, ◌≡◌, List, length, get_or, take, drop}
use Rattle.wire.specs.Outcome.{ok}
use Rattle.wire.specs.Stored.{store}
use Rattle.temporal.specs.declared.storage.Storage.{Storage}
use Rattle.temporal.specs.declared.parts.Temporal.{Temporal}
use Rattle.temporal.specs.Reading.{write_temporal}
use Rattle.value.specs.declared.column.Column.{Column}
use Rattle.value.specs.declared.classes.Dialect.{Dialect}
use Rattle.value.specs.declared.datum.Value.{Value}
use Rattle.value.specs.Columns.{shape_of}
use Rattle.value.specs.Ops.{shape_for}
use Rattle.value.specs.Storing.{write_value}
use Rattle.table_map.specs.Writes.{EventParts, write_event}
use Rattle.map_check.specs.Check.{check}
use Rattle.image.specs.declared.cursor.Cursor.{Cursor}
use Rattle.image.specs.Puts.{start_image, put_from}
use Rattle.blocks.specs.declared.state.Arriving.{Arriving}
use Rattle.blocks.specs.declared.state.BlockGiven.{BlockGiven}
use Rattle.blocks.specs.Gives.{give_block}
use Rattle.row_plan.specs.declared.row.RowCursor.{RowCursor}
use Rattle.row_plan.specs.Plan.{make_plan}
use Rattle.row_plan.specs.Runs.{read_run}
use Rattle.row_plan.specs.declared.put.ItemCursor.{ItemCursor}
use Rattle.row_plan.specs.Puts.{plan_put}
use Rattle.feed_abi.specs.Calls.{feed_check, feed_start, feed_put, feed_plan, feed_run, feed_put_item}
use Rattle.feed_abi.specs.Blocks.{feed_give}

-- `left` is `buf` but for the bytes from o to n
pub record Touched (buf : List ℕ) (o n : ℕ) (left : List ℕ) : Type 0 where
  pub size : length left ≡ length buf
  pub before : take o left ≡ take o buf
  pub behind : drop n left ≡ drop n buf

pub record Buffers : Type 0 where
  -- `write_packed`, `write_le`, `write_be`, `write_bytes`, `write_entry`, `write_head`
  pub write_bytes : (buf : List ℕ) (o : ℕ) (bytes : List ℕ) (n : ℕ) (left : List ℕ) → store bytes buf o ≡ ok (n, left)
      → Touched buf o n left
  pub write_temporal_lem : (k : Storage) (place : ℕ) (buf : List ℕ) (o : ℕ) (t : Temporal) (n : ℕ) (left : List ℕ)
      → write_temporal k place t buf o ≡ ok (n, left) → Touched buf o n left
  -- `write_value`, `write_lone`; `write_op`
  pub write_value_lem : (c : Column) (place : ℕ) (lent : List ℕ) (v : Value) (buf : List ℕ) (o n : ℕ) (left : List ℕ)
      → write_value (shape_of c) place lent v buf o ≡ ok (n, left)
      → Touched buf o n left
  pub write_op : (op place : ℕ) (lent : List ℕ) (v : Value) (buf : List ℕ) (o n : ℕ) (left : List ℕ)
      → write_value (shape_for op) place lent v buf o ≡ ok (n, left)
      → Touched buf o n left
  pub write_event_lem : (parts : EventParts) (buf : List ℕ) (n : ℕ) (left : List ℕ) → write_event parts buf ≡ ok (n, left) → Touched buf 0 n left
  pub check_map : (d : Dialect) (event : List ℕ) (post_header : ℕ) (buf : List ℕ) (n : ℕ) (left : List ℕ)
      → check d event post_header buf ≡ ok (n, left) → Touched buf 0 n left
  -- `start` and `Cursor::put` answer a cursor, whose offset is the place
  pub start_image_lem : (profile presence nulls buf : List ℕ) (next : Cursor) (left : List ℕ)
      → start_image profile presence nulls buf ≡ ok (next, left) → Touched buf 0 next.offset left
  pub put_value : (profile presence nulls : List ℕ) (c : Cursor) (lent : List ℕ) (v : Value) (buf : List ℕ) (next : Cursor) (left : List ℕ)
      → put_from profile presence nulls c lent v buf ≡ ok (next, left)
      → Touched buf c.offset next.offset left
  -- `make_plan` answers the place, and how many items there are
  pub make_plan_lem : (profile presence buf : List ℕ) (n items : ℕ) (left : List ℕ)
      → make_plan profile presence buf ≡ ok ((n, items), left) → Touched buf 0 n left
  -- `RowCursor::read` answers how many values it stored, each in eight numbers
  pub read_run_lem : (plan images : List ℕ) (c : RowCursor) (buf : List ℕ) (values : ℕ) (next : RowCursor) (left : List ℕ)
      → read_run plan images c buf ≡ ok ((values, next), left) → Touched buf 0 (8 * values) left
  -- `ItemCursor::put` answers a cursor, whose offset is the place
  pub put_item : (plan nulls : List ℕ) (c : ItemCursor) (lent : List ℕ) (v : Value) (buf : List ℕ) (next : ItemCursor) (left : List ℕ)
      → plan_put plan nulls c lent v buf ≡ ok (next, left)
      → Touched buf c.offset next.offset left
  -- `Arriving::give` answers how many bytes it took; they go behind what the carry holds, but for those of a part
  pub give_block_lem : (profile presence : List ℕ) (st : Arriving) (carry block : List ℕ) (g : BlockGiven) (left : List ℕ)
      → give_block profile presence st carry block ≡ ok (g, left)
      → Touched carry st.held (st.held + g.taken) left
  -- `feed_check` answers the place as its number, `feed_start` and `feed_put` as the second of theirs; what is left of the numbers
  -- themselves is in `Abi`
  pub feed_check_lem : (event : List ℕ) (post_header dialect : ℕ) (buf ns left : List ℕ) → feed_check event post_header dialect buf ≡ ok (ns, left)
      → Touched buf 0 (get_or ns 0 0) left
  pub feed_start_lem : (profile presence nulls image ns left : List ℕ) → feed_start profile presence nulls image ≡ ok (ns, left)
      → Touched image 0 (get_or ns 1 0) left
  pub feed_put_lem : (profile presence nulls : List ℕ) (column offset sort : ℕ) (parts lent image ns left : List ℕ)
      → feed_put profile presence nulls column offset sort parts lent image ≡ ok (ns, left)
      → Touched image offset (get_or ns 1 0) left
  -- `feed_plan` answers the place as its first number, and `feed_run` how many values it stored as its first
  pub feed_plan_lem : (profile presence plan ns left : List ℕ) → feed_plan profile presence plan ≡ ok (ns, left)
      → Touched plan 0 (get_or ns 0 0) left
  pub feed_run_lem : (plan images : List ℕ) (start item offset : ℕ) (values ns left : List ℕ)
      → feed_run plan images start item offset values ≡ ok (ns, left)
      → Touched values 0 (8 * get_or ns 0 0) left
  -- `feed_put_item` answers the place as its second number
  pub feed_put_item_lem : (plan nulls : List ℕ) (item offset sort : ℕ) (parts lent image ns left : List ℕ)
      → feed_put_item plan nulls item offset sort parts lent image ≡ ok (ns, left)
      → Touched image offset (get_or ns 1 0) left
  -- `feed_give` answers how many bytes it took as its eighth number
  pub feed_give_lem : (profile presence carry block : List ℕ) (phase column held left used : ℕ) (ns carried : List ℕ)
      → feed_give profile presence carry block phase column held left used ≡ ok (ns, carried)
      → Touched carry held (held + get_or ns 7 0) carried
