-- Demand 1 for the calls of `feed_abi`, which programs in C make: which refusals each gives and at which places, and what that means to the
-- caller, who sees a status, the numbers and the bytes lent. A call stands here by the answer that its contract hands to `status_of`,
-- `numbers_left` and `bytes_left`, whatever it is lent. `abi` in proofs/Demand1/Abi.antt proves all of it. Assumes nothing.
use Rattle.std.specs.Prelude.{ℕ, ◌+◌, ◌≤◌, ◌<◌, ◌≡◌, true, false, List, [], ◌∷◌, ◌++◌, length, get_or, take, drop}
use Rattle.std.specs.Prelude.{None as none, Some as some}
use Rattle.wire.specs.declared.refusal.Refusal.{Refusal}
use Rattle.wire.specs.Outcome.{Outcome, ok, refused, refuse}
use Rattle.wire.specs.Number.{Bytes, is_among}
use Rattle.wire.specs.Stored.{answer_of}
use Rattle.wire.specs.declared.part.Part.{Part}
use Rattle.value.specs.declared.classes.Dialect.{Dialect}
use Rattle.value.specs.declared.datum.Value.{Value}
use Rattle.value.specs.declared.datum.Value.TheVariants.{Null}
use Rattle.value_parts.specs.Parts.{top_of_bits, value_of, is_held}
use Rattle.table_map.specs.Layouts.{pair_layout, group_layout}
use Rattle.record.specs.declared.entry.Entry.{Entry}
use Rattle.record.specs.Records.{count_of, entry_at}
use Rattle.map_check.specs.Check.{check_map}
use Rattle.map_check.specs.Names.{list_of, names_field}
use Rattle.image.specs.declared.cursor.Cursor.{Cursor}
use Rattle.image.specs.declared.step.Step.TheVariants.{Null as null, Value as value}
use Rattle.image.specs.Split.{step_from}
use Rattle.blocks.specs.declared.state.Arriving.{Arriving}
use Rattle.row_plan.specs.Plan.{row_cursor}
use Rattle.row_plan.specs.Runs.{turned}
use Rattle.feed_abi.specs.Answers.{status_of, numbers_left, bytes_left}
use Rattle.feed_abi.specs.Calls.{dialect_of, told_numbers, feed_map, feed_check, feed_column, feed_names, feed_name, feed_first, feed_step}
use Rattle.feed_abi.specs.Calls.{feed_start, feed_put, feed_room, feed_rows, feed_image, feed_plan, feed_run, feed_put_item}
use Rattle.feed_abi.specs.Fields.{feed_parts, feed_fields, feed_field, feed_item}
use Rattle.feed_abi.specs.Blocks.{phase_number, state_asked, feed_begin, feed_give, feed_end}
use Rattle.promises.specs.Refusals.{Line, ◌at◌, ◌below◌, part_below, refusal_numbers, Only, laid_out, event_lines, check_lines, name_lines}
use Rattle.promises.specs.Refusals.{names_lines, rows_lines, plan_lines, put_lines}
use Rattle.promises.specs.Buffers.{Touched}

-- the answer is no refusal, and there is room for its k numbers
abbrev pub Answered : ℕ → List ℕ → Outcome (List ℕ) → Type 0
Answered k out answer = (ns : List ℕ) × (answer ≡ ok ns) × (k ≤ length out)

-- an answer has k numbers
abbrev pub Counts : ℕ → Outcome (List ℕ) → Type 0
Counts k answer = (ns : List ℕ) → answer ≡ ok ns → length ns ≡ k

-- what `feed_put` makes of the numbers that `feed_step` left: the first is the sort, and the parts begin with the fifth
abbrev pub told_again : List ℕ → Outcome Value
told_again ns = value_of (get_or ns 0 0) (drop 4 ns)

pub record AbiCalls : Type 1 where
  -- ---- maps
  -- `feed_map`: as `read_event`
  pub feed_map_lem : (event : List ℕ) (post_header : ℕ) → Only (feed_map event post_header) (event_lines event post_header)
  -- `feed_check`: as `check`; 13 for a number that is no dialect
  pub feed_check_lem : (event : List ℕ) (post_header dialect : ℕ) (buf : List ℕ) (d : Dialect) → dialect_of dialect ≡ ok d
      → Only (answer_of (feed_check event post_header dialect buf)) (check_lines d event post_header)
  pub check_no_dialect : (event : List ℕ) (post_header dialect : ℕ) (buf : List ℕ) (w : Refusal) → dialect_of dialect ≡ refused w
      → answer_of (feed_check event post_header dialect buf) ≡ refuse 13 0
  -- `feed_column`: 14 at the column asked
  pub feed_column_lem : (profile : List ℕ) (column : ℕ) → Only (feed_column profile column) (11 at 0 ∷ 14 at column ∷ [])
  -- `feed_names`: as `names_field`; 13 for a number that is no dialect
  pub feed_names_lem : (event : List ℕ) (post_header dialect : ℕ) (d : Dialect) → dialect_of dialect ≡ ok d
      → Only (feed_names event post_header dialect) (names_lines d event post_header)
  pub names_no_dialect : (event : List ℕ) (post_header dialect : ℕ) (w : Refusal) → dialect_of dialect ≡ refused w
      → feed_names event post_header dialect ≡ refuse 13 0
  -- `feed_name`: as `column_name`
  pub feed_name_lem : (names operator : List ℕ) (column : ℕ) → Only (feed_name names operator column) (name_lines (list_of names operator) column)
  -- ---- what a map says beside its record
  -- `feed_parts`: as `read_event`
  pub feed_parts_lem : (event : List ℕ) (post_header : ℕ) → Only (feed_parts event post_header) (event_lines event post_header)
  -- `feed_fields`: as `read_event`; 13 for a number that is no dialect
  pub feed_fields_lem : (event : List ℕ) (post_header dialect : ℕ) (d : Dialect) → dialect_of dialect ≡ ok d
      → Only (feed_fields event post_header dialect) (event_lines event post_header)
  pub fields_no_dialect : (event : List ℕ) (post_header dialect : ℕ) (w : Refusal) → dialect_of dialect ≡ refused w
      → feed_fields event post_header dialect ≡ refuse 13 0
  -- `feed_field`: as `Fields::next`
  pub feed_field_lem : (event : List ℕ) (offset numeric columns : ℕ)
      → Only (feed_field event offset numeric columns)
      (1 at offset ∷ 1 at (offset + 1) ∷ 2 at (offset + 1) ∷ 6 at offset ∷ 7 at offset ∷ [])
  -- `feed_item`: as `next` of `Integers`, `Pairs`, `Strings` and `Groups`, which are 1 to 4; 13 for any other number
  pub integer_item : (value : List ℕ) (offset : ℕ) → Only (feed_item 1 value offset) (1 at offset ∷ 2 at offset ∷ [])
  pub pair_item : (value : List ℕ) (offset : ℕ) → Only (feed_item 2 value offset) (laid_out value pair_layout offset)
  pub string_item : (value : List ℕ) (offset : ℕ) → Only (feed_item 3 value offset) (1 at offset ∷ 2 at offset ∷ [])
  pub group_item : (value : List ℕ) (offset : ℕ) → Only (feed_item 4 value offset) (laid_out value group_layout offset)
  pub no_list : (list : ℕ) (value : List ℕ) (offset : ℕ) → is_among list (1 ∷ 2 ∷ 3 ∷ 4 ∷ []) ≡ false
      → feed_item list value offset ≡ refuse 13 0
  -- ---- rows; `profile` is the record
  -- `feed_first`: as `first_cursor`
  pub feed_first_lem : (profile presence : List ℕ) → Only (feed_first profile presence) (11 at 0 ∷ 12 at 0 ∷ [])
  -- `feed_step`: as `Cursor::step`
  pub feed_step_lem : (profile presence image : List ℕ) (column offset : ℕ)
      → Only (feed_step profile presence image column offset)
      (11 at 0 ∷ 12 at 0 ∷ 14 at column ∷ 9 at 0 ∷ 9 at column ∷ 9 below count_of profile ∷ part_below (count_of profile) ∷ [])
  -- `feed_start`: as `start`
  pub feed_start_lem : (profile presence nulls image : List ℕ)
      → Only (answer_of (feed_start profile presence nulls image)) (11 at 0 ∷ 12 at 0 ∷ 8 at 0 ∷ [])
  -- `feed_put`: 13 at 0 for a sort and parts that make no value; else as `Cursor::put`
  pub feed_put_lem : (profile presence nulls : List ℕ) (column offset sort : ℕ) (parts lent image : List ℕ)
      → Only (answer_of (feed_put profile presence nulls column offset sort parts lent image))
      (13 at 0 ∷ 11 at 0 ∷ 12 at 0 ∷ 14 at column ∷ 13 below count_of profile ∷ 8 at 0 ∷ [])
  -- `feed_room`: as `image_room`
  pub feed_room_lem : (profile presence : List ℕ) → Only (feed_room profile presence) (11 at 0 ∷ 12 at 0 ∷ [])
  -- ---- rows events; s is the event
  -- `feed_rows`: as `read_rows`
  pub feed_rows_lem : (code : ℕ) (profile : List ℕ) (id : ℕ) (s : List ℕ) → Only (feed_rows code profile id s) (rows_lines code profile s)
  -- `feed_image`: as `Images::next`
  pub feed_image_lem : (profile s : List ℕ) (firstStart firstLength hasSecond secondStart secondLength offset second : ℕ)
      → Only (feed_image profile s firstStart firstLength hasSecond secondStart secondLength offset second)
      (11 at 0 ∷ 12 at 0 ∷ 9 at 0 ∷ 9 below count_of profile ∷ part_below (count_of profile) ∷ [])
  -- ---- rows by a plan
  -- `feed_plan`: as `make_plan`
  pub feed_plan_lem : (profile presence plan : List ℕ) → Only (answer_of (feed_plan profile presence plan)) (11 at 0 ∷ 12 at 0 ∷ 8 at 0 ∷ [])
  -- `feed_run`: as `RowCursor::read`
  pub feed_run_lem : (plan images : List ℕ) (start item offset : ℕ) (values : List ℕ)
      → Only (answer_of (feed_run plan images start item offset values))
      (8 at 0 ∷ plan_lines plan (turned plan images (row_cursor start item offset)))
  -- `feed_put_item`: 13 at 0 for a sort and parts that make no value; else as `ItemCursor::put`
  pub feed_put_item_lem : (plan nulls : List ℕ) (item offset sort : ℕ) (parts lent image : List ℕ)
      → Only (answer_of (feed_put_item plan nulls item offset sort parts lent image)) (13 at 0 ∷ put_lines plan item)
  -- ---- rows that arrive in blocks
  -- `feed_begin`: as `begin`
  pub feed_begin_lem : (profile presence carry : List ℕ) → Only (feed_begin profile presence carry) (11 at 0 ∷ 12 at 0 ∷ 20 at 0 ∷ [])
  -- `feed_give`: as `Arriving::give`
  pub feed_give_lem : (profile presence carry block : List ℕ) (phase column held left used : ℕ)
      → Only (answer_of (feed_give profile presence carry block phase column held left used))
      (11 at 0 ∷ 12 at 0 ∷ 20 at 0 ∷ 21 at 0 ∷ part_below (count_of profile) ∷ [])
  -- `feed_end`: as `Arriving::end`
  pub feed_end_lem : (profile presence carry : List ℕ) (phase column held left used : ℕ)
      → Only (feed_end profile presence carry phase column held left used)
      (11 at 0 ∷ 12 at 0 ∷ 20 at 0 ∷ 21 at 0 ∷ 9 at 0 ∷ 9 below count_of profile ∷ [])
  -- ---- what `feed_check` tells of an accepted map: its record's length, and how many columns it has
  pub check_told : (event : List ℕ) (post_header dialect : ℕ) (buf : List ℕ) (d : Dialect) (es : List Entry) → dialect_of dialect ≡ ok d
      → check_map d event post_header ≡ ok es → entry_at (length es) ≤ length buf
      → answer_of (feed_check event post_header dialect buf) ≡ ok (entry_at (length es) ∷ length es ∷ [])
  -- ---- what `feed_names` tells apart: names, be they without bytes, and none
  pub names_there : (event : List ℕ) (post_header dialect : ℕ) (d : Dialect) (p : Part) → dialect_of dialect ≡ ok d
      → names_field d event post_header ≡ ok (some p)
      → feed_names event post_header dialect ≡ ok (1 ∷ p.start ∷ p.len ∷ [])
  pub names_none : (event : List ℕ) (post_header dialect : ℕ) (d : Dialect) → dialect_of dialect ≡ ok d
      → names_field d event post_header ≡ ok none
      → feed_names event post_header dialect ≡ ok (0 ∷ 0 ∷ 0 ∷ [])
  -- ---- all calls: out is the buffer of numbers, and k how many the call's answer has
  -- the status is 0 exactly if the answer is no refusal and there is room for its numbers
  pub status_zero : (k : ℕ) (out : List ℕ) (answer : Outcome (List ℕ)) (ls : List Line) → Only answer ls
      → (status_of k answer out ≡ 0 → Answered k out answer) × (Answered k out answer → status_of k answer out ≡ 0)
  -- else it is a number of document 01's table
  pub status_table : (k : ℕ) (out : List ℕ) (answer : Outcome (List ℕ)) (ls : List Line) → Only answer ls → (status_of k answer out ≡ 0 → ⊥)
      → is_among (status_of k answer out) refusal_numbers ≡ true
  -- that of the refusal, whose place and part are then the first two numbers; without room for the numbers it is 8, and they are as they
  -- were
  pub status_told : (k : ℕ) (out : List ℕ) (answer : Outcome (List ℕ)) (w : Refusal) → 2 ≤ k → k ≤ length out → answer ≡ refused w
      → (status_of k answer out ≡ w.number) × (get_or (numbers_left k answer out) 0 0 ≡ w.place)
      × (get_or (numbers_left k answer out) 1 0 ≡ w.part)
  pub no_numbers : (k : ℕ) (out : List ℕ) (answer : Outcome (List ℕ)) → length out < k
      → (status_of k answer out ≡ 8) × (numbers_left k answer out ≡ out)
  -- and then the numbers are as they were, but for those two
  pub numbers_kept : (k : ℕ) (out : List ℕ) (answer : Outcome (List ℕ)) → 2 ≤ k → (status_of k answer out ≡ 0 → ⊥)
      → Touched out 0 2 (numbers_left k answer out)
  -- and the bytes lent to a writer, or the numbers lent for values, are as they were
  pub bytes_kept : (k : ℕ) (out buf : List ℕ) (rule : Outcome (List ℕ × List ℕ)) → (status_of k (answer_of rule) out ≡ 0 → ⊥)
      → bytes_left k rule out buf ≡ buf
  -- where there is an answer, and room for its numbers, they stand at the start; and the bytes lent to a writer are what its rule leaves
  pub numbers_told : (k : ℕ) (out : List ℕ) (answer : Outcome (List ℕ)) (ns : List ℕ) → k ≤ length out → answer ≡ ok ns
      → take (length ns) (numbers_left k answer out) ≡ ns
  pub bytes_told : (k : ℕ) (out buf : List ℕ) (rule : Outcome (List ℕ × List ℕ)) (ns left : List ℕ) → k ≤ length out → rule ≡ ok (ns, left)
      → bytes_left k rule out buf ≡ left
  -- ---- how many numbers each answer has
  pub map_six : (event : List ℕ) (post_header : ℕ) → Counts 6 (feed_map event post_header)
  pub check_two : (event : List ℕ) (post_header dialect : ℕ) (buf : List ℕ) → Counts 2 (answer_of (feed_check event post_header dialect buf))
  pub column_five : (profile : List ℕ) (column : ℕ) → Counts 5 (feed_column profile column)
  pub names_three : (event : List ℕ) (post_header dialect : ℕ) → Counts 3 (feed_names event post_header dialect)
  pub name_two : (names operator : List ℕ) (column : ℕ) → Counts 2 (feed_name names operator column)
  pub parts_eight : (event : List ℕ) (post_header : ℕ) → Counts 8 (feed_parts event post_header)
  pub fields_three : (event : List ℕ) (post_header dialect : ℕ) → Counts 3 (feed_fields event post_header dialect)
  pub field_five : (event : List ℕ) (offset numeric columns : ℕ) → Counts 5 (feed_field event offset numeric columns)
  pub item_four : (list : ℕ) (value : List ℕ) (offset : ℕ) → Counts 4 (feed_item list value offset)
  pub first_two : (profile presence : List ℕ) → Counts 2 (feed_first profile presence)
  pub step_eleven : (profile presence image : List ℕ) (column offset : ℕ) → Counts 11 (feed_step profile presence image column offset)
  pub start_two : (profile presence nulls image : List ℕ) → Counts 2 (answer_of (feed_start profile presence nulls image))
  pub put_two : (profile presence nulls : List ℕ) (column offset sort : ℕ) (parts lent image : List ℕ)
      → Counts 2 (answer_of (feed_put profile presence nulls column offset sort parts lent image))
  pub room_two : (profile presence : List ℕ) → Counts 2 (feed_room profile presence)
  pub rows_ten : (code : ℕ) (profile : List ℕ) (id : ℕ) (s : List ℕ) → Counts 10 (feed_rows code profile id s)
  pub image_six : (profile s : List ℕ) (firstStart firstLength hasSecond secondStart secondLength offset second : ℕ)
      → Counts 6 (feed_image profile s firstStart firstLength hasSecond secondStart secondLength offset second)
  pub plan_two : (profile presence plan : List ℕ) → Counts 2 (answer_of (feed_plan profile presence plan))
  pub run_four : (plan images : List ℕ) (start item offset : ℕ) (values : List ℕ)
      → Counts 4 (answer_of (feed_run plan images start item offset values))
  pub put_item_two : (plan nulls : List ℕ) (item offset sort : ℕ) (parts lent image : List ℕ)
      → Counts 2 (answer_of (feed_put_item plan nulls item offset sort parts lent image))
  pub begin_five : (profile presence carry : List ℕ) → Counts 5 (feed_begin profile presence carry)
  pub give_fifteen : (profile presence carry block : List ℕ) (phase column held left used : ℕ)
      → Counts 15 (answer_of (feed_give profile presence carry block phase column held left used))
  pub end_fifteen : (profile presence carry : List ℕ) (phase column held left used : ℕ)
      → Counts 15 (feed_end profile presence carry phase column held left used)
  -- so many are touched, and no others
  pub numbers_touched : (k : ℕ) (out : List ℕ) (answer : Outcome (List ℕ)) → Counts k answer → Answered k out answer
      → Touched out 0 k (numbers_left k answer out)
  -- ---- the five numbers that are told of a state ask for that state
  pub state_back : (st : Arriving) → state_asked (phase_number st.phase) st.column st.held st.left st.used ≡ st
  -- ---- what `feed_step` tells of a value makes that value where it is put, whatever stands behind its numbers
  pub value_back : (column : ℕ) (v : Value) (next : Cursor) (rest : List ℕ) → is_held v ≡ true
      → told_again (told_numbers (value column v next) ++ rest) ≡ ok v
  pub null_back : (column : ℕ) (next : Cursor) (rest : List ℕ) → told_again (told_numbers (null column next) ++ rest) ≡ ok Null
  -- and every value that it tells is one that the machine can hold
  pub step_held : (profile presence image : List ℕ) (c : Cursor) (j : ℕ) (v : Value) (next : Cursor) → Bytes image
      → length image ≤ top_of_bits 64
      → step_from profile presence image c ≡ ok (value j v next) → is_held v ≡ true
