-- Demand 1: "A refusal is a number and a place from document 01's table, and lent buffers then hold what they held." For every public call
-- that can refuse: which refusals it gives and at which places; that their numbers are those of the table; and that a refusal leaves the
-- buffer. A call stands here by the definition that its contract equals, whatever it is lent. `refusals` in proofs/Demand1/Refusals.antt
-- proves all of it. Assumes nothing.
use Rattle.std.specs.Prelude.{ℕ, suc, ◌+◌, ◌≤◌, ◌<◌, ◌≡◌, Bool, true, ◌&&◌, ◌⊎◌, List, [], ◌∷◌, ◌++◌, length}
use Rattle.wire.specs.declared.refusal.Refusal.{Refusal}
use Rattle.wire.specs.Number.{Bytes, is_among}
use Rattle.wire.specs.Bits.{bytes_for}
use Rattle.wire.specs.Outcome.{Outcome, refused, refuse, why, out_of}
use Rattle.wire.specs.Packed.{read_fixed, read_packed}
use Rattle.wire.specs.Stored.{store, answer_of, left_of}
use Rattle.wire.specs.declared.part.Part.{Part}
use Rattle.wire.specs.Parts.{within}
use Rattle.wire.specs.Layouts.{Layout, CutShort, NotPacked}
use Rattle.temporal.specs.declared.storage.Storage.{Storage}
use Rattle.temporal.specs.declared.parts.Temporal.{Temporal}
use Rattle.temporal.specs.Reading.{read_temporal, write_temporal}
use Rattle.value.specs.declared.column.Column.{Column}
use Rattle.value.specs.declared.classes.Dialect.{Dialect}
use Rattle.value.specs.declared.datum.Value.{Value}
use Rattle.value.specs.declared.shape.Shape.TheVariants.{NotTaken}
use Rattle.value.specs.Columns.{shape_of}
use Rattle.value.specs.Ops.{shape_for}
use Rattle.value.specs.Reading.{read_value, datum_of}
use Rattle.value.specs.Storing.{write_value, size_of}
use Rattle.value_parts.specs.Parts.{value_of}
use Rattle.table_map.specs.declared.field.Fields.{Fields}
use Rattle.table_map.specs.Events.{read_event}
use Rattle.table_map.specs.Writes.{EventParts, write_event, event_size}
use Rattle.table_map.specs.Lists.{step, integer_item, pair_item, string_item, group_item, default_charset}
use Rattle.table_map.specs.Fields.{cut_field, judge_field, field_step}
use Rattle.table_map.specs.Layouts.{event_layout, pair_layout, strings_layout, group_layout}
use Rattle.record.specs.Records.{count_of, record_valid, read_record}
use Rattle.map_check.specs.declared.rank.TablePlace.{TablePlace}
use Rattle.map_check.specs.Check.{check}
use Rattle.map_check.specs.Names.{list_of, column_name, names_field}
use Rattle.map_check.specs.Places.{TooMany, TypeNotTaken, MetadataWrong, InColumns, InFields, KeyRepeated, BeforeNames}
use Rattle.image.specs.declared.cursor.Cursor.{Cursor}
use Rattle.image.specs.Present.{count_bits}
use Rattle.image.specs.Split.{Slot, slots_at, head_of, first_cursor, step_from}
use Rattle.image.specs.Walk.{walk_image}
use Rattle.image.specs.Rows.{is_null}
use Rattle.image.specs.Puts.{start_image, put_from}
use Rattle.image.specs.Room.{read_room}
use Rattle.blocks.specs.declared.state.Arriving.{Arriving}
use Rattle.blocks.specs.Gives.{give_block, begin_blocks}
use Rattle.blocks.specs.Ends.{end_blocks}
use Rattle.row_plan.specs.declared.row.RowCursor.{RowCursor}
use Rattle.row_plan.specs.Plan.{make_plan, item_at, plan_step}
use Rattle.row_plan.specs.Runs.{turned, read_run}
use Rattle.row_plan.specs.declared.put.ItemCursor.{ItemCursor}
use Rattle.row_plan.specs.Puts.{plan_put}
use Rattle.rows_event.specs.declared.event.Rows.{Rows}
use Rattle.rows_event.specs.declared.images.Images.{Images}
use Rattle.rows_event.specs.Events.{read_rows}
use Rattle.rows_event.specs.Layouts.{rows_layout, CountUnlike}
use Rattle.rows_event.specs.Images.{next_image}

infix 70 ◌at◌
infix 70 ◌below◌
infix 70 ◌wherever◌
-- ---- how refusals are listed
-- a number, with no part, at just this place; at a place below this; at a place of which this holds. Refusal 10, with a part from 1 to 8,
-- at just this place; at a place below this
pub data Line : Type 1 where
  ◌at◌ : ℕ → ℕ → Line
  ◌below◌ : ℕ → ℕ → Line
  ◌wherever◌ : ℕ → (ℕ → Type 0) → Line
  part_at : ℕ → Line
  part_below : ℕ → Line

-- the refusal is one of those listed
pub data OneOf : List Line → Refusal → Type 1 where
  just : {n p : ℕ} {ls : List Line} → OneOf (n at p ∷ ls) (why n p)
  under : {n p q : ℕ} {ls : List Line} → p < q → OneOf (n below q ∷ ls) (why n p)
  such : {n p : ℕ} {P : ℕ → Type 0} {ls : List Line} → P p → OneOf (n wherever P ∷ ls) (why n p)
  just_part : {p part : ℕ} {ls : List Line} → 1 ≤ part → part ≤ 8 → OneOf (part_at p ∷ ls) (out_of p part)
  under_part : {p q part : ℕ} {ls : List Line} → p < q → 1 ≤ part → part ≤ 8 → OneOf (part_below q ∷ ls) (out_of p part)
  later : {l : Line} {ls : List Line} {w : Refusal} → OneOf ls w → OneOf (l ∷ ls) w

-- the numbers of document 01's table, and those that document 02 adds; and of them those that name no part
abbrev pub refusal_numbers : List ℕ
refusal_numbers = 1 ∷ 2 ∷ 3 ∷ 4 ∷ 5 ∷ 6 ∷ 7 ∷ 8 ∷ 9 ∷ 10 ∷ 11 ∷ 12 ∷ 13 ∷ 14 ∷ 15 ∷ 16 ∷ 20 ∷ 21 ∷ []

abbrev pub without_part : List ℕ
without_part = 1 ∷ 2 ∷ 3 ∷ 4 ∷ 5 ∷ 6 ∷ 7 ∷ 8 ∷ 9 ∷ 11 ∷ 12 ∷ 13 ∷ 14 ∷ 15 ∷ 16 ∷ 20 ∷ 21 ∷ []

-- all numbers are in the table, and 10 has a part
unfoldable pub in_table : List Line → Bool
unfolding is_among
in_table [] = true
in_table (n at p ∷ ls) = is_among n without_part && in_table ls
in_table (n below p ∷ ls) = is_among n without_part && in_table ls
in_table (n wherever P ∷ ls) = is_among n without_part && in_table ls
in_table (part_at p ∷ ls) = in_table ls
in_table (part_below p ∷ ls) = in_table ls

-- what a refusal's part is: none, but for 10, which names one
pub data Parted : Refusal → Type 0 where
  no_part : {n p : ℕ} → is_among n without_part ≡ true → Parted (why n p)
  a_part : {p part : ℕ} → 1 ≤ part → part ≤ 8 → Parted (out_of p part)

-- where the answer is a refusal, it is one of those listed
pub record Only {A : Type 0} (answer : Outcome A) (ls : List Line) : Type 1 where
  pub table : in_table ls ≡ true
  pub listed : (w : Refusal) → answer ≡ refused w → OneOf ls w

-- ---- lists that a call of `feed_abi` shares with the call that it stands over
-- of the bytes s, laid out from p on: 1 at the first byte of the first part that they end in, or of its length; 2 at a first byte 251 or
-- 255 of a packed integer
abbrev pub laid_out : List ℕ → Layout → ℕ → List Line
laid_out s l p = 1 wherever CutShort s l p ∷ 2 wherever NotPacked s l p ∷ []

abbrev pub event_lines : List ℕ → ℕ → List Line
event_lines event post_header = laid_out event (event_layout post_header) 0

-- of a map whose event is read: how many columns, each column, each optional field, keys. No two of these are of one map, as each stands
-- behind what was passed before it
abbrev pub map_lines : Dialect → List ℕ → ℕ → List Line
map_lines d event post_header =
    3 wherever TooMany event post_header
    ∷ 4 wherever InColumns TypeNotTaken event post_header
    ∷ 5 wherever InColumns MetadataWrong event post_header
    ∷ 1 wherever InFields d event post_header 1
    ∷ 2 wherever InFields d event post_header 2
    ∷ 6 wherever InFields d event post_header 6
    ∷ 7 wherever InFields d event post_header 7
    ∷ 7 wherever KeyRepeated d event post_header
    ∷ []

-- of the check: those of the event, those of the map, and room
abbrev pub check_lines : Dialect → List ℕ → ℕ → List Line
check_lines d event post_header = event_lines event post_header ++ (map_lines d event post_header ++ (8 at 0 ∷ []))

-- of the names field: those of the event, and of its optional fields up to the names
abbrev pub names_lines : Dialect → List ℕ → ℕ → List Line
names_lines d event post_header =
    event_lines event post_header
    ++ (1 wherever BeforeNames d event post_header 1
    ∷ 2 wherever BeforeNames d event post_header 2
    ∷ 6 wherever BeforeNames d event post_header 6
    ∷ 7 wherever BeforeNames d event post_header 7
    ∷ [])

-- of a column's name in a list: 14 at the column; 1 and 2 at the first of the strings up to its own that fails, which starts within the
-- list
abbrev pub name_lines : List ℕ → ℕ → List Line
name_lines list column =
    14 at column
    ∷ 1 wherever (λ p. (p < length list) × CutShort list (strings_layout (suc column)) 0 p)
    ∷ 2 wherever NotPacked list (strings_layout (suc column)) 0
    ∷ []

-- of a rows event under a record: 15 at the length of the extra data; 16 at 0 for the code and the table id, and at the column count
abbrev pub rows_lines : ℕ → List ℕ → List ℕ → List Line
rows_lines code profile s =
    11 at 0 ∷ 16 at 0 ∷ 15 at 8 ∷ 16 wherever CountUnlike s (rows_layout code) (count_of profile) ∷ laid_out s (rows_layout code) 0

-- of a value written by a plan
abbrev pub put_lines : List ℕ → ℕ → List Line
put_lines plan item =
    12 at 0 ∷ 14 at item ∷ 11 at (item_at plan item).column ∷ 13 at (item_at plan item).column ∷ 8 at 0 ∷ []

-- of a step by a plan, which no record stands behind: 14 at the cursor's item; 9 at 0 in the null bits, and at that item for an offset past
-- the image; 11 for a byte that is no op, 9 and 10 of the value, at the column that the item names
abbrev pub plan_lines : List ℕ → RowCursor → List Line
plan_lines plan c =
    14 at c.item
    ∷ 9 at 0
    ∷ 9 at c.item
    ∷ 11 at (item_at plan c.item).column
    ∷ 9 at (item_at plan c.item).column
    ∷ part_at (item_at plan c.item).column
    ∷ []

-- ---- demand 1
pub record EveryCall : Type 1 where
  -- ---- `wire`. `read_le`, `read_be`, `wide`, `top_of`, `signed_of`, `in_halves`, `twos_of`, `packed_size`, `bytes_for`, `bit_lsb0`,
  -- ---- `bit_msb0`, `part_of` and `has_room` refuse nothing; `refuse` and `refuse_part` make a refusal
  -- `within`: the place that the caller names
  pub within_bytes : (s : List ℕ) (o n place : ℕ) → Only (within s o n place) (1 at place ∷ [])
  -- `read_fixed`: the offset asked
  pub read_fixed_lem : (k : ℕ) (s : List ℕ) (o : ℕ) → Only (read_fixed k s o) (1 at o ∷ [])
  -- `read_packed`: the offset asked
  pub read_packed_lem : (s : List ℕ) (o : ℕ) → Only (read_packed s o) (1 at o ∷ 2 at o ∷ [])
  -- `write_packed`, `write_le`, `write_be`, `write_bytes`, and of `record` `write_entry` and `write_head`: each stores some bytes, from an
  -- offset on
  pub write_bytes : (buf : List ℕ) (o : ℕ) (bytes : List ℕ) → Only (store bytes buf o) (8 at 0 ∷ [])
  -- ---- `temporal`. The place is the one that the caller names. `temporal_size` and `in_domain` refuse nothing
  -- `read_temporal`, and `read_newdate`, `read_timestamp2`, `read_datetime2` and `read_time2`, each for one storage; `write_temporal`
  pub read_temporal_lem : (k : Storage) (place : ℕ) (s : List ℕ) (o : ℕ) → Only (read_temporal k place s o) (9 at place ∷ part_at place ∷ [])
  pub write_temporal_lem : (k : Storage) (place : ℕ) (buf : List ℕ) (o : ℕ) (t : Temporal)
      → Only (write_temporal k place t buf o) (13 at place ∷ 8 at 0 ∷ [])
  -- ---- `value`. The place is the one that the caller names, and 0 for a lone value. `is_accepted`, `family_of`, `is_known`,
  -- ---- `declared_length`, `metadata_bytes`, `real_type`, `is_numeric`, `has_sign_bit`, `is_character`, `has_charset`, `is_enum_or_set`,
  -- ---- `op_of` and `most_size` refuse nothing
  -- `read_value`, `read_lone`
  pub read_value_lem : (c : Column) (place : ℕ) (s : List ℕ) (o : ℕ)
      → Only (read_value (shape_of c) place s o) (4 at place ∷ 5 at place ∷ 9 at place ∷ part_at place ∷ [])
  -- `read_op`: 11 for a byte that is no op
  pub read_op : (op place : ℕ) (s : List ℕ) (o : ℕ)
      → Only (read_value (shape_for op) place s o) (11 at place ∷ 9 at place ∷ part_at place ∷ [])
  -- `write_op`: 11 for a byte that is no op
  pub write_op : (op place : ℕ) (lent : List ℕ) (v : Value) (buf : List ℕ) (o : ℕ)
      → Only (write_value (shape_for op) place lent v buf o) (11 at place ∷ 13 at place ∷ 8 at 0 ∷ [])
  -- `write_value`, `write_lone`
  pub write_value_lem : (c : Column) (place : ℕ) (lent : List ℕ) (v : Value) (buf : List ℕ) (o : ℕ)
      → Only (write_value (shape_of c) place lent v buf o) (4 at place ∷ 5 at place ∷ 13 at place ∷ 8 at 0 ∷ [])
  -- `value_size`, `lone_size`
  pub value_size : (c : Column) (place : ℕ) (lent : List ℕ) (v : Value)
      → Only (size_of (shape_of c) place lent v) (4 at place ∷ 5 at place ∷ 13 at place ∷ [])
  -- `shape_of`: the number, without a place, for a column that there is not
  pub shape_of_lem : (c : Column) (n : ℕ) → shape_of c ≡ NotTaken n → (n ≡ 4) ⊎ (n ≡ 5)
  -- ---- `value_parts`. `sort_of` and `parts_of` refuse nothing
  -- `value_of`: a sort and parts that make no value
  pub value_of_lem : (sort : ℕ) (parts : List ℕ) → Only (value_of sort parts) (13 at 0 ∷ [])
  -- ---- `table_map`. `Fields::new` and `flag` refuse nothing; `database_name`, `table_name`, `column_types`, `column_metadata`,
  -- ---- `nullable_bits` and `optional_metadata` hand back an empty part where the event is refused
  -- `read_event`
  pub read_event_lem : (event : List ℕ) (post_header : ℕ) → Only (read_event event post_header) (event_lines event post_header)
  -- `write_event`, `event_size`
  pub write_event_lem : (parts : EventParts) (buf : List ℕ) → Only (write_event parts buf) (13 at 0 ∷ 8 at 0 ∷ [])
  pub event_size_lem : (parts : EventParts) → Only (event_size parts) (13 at 0 ∷ 8 at 0 ∷ [])
  -- `Fields::next`: the field's type byte, or its length's first byte behind it; a cursor past the bytes is 1 where it stands
  pub next_field : (c : Fields) (s : List ℕ)
      → Only (field_step c s) (1 at c.at ∷ 1 at (c.at + 1) ∷ 2 at (c.at + 1) ∷ 6 at c.at ∷ 7 at c.at ∷ [])
  -- `cut_field`: the place asked, if there is no type byte, or its length's first byte behind it
  pub cut_field_lem : (s : List ℕ) (o : ℕ) → Only (cut_field s o) (1 at o ∷ 1 at (o + 1) ∷ 2 at (o + 1) ∷ [])
  -- `Fields::judge`: where the cursor stands
  pub judge_field_lem : (c : Fields) (s : List ℕ) (f : ℕ × Part)
      → Only (judge_field c.numeric c.columns s c.at f) (6 at c.at ∷ 7 at c.at ∷ [])
  -- `next` of `Integers` and `Strings`: where the cursor stands
  pub next_integer : (s : List ℕ) (o : ℕ) → Only (step integer_item s o) (1 at o ∷ 2 at o ∷ [])
  pub next_string : (s : List ℕ) (o : ℕ) → Only (step string_item s o) (1 at o ∷ 2 at o ∷ [])
  -- `next` of `Pairs` and `Groups`: the integer or string of the item that fails; past the bytes that is the first, where the cursor stands
  pub next_pair : (s : List ℕ) (o : ℕ) → Only (step pair_item s o) (laid_out s pair_layout o)
  pub next_group : (s : List ℕ) (o : ℕ) → Only (step group_item s o) (laid_out s group_layout o)
  -- `default_charset`: the start of the value
  pub default_charset_lem : (value : List ℕ) → Only (default_charset value) (1 at 0 ∷ 2 at 0 ∷ [])
  -- ---- `record`. `entry_at`, `entry_in`, `entry_holds` and `column_of` refuse nothing
  -- `read_record`
  pub read_record_lem : (profile : List ℕ) → Only (read_record profile) (11 at 0 ∷ [])
  -- ---- `map_check`. `name_part` hands back an empty part where there is a refusal
  -- `check`: 1, 2, 6 and 7 at offsets of the event, 4 and 5 at columns
  pub check_map : (d : Dialect) (event : List ℕ) (post_header : ℕ) (buf : List ℕ)
      → Only (check d event post_header buf) (check_lines d event post_header)
  -- and it gives them whenever they are so, in 01's order: first what reading the event refuses, then that of the map. For room see
  -- `Checks`
  pub event_told : (d : Dialect) (event : List ℕ) (post_header : ℕ) (buf : List ℕ) (w : Refusal) → read_event event post_header ≡ refused w
      → check d event post_header buf ≡ refused w
  pub map_told : (d : Dialect) (event : List ℕ) (post_header : ℕ) (buf : List ℕ) (w : Refusal) → Bytes event
      → OneOf (map_lines d event post_header) w → check d event post_header buf ≡ refused w
  -- `column_name`: the column asked, or an offset of the list that is looked at
  pub column_name_lem : (names operator : List ℕ) (c : TablePlace)
      → Only (column_name names operator c) (name_lines (list_of names operator) c.0)
  -- `names_field`: those of the event, and of its optional fields up to the names
  pub names_field_lem : (d : Dialect) (event : List ℕ) (post_header : ℕ) → Only (names_field d event post_header) (names_lines d event post_header)
  -- ---- `image`; `profile` is the record. `count_bits` and `first_set` refuse nothing
  -- `read_head`, `first_cursor`
  pub read_head : (profile presence : List ℕ) → Only (head_of profile presence) (11 at 0 ∷ 12 at 0 ∷ [])
  pub first_cursor_lem : (profile presence : List ℕ) → Only (first_cursor profile presence) (11 at 0 ∷ 12 at 0 ∷ [])
  -- `Cursor::step`: 14 at the cursor's column; 9 at 0 in the null bits, at the cursor's column for an offset past the image, and else, as
  -- 10, at one of the record's columns
  pub step_image : (profile presence image : List ℕ) (c : Cursor)
      → Only (step_from profile presence image c)
      (11 at 0 ∷ 12 at 0 ∷ 14 at c.column ∷ 9 at 0 ∷ 9 at c.column ∷ 9 below count_of profile ∷ part_below (count_of profile) ∷ [])
  -- "an offset past the image, its null bits whole, 9 at that column"
  pub past_told : (profile presence image : List ℕ) (c : Cursor) → record_valid profile ≡ true → length presence ≡ bytes_for (count_of profile)
      → c.column ≤ count_of profile
      → bytes_for (count_bits presence (count_of profile)) ≤ length image → length image < c.offset
      → step_from profile presence image c ≡ refuse 9 c.column
  -- `walk_end`: 9 at 0 in the null bits, and else, as 10, at one of the record's columns
  pub walk_end : (profile presence image : List ℕ)
      → Only (walk_image profile presence image).how
      (11 at 0 ∷ 12 at 0 ∷ 9 at 0 ∷ 9 below count_of profile ∷ part_below (count_of profile) ∷ [])
  -- `start`
  pub start_image_lem : (profile presence nulls buf : List ℕ) → Only (start_image profile presence nulls buf) (11 at 0 ∷ 12 at 0 ∷ 8 at 0 ∷ [])
  -- `Cursor::put`: 14 at the cursor's column, 13 at one of the record's columns
  pub put_value : (profile presence nulls : List ℕ) (c : Cursor) (lent : List ℕ) (v : Value) (buf : List ℕ)
      → Only (put_from profile presence nulls c lent v buf) (11 at 0 ∷ 12 at 0 ∷ 14 at c.column ∷ 13 below count_of profile ∷ 8 at 0 ∷ [])
  -- "13 where value and bit disagree on it", at the first present column at or after the cursor's
  pub null_told : (profile presence nulls : List ℕ) (c : Cursor) (i : Slot) (is : List Slot) (lent : List ℕ) (v : Value) (buf : List ℕ)
      → record_valid profile ≡ true
      → length presence ≡ bytes_for (count_of profile) → length nulls ≡ bytes_for (count_bits presence (count_of profile))
      → c.column ≤ count_of profile
      → slots_at profile presence nulls c.column ≡ i ∷ is
      → (is_null (datum_of lent v) ≡ i.null → ⊥) → put_from profile presence nulls c lent v buf ≡ refuse 13 i.present.column
  -- `image_room`
  pub image_room : (profile presence : List ℕ) → Only (read_room profile presence) (11 at 0 ∷ 12 at 0 ∷ [])
  -- ---- `blocks`
  -- `begin`
  pub begin_blocks_lem : (profile presence carry : List ℕ) → Only (begin_blocks profile presence carry) (11 at 0 ∷ 12 at 0 ∷ 20 at 0 ∷ [])
  -- `Arriving::give`: 10 at one of the record's columns, and never 9
  pub give_block_lem : (profile presence : List ℕ) (st : Arriving) (carry block : List ℕ)
      → Only (give_block profile presence st carry block) (11 at 0 ∷ 12 at 0 ∷ 20 at 0 ∷ 21 at 0 ∷ part_below (count_of profile) ∷ [])
  -- `Arriving::end`: 9 at 0 in the null bits, and else at one of the record's columns
  pub end_blocks_lem : (profile presence : List ℕ) (st : Arriving) (carry : List ℕ)
      → Only (end_blocks profile presence st carry)
      (11 at 0 ∷ 12 at 0 ∷ 20 at 0 ∷ 21 at 0 ∷ 9 at 0 ∷ 9 below count_of profile ∷ [])
  -- ---- `row_plan`
  -- `make_plan`
  pub make_plan_lem : (profile presence buf : List ℕ) → Only (make_plan profile presence buf) (11 at 0 ∷ 12 at 0 ∷ 8 at 0 ∷ [])
  -- `RowCursor::step`
  pub step_plan : (plan images : List ℕ) (c : RowCursor) → Only (plan_step plan images c) (plan_lines plan c)
  -- `RowCursor::read`: 8 without room for a value; else those of its first step, from the next image on behind the last item of one
  pub read_run_lem : (plan images : List ℕ) (c : RowCursor) (buf : List ℕ)
      → Only (read_run plan images c buf) (8 at 0 ∷ plan_lines plan (turned plan images c))
  -- `ItemCursor::put`: 12 for null bits of wrong length, 14 at the cursor's item; 11 for a byte that is no op, and 13, at the column that
  -- the item names; 8 at 0
  pub put_item : (plan nulls : List ℕ) (c : ItemCursor) (lent : List ℕ) (v : Value) (buf : List ℕ)
      → Only (plan_put plan nulls c lent v buf) (put_lines plan c.item)
  -- ---- `rows_event`
  -- `read_rows`
  pub read_rows_lem : (code : ℕ) (profile : List ℕ) (id : ℕ) (s : List ℕ) → Only (read_rows code profile id s) (rows_lines code profile s)
  -- `Images::next`: those of `walk_end`
  pub next_image_lem : (profile : List ℕ) (w : Rows) (s : List ℕ) (c : Images)
      → Only (next_image profile w s c) (11 at 0 ∷ 12 at 0 ∷ 9 at 0 ∷ 9 below count_of profile ∷ part_below (count_of profile) ∷ [])
  -- ---- all calls
  -- of every refusal so listed the part is 0, or the number is 10 and the part one from 1 to 8
  pub parted : {A : Type 0} (answer : Outcome A) (ls : List Line) (w : Refusal) → Only answer ls → answer ≡ refused w → Parted w
  -- and its number is one of the table
  pub numbered : {A : Type 0} (answer : Outcome A) (ls : List Line) (w : Refusal) → Only answer ls → answer ≡ refused w
      → is_among w.number refusal_numbers ≡ true
  -- where a writer answers a refusal, that is its rule's, and the buffer that it leaves is the one that it was lent
  pub buffer_kept : {A : Type 0} (buf : List ℕ) (rule : Outcome (A × List ℕ)) (w : Refusal) → answer_of rule ≡ refused w
      → (rule ≡ refused w) × (left_of rule buf ≡ buf)
