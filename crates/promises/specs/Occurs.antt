-- Demand 1, the other way: no line of the lists of `Refusals` is there for nothing, nor one that `Abi` adds. For each line there are bytes
-- that give such a refusal, here the fewest or nearly so. It does not say that each place which a line allows is told for some bytes.
-- `occurs` in proofs/Demand1/Occurs.antt computes all of it. Assumes nothing.
use Rattle.std.specs.Prelude.{ℕ, zero, suc, ◌^◌, ◌≤◌, ◌≡◌, false, List, [], ◌∷◌, ◌++◌, map, pos, length, take, replicate, None}
use Rattle.wire.specs.Outcome.{Outcome, refuse, refused, out_of}
use Rattle.wire.specs.Packed.{read_fixed, read_packed}
use Rattle.wire.specs.Stored.{store, answer_of}
use Rattle.wire.specs.Parts.{part, within}
use Rattle.temporal.specs.declared.storage.Storage.TheVariants.{Newdate}
use Rattle.temporal.specs.declared.parts.Temporal.{Temporal}
use Rattle.temporal.specs.Reading.{read_temporal, write_temporal}
use Rattle.value.specs.declared.classes.Dialect.TheVariants.{Document}
use Rattle.value.specs.declared.datum.Value.TheVariants.{Null, Int}
use Rattle.value.specs.declared.shape.Shape.{Shape}
use Rattle.value.specs.declared.shape.Shape.TheVariants.{NotTaken}
use Rattle.value.specs.Columns.{shape_of}
use Rattle.value.specs.Ops.{shape_for}
use Rattle.value.specs.Reading.{read_value}
use Rattle.value.specs.Storing.{write_value, size_of}
use Rattle.value_parts.specs.Parts.{value_of}
use Rattle.table_map.specs.declared.event.Event.{Event}
use Rattle.table_map.specs.declared.field.Fields.{Fields}
use Rattle.table_map.specs.Events.{read_event}
use Rattle.table_map.specs.Writes.{event_parts, write_event, event_size}
use Rattle.table_map.specs.Lists.{step, integer_item, pair_item, string_item, group_item, default_charset}
use Rattle.table_map.specs.Fields.{cut_field, judge_field, field_step}
use Rattle.record.specs.Records.{read_record}
use Rattle.map_check.specs.Ranks.{table_place}
use Rattle.map_check.specs.Check.{check}
use Rattle.map_check.specs.Names.{column_name, names_field}
use Rattle.image.specs.Split.{cursor, head_of, first_cursor, step_from}
use Rattle.image.specs.Walk.{walk_image}
use Rattle.image.specs.Puts.{start_image, put_from}
use Rattle.image.specs.Room.{read_room}
use Rattle.blocks.specs.declared.state.Phase.TheVariants.{Open}
use Rattle.blocks.specs.States.{opened, longed, begun, closed}
use Rattle.blocks.specs.Gives.{give_block, begin_blocks}
use Rattle.blocks.specs.Ends.{end_blocks}
use Rattle.row_plan.specs.Plan.{row_cursor, make_plan, plan_step}
use Rattle.row_plan.specs.Runs.{read_run}
use Rattle.row_plan.specs.Puts.{item_cursor, plan_put}
use Rattle.rows_event.specs.declared.event.Rows.{Rows}
use Rattle.rows_event.specs.declared.images.Images.{Images}
use Rattle.rows_event.specs.Events.{read_rows}
use Rattle.rows_event.specs.Images.{next_image}
use Rattle.feed_abi.specs.Calls.{feed_check, feed_column, feed_names, feed_put, feed_put_item}
use Rattle.feed_abi.specs.Fields.{feed_fields, feed_item}

-- ---- what calls are lent here
-- a column of a type, its metadata m0 being this
abbrev pub shaped : ℕ → ℕ → Shape
shaped real m0 = shape_of (record { real = real; m0 = m0; m1 = 0; unsigned = false })

-- a DATE of month 13, stored and as a writer is given it
abbrev pub month13 : List ℕ
month13 = 160 ∷ 1 ∷ 0 ∷ []

abbrev pub dated : ℕ → Temporal
dated month = Temporal.Date record { year = 0; month = month; day = 0 }

-- so many zeros
unfoldable pub zeros : ℕ → List ℕ
zeros zero = []
zeros (suc n) = 0 ∷ zeros n

-- an event of zeros up to its column count, which stands at 12, with these types, metadata, nullable bits and optional bytes
abbrev pub event_with : List ℕ → List ℕ → List ℕ → List ℕ → List ℕ
event_with types meta bits optional = zeros 12 ++ (length types ∷ (types ++ (length meta ∷ (meta ++ (bits ++ optional)))))

-- of one TINYINT column; its optional bytes start at 16
abbrev pub one_tiny : List ℕ → List ℕ
one_tiny optional = event_with (1 ∷ []) [] (0 ∷ []) optional

-- of 4,097 of them
abbrev pub many_columns : List ℕ
many_columns = zeros 12 ++ (252 ∷ (1 ∷ (16 ∷ (zeros 4097 ++ (0 ∷ zeros 513)))))

-- what reading tells of its first so many bytes, for each of these numbers
abbrev pub read_first : List ℕ → List (Outcome Event)
read_first = map (λ k. read_event (take k (one_tiny [])) 8)

-- 1 at each of these places
abbrev pub ones : List ℕ → List (Outcome Event)
ones = map (λ p. refuse 1 p)

abbrev pub fields_cursor : ℕ → Fields
fields_cursor o = record { at = o; numeric = 0; columns = 0 }

-- a record without columns, one of a BLOB, and one of a TINYINT and a DATE
abbrev pub empty_record : List ℕ
empty_record = 6 ∷ 0 ∷ 1 ∷ 0 ∷ 0 ∷ 0 ∷ []

abbrev pub one_blob : List ℕ
one_blob = 12 ∷ 0 ∷ 1 ∷ 0 ∷ 1 ∷ 0 ∷ 252 ∷ 8 ∷ 2 ∷ 0 ∷ 63 ∷ 0 ∷ []

abbrev pub two_columns : List ℕ
two_columns = 18 ∷ 0 ∷ 1 ∷ 0 ∷ 2 ∷ 0 ∷ 1 ∷ 8 ∷ 0 ∷ 0 ∷ 0 ∷ 0 ∷ 14 ∷ 8 ∷ 0 ∷ 0 ∷ 0 ∷ 0 ∷ []

-- presence bits: the first of them, and the second
abbrev pub only_first : List ℕ
only_first = 1 ∷ []

abbrev pub only_second : List ℕ
only_second = 2 ∷ []

-- a plan of one item, this op at column 7; op 0 is none, and 24 a DATE
abbrev pub planned : ℕ → List ℕ
planned op = op ∷ 7 ∷ 0 ∷ []

-- a rows event whose presence bits are its first bytes, so many, and the cursor of an image
abbrev pub rows_with : ℕ → Rows
rows_with n = record { flags = 0; extra = None; before = part 0 n; after = None; images = n }

abbrev pub images_cursor : ℕ → Images
images_cursor o = record { at = o; second = false }

-- ---- a line for each call that `EveryCall` lists, by the same name, with an equation for each line of its list
pub record Occurs : Type 0 where
  -- ---- `wire`
  pub within_bytes : within [] 0 1 7 ≡ refuse 1 7
  pub read_fixed_lem : read_fixed 2 (0 ∷ []) 0 ≡ refuse 1 0
  pub read_packed_lem : (read_packed (252 ∷ []) 0 ≡ refuse 1 0) × (read_packed (251 ∷ []) 0 ≡ refuse 2 0)
  pub write_bytes : store (0 ∷ []) [] 0 ≡ refuse 8 0
  -- ---- `temporal`
  pub read_temporal_lem : (read_temporal Newdate 7 [] 0 ≡ refuse 9 7) × (read_temporal Newdate 7 month13 0 ≡ refused (out_of 7 2))
  pub write_temporal_lem : (write_temporal Newdate 7 (dated 13) [] 0 ≡ refuse 13 7) × (write_temporal Newdate 7 (dated 12) [] 0 ≡ refuse 8 0)
  -- ---- `value`: type 6 is not taken, and a FLOAT has 4 for m0
  pub read_value_lem : (read_value (shaped 6 0) 7 [] 0 ≡ refuse 4 7)
      × (read_value (shaped 4 0) 7 [] 0 ≡ refuse 5 7)
      × (read_value (shaped 1 0) 7 [] 0 ≡ refuse 9 7)
      × (read_value (shaped 14 0) 7 month13 0 ≡ refused (out_of 7 2))
  pub read_op : (read_value (shape_for 0) 7 [] 0 ≡ refuse 11 7)
      × (read_value (shape_for 24) 7 [] 0 ≡ refuse 9 7)
      × (read_value (shape_for 24) 7 month13 0 ≡ refused (out_of 7 2))
  pub write_op : (write_value (shape_for 0) 7 [] (Int (pos 0)) [] 0 ≡ refuse 11 7)
      × (write_value (shape_for 10) 7 [] Null [] 0 ≡ refuse 13 7)
      × (write_value (shape_for 10) 7 [] (Int (pos 0)) [] 0 ≡ refuse 8 0)
  pub write_value_lem : (write_value (shaped 6 0) 7 [] Null [] 0 ≡ refuse 4 7)
      × (write_value (shaped 4 0) 7 [] Null [] 0 ≡ refuse 5 7)
      × (write_value (shaped 1 0) 7 [] Null [] 0 ≡ refuse 13 7)
      × (write_value (shaped 1 0) 7 [] (Int (pos 0)) [] 0 ≡ refuse 8 0)
  pub value_size : (size_of (shaped 6 0) 7 [] Null ≡ refuse 4 7)
      × (size_of (shaped 4 0) 7 [] Null ≡ refuse 5 7)
      × (size_of (shaped 1 0) 7 [] Null ≡ refuse 13 7)
  pub shape_of_lem : (shaped 6 0 ≡ NotTaken 4) × (shaped 4 0 ≡ NotTaken 5)
  -- ---- `value_parts`
  pub value_of_lem : value_of 0 [] ≡ refuse 13 0
  -- ---- `table_map`
  -- the id, the flags, the database name, the byte behind it, the table name, the byte behind it, the count, the types, the metadata and
  -- the nullable bits, each cut short; and the count and the metadata's length
  pub read_event_lem : (read_first (5 ∷ 7 ∷ 8 ∷ 9 ∷ 10 ∷ 11 ∷ 12 ∷ 13 ∷ 14 ∷ 15 ∷ []) ≡ ones (0 ∷ 6 ∷ 8 ∷ 9 ∷ 10 ∷ 11 ∷ 12 ∷ 13 ∷ 14 ∷ 15 ∷ []))
      × (read_event (zeros 12 ++ (251 ∷ [])) 8 ≡ refuse 2 12)
      × (read_event (zeros 13 ++ (255 ∷ [])) 8 ≡ refuse 2 13)
  pub write_event_lem : (write_event (event_parts 0 0 [] [] [] [] (0 ∷ []) []) [] ≡ refuse 13 0)
      × (write_event (event_parts 0 0 [] [] [] [] [] []) [] ≡ refuse 8 0)
  -- 8 for parts that no memory holds
  pub event_size_lem : (event_size (event_parts 0 0 [] [] [] [] (0 ∷ []) []) ≡ refuse 13 0)
      × ((meta : List ℕ) → 2 ^ 64 ≤ length meta → event_size (event_parts 0 0 [] [] [] meta [] []) ≡ refuse 8 0)
  pub next_field : (field_step (fields_cursor 7) [] ≡ refuse 1 7)
      × (field_step (fields_cursor 0) (1 ∷ []) ≡ refuse 1 1)
      × (field_step (fields_cursor 0) (1 ∷ 251 ∷ []) ≡ refuse 2 1)
      × (field_step (fields_cursor 1) (0 ∷ 14 ∷ 0 ∷ []) ≡ refuse 6 1)
      × (field_step (fields_cursor 1) (0 ∷ 2 ∷ 0 ∷ []) ≡ refuse 7 1)
  pub cut_field_lem : (cut_field [] 7 ≡ refuse 1 7) × (cut_field (1 ∷ []) 0 ≡ refuse 1 1) × (cut_field (1 ∷ 251 ∷ []) 0 ≡ refuse 2 1)
  pub judge_field_lem : (judge_field 0 0 [] 7 (14, part 0 0) ≡ refuse 6 7) × (judge_field 0 0 [] 7 (2, part 0 0) ≡ refuse 7 7)
  pub next_integer : (step integer_item (0 ∷ 252 ∷ []) 1 ≡ refuse 1 1) × (step integer_item (0 ∷ 251 ∷ []) 1 ≡ refuse 2 1)
  pub next_string : (step string_item (0 ∷ 1 ∷ []) 1 ≡ refuse 1 1) × (step string_item (0 ∷ 251 ∷ []) 1 ≡ refuse 2 1)
  pub next_pair : (step pair_item (0 ∷ []) 0 ≡ refuse 1 1) × (step pair_item (0 ∷ 251 ∷ []) 0 ≡ refuse 2 1)
  pub next_group : (step group_item (1 ∷ []) 0 ≡ refuse 1 1) × (step group_item (1 ∷ 251 ∷ []) 0 ≡ refuse 2 1)
  pub default_charset_lem : (default_charset [] ≡ refuse 1 0) × (default_charset (251 ∷ []) ≡ refuse 2 0)
  -- ---- `record`
  pub read_record_lem : read_record [] ≡ refuse 11 0
  -- ---- `map_check`
  pub check_event : (check Document [] 8 [] ≡ refuse 1 0)
      × (check Document (zeros 12 ++ (251 ∷ [])) 8 [] ≡ refuse 2 12)
      × (check Document many_columns 8 [] ≡ refuse 3 0)
  -- 5 for metadata short, not accepted, and left over
  pub check_columns : (check Document (event_with (1 ∷ 6 ∷ []) [] (0 ∷ []) []) 8 [] ≡ refuse 4 1)
      × (check Document (event_with (1 ∷ 4 ∷ []) [] (0 ∷ []) []) 8 [] ≡ refuse 5 1)
      × (check Document (event_with (1 ∷ 4 ∷ []) (0 ∷ []) (0 ∷ []) []) 8 [] ≡ refuse 5 1)
      × (check Document (event_with (1 ∷ 4 ∷ []) (4 ∷ 0 ∷ []) (0 ∷ []) []) 8 [] ≡ refuse 5 2)
  -- 7 for a list of no names, and for the second of two keys
  pub check_fields : (check Document (one_tiny (4 ∷ [])) 8 [] ≡ refuse 1 17)
      × (check Document (one_tiny (4 ∷ 251 ∷ [])) 8 [] ≡ refuse 2 17)
      × (check Document (one_tiny (14 ∷ 0 ∷ [])) 8 [] ≡ refuse 6 16)
      × (check Document (one_tiny (4 ∷ 0 ∷ [])) 8 [] ≡ refuse 7 16)
      × (check Document (one_tiny (8 ∷ 2 ∷ 0 ∷ 0 ∷ [])) 8 [] ≡ refuse 7 19)
  pub check_room : check Document (one_tiny []) 8 [] ≡ refuse 8 0
  pub column_name_lem : (column_name [] (0 ∷ []) (table_place 1) ≡ refuse 14 1)
      × (column_name [] (0 ∷ 1 ∷ []) (table_place 1) ≡ refuse 1 1)
      × (column_name [] (0 ∷ 251 ∷ []) (table_place 1) ≡ refuse 2 1)
  pub names_field_lem : (names_field Document [] 8 ≡ refuse 1 0)
      × (names_field Document (zeros 12 ++ (251 ∷ [])) 8 ≡ refuse 2 12)
      × (names_field Document (one_tiny (4 ∷ [])) 8 ≡ refuse 1 17)
      × (names_field Document (one_tiny (4 ∷ 251 ∷ [])) 8 ≡ refuse 2 17)
      × (names_field Document (one_tiny (14 ∷ 0 ∷ [])) 8 ≡ refuse 6 16)
      × (names_field Document (one_tiny (2 ∷ 0 ∷ [])) 8 ≡ refuse 7 16)
  -- ---- `image`
  pub read_head : (head_of [] [] ≡ refuse 11 0) × (head_of two_columns [] ≡ refuse 12 0)
  pub first_cursor_lem : (first_cursor [] [] ≡ refuse 11 0) × (first_cursor two_columns [] ≡ refuse 12 0)
  pub image_room : (read_room [] [] ≡ refuse 11 0) × (read_room two_columns [] ≡ refuse 12 0)
  -- 9 in the null bits, for an offset past the image behind all columns, and in a value
  pub step_image : (step_from [] [] [] (cursor 0 0) ≡ refuse 11 0)
      × (step_from two_columns [] [] (cursor 0 0) ≡ refuse 12 0)
      × (step_from two_columns only_second [] (cursor 3 0) ≡ refuse 14 3)
      × (step_from two_columns only_second [] (cursor 2 0) ≡ refuse 9 0)
      × (step_from two_columns only_second (0 ∷ []) (cursor 2 2) ≡ refuse 9 2)
      × (step_from two_columns only_second (0 ∷ []) (cursor 0 1) ≡ refuse 9 1)
      × (step_from two_columns only_second (0 ∷ month13) (cursor 0 1) ≡ refused (out_of 1 2))
  pub walk_end : ((walk_image [] [] []).how ≡ refuse 11 0)
      × ((walk_image two_columns [] []).how ≡ refuse 12 0)
      × ((walk_image two_columns only_second []).how ≡ refuse 9 0)
      × ((walk_image two_columns only_second (0 ∷ [])).how ≡ refuse 9 1)
      × ((walk_image two_columns only_second (0 ∷ month13)).how ≡ refused (out_of 1 2))
  pub start_image_lem : (start_image [] [] [] [] ≡ refuse 11 0)
      × (start_image two_columns [] [] [] ≡ refuse 12 0)
      × (start_image two_columns only_second (0 ∷ []) [] ≡ refuse 8 0)
  -- 14 for a column above all and for none left
  pub put_value : (put_from [] [] [] (cursor 0 0) [] Null [] ≡ refuse 11 0)
      × (put_from two_columns [] [] (cursor 0 0) [] Null [] ≡ refuse 12 0)
      × (put_from two_columns only_second (0 ∷ []) (cursor 3 0) [] Null [] ≡ refuse 14 3)
      × (put_from two_columns only_second (0 ∷ []) (cursor 2 0) [] Null [] ≡ refuse 14 2)
      × (put_from two_columns only_second (0 ∷ []) (cursor 0 0) [] Null [] ≡ refuse 13 1)
      × (put_from two_columns only_first (0 ∷ []) (cursor 0 0) [] (Int (pos 0)) [] ≡ refuse 8 0)
  -- ---- `blocks`
  pub begin_blocks_lem : (begin_blocks [] [] [] ≡ refuse 11 0)
      × (begin_blocks two_columns [] [] ≡ refuse 12 0)
      × (begin_blocks two_columns only_second (zeros 1023) ≡ refuse 20 0)
  -- 21 with the closed state
  pub give_block_lem : (give_block [] [] begun [] [] ≡ refuse 11 0)
      × (give_block two_columns [] begun [] [] ≡ refuse 12 0)
      × (give_block two_columns only_second begun (zeros 1023) [] ≡ refuse 20 0)
      × (give_block two_columns only_second closed (zeros 1024) [] ≡ refuse 21 0)
      × (give_block two_columns only_second begun (zeros 1024) (0 ∷ month13) ≡ refused (out_of 1 2))
  -- 21 with states of each sort that docs/DECISIONS.md lists as unfit (Q10.6): column, bytes held and bytes used out of bounds; in the null
  -- bits another column, and other bytes used than held; held bytes of an absent column, of a whole value, and of a NULL; a long value that
  -- is none, or of which no byte is left, or too many; and bytes left where no value is long
  pub unfit_states : (map (λ st. give_block two_columns only_second st (zeros 1024) [])
      (opened 3 1 1 ∷ opened 0 1025 1025 ∷ opened 0 1 0 ∷ opened 0 1 5 ∷ opened 1 0 0 ∷ opened 0 0 1 ∷ opened 0 2 2 ∷ opened 1 4 4
      ∷ longed 1 1 1 1 ∷ [])
      ≡ replicate 9 (refuse 21 0))
      × (give_block two_columns only_second (opened 1 2 2) (1 ∷ zeros 1023) [] ≡ refuse 21 0)
      × (map (λ st. give_block one_blob only_first st (0 ∷ (0 ∷ (4 ∷ zeros 1021))) []) (longed 0 3 0 3 ∷ longed 0 3 1025 3 ∷ [])
      ≡ replicate 2 (refuse 21 0))
      × (give_block two_columns only_second (record { phase = Open; column = 0; held = 0; left = 1; used = 0 }) (zeros 1024) []
      ≡ refuse 21 0)
  -- 9 in the null bits, in a long value, and at a value that is not there
  pub end_blocks_lem : (end_blocks [] [] begun [] ≡ refuse 11 0)
      × (end_blocks two_columns [] begun [] ≡ refuse 12 0)
      × (end_blocks two_columns only_second begun (zeros 1023) ≡ refuse 20 0)
      × (end_blocks two_columns only_second closed (zeros 1024) ≡ refuse 21 0)
      × (end_blocks two_columns only_second begun (zeros 1024) ≡ refuse 9 0)
      × (end_blocks one_blob only_first (longed 0 3 1 3) (0 ∷ (0 ∷ (4 ∷ zeros 1021))) ≡ refuse 9 0)
      × (end_blocks two_columns only_second (opened 0 1 1) (zeros 1024) ≡ refuse 9 1)
  -- ---- `row_plan`
  pub make_plan_lem : (make_plan [] [] [] ≡ refuse 11 0)
      × (make_plan two_columns [] [] ≡ refuse 12 0)
      × (make_plan two_columns only_second [] ≡ refuse 8 0)
  -- 9 in the null bits, for an offset past the image behind all items, and in a value
  pub step_plan : (plan_step [] [] (row_cursor 0 1 0) ≡ refuse 14 1)
      × (plan_step (planned 24) [] (row_cursor 0 0 0) ≡ refuse 9 0)
      × (plan_step (planned 24) (0 ∷ []) (row_cursor 0 1 2) ≡ refuse 9 1)
      × (plan_step (planned 0) (0 ∷ []) (row_cursor 0 0 1) ≡ refuse 11 7)
      × (plan_step (planned 24) (0 ∷ []) (row_cursor 0 0 1) ≡ refuse 9 7)
      × (plan_step (planned 24) (0 ∷ month13) (row_cursor 0 0 1) ≡ refused (out_of 7 2))
  -- the same of runs: null bits of an image that would start past the images, and a value of the next image
  pub read_run_lem : (read_run [] [] (row_cursor 0 0 0) [] ≡ refuse 8 0)
      × (read_run [] [] (row_cursor 0 1 0) (zeros 8) ≡ refuse 14 1)
      × (read_run (planned 24) [] (row_cursor 1 0 0) (zeros 8) ≡ refuse 9 0)
      × (read_run (planned 24) (0 ∷ []) (row_cursor 0 1 2) (zeros 8) ≡ refuse 9 1)
      × (read_run (planned 0) (0 ∷ []) (row_cursor 0 0 1) (zeros 8) ≡ refuse 11 7)
      × (read_run (planned 24) (0 ∷ []) (row_cursor 0 1 0) (zeros 8) ≡ refuse 9 7)
      × (read_run (planned 24) (0 ∷ month13) (row_cursor 0 0 1) (zeros 8) ≡ refused (out_of 7 2))
  -- 13 where value and bit disagree on NULL, either way, and for a value that the item does not take; 8 for NULL too
  pub put_item : (plan_put (planned 10) [] (item_cursor 0 0) [] Null [] ≡ refuse 12 0)
      × (plan_put (planned 10) (0 ∷ []) (item_cursor 1 0) [] Null [] ≡ refuse 14 1)
      × (plan_put (planned 0) (0 ∷ []) (item_cursor 0 0) [] (Int (pos 0)) [] ≡ refuse 11 7)
      × (plan_put (planned 10) (0 ∷ []) (item_cursor 0 0) [] Null [] ≡ refuse 13 7)
      × (plan_put (planned 10) (1 ∷ []) (item_cursor 0 0) [] (Int (pos 0)) [] ≡ refuse 13 7)
      × (plan_put (planned 10) (0 ∷ []) (item_cursor 0 0) [] (Int (pos 200)) [] ≡ refuse 13 7)
      × (plan_put (planned 10) (0 ∷ []) (item_cursor 0 0) [] (Int (pos 0)) [] ≡ refuse 8 0)
      × (plan_put (planned 10) (1 ∷ []) (item_cursor 0 1) [] Null [] ≡ refuse 8 0)
  -- ---- `rows_event`
  -- 16 for the code, the table id and the count
  pub read_rows_lem : (read_rows 23 [] 0 [] ≡ refuse 11 0)
      × (read_rows 22 empty_record 0 [] ≡ refuse 16 0)
      × (read_rows 23 empty_record 1 (zeros 9) ≡ refuse 16 0)
      × (read_rows 30 empty_record 0 (zeros 10) ≡ refuse 15 8)
      × (read_rows 23 empty_record 0 (zeros 8 ++ (1 ∷ 0 ∷ [])) ≡ refuse 16 8)
      × (read_rows 23 empty_record 0 (zeros 7) ≡ refuse 1 6)
      × (read_rows 23 empty_record 0 (zeros 8 ++ (251 ∷ [])) ≡ refuse 2 8)
  pub next_image_lem : (next_image [] (rows_with 1) (2 ∷ 0 ∷ []) (images_cursor 1) ≡ refuse 11 0)
      × (next_image two_columns (rows_with 0) (2 ∷ 0 ∷ []) (images_cursor 1) ≡ refuse 12 0)
      × (next_image two_columns (rows_with 1) only_second (images_cursor 2) ≡ refuse 9 0)
      × (next_image two_columns (rows_with 1) (2 ∷ 0 ∷ []) (images_cursor 1) ≡ refuse 9 1)
      × (next_image two_columns (rows_with 1) (2 ∷ 0 ∷ month13) (images_cursor 1) ≡ refused (out_of 1 2))
  -- ---- `feed_abi`: what its calls refuse besides those of the calls that they stand over
  pub feed_check_lem : answer_of (feed_check [] 8 3 []) ≡ refuse 13 0
  pub feed_column_lem : (feed_column [] 7 ≡ refuse 11 0) × (feed_column empty_record 7 ≡ refuse 14 7)
  pub feed_names_lem : feed_names [] 8 3 ≡ refuse 13 0
  pub feed_fields_lem : feed_fields [] 8 3 ≡ refuse 13 0
  pub feed_item_lem : feed_item 0 [] 0 ≡ refuse 13 0
  pub feed_put_lem : answer_of (feed_put [] [] [] 0 0 0 [] [] []) ≡ refuse 13 0
  pub feed_put_item_lem : answer_of (feed_put_item [] [] 0 0 0 [] [] []) ≡ refuse 13 0
