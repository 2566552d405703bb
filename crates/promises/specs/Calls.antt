-- "Every public call ends with an answer for all input." A line for each public call of the libraries: its code, run on whatever it is
-- lent, comes to its end without touching a byte that is not its own, and answers what the contract beside it in src/ says. That is what
-- `statement` says of a function: it is the checker's own triple of total correctness, for the function's code and its contract. No public
-- call has a condition on what it is lent, so this is for all input. `calls` in proofs/Demand1/Calls.antt proves all of it. Assumes
-- nothing.
use Rattle.wire.proofs.bit_lsb0.Statement.{statement as of_bit_lsb0}
use Rattle.wire.proofs.bit_msb0.Statement.{statement as of_bit_msb0}
use Rattle.wire.proofs.bytes_for.Statement.{statement as of_bytes_for}
use Rattle.wire.proofs.read_be.Statement.{statement as of_read_be}
use Rattle.wire.proofs.read_le.Statement.{statement as of_read_le}
use Rattle.wire.proofs.wide.Statement.{statement as of_wide}
use Rattle.wire.proofs.write_be.Statement.{statement as of_write_be}
use Rattle.wire.proofs.write_le.Statement.{statement as of_write_le}
use Rattle.wire.proofs.packed_size.Statement.{statement as of_packed_size}
use Rattle.wire.proofs.read_fixed.Statement.{statement as of_read_fixed}
use Rattle.wire.proofs.read_packed.Statement.{statement as of_read_packed}
use Rattle.wire.proofs.write_packed.Statement.{statement as of_write_packed}
use Rattle.wire.proofs.part_of.Statement.{statement as of_part_of}
use Rattle.wire.proofs.within.Statement.{statement as of_within}
use Rattle.wire.proofs.refuse.Statement.{statement as of_refuse}
use Rattle.wire.proofs.refuse_part.Statement.{statement as of_refuse_part}
use Rattle.wire.proofs.in_halves.Statement.{statement as of_in_halves}
use Rattle.wire.proofs.signed_of.Statement.{statement as of_signed_of}
use Rattle.wire.proofs.top_of.Statement.{statement as of_top_of}
use Rattle.wire.proofs.twos_of.Statement.{statement as of_twos_of}
use Rattle.wire.proofs.has_room.Statement.{statement as of_has_room}
use Rattle.wire.proofs.write_bytes.Statement.{statement as of_write_bytes}
use Rattle.temporal.proofs.in_domain.Statement.{statement as of_in_domain}
use Rattle.temporal.proofs.temporal_size.Statement.{statement as of_temporal_size}
use Rattle.temporal.proofs.read_temporal.Statement.{statement as of_read_temporal}
use Rattle.temporal.proofs.read_newdate.Statement.{statement as of_read_newdate}
use Rattle.temporal.proofs.read_timestamp2.Statement.{statement as of_read_timestamp2}
use Rattle.temporal.proofs.read_datetime2.Statement.{statement as of_read_datetime2}
use Rattle.temporal.proofs.read_time2.Statement.{statement as of_read_time2}
use Rattle.temporal.proofs.write_temporal.Statement.{statement as of_write_temporal}
use Rattle.value.proofs.has_charset.Statement.{statement as of_has_charset}
use Rattle.value.proofs.has_sign_bit.Statement.{statement as of_has_sign_bit}
use Rattle.value.proofs.is_character.Statement.{statement as of_is_character}
use Rattle.value.proofs.is_enum_or_set.Statement.{statement as of_is_enum_or_set}
use Rattle.value.proofs.declared_length.Statement.{statement as of_declared_length}
use Rattle.value.proofs.is_accepted.Statement.{statement as of_is_accepted}
use Rattle.value.proofs.shape_of.Statement.{statement as of_shape_of}
use Rattle.value.proofs.op_of.Statement.{statement as of_op_of}
use Rattle.value.proofs.family_of.Statement.{statement as of_family_of}
use Rattle.value.proofs.is_known.Statement.{statement as of_is_known}
use Rattle.value.proofs.is_numeric.Statement.{statement as of_is_numeric}
use Rattle.value.proofs.metadata_bytes.Statement.{statement as of_metadata_bytes}
use Rattle.value.proofs.real_type.Statement.{statement as of_real_type}
use Rattle.value.proofs.read_value.Statement.{statement as of_read_value}
use Rattle.value.proofs.read_op.Statement.{statement as of_read_op}
use Rattle.value.proofs.write_op.Statement.{statement as of_write_op}
use Rattle.value.proofs.write_value.Statement.{statement as of_write_value}
use Rattle.value.proofs.value_size.Statement.{statement as of_value_size}
use Rattle.value.proofs.most_size.Statement.{statement as of_most_size}
use Rattle.value.proofs.read_lone.Statement.{statement as of_read_lone}
use Rattle.value.proofs.write_lone.Statement.{statement as of_write_lone}
use Rattle.value.proofs.lone_size.Statement.{statement as of_lone_size}
use Rattle.value_parts.proofs.sort_of.Statement.{statement as of_sort_of}
use Rattle.value_parts.proofs.value_of.Statement.{statement as of_value_of}
use Rattle.value_parts.proofs.parts_of.Statement.{statement as of_parts_of}
use Rattle.table_map.proofs.column_metadata.Statement.{statement as of_column_metadata}
use Rattle.table_map.proofs.column_types.Statement.{statement as of_column_types}
use Rattle.table_map.proofs.database_name.Statement.{statement as of_database_name}
use Rattle.table_map.proofs.nullable_bits.Statement.{statement as of_nullable_bits}
use Rattle.table_map.proofs.optional_metadata.Statement.{statement as of_optional_metadata}
use Rattle.table_map.proofs.read_event.Statement.{statement as of_read_event}
use Rattle.table_map.proofs.table_name.Statement.{statement as of_table_name}
use Rattle.table_map.proofs.cut_field.Statement.{statement as of_cut_field}
use Rattle.table_map.proofs.default_charset.Statement.{statement as of_default_charset}
use Rattle.table_map.proofs.flag.Statement.{statement as of_flag}
use Rattle.table_map.proofs.next_item.Statement.{statement as of_next_item}
use Rattle.table_map.proofs.event_size.Statement.{statement as of_event_size}
use Rattle.table_map.proofs.write_event.Statement.{statement as of_write_event}
use Rattle.table_map.proofs.field.Fields.new.Statement.{statement as of_fields_new}
use Rattle.table_map.proofs.field.Fields.next.Statement.{statement as of_fields_next}
use Rattle.table_map.proofs.field.Fields.judge.Statement.{statement as of_fields_judge}
use Rattle.table_map.proofs.list.Integers.next.Statement.{statement as of_integers_next}
use Rattle.table_map.proofs.list.Pairs.next.Statement.{statement as of_pairs_next}
use Rattle.table_map.proofs.list.Strings.next.Statement.{statement as of_strings_next}
use Rattle.table_map.proofs.list.Groups.next.Statement.{statement as of_groups_next}
use Rattle.table_map.proofs.list.U64ListItem.read.Statement.{statement as of_integer_read}
use Rattle.table_map.proofs.list.Tuple2U64U64ListItem.read.Statement.{statement as of_pair_read}
use Rattle.table_map.proofs.list.PartListItem.read.Statement.{statement as of_string_read}
use Rattle.table_map.proofs.list.Tuple2U64UsizeListItem.read.Statement.{statement as of_group_read}
use Rattle.record.proofs.column_of.Statement.{statement as of_column_of}
use Rattle.record.proofs.entry_holds.Statement.{statement as of_entry_holds}
use Rattle.record.proofs.write_entry.Statement.{statement as of_write_entry}
use Rattle.record.proofs.entry_at.Statement.{statement as of_entry_at}
use Rattle.record.proofs.entry_in.Statement.{statement as of_entry_in}
use Rattle.record.proofs.read_record.Statement.{statement as of_read_record}
use Rattle.record.proofs.write_head.Statement.{statement as of_write_head}
use Rattle.map_check.proofs.check.Statement.{statement as of_check}
use Rattle.map_check.proofs.column_name.Statement.{statement as of_column_name}
use Rattle.map_check.proofs.name_part.Statement.{statement as of_name_part}
use Rattle.map_check.proofs.names_field.Statement.{statement as of_names_field}
use Rattle.image.proofs.first_cursor.Statement.{statement as of_first_cursor}
use Rattle.image.proofs.read_head.Statement.{statement as of_read_head}
use Rattle.image.proofs.walk_end.Statement.{statement as of_walk_end}
use Rattle.image.proofs.count_bits.Statement.{statement as of_count_bits}
use Rattle.image.proofs.first_set.Statement.{statement as of_first_set}
use Rattle.image.proofs.start.Statement.{statement as of_start}
use Rattle.image.proofs.image_room.Statement.{statement as of_image_room}
use Rattle.image.proofs.cursor.Cursor.put.Statement.{statement as of_cursor_put}
use Rattle.image.proofs.cursor.Cursor.step.Statement.{statement as of_cursor_step}
use Rattle.blocks.proofs.begin.Statement.{statement as of_begin}
use Rattle.blocks.proofs.state.Arriving.give.Statement.{statement as of_arriving_give}
use Rattle.blocks.proofs.state.Arriving.end.Statement.{statement as of_arriving_end}
use Rattle.row_plan.proofs.make_plan.Statement.{statement as of_make_plan}
use Rattle.row_plan.proofs.row.RowCursor.step.Statement.{statement as of_row_cursor_step}
use Rattle.row_plan.proofs.row.RowCursor.read.Statement.{statement as of_row_cursor_read}
use Rattle.row_plan.proofs.put.ItemCursor.put.Statement.{statement as of_item_cursor_put}
use Rattle.rows_event.proofs.read_rows.Statement.{statement as of_read_rows}
use Rattle.rows_event.proofs.set_of.Statement.{statement as of_set_of}
use Rattle.rows_event.proofs.images.Images.next.Statement.{statement as of_images_next}
use Rattle.feed_abi.proofs.feed_rows.Statement.{statement as of_feed_rows}
use Rattle.feed_abi.proofs.feed_image.Statement.{statement as of_feed_image}
use Rattle.feed_abi.proofs.feed_map.Statement.{statement as of_feed_map}
use Rattle.feed_abi.proofs.feed_check.Statement.{statement as of_feed_check}
use Rattle.feed_abi.proofs.feed_column.Statement.{statement as of_feed_column}
use Rattle.feed_abi.proofs.feed_names.Statement.{statement as of_feed_names}
use Rattle.feed_abi.proofs.feed_name.Statement.{statement as of_feed_name}
use Rattle.feed_abi.proofs.feed_parts.Statement.{statement as of_feed_parts}
use Rattle.feed_abi.proofs.feed_fields.Statement.{statement as of_feed_fields}
use Rattle.feed_abi.proofs.feed_field.Statement.{statement as of_feed_field}
use Rattle.feed_abi.proofs.feed_item.Statement.{statement as of_feed_item}
use Rattle.feed_abi.proofs.feed_first.Statement.{statement as of_feed_first}
use Rattle.feed_abi.proofs.feed_step.Statement.{statement as of_feed_step}
use Rattle.feed_abi.proofs.feed_start.Statement.{statement as of_feed_start}
use Rattle.feed_abi.proofs.feed_put.Statement.{statement as of_feed_put}
use Rattle.feed_abi.proofs.feed_room.Statement.{statement as of_feed_room}
use Rattle.feed_abi.proofs.feed_plan.Statement.{statement as of_feed_plan}
use Rattle.feed_abi.proofs.feed_run.Statement.{statement as of_feed_run}
use Rattle.feed_abi.proofs.feed_put_item.Statement.{statement as of_feed_put_item}
use Rattle.feed_abi.proofs.feed_begin.Statement.{statement as of_feed_begin}
use Rattle.feed_abi.proofs.feed_give.Statement.{statement as of_feed_give}
use Rattle.feed_abi.proofs.feed_end.Statement.{statement as of_feed_end}

-- the function meets its contract, whatever the model of the machine's memory
abbrev pub Meets : (Type 1 → Type 2) → Type 2
Meets statement = (M : Type 1) → statement M

pub record Calls : Type 2 where
  -- `wire`: refusals, integers, bits, parts
  pub bit_lsb0 : Meets of_bit_lsb0
  pub bit_msb0 : Meets of_bit_msb0
  pub bytes_for : Meets of_bytes_for
  pub read_be : Meets of_read_be
  pub read_le : Meets of_read_le
  pub wide : Meets of_wide
  pub write_be : Meets of_write_be
  pub write_le : Meets of_write_le
  pub packed_size : Meets of_packed_size
  pub read_fixed_lem : Meets of_read_fixed
  pub read_packed_lem : Meets of_read_packed
  pub write_packed : Meets of_write_packed
  pub part_of : Meets of_part_of
  pub within : Meets of_within
  pub refuse : Meets of_refuse
  pub refuse_part : Meets of_refuse_part
  pub in_halves : Meets of_in_halves
  pub signed_of : Meets of_signed_of
  pub top_of : Meets of_top_of
  pub twos_of : Meets of_twos_of
  pub has_room : Meets of_has_room
  pub write_bytes : Meets of_write_bytes
  -- `temporal`: stored temporals
  pub in_domain : Meets of_in_domain
  pub temporal_size_lem : Meets of_temporal_size
  pub read_temporal_lem : Meets of_read_temporal
  pub read_newdate : Meets of_read_newdate
  pub read_timestamp2 : Meets of_read_timestamp2
  pub read_datetime2 : Meets of_read_datetime2
  pub read_time2 : Meets of_read_time2
  pub write_temporal_lem : Meets of_write_temporal
  -- `value`: columns and their values
  pub has_charset : Meets of_has_charset
  pub has_sign_bit : Meets of_has_sign_bit
  pub is_character : Meets of_is_character
  pub is_enum_or_set : Meets of_is_enum_or_set
  pub declared_length_lem : Meets of_declared_length
  pub is_accepted : Meets of_is_accepted
  pub shape_of_lem : Meets of_shape_of
  pub op_of : Meets of_op_of
  pub family_of : Meets of_family_of
  pub is_known : Meets of_is_known
  pub is_numeric : Meets of_is_numeric
  pub metadata_bytes : Meets of_metadata_bytes
  pub real_type_lem : Meets of_real_type
  pub read_value_lem : Meets of_read_value
  pub read_op : Meets of_read_op
  pub write_op : Meets of_write_op
  pub write_value_lem : Meets of_write_value
  pub value_size : Meets of_value_size
  pub most_size : Meets of_most_size
  pub read_lone : Meets of_read_lone
  pub write_lone : Meets of_write_lone
  pub lone_size : Meets of_lone_size
  -- `value_parts`: values as numbers
  pub sort_of : Meets of_sort_of
  pub value_of_lem : Meets of_value_of
  pub parts_of : Meets of_parts_of
  -- `table_map`: the event, its optional fields, lists
  pub column_metadata : Meets of_column_metadata
  pub column_types : Meets of_column_types
  pub database_name : Meets of_database_name
  pub nullable_bits : Meets of_nullable_bits
  pub optional_metadata : Meets of_optional_metadata
  pub read_event_lem : Meets of_read_event
  pub table_name : Meets of_table_name
  pub cut_field_lem : Meets of_cut_field
  pub default_charset_lem : Meets of_default_charset
  pub flag : Meets of_flag
  pub event_size_lem : Meets of_event_size
  pub write_event_lem : Meets of_write_event
  pub fields_new : Meets of_fields_new
  pub fields_next : Meets of_fields_next
  pub fields_judge : Meets of_fields_judge
  pub integers_next : Meets of_integers_next
  pub pairs_next : Meets of_pairs_next
  pub strings_next : Meets of_strings_next
  pub groups_next : Meets of_groups_next
  pub next_item : Meets of_next_item
  pub integer_read : Meets of_integer_read
  pub pair_read : Meets of_pair_read
  pub string_read : Meets of_string_read
  pub group_read : Meets of_group_read
  -- `record`: the record of a map
  pub column_of : Meets of_column_of
  pub entry_holds : Meets of_entry_holds
  pub write_entry : Meets of_write_entry
  pub entry_at : Meets of_entry_at
  pub entry_in : Meets of_entry_in
  pub read_record_lem : Meets of_read_record
  pub write_head : Meets of_write_head
  -- `map_check`: the check, and names
  pub check : Meets of_check
  pub column_name_lem : Meets of_column_name
  pub name_part : Meets of_name_part
  pub names_field_lem : Meets of_names_field
  -- `image`: row images
  pub first_cursor_lem : Meets of_first_cursor
  pub read_head : Meets of_read_head
  pub walk_end : Meets of_walk_end
  pub count_bits : Meets of_count_bits
  pub first_set : Meets of_first_set
  pub start : Meets of_start
  pub image_room : Meets of_image_room
  pub cursor_put : Meets of_cursor_put
  pub cursor_step : Meets of_cursor_step
  -- `blocks`: images in blocks
  pub begin : Meets of_begin
  pub arriving_give : Meets of_arriving_give
  pub arriving_end : Meets of_arriving_end
  -- `row_plan`: plans of rows
  pub make_plan_lem : Meets of_make_plan
  pub row_cursor_step : Meets of_row_cursor_step
  pub row_cursor_read : Meets of_row_cursor_read
  pub item_cursor_put : Meets of_item_cursor_put
  -- `rows_event`: rows events
  pub read_rows_lem : Meets of_read_rows
  pub set_of : Meets of_set_of
  pub images_next : Meets of_images_next
  -- `feed_abi`: the calls that programs in C make
  pub feed_rows_lem : Meets of_feed_rows
  pub feed_image_lem : Meets of_feed_image
  pub feed_map_lem : Meets of_feed_map
  pub feed_check_lem : Meets of_feed_check
  pub feed_column_lem : Meets of_feed_column
  pub feed_names_lem : Meets of_feed_names
  pub feed_name_lem : Meets of_feed_name
  pub feed_parts_lem : Meets of_feed_parts
  pub feed_fields_lem : Meets of_feed_fields
  pub feed_field_lem : Meets of_feed_field
  pub feed_item_lem : Meets of_feed_item
  pub feed_first_lem : Meets of_feed_first
  pub feed_step_lem : Meets of_feed_step
  pub feed_start_lem : Meets of_feed_start
  pub feed_put_lem : Meets of_feed_put
  pub feed_room_lem : Meets of_feed_room
  pub feed_plan_lem : Meets of_feed_plan
  pub feed_run_lem : Meets of_feed_run
  pub feed_put_item_lem : Meets of_feed_put_item
  pub feed_begin_lem : Meets of_feed_begin
  pub feed_give_lem : Meets of_feed_give
  pub feed_end_lem : Meets of_feed_end
