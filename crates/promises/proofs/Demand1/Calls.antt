-- Every public call meets its contract: the theorem of each. Assumes nothing.
use Rattle.wire.proofs.bit_lsb0.Met.{met as of_bit_lsb0}
use Rattle.wire.proofs.bit_msb0.Met.{met as of_bit_msb0}
use Rattle.wire.proofs.bytes_for.Met.{met as of_bytes_for}
use Rattle.wire.proofs.read_be.Met.{met as of_read_be}
use Rattle.wire.proofs.read_le.Met.{met as of_read_le}
use Rattle.wire.proofs.wide.Met.{met as of_wide}
use Rattle.wire.proofs.write_be.Met.{met as of_write_be}
use Rattle.wire.proofs.write_le.Met.{met as of_write_le}
use Rattle.wire.proofs.packed_size.Met.{met as of_packed_size}
use Rattle.wire.proofs.read_fixed.Met.{met as of_read_fixed}
use Rattle.wire.proofs.read_packed.Met.{met as of_read_packed}
use Rattle.wire.proofs.write_packed.Met.{met as of_write_packed}
use Rattle.wire.proofs.part_of.Met.{met as of_part_of}
use Rattle.wire.proofs.within.Met.{met as of_within}
use Rattle.wire.proofs.refuse.Met.{met as of_refuse}
use Rattle.wire.proofs.refuse_part.Met.{met as of_refuse_part}
use Rattle.wire.proofs.in_halves.Met.{met as of_in_halves}
use Rattle.wire.proofs.signed_of.Met.{met as of_signed_of}
use Rattle.wire.proofs.top_of.Met.{met as of_top_of}
use Rattle.wire.proofs.twos_of.Met.{met as of_twos_of}
use Rattle.wire.proofs.has_room.Met.{met as of_has_room}
use Rattle.wire.proofs.write_bytes.Met.{met as of_write_bytes}
use Rattle.temporal.proofs.in_domain.Met.{met as of_in_domain}
use Rattle.temporal.proofs.temporal_size.Met.{met as of_temporal_size}
use Rattle.temporal.proofs.read_temporal.Met.{met as of_read_temporal}
use Rattle.temporal.proofs.read_newdate.Met.{met as of_read_newdate}
use Rattle.temporal.proofs.read_timestamp2.Met.{met as of_read_timestamp2}
use Rattle.temporal.proofs.read_datetime2.Met.{met as of_read_datetime2}
use Rattle.temporal.proofs.read_time2.Met.{met as of_read_time2}
use Rattle.temporal.proofs.write_temporal.Met.{met as of_write_temporal}
use Rattle.value.proofs.has_charset.Met.{met as of_has_charset}
use Rattle.value.proofs.has_sign_bit.Met.{met as of_has_sign_bit}
use Rattle.value.proofs.is_character.Met.{met as of_is_character}
use Rattle.value.proofs.is_enum_or_set.Met.{met as of_is_enum_or_set}
use Rattle.value.proofs.declared_length.Met.{met as of_declared_length}
use Rattle.value.proofs.is_accepted.Met.{met as of_is_accepted}
use Rattle.value.proofs.shape_of.Met.{met as of_shape_of}
use Rattle.value.proofs.op_of.Met.{met as of_op_of}
use Rattle.value.proofs.family_of.Met.{met as of_family_of}
use Rattle.value.proofs.is_known.Met.{met as of_is_known}
use Rattle.value.proofs.is_numeric.Met.{met as of_is_numeric}
use Rattle.value.proofs.metadata_bytes.Met.{met as of_metadata_bytes}
use Rattle.value.proofs.real_type.Met.{met as of_real_type}
use Rattle.value.proofs.read_value.Met.{met as of_read_value}
use Rattle.value.proofs.read_op.Met.{met as of_read_op}
use Rattle.value.proofs.write_op.Met.{met as of_write_op}
use Rattle.value.proofs.write_value.Met.{met as of_write_value}
use Rattle.value.proofs.value_size.Met.{met as of_value_size}
use Rattle.value.proofs.most_size.Met.{met as of_most_size}
use Rattle.value.proofs.read_lone.Met.{met as of_read_lone}
use Rattle.value.proofs.write_lone.Met.{met as of_write_lone}
use Rattle.value.proofs.lone_size.Met.{met as of_lone_size}
use Rattle.value_parts.proofs.sort_of.Met.{met as of_sort_of}
use Rattle.value_parts.proofs.value_of.Met.{met as of_value_of}
use Rattle.value_parts.proofs.parts_of.Met.{met as of_parts_of}
use Rattle.table_map.proofs.column_metadata.Met.{met as of_column_metadata}
use Rattle.table_map.proofs.column_types.Met.{met as of_column_types}
use Rattle.table_map.proofs.database_name.Met.{met as of_database_name}
use Rattle.table_map.proofs.nullable_bits.Met.{met as of_nullable_bits}
use Rattle.table_map.proofs.optional_metadata.Met.{met as of_optional_metadata}
use Rattle.table_map.proofs.read_event.Met.{met as of_read_event}
use Rattle.table_map.proofs.table_name.Met.{met as of_table_name}
use Rattle.table_map.proofs.cut_field.Met.{met as of_cut_field}
use Rattle.table_map.proofs.default_charset.Met.{met as of_default_charset}
use Rattle.table_map.proofs.flag.Met.{met as of_flag}
use Rattle.table_map.proofs.next_item.Met.{met as of_next_item}
use Rattle.table_map.proofs.event_size.Met.{met as of_event_size}
use Rattle.table_map.proofs.write_event.Met.{met as of_write_event}
use Rattle.table_map.proofs.field.Fields.new.Met.{met as of_fields_new}
use Rattle.table_map.proofs.field.Fields.next.Met.{met as of_fields_next}
use Rattle.table_map.proofs.field.Fields.judge.Met.{met as of_fields_judge}
use Rattle.table_map.proofs.list.Integers.next.Met.{met as of_integers_next}
use Rattle.table_map.proofs.list.Pairs.next.Met.{met as of_pairs_next}
use Rattle.table_map.proofs.list.Strings.next.Met.{met as of_strings_next}
use Rattle.table_map.proofs.list.Groups.next.Met.{met as of_groups_next}
use Rattle.table_map.proofs.list.U64ListItem.read.Met.{met as of_integer_read}
use Rattle.table_map.proofs.list.Tuple2U64U64ListItem.read.Met.{met as of_pair_read}
use Rattle.table_map.proofs.list.PartListItem.read.Met.{met as of_string_read}
use Rattle.table_map.proofs.list.Tuple2U64UsizeListItem.read.Met.{met as of_group_read}
use Rattle.record.proofs.column_of.Met.{met as of_column_of}
use Rattle.record.proofs.entry_holds.Met.{met as of_entry_holds}
use Rattle.record.proofs.write_entry.Met.{met as of_write_entry}
use Rattle.record.proofs.entry_at.Met.{met as of_entry_at}
use Rattle.record.proofs.entry_in.Met.{met as of_entry_in}
use Rattle.record.proofs.read_record.Met.{met as of_read_record}
use Rattle.record.proofs.write_head.Met.{met as of_write_head}
use Rattle.map_check.proofs.check.Met.{met as of_check}
use Rattle.map_check.proofs.column_name.Met.{met as of_column_name}
use Rattle.map_check.proofs.name_part.Met.{met as of_name_part}
use Rattle.map_check.proofs.names_field.Met.{met as of_names_field}
use Rattle.image.proofs.first_cursor.Met.{met as of_first_cursor}
use Rattle.image.proofs.read_head.Met.{met as of_read_head}
use Rattle.image.proofs.walk_end.Met.{met as of_walk_end}
use Rattle.image.proofs.count_bits.Met.{met as of_count_bits}
use Rattle.image.proofs.first_set.Met.{met as of_first_set}
use Rattle.image.proofs.start.Met.{met as of_start}
use Rattle.image.proofs.image_room.Met.{met as of_image_room}
use Rattle.image.proofs.cursor.Cursor.put.Met.{met as of_cursor_put}
use Rattle.image.proofs.cursor.Cursor.step.Met.{met as of_cursor_step}
use Rattle.blocks.proofs.begin.Met.{met as of_begin}
use Rattle.blocks.proofs.state.Arriving.give.Met.{met as of_arriving_give}
use Rattle.blocks.proofs.state.Arriving.end.Met.{met as of_arriving_end}
use Rattle.row_plan.proofs.make_plan.Met.{met as of_make_plan}
use Rattle.row_plan.proofs.row.RowCursor.step.Met.{met as of_row_cursor_step}
use Rattle.row_plan.proofs.row.RowCursor.read.Met.{met as of_row_cursor_read}
use Rattle.row_plan.proofs.put.ItemCursor.put.Met.{met as of_item_cursor_put}
use Rattle.rows_event.proofs.read_rows.Met.{met as of_read_rows}
use Rattle.rows_event.proofs.set_of.Met.{met as of_set_of}
use Rattle.rows_event.proofs.images.Images.next.Met.{met as of_images_next}
use Rattle.feed_abi.proofs.feed_rows.Met.{met as of_feed_rows}
use Rattle.feed_abi.proofs.feed_image.Met.{met as of_feed_image}
use Rattle.feed_abi.proofs.feed_map.Met.{met as of_feed_map}
use Rattle.feed_abi.proofs.feed_check.Met.{met as of_feed_check}
use Rattle.feed_abi.proofs.feed_column.Met.{met as of_feed_column}
use Rattle.feed_abi.proofs.feed_names.Met.{met as of_feed_names}
use Rattle.feed_abi.proofs.feed_name.Met.{met as of_feed_name}
use Rattle.feed_abi.proofs.feed_parts.Met.{met as of_feed_parts}
use Rattle.feed_abi.proofs.feed_fields.Met.{met as of_feed_fields}
use Rattle.feed_abi.proofs.feed_field.Met.{met as of_feed_field}
use Rattle.feed_abi.proofs.feed_item.Met.{met as of_feed_item}
use Rattle.feed_abi.proofs.feed_first.Met.{met as of_feed_first}
use Rattle.feed_abi.proofs.feed_step.Met.{met as of_feed_step}
use Rattle.feed_abi.proofs.feed_start.Met.{met as of_feed_start}
use Rattle.feed_abi.proofs.feed_put.Met.{met as of_feed_put}
use Rattle.feed_abi.proofs.feed_room.Met.{met as of_feed_room}
use Rattle.feed_abi.proofs.feed_plan.Met.{met as of_feed_plan}
use Rattle.feed_abi.proofs.feed_run.Met.{met as of_feed_run}
use Rattle.feed_abi.proofs.feed_put_item.Met.{met as of_feed_put_item}
use Rattle.feed_abi.proofs.feed_begin.Met.{met as of_feed_begin}
use Rattle.feed_abi.proofs.feed_give.Met.{met as of_feed_give}
use Rattle.feed_abi.proofs.feed_end.Met.{met as of_feed_end}
use Rattle.promises.specs.Calls.{Calls}

pub calls : Calls
calls = record {
  bit_lsb0 = λ M. of_bit_lsb0 {M = M};
  bit_msb0 = λ M. of_bit_msb0 {M = M};
  bytes_for = λ M. of_bytes_for {M = M};
  read_be = λ M. of_read_be {M = M};
  read_le = λ M. of_read_le {M = M};
  wide = λ M. of_wide {M = M};
  write_be = λ M. of_write_be {M = M};
  write_le = λ M. of_write_le {M = M};
  packed_size = λ M. of_packed_size {M = M};
  read_fixed_lem = λ M. of_read_fixed {M = M};
  read_packed_lem = λ M. of_read_packed {M = M};
  write_packed = λ M. of_write_packed {M = M};
  part_of = λ M. of_part_of {M = M};
  within = λ M. of_within {M = M};
  refuse = λ M. of_refuse {M = M};
  refuse_part = λ M. of_refuse_part {M = M};
  in_halves = λ M. of_in_halves {M = M};
  signed_of = λ M. of_signed_of {M = M};
  top_of = λ M. of_top_of {M = M};
  twos_of = λ M. of_twos_of {M = M};
  has_room = λ M. of_has_room {M = M};
  write_bytes = λ M. of_write_bytes {M = M};
  in_domain = λ M. of_in_domain {M = M};
  temporal_size_lem = λ M. of_temporal_size {M = M};
  read_temporal_lem = λ M. of_read_temporal {M = M};
  read_newdate = λ M. of_read_newdate {M = M};
  read_timestamp2 = λ M. of_read_timestamp2 {M = M};
  read_datetime2 = λ M. of_read_datetime2 {M = M};
  read_time2 = λ M. of_read_time2 {M = M};
  write_temporal_lem = λ M. of_write_temporal {M = M};
  has_charset = λ M. of_has_charset {M = M};
  has_sign_bit = λ M. of_has_sign_bit {M = M};
  is_character = λ M. of_is_character {M = M};
  is_enum_or_set = λ M. of_is_enum_or_set {M = M};
  declared_length_lem = λ M. of_declared_length {M = M};
  is_accepted = λ M. of_is_accepted {M = M};
  shape_of_lem = λ M. of_shape_of {M = M};
  op_of = λ M. of_op_of {M = M};
  family_of = λ M. of_family_of {M = M};
  is_known = λ M. of_is_known {M = M};
  is_numeric = λ M. of_is_numeric {M = M};
  metadata_bytes = λ M. of_metadata_bytes {M = M};
  real_type_lem = λ M. of_real_type {M = M};
  read_value_lem = λ M. of_read_value {M = M};
  read_op = λ M. of_read_op {M = M};
  write_op = λ M. of_write_op {M = M};
  write_value_lem = λ M. of_write_value {M = M};
  value_size = λ M. of_value_size {M = M};
  most_size = λ M. of_most_size {M = M};
  read_lone = λ M. of_read_lone {M = M};
  write_lone = λ M. of_write_lone {M = M};
  lone_size = λ M. of_lone_size {M = M};
  sort_of = λ M. of_sort_of {M = M};
  value_of_lem = λ M. of_value_of {M = M};
  parts_of = λ M. of_parts_of {M = M};
  column_metadata = λ M. of_column_metadata {M = M};
  column_types = λ M. of_column_types {M = M};
  database_name = λ M. of_database_name {M = M};
  nullable_bits = λ M. of_nullable_bits {M = M};
  optional_metadata = λ M. of_optional_metadata {M = M};
  read_event_lem = λ M. of_read_event {M = M};
  table_name = λ M. of_table_name {M = M};
  cut_field_lem = λ M. of_cut_field {M = M};
  default_charset_lem = λ M. of_default_charset {M = M};
  flag = λ M. of_flag {M = M};
  event_size_lem = λ M. of_event_size {M = M};
  write_event_lem = λ M. of_write_event {M = M};
  fields_new = λ M. of_fields_new {M = M};
  fields_next = λ M. of_fields_next {M = M};
  fields_judge = λ M. of_fields_judge {M = M};
  integers_next = λ M. of_integers_next {M = M};
  pairs_next = λ M. of_pairs_next {M = M};
  strings_next = λ M. of_strings_next {M = M};
  groups_next = λ M. of_groups_next {M = M};
  next_item = λ M. of_next_item {M = M};
  integer_read = λ M. of_integer_read {M = M};
  pair_read = λ M. of_pair_read {M = M};
  string_read = λ M. of_string_read {M = M};
  group_read = λ M. of_group_read {M = M};
  column_of = λ M. of_column_of {M = M};
  entry_holds = λ M. of_entry_holds {M = M};
  write_entry = λ M. of_write_entry {M = M};
  entry_at = λ M. of_entry_at {M = M};
  entry_in = λ M. of_entry_in {M = M};
  read_record_lem = λ M. of_read_record {M = M};
  write_head = λ M. of_write_head {M = M};
  check = λ M. of_check {M = M};
  column_name_lem = λ M. of_column_name {M = M};
  name_part = λ M. of_name_part {M = M};
  names_field_lem = λ M. of_names_field {M = M};
  first_cursor_lem = λ M. of_first_cursor {M = M};
  read_head = λ M. of_read_head {M = M};
  walk_end = λ M. of_walk_end {M = M};
  count_bits = λ M. of_count_bits {M = M};
  first_set = λ M. of_first_set {M = M};
  start = λ M. of_start {M = M};
  image_room = λ M. of_image_room {M = M};
  cursor_put = λ M. of_cursor_put {M = M};
  cursor_step = λ M. of_cursor_step {M = M};
  begin = λ M. of_begin {M = M};
  arriving_give = λ M. of_arriving_give {M = M};
  arriving_end = λ M. of_arriving_end {M = M};
  make_plan_lem = λ M. of_make_plan {M = M};
  row_cursor_step = λ M. of_row_cursor_step {M = M};
  row_cursor_read = λ M. of_row_cursor_read {M = M};
  item_cursor_put = λ M. of_item_cursor_put {M = M};
  read_rows_lem = λ M. of_read_rows {M = M};
  set_of = λ M. of_set_of {M = M};
  images_next = λ M. of_images_next {M = M};
  feed_rows_lem = λ M. of_feed_rows {M = M};
  feed_image_lem = λ M. of_feed_image {M = M};
  feed_map_lem = λ M. of_feed_map {M = M};
  feed_check_lem = λ M. of_feed_check {M = M};
  feed_column_lem = λ M. of_feed_column {M = M};
  feed_names_lem = λ M. of_feed_names {M = M};
  feed_name_lem = λ M. of_feed_name {M = M};
  feed_parts_lem = λ M. of_feed_parts {M = M};
  feed_fields_lem = λ M. of_feed_fields {M = M};
  feed_field_lem = λ M. of_feed_field {M = M};
  feed_item_lem = λ M. of_feed_item {M = M};
  feed_first_lem = λ M. of_feed_first {M = M};
  feed_step_lem = λ M. of_feed_step {M = M};
  feed_start_lem = λ M. of_feed_start {M = M};
  feed_put_lem = λ M. of_feed_put {M = M};
  feed_room_lem = λ M. of_feed_room {M = M};
  feed_plan_lem = λ M. of_feed_plan {M = M};
  feed_run_lem = λ M. of_feed_run {M = M};
  feed_put_item_lem = λ M. of_feed_put_item {M = M};
  feed_begin_lem = λ M. of_feed_begin {M = M};
  feed_give_lem = λ M. of_feed_give {M = M};
  feed_end_lem = λ M. of_feed_end {M = M};
}
