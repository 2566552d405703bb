-- Every refusal that is listed occurs: computed. Assumes nothing.
use Prim.Native.Nat.{ℕ, ◌^◌, ◌≤◌}
use mathlib.Core.Path.{◌≡◌, refl}
use mathlib.Core.List.{List, []}
use native.Mathlib.Omega.{arith}
use lib.ListN.{length}
use Rattle.wire.specs.Outcome.{refuse}
use Rattle.wire.specs.Packed.{read_fixed, read_packed, packed_form, long_form}
use Rattle.wire.specs.Stored.{store}
use Rattle.wire.specs.Parts.{within}
use Rattle.temporal.specs.Ranges.{clock_fault, day_fault}
use Rattle.temporal.specs.Reading.{read_temporal, write_temporal}
use Rattle.value.specs.Columns.{shape_of}
use Rattle.value.specs.Ops.{shape_for}
use Rattle.value.specs.Reading.{read_value}
use Rattle.value.specs.Storing.{write_value, size_of}
use Rattle.value_parts.specs.Parts.{value_of}
use Rattle.table_map.specs.Events.{read_event}
use Rattle.table_map.specs.Writes.{event_parts, is_event, write_event, event_size}
use Rattle.table_map.specs.Lists.{step, pair_item, group_item}
use Rattle.table_map.specs.Fields.{cut_field, judge_field, field_step}
use Rattle.table_map.specs.Parts.{long_part}
use Rattle.table_map.proofs.Puts.{event_length, size_over}
use Rattle.record.specs.Records.{read_record}
use Rattle.map_check.specs.Check.{check}
use Rattle.map_check.specs.Names.{column_name}
use Rattle.image.specs.Split.{head_of, first_cursor, step_from}
use Rattle.image.specs.Walk.{walk_image}
use Rattle.image.specs.Puts.{start_image, put_from}
use Rattle.image.specs.Room.{read_room}
use Rattle.blocks.specs.Gives.{give_block, begin_blocks}
use Rattle.blocks.specs.Ends.{end_blocks}
use Rattle.row_plan.specs.Plan.{make_plan, plan_step}
use Rattle.row_plan.specs.Runs.{read_run}
use Rattle.row_plan.specs.Puts.{plan_put}
use Rattle.rows_event.specs.Events.{read_rows}
use Rattle.rows_event.specs.Images.{next_image}
use Rattle.feed_abi.specs.Calls.{feed_check, feed_column, feed_names, feed_put, feed_put_item}
use Rattle.feed_abi.specs.Fields.{feed_fields, feed_item}
use Rattle.promises.specs.Occurs.{zeros, Occurs}

no_memory : (meta : List ℕ) → 2 ^ 64 ≤ length meta → event_size (event_parts 0 0 [] [] [] meta [] []) ≡ refuse 8 0
unfolding is_event
no_memory meta h =
    let p = event_parts 0 0 [] [] [] meta [] [] in
    size_over p refl (omega (arith, event_length p, h))

pub occurs : Occurs
unfolding zeros within read_fixed read_packed packed_form long_form store clock_fault day_fault read_temporal write_temporal shape_of shape_for
    read_value write_value size_of value_of read_event write_event event_size step pair_item group_item long_part cut_field judge_field field_step
    read_record check column_name head_of first_cursor step_from walk_image start_image put_from read_room begin_blocks give_block end_blocks make_plan
    plan_step read_run plan_put read_rows next_image feed_check feed_column feed_names feed_fields feed_item feed_put feed_put_item
occurs = record {
  within_bytes = refl;
  read_fixed_lem = refl;
  read_packed_lem = (refl, refl);
  write_bytes = refl;
  read_temporal_lem = (refl, refl);
  write_temporal_lem = (refl, refl);
  read_value_lem = (refl, refl, refl, refl);
  read_op = (refl, refl, refl);
  write_op = (refl, refl, refl);
  write_value_lem = (refl, refl, refl, refl);
  value_size = (refl, refl, refl);
  shape_of_lem = (refl, refl);
  value_of_lem = refl;
  read_event_lem = (refl, refl, refl);
  write_event_lem = (refl, refl);
  event_size_lem = (refl, no_memory);
  next_field = (refl, refl, refl, refl, refl);
  cut_field_lem = (refl, refl, refl);
  judge_field_lem = (refl, refl);
  next_integer = (refl, refl);
  next_string = (refl, refl);
  next_pair = (refl, refl);
  next_group = (refl, refl);
  default_charset_lem = (refl, refl);
  read_record_lem = refl;
  check_event = (refl, refl, refl);
  check_columns = (refl, refl, refl, refl);
  check_fields = (refl, refl, refl, refl, refl);
  check_room = refl;
  column_name_lem = (refl, refl, refl);
  names_field_lem = (refl, refl, refl, refl, refl, refl);
  read_head = (refl, refl);
  first_cursor_lem = (refl, refl);
  step_image = (refl, refl, refl, refl, refl, refl, refl);
  walk_end = (refl, refl, refl, refl, refl);
  start_image_lem = (refl, refl, refl);
  put_value = (refl, refl, refl, refl, refl, refl);
  image_room = (refl, refl);
  begin_blocks_lem = (refl, refl, refl);
  give_block_lem = (refl, refl, refl, refl, refl);
  unfit_states = (refl, refl, refl, refl);
  end_blocks_lem = (refl, refl, refl, refl, refl, refl, refl);
  make_plan_lem = (refl, refl, refl);
  step_plan = (refl, refl, refl, refl, refl, refl);
  read_run_lem = (refl, refl, refl, refl, refl, refl, refl);
  put_item = (refl, refl, refl, refl, refl, refl, refl, refl);
  read_rows_lem = (refl, refl, refl, refl, refl, refl, refl);
  next_image_lem = (refl, refl, refl, refl, refl);
  feed_check_lem = refl;
  feed_column_lem = (refl, refl);
  feed_names_lem = refl;
  feed_fields_lem = refl;
  feed_item_lem = refl;
  feed_put_lem = refl;
  feed_put_item_lem = refl;
}
