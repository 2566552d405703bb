-- The numbers of the calls for C, computed. Assumes nothing.
use mathlib.Core.Path.{refl}
use Rattle.temporal.specs.Ranges.{clock_fault, day_fault}
use Rattle.table_map.specs.Fields.{count_sign_bits}
use Rattle.map_check.specs.Check.{check}
use Rattle.feed_abi.specs.Answers.{status_of, numbers_left, bytes_left}
use Rattle.feed_abi.specs.Calls.{dialect_of, feed_map, feed_check, feed_column, feed_names, feed_name, feed_first, feed_step, feed_start, feed_put}
use Rattle.feed_abi.specs.Calls.{feed_room, feed_rows, feed_image}
use Rattle.feed_abi.specs.Fields.{feed_parts, feed_fields, feed_field, feed_item}
use Rattle.promises.specs.Tables.{EachRow, done, ◌and◌}
use Rattle.promises.specs.Numbers.{StepTells, steps, PutStores, puts, Numbers}

step_numbers_lem : EachRow StepTells steps
unfolding steps feed_step clock_fault day_fault
step_numbers_lem =
    refl and refl and refl and refl and refl and refl and refl and refl and refl and refl and refl and refl and done

put_numbers_lem : EachRow PutStores puts
unfolding puts feed_put
put_numbers_lem =
    refl and refl and refl and refl and refl and refl and refl and refl and refl and refl and refl and done

pub numbers : Numbers
unfolding check count_sign_bits status_of numbers_left bytes_left dialect_of feed_map feed_check feed_column feed_names feed_name feed_first feed_step
    feed_start feed_put feed_room feed_rows feed_image feed_parts feed_fields feed_field feed_item
numbers =
    record {
      answered = (refl, refl);
      refused = (refl, refl);
      part_told = (refl, refl);
      no_room = (refl, refl);
      bytes_left_lem = (refl, refl, refl);
      map_numbers = refl;
      dialects = (refl, refl, refl, refl);
      check_numbers = refl;
      column_numbers = refl;
      no_column = refl;
      names_numbers = (refl, refl, refl, refl);
      name_numbers = (refl, refl, refl);
      parts_numbers = (refl, refl);
      fields_numbers = (refl, refl, refl, refl);
      field_numbers = (refl, refl, refl, refl);
      item_numbers = (refl, refl, refl, refl, refl);
      items_end = (refl, refl, refl, refl);
      items_broken = (refl, refl, refl, refl);
      no_list = (refl, refl);
      first_numbers = refl;
      start_numbers = refl;
      step_numbers = step_numbers_lem;
      room_numbers = refl;
      step_absent = refl;
      step_past = refl;
      step_order = (refl, refl, refl);
      start_order = refl;
      put_order = (refl, refl);
      put_past = refl;
      put_null = refl;
      put_value = refl;
      put_numbers = put_numbers_lem;
      no_put = (refl, refl, refl, refl);
      rows_numbers = refl;
      flags_numbers = refl;
      absent_numbers = refl;
      image_numbers = (refl, refl, refl, refl);
      image_flags = (refl, refl);
      image_set_past = refl;
    }
