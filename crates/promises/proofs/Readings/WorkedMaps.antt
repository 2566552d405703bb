-- Maps: the tables computed. Assumes nothing.
use mathlib.Core.Path.{refl}
use Rattle.table_map.specs.Events.{read_event}
use Rattle.table_map.specs.Writes.{write_event, event_size}
use Rattle.table_map.specs.Lists.{group_item}
use Rattle.table_map.specs.Fields.{count_sign_bits, field_item}
use Rattle.map_check.specs.Check.{check}
use Rattle.promises.specs.Tables.{EachRow, done, ◌and◌}
use Rattle.promises.specs.WorkedMaps.{MapHolds, map_table, int_entries, WideHolds, wide_table, IsRefused, refusal_table, IsAccepted}
use Rattle.promises.specs.WorkedMaps.{taken_table, WorkedMaps}

accepted : EachRow MapHolds map_table
unfolding map_table check count_sign_bits group_item
accepted =
    refl and refl and refl and refl and refl and refl and done

accepted_wide : EachRow WideHolds wide_table
unfolding int_entries check count_sign_bits group_item
accepted_wide = refl and refl and refl and done

refused : EachRow IsRefused refusal_table
unfolding refusal_table check count_sign_bits group_item
refused =
    refl and refl and refl and refl and refl and refl and refl and refl and refl and refl and refl and refl and refl and refl
    and refl and refl and refl and refl and refl and refl and refl and refl and refl and refl and refl and refl and refl
    and refl and refl and refl and refl and refl and refl and refl and refl and refl and refl and refl and refl and refl
    and refl and refl and refl and refl and refl and refl and refl and refl and refl and refl and refl and refl and refl
    and refl and refl and refl and refl and refl and refl and refl and refl and refl and refl and refl and refl and refl
    and refl and refl and refl and refl and refl and refl and refl and refl and refl and refl and refl and refl and refl
    and refl and done

taken : EachRow IsAccepted taken_table
unfolding taken_table check count_sign_bits group_item
taken =
    refl and refl and refl and refl and refl and refl and refl and refl and refl and refl and refl and refl and refl and refl
    and refl and refl and refl and refl and refl and refl and refl and refl and refl and refl and refl and refl and refl and done

pub worked_maps : WorkedMaps
unfolding check count_sign_bits group_item read_event write_event event_size field_item
worked_maps =
    record {
      accepted = accepted;
      accepted_wide = accepted_wide;
      refused = refused;
      taken = taken;
      cut_short =
          refl and refl and refl and refl and refl and refl and refl and refl and refl and refl and refl and refl and refl
          and refl and refl and refl and refl and refl and refl and refl and refl and refl and refl and refl and done;
      count_2 = refl;
      length_2 = refl;
      room = refl;
      event_read = refl;
      id_four = refl;
      id_six = refl;
      event_four = refl;
      event_written = refl;
      event_room = refl;
      greatest = refl;
      no_id = refl;
      no_database = refl;
      no_table = refl;
      no_bits = refl;
      eight_columns = refl;
      nine_columns = refl;
      walk_names = refl;
      walk_charset = refl;
      walk_default = refl;
    }
