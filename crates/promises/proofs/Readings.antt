-- The worked readings, computed, and the other tables. Assumes nothing.
pub mod Temporals
pub mod Metadata
pub mod Classes
pub mod WorkedMaps
pub mod Profiles
pub mod Numbers
use mathlib.Core.Path.{refl}
use Rattle.wire.specs.Bits.{bit_lsb0, bit_msb0}
use Rattle.wire.specs.Packed.{read_packed, packed_bytes}
use Rattle.temporal.specs.Ranges.{clock_fault, day_fault}
use Rattle.temporal.specs.Reading.{read_temporal}
use Rattle.value.specs.Columns.{shape_of}
use Rattle.table_map.specs.Fields.{count_sign_bits}
use Rattle.record.specs.Records.{record_bytes}
use Rattle.table_map.specs.Events.{read_event}
use Rattle.map_check.specs.Check.{check_map}
use Rattle.map_check.specs.Names.{column_name}
use Rattle.image.specs.Walk.{walk_image}
use Rattle.rows_event.specs.Events.{read_rows}
use Rattle.rows_event.specs.Images.{met_image, image_steps}
use Rattle.promises.specs.Tables.{EachRow, done, ◌and◌}
use Rattle.promises.specs.Readings.{Holds, table, packed_table, ReadAs, other_forms, image_table, Readings, RowsHold, rows_table}
use Rattle.promises.specs.Readings.{RowsRefused, rows_refusals}
use Rattle.promises.proofs.Readings.Temporals.{temporals}
use Rattle.promises.proofs.Readings.Metadata.{metadata}
use Rattle.promises.proofs.Readings.Classes.{classes}
use Rattle.promises.specs.WorkedMaps.{int_entries}
use Rattle.promises.proofs.Readings.WorkedMaps.{worked_maps}
use Rattle.promises.proofs.Readings.Profiles.{profiles}
use Rattle.promises.proofs.Readings.Numbers.{numbers}

marked : EachRow Holds table
unfolding table packed_bytes read_packed read_temporal clock_fault day_fault shape_of record_bytes count_sign_bits check_map walk_image
marked =
    refl and refl and refl and refl and refl and refl and refl and refl and refl and refl and refl and done

packings : EachRow Holds packed_table
unfolding packed_table packed_bytes read_packed
packings = refl and refl and refl and refl and refl and done

other_forms_lem : EachRow ReadAs other_forms
unfolding other_forms read_packed
other_forms_lem = refl and refl and refl and refl and refl and refl and refl and done

images : EachRow Holds image_table
unfolding image_table int_entries walk_image
images = refl and refl and refl and refl and done

rows_refused : EachRow RowsRefused rows_refusals
unfolding rows_refusals read_rows
rows_refused =
    refl and refl and refl and refl and refl and refl and refl and refl and refl and refl and refl and refl and refl and refl
    and refl and done

rows_read : EachRow RowsHold rows_table
unfolding rows_table clock_fault read_rows met_image image_steps
rows_read =
    refl and refl and refl and done

pub readings : Readings
unfolding met_image image_steps read_rows read_event column_name bit_lsb0 bit_msb0
readings =
    record {
      marked = marked;
      packings = packings;
      other_forms_lem = other_forms_lem;
      images = images;
      rows_read = rows_read;
      rows_refused = rows_refused;
      record_first = refl;
      no_part = refl;
      no_name = refl;
      no_second = refl;
      bits_past = (refl, refl);
      none_left = refl;
      left_over = refl;
      temporals = temporals;
      metadata = metadata;
      classes = classes;
      maps = worked_maps;
      profiles = profiles;
      numbers = numbers;
    }
