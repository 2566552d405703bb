-- Temporals: the tables computed. Assumes nothing.
use mathlib.Core.Path.{refl}
use Rattle.temporal.specs.Ranges.{clock_fault, day_fault}
use Rattle.value.specs.Columns.{shape_of}
use Rattle.value.specs.Reading.{read_value}
use Rattle.value.specs.Storing.{write_value}
use Rattle.promises.specs.Tables.{EachRow, done, ◌and◌, IsStored}
use Rattle.promises.specs.Temporals.{Temporals, stored17, stored18, stored19, stored14, stored11, stored12, stored7}

-- ---- the tables
type17 : EachRow IsStored stored17
unfolding stored17 shape_of read_value write_value clock_fault day_fault
type17 =
    refl and refl and refl and refl and refl and refl and refl and refl and refl and refl and refl and refl and refl and refl
    and refl and refl and refl and refl and refl and done

type18 : EachRow IsStored stored18
unfolding stored18 shape_of read_value write_value clock_fault day_fault
type18 =
    refl and refl and refl and refl and refl and refl and refl and refl and refl and refl and refl and refl and refl and refl
    and refl and refl and refl and refl and refl and refl and refl and refl and refl and refl and refl and done

type19 : EachRow IsStored stored19
unfolding stored19 shape_of read_value write_value clock_fault day_fault
type19 =
    refl and refl and refl and refl and refl and refl and refl and refl and refl and refl and refl and refl and refl and refl
    and refl and refl and refl and refl and refl and refl and refl and refl and refl and refl and refl and refl and refl
    and refl and refl and refl and refl and refl and refl and refl and refl and refl and refl and refl and refl and refl
    and refl and done

type14 : EachRow IsStored stored14
unfolding stored14 shape_of read_value write_value clock_fault day_fault
type14 =
    refl and refl and refl and refl and refl and refl and refl and refl and refl and refl and done

type11 : EachRow IsStored stored11
unfolding stored11 shape_of read_value write_value clock_fault day_fault
type11 =
    refl and refl and refl and refl and refl and refl and refl and refl and refl and refl and refl and done

type12 : EachRow IsStored stored12
unfolding stored12 shape_of read_value write_value clock_fault day_fault
type12 =
    refl and refl and refl and refl and refl and refl and refl and refl and refl and refl and refl and refl and refl and refl and refl and
    refl and done

type7 : EachRow IsStored stored7
unfolding stored7 shape_of read_value write_value clock_fault day_fault
type7 =
    refl and refl and refl and refl and refl and refl and done

-- ---- all of it
pub temporals : Temporals
temporals =
    record {
      type_17 = type17;
      type_18 = type18;
      type_19 = type19;
      type_14 = type14;
      type_11 = type11;
      type_12 = type12;
      type_7 = type7;
    }
