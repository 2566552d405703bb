-- Metadata: the tables computed, and the bits of 254. Assumes nothing.
use mathlib.Core.Path.{refl}
use Rattle.value.specs.Types.{family_of, metadata_bytes}
use Rattle.value.specs.Columns.{declared_length, shape_of, is_taken}
use Rattle.value.specs.Domains.{domain}
use Rattle.value.specs.Shapes.{need}
use Rattle.value.specs.Reading.{read_value}
use Rattle.value.specs.Storing.{write_value}
use Rattle.value.proofs.Charts.{year_read}
use Rattle.value.proofs.Bits.{real_or, real_small, real_digit, length_xor, xor_small, xor_digit}
use Rattle.map_check.specs.Columns.{take_columns}
use Rattle.promises.specs.Tables.{EachRow, done, ◌and◌, IsStored}
use Rattle.promises.specs.Metadata.{OneByte, one_byte, FirstBytes, first_bytes, SecondBytes, second_bytes, values, Metadata}
use Rattle.promises.specs.Metadata.{DecimalTakes, decimals, BitTakes, bits, Declares, declared_lengths}

one_byte_lem : EachRow OneByte one_byte
unfolding one_byte take_columns
one_byte_lem =
    refl and refl and refl and refl and refl and refl and refl and refl and refl and refl and refl and refl and done

first_bytes_lem : EachRow FirstBytes first_bytes
unfolding first_bytes take_columns
first_bytes_lem =
    refl and refl and refl and refl and refl and refl and refl and refl and refl and done

second_bytes_lem : EachRow SecondBytes second_bytes
unfolding second_bytes take_columns
second_bytes_lem =
    refl and refl and refl and refl and refl and refl and refl and refl and refl and refl and refl and refl and refl and refl
    and done

stored_values : EachRow IsStored values
unfolding values shape_of read_value write_value
stored_values =
    refl and refl and refl and refl and refl and refl and refl and refl and refl and refl and refl and refl and refl and refl
    and refl and refl and refl and refl and refl and refl and refl and refl and refl and refl and refl and refl and refl
    and refl and refl and refl and refl and refl and refl and refl and refl and refl and refl and refl and refl and refl
    and refl and refl and refl and refl and refl and refl and refl and refl and refl and refl and refl and refl and refl
    and refl and refl and refl and refl and refl and refl and refl and refl and refl and refl and refl and refl and refl
    and refl and refl and refl and refl and refl and refl and refl and refl and refl and refl and refl and refl and refl
    and refl and refl and refl and refl and refl and refl and refl and refl and refl and refl and refl and refl and refl
    and refl and refl and refl and refl and refl and refl and refl and refl and refl and refl and refl and refl and refl
    and refl and refl and refl and refl and refl and refl and refl and refl and refl and refl and refl and refl and refl
    and refl and refl and refl and refl and refl and refl and refl and refl and refl and refl and refl and refl and done

decimal_sizes : EachRow DecimalTakes decimals
unfolding decimals shape_of need
decimal_sizes =
    refl and refl and refl and refl and refl and refl and refl and refl and refl and refl and refl and refl and refl and refl
    and refl and refl and refl and refl and refl and refl and refl and refl and refl and refl and refl and refl and refl
    and refl and refl and refl and refl and done

declared_lengths_lem : EachRow Declares declared_lengths
unfolding declared_lengths declared_length
declared_lengths_lem = refl and refl and refl and refl and refl and refl and refl and refl and refl and done

bit_sizes : EachRow BitTakes bits
unfolding bits shape_of need
bit_sizes =
    refl and refl and refl and refl and refl and refl and refl and refl and refl and refl and refl and refl and refl and refl
    and refl and refl and done

pub metadata : Metadata
unfolding take_columns shape_of is_taken domain write_value declared_length family_of metadata_bytes
metadata =
    record {
      types_taken = refl;
      types_0 = refl;
      types_1 = refl;
      types_2 = refl;
      bytes_1 = refl;
      bytes_2 = refl;
      bytes_0 = refl;
      one_byte_lem = one_byte_lem;
      first_bytes_lem = first_bytes_lem;
      second_bytes_lem = second_bytes_lem;
      all_firsts = refl and refl and refl and refl and refl and refl and done;
      all_seconds = refl and refl and refl and refl and done;
      lone_types = refl;
      lone_254 = refl;
      stored_values = stored_values;
      years = λ b h l. year_read b h;
      no_1900 = refl;
      most_bytes = refl;
      more_bytes = refl;
      other_size = refl;
      not_lent = refl;
      decimal_sizes = decimal_sizes;
      bit_sizes = bit_sizes;
      declared_lengths_lem = declared_lengths_lem;
      declared_types = refl;
      real_type_lem = real_or;
      real_digits = λ m0 h. record { small = real_small m0 h; each = λ j l. real_digit m0 j h l };
      declared_length_lem = length_xor;
      length_digits = λ m0 h. record { small = xor_small m0 h; each = λ j l. xor_digit m0 j h l };
    }
