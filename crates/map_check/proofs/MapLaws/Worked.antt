-- Document 01's worked event and its record, computed on the definitions. Assumes nothing.
use Prim.Native.Nat.{ℕ}
use mathlib.Core.Path.{◌≡◌, refl}
use mathlib.Core.List.{List, [], ◌∷◌}
use Rattle.wire.specs.Outcome.{ok, after}
use Rattle.wire.specs.Parts.{within}
use Rattle.value.specs.declared.classes.Dialect.TheVariants.{Document}
use Rattle.wire.specs.Number.{le_value, le_bytes}
use Rattle.wire.specs.Packed.{read_packed, packed_form, long_form}
use Rattle.wire.specs.Bits.{digit, bit_lsb0, bit_msb0}
use Rattle.value.specs.Types.{family_of, is_known, metadata_bytes, real_type, is_numeric}
use Rattle.value.specs.Columns.{leftover_bytes, decimal_bytes, shape_in, shape_of, is_taken}
use Rattle.value.specs.Classes.{has_sign_bit, is_character, has_charset, is_enum_or_set}
use Rattle.table_map.specs.Parts.{short_part, long_part}
use Rattle.table_map.specs.Events.{read_names, read_columns, read_event}
use Rattle.table_map.specs.Lists.{step, walk_steps, pair_item, strings, group_item}
use Rattle.table_map.specs.Fields.{sign_bits, count_sign_bits, contents_hold, cut_field, judge_field, field_item, field_step}
use Rattle.record.specs.Entries.{entry_bytes}
use Rattle.record.specs.Records.{head_bytes, entries_bytes, record_bytes}
use Rattle.map_check.specs.Columns.{meta_byte, declared, is_real, is_accepted, take_column, take_columns}
use Rattle.map_check.specs.Ranks.{ranks_after, ranks_from}
use Rattle.map_check.specs.Contents.{every, list_holds, exactly, is_charset, integer_holds, pairs_hold, pairs_whole, default_holds, key_item}
use Rattle.map_check.specs.Contents.{contents_full}
use Rattle.map_check.specs.Fields.{stood, rival_of, stands_given, keep_steps, first_of}
use Rattle.map_check.specs.Keys.{with_place, keys_once, keys_hold}
use Rattle.map_check.specs.Profile.{pair_or, charset_by, charset_for, flags_of, entries_from}
use Rattle.map_check.specs.Check.{few_enough, check_event, check_map}

-- three columns: INT, VARCHAR(20) that may be NULL, TINYINT UNSIGNED
abbrev event : List ℕ
event =
    0x2a ∷ 0 ∷ 0 ∷ 0 ∷ 0 ∷ 0 ∷ 1 ∷ 0 ∷ 1 ∷ 0x74 ∷ 0 ∷ 1 ∷ 0x72 ∷ 0 ∷ 3 ∷ 3 ∷ 0x0f ∷ 1 ∷ 2 ∷ 0x14 ∷ 0 ∷ 2 ∷ 1 ∷ 1 ∷ 0x40 ∷ []

worked :
    after (check_map Document event 8) (λ es. ok (record_bytes es))
    ≡ ok (0x18 ∷ 0 ∷ 1 ∷ 0 ∷ 3 ∷ 0 ∷ 3 ∷ 0x0c ∷ 0 ∷ 0 ∷ 0 ∷ 0 ∷ 0x0f ∷ 0x0a ∷ 0x14 ∷ 0 ∷ 0 ∷ 0 ∷ 1 ∷ 0x0d ∷ 0 ∷ 0 ∷ 0 ∷ 0 ∷ [])
unfolding le_value le_bytes read_packed packed_form long_form digit bit_lsb0 bit_msb0 family_of is_known metadata_bytes real_type leftover_bytes
    decimal_bytes shape_in shape_of is_taken is_numeric has_sign_bit is_character has_charset is_enum_or_set within short_part long_part read_names
    read_columns read_event step walk_steps pair_item strings group_item sign_bits count_sign_bits contents_hold cut_field judge_field field_item
    field_step entry_bytes head_bytes entries_bytes record_bytes meta_byte declared is_real is_accepted take_column take_columns ranks_after ranks_from
    every list_holds exactly is_charset integer_holds pairs_hold pairs_whole default_holds key_item contents_full stood rival_of stands_given
    keep_steps first_of with_place keys_once keys_hold pair_or charset_by charset_for flags_of entries_from few_enough check_event check_map
worked = refl
