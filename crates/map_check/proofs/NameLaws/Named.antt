-- Names and fields, computed on the definitions. Assumes nothing.
use Rattle.std.specs.Prelude.{None, Some}
use Prim.Native.Nat.{ℕ}
use mathlib.Core.Path.{◌≡◌, refl}
use mathlib.Core.List.{List, [], ◌∷◌}
use Rattle.wire.specs.Outcome.{ok, refuse}
use Rattle.wire.specs.Packed.{read_packed, packed_form}
use Rattle.wire.specs.Number.{le_value}
use Rattle.wire.specs.Parts.{part, within}
use Rattle.value.specs.Types.{family_of, is_numeric}
use Rattle.value.specs.Classes.{has_sign_bit}
use Rattle.value.specs.declared.classes.Dialect.TheVariants.{Document, Mysql}
use Rattle.table_map.specs.declared.field.Fields.{Fields as FieldCursor}
use Rattle.table_map.specs.Parts.{short_part, long_part}
use Rattle.table_map.specs.Events.{read_names, read_columns, read_event}
use Rattle.table_map.specs.Lists.{step, walk_steps}
use Rattle.table_map.specs.Fields.{sign_bits, count_sign_bits, contents_hold, cut_field, judge_field, field_item}
use Rattle.map_check.specs.Ranks.{table_place, no_ranks}
use Rattle.map_check.specs.Contents.{every, list_holds, exactly, key_item, contents_full}
use Rattle.map_check.specs.Fields.{stood, rival_of, stands_given, keep_steps, keep_fields, first_of}
use Rattle.map_check.specs.Names.{list_of, string_at, column_name, name_in, names_field}

-- ---- names: "a" and "bc" in the map, "x" and "y" in the operator's list
abbrev names : List ℕ
names = 1 ∷ 97 ∷ 2 ∷ 98 ∷ 99 ∷ []

abbrev operator : List ℕ
operator = 1 ∷ 120 ∷ 1 ∷ 121 ∷ []

-- the map's names go first
in_names : column_name names operator (table_place 1) ≡ ok (part 3 2)
unfolding column_name list_of string_at step long_part within read_packed packed_form
in_names = refl

in_names_bytes : name_in (list_of names operator) (column_name names operator (table_place 1)) ≡ 98 ∷ 99 ∷ []
unfolding column_name list_of string_at step long_part within read_packed packed_form
in_names_bytes = refl

-- where there are none, the operator's list
in_operator : column_name [] operator (table_place 1) ≡ ok (part 3 1)
unfolding column_name list_of string_at step long_part within read_packed packed_form
in_operator = refl

in_operator_bytes : name_in (list_of [] operator) (column_name [] operator (table_place 1)) ≡ 121 ∷ []
unfolding column_name list_of string_at step long_part within read_packed packed_form
in_operator_bytes = refl

-- a list that ends first is 14 at the column asked, be it ever so large, and names that are too few are not made up for by the operator's
-- list
ends_first : column_name (1 ∷ 97 ∷ []) operator (table_place 1) ≡ refuse 14 1
unfolding column_name list_of string_at step long_part within read_packed packed_form
ends_first = refl

far_off : column_name names operator (table_place 18446744073709551615) ≡ refuse 14 18446744073709551615
unfolding column_name list_of string_at step long_part within read_packed packed_form
far_off = refl

-- a string cut short is 1 at its length, a length that is none 2, at their places in the list
cut : column_name (1 ∷ 97 ∷ 5 ∷ 98 ∷ []) operator (table_place 1) ≡ refuse 1 2
unfolding column_name list_of string_at step long_part within read_packed packed_form
cut = refl

no_length : column_name [] (1 ∷ 97 ∷ 255 ∷ []) (table_place 2) ≡ refuse 2 2
unfolding column_name list_of string_at step long_part within read_packed packed_form
no_length = refl

-- but what stands behind the name is not read
no_further : column_name (1 ∷ 97 ∷ 255 ∷ []) operator (table_place 0) ≡ ok (part 1 1)
unfolding column_name list_of string_at step long_part within read_packed packed_form
no_further = refl

-- ---- the names field of a map with one column of the type, whose optional bytes stand at 18
abbrev event : ℕ → List ℕ → List ℕ
event kind optional = 1 ∷ 0 ∷ 0 ∷ 0 ∷ 0 ∷ 0 ∷ 1 ∷ 0 ∷ 1 ∷ 0x74 ∷ 0 ∷ 1 ∷ 0x72 ∷ 0 ∷ 1 ∷ kind ∷ 0 ∷ 0 ∷ optional

record NamesFields : Type 0 where
  -- behind another field
  found : names_field Document (event 1 (1 ∷ 1 ∷ 128 ∷ 4 ∷ 2 ∷ 1 ∷ 97 ∷ [])) 8 ≡ ok (Some (part 23 2))
  -- a field that is there and has no bytes, and none
  empty : names_field Document (event 1 (4 ∷ 0 ∷ [])) 8 ≡ ok (Some (part 20 0))
  absent : names_field Document (event 1 (1 ∷ 1 ∷ 128 ∷ [])) 8 ≡ ok None
  -- the first of two
  first : names_field Document (event 1 (4 ∷ 0 ∷ 4 ∷ 2 ∷ 1 ∷ 97 ∷ [])) 8 ≡ ok (Some (part 20 0))
  -- a field of unknown type before it is a refusal, and one behind it is not looked at
  before : names_field Document (event 1 (14 ∷ 0 ∷ 4 ∷ 2 ∷ 1 ∷ 97 ∷ [])) 8 ≡ refuse 6 18
  behind : names_field Document (event 1 (4 ∷ 2 ∷ 1 ∷ 97 ∷ 14 ∷ 0 ∷ [])) 8 ≡ ok (Some (part 20 2))
  -- a YEAR has a signedness bit on a server and none by the letter, so in the wrong dialect its map is refused before its names
  in_dialect : names_field Mysql (event 13 (1 ∷ 1 ∷ 128 ∷ 4 ∷ 2 ∷ 1 ∷ 97 ∷ [])) 8 ≡ ok (Some (part 23 2))
  in_another : names_field Document (event 13 (1 ∷ 1 ∷ 128 ∷ 4 ∷ 2 ∷ 1 ∷ 97 ∷ [])) 8 ≡ refuse 7 18
  -- an event that is refused
  cut : names_field Document (1 ∷ 0 ∷ 0 ∷ []) 8 ≡ refuse 1 0

names_fields : NamesFields
unfolding read_event read_names read_columns le_value read_packed packed_form within short_part long_part step walk_steps sign_bits count_sign_bits
    has_sign_bit is_numeric family_of contents_hold cut_field judge_field field_item first_of
names_fields = record {
  found = refl;
  empty = refl;
  absent = refl;
  first = refl;
  before = refl;
  behind = refl;
  in_dialect = refl;
  in_another = refl;
  cut = refl;
}

-- ---- fields of a map with no columns: two that may stand side by side, one that stands twice, and one beside its rival
abbrev first : FieldCursor
first = record { at = 0; numeric = 0; columns = 0 }

side_by_side : keep_fields no_ranks first (8 ∷ 0 ∷ 12 ∷ 0 ∷ []) ≡ ok ((8, part 2 0) ∷ (12, part 4 0) ∷ [])
unfolding keep_steps step field_item cut_field judge_field contents_hold long_part within read_packed packed_form stands_given stood rival_of
    contents_full exactly list_holds every walk_steps key_item
side_by_side = refl

twice : keep_fields no_ranks first (12 ∷ 0 ∷ 8 ∷ 0 ∷ 12 ∷ 0 ∷ []) ≡ refuse 7 4
unfolding keep_steps step field_item cut_field judge_field contents_hold long_part within read_packed packed_form stands_given stood rival_of
    contents_full exactly list_holds every walk_steps key_item
twice = refl

rival : keep_fields no_ranks first (9 ∷ 0 ∷ 8 ∷ 0 ∷ []) ≡ refuse 7 2
unfolding keep_steps step field_item cut_field judge_field contents_hold long_part within read_packed packed_form stands_given stood rival_of
    contents_full exactly list_holds every walk_steps key_item
rival = refl
