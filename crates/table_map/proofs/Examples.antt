-- Examples, computed from the definitions. Assumes nothing.
use mathlib.Core.Path.{◌≡◌, refl}
use mathlib.Core.List.{[], ◌∷◌}
use Rattle.wire.specs.Outcome.{ok, refuse, why}
use Rattle.wire.specs.Number.{le_value}
use Rattle.wire.specs.Packed.{read_packed, packed_form, long_form}
use Rattle.wire.specs.Parts.{part, within}
use Rattle.value.specs.Types.{family_of, is_numeric}
use Rattle.value.specs.Classes.{has_sign_bit}
use Rattle.value.specs.declared.classes.Dialect.TheVariants.{Document, Mysql}
use Rattle.table_map.specs.Parts.{long_part}
use Rattle.table_map.specs.Lists.{whole, broken, step, walk_steps, walk_items, integer_item, pair_item, strings, group_item}
use Rattle.table_map.specs.Fields.{sign_bits, count_sign_bits, contents_hold, cut_field, judge_field, field_item}

-- 1 and 251, the latter in its three bytes
integers : walk_items integer_item (1 ∷ 252 ∷ 251 ∷ 0 ∷ []) 0 ≡ record { items = 1 ∷ 251 ∷ []; how = whole }
unfolding walk_steps step read_packed packed_form long_form le_value
integers = refl

-- a cursor past the bytes
past : walk_items integer_item (1 ∷ []) 2 ≡ record { items = []; how = broken (why 1 2) }
unfolding walk_steps step
past = refl

-- the second integer of a pair has its own place
half_pair : pair_item (7 ∷ 255 ∷ []) 0 ≡ refuse 2 1
unfolding pair_item read_packed packed_form
half_pair = refl

-- groups of two strings, of none, and of one that is not there
groups : walk_items group_item (2 ∷ 1 ∷ 97 ∷ 0 ∷ 0 ∷ 1 ∷ []) 0 ≡ record { items = (2, 1) ∷ (0, 5) ∷ []; how = broken (why 1 6) }
unfolding walk_steps step group_item strings long_part within read_packed packed_form
groups = refl

-- a count of 2^64 - 1 is refused where the first missing string would start
many : group_item (254 ∷ 255 ∷ 255 ∷ 255 ∷ 255 ∷ 255 ∷ 255 ∷ 255 ∷ 255 ∷ 0 ∷ []) 0 ≡ refuse 1 10
unfolding group_item strings long_part within read_packed packed_form long_form le_value
many = refl

-- an INT, a YEAR and a VARCHAR column: which have a signedness bit
counted : count_sign_bits Document (3 ∷ 13 ∷ 15 ∷ []) ≡ 1
unfolding count_sign_bits sign_bits has_sign_bit is_numeric family_of
counted = refl

counted_mysql : count_sign_bits Mysql (3 ∷ 13 ∷ 15 ∷ []) ≡ 2
unfolding count_sign_bits sign_bits has_sign_bit is_numeric family_of
counted_mysql = refl

-- signedness of one column, a field of type 14, and signedness of nine columns in one byte
field : field_item 1 3 (1 ∷ 1 ∷ 128 ∷ []) 0 ≡ ok ((1, part 2 1), 3)
unfolding field_item cut_field judge_field long_part within read_packed packed_form contents_hold
field = refl

unknown : field_item 1 3 (14 ∷ 0 ∷ []) 0 ≡ refuse 6 0
unfolding field_item cut_field judge_field long_part within read_packed packed_form
unknown = refl

too_few : field_item 9 9 (0 ∷ 1 ∷ 1 ∷ 128 ∷ []) 1 ≡ refuse 7 1
unfolding field_item cut_field judge_field long_part within read_packed packed_form contents_hold
too_few = refl

-- the value is cut out before the type is judged
cut_first : field_item 1 3 (14 ∷ 2 ∷ 0 ∷ []) 0 ≡ refuse 1 1
unfolding field_item cut_field judge_field long_part within read_packed packed_form
cut_first = refl

-- and a field that is refused for its type or its contents is cut out all the same, so it can be stepped over
unknown_cut : cut_field (14 ∷ 0 ∷ []) 0 ≡ ok ((14, part 2 0), 2)
unfolding cut_field long_part within read_packed packed_form
unknown_cut = refl

too_few_cut : cut_field (0 ∷ 1 ∷ 1 ∷ 128 ∷ []) 1 ≡ ok ((1, part 3 1), 4)
unfolding cut_field long_part within read_packed packed_form
too_few_cut = refl

-- at the end there is nothing to cut out
none_cut : cut_field (12 ∷ 0 ∷ []) 2 ≡ refuse 1 2
unfolding cut_field within
none_cut = refl
