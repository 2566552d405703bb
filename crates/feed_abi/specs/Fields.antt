-- What each call over the parts, the optional fields and the lists of a map answers: the rule of the library's call, its answer in numbers.
-- Assumes nothing.
use Rattle.std.specs.Prelude.{ℕ, cond, List, [], ◌∷◌, ◌++◌, eqb, Some}
use Rattle.wire.specs.Outcome.{Outcome, ok, refuse, after}
use Rattle.wire.specs.declared.part.Part.{Part}
use Rattle.wire.specs.Parts.{lent_part}
use Rattle.value.specs.declared.classes.Dialect.{Dialect}
use Rattle.table_map.specs.declared.event.Event.{Event}
use Rattle.table_map.specs.declared.field.Fields.{Fields}
use Rattle.table_map.specs.Events.{read_event}
use Rattle.table_map.specs.Fields.{count_sign_bits, field_step}
use Rattle.table_map.specs.Lists.{Stepped, end, item, step, integer_item, pair_item, string_item, group_item}
use Rattle.map_check.specs.Fields.{fields_at}
use Rattle.feed_abi.specs.Calls.{said, part_numbers, dialect_of}

-- ---- the parts of an event that are bytes for its columns: types, metadata, nullable bits, and the optional fields
abbrev pub parts_numbers : Event → List ℕ
parts_numbers e = part_numbers e.types ++ (part_numbers e.metadata ++ (part_numbers e.bits ++ part_numbers e.optional))

unfoldable pub feed_parts : List ℕ → ℕ → Outcome (List ℕ)
unfolding read_event
feed_parts event post_header = said parts_numbers (read_event event post_header)

-- ---- the walk over the optional fields
abbrev pub fields_from : ℕ → ℕ → ℕ → Fields
fields_from offset numeric columns = record { at = offset; numeric = numeric; columns = columns }

abbrev pub fields_numbers : Fields → List ℕ
fields_numbers c = c.at ∷ (c.numeric ∷ (c.columns ∷ []))

-- the cursor at the first field of a map
abbrev pub fields_of : Dialect → List ℕ → ℕ → Outcome Fields
fields_of d event post_header =
    after (read_event event post_header) (λ e. ok (fields_at d (lent_part event e.types) e.optional.start))

unfoldable pub feed_fields : List ℕ → ℕ → ℕ → Outcome (List ℕ)
unfolding dialect_of read_event count_sign_bits
feed_fields event post_header d = after (dialect_of d) (λ d. said fields_numbers (fields_of d event post_header))

-- 1, its type, start and length of its value, and where the next stands, whose counts are the same; zeros are the end
abbrev pub field_numbers : Stepped (ℕ × Part) Fields → List ℕ
field_numbers end = 0 ∷ (0 ∷ (0 ∷ (0 ∷ (0 ∷ []))))
field_numbers (Some (f, next)) = 1 ∷ (f.0 ∷ (f.1.start ∷ (f.1.len ∷ (next.at ∷ []))))

-- a step from any cursor
unfoldable pub feed_field : List ℕ → ℕ → ℕ → ℕ → Outcome (List ℕ)
unfolding field_step
feed_field event offset numeric columns = said field_numbers (field_step (fields_from offset numeric columns) event)

-- ---- the lists in a field's value
-- a step over any of them, its item as two numbers
abbrev pub step_in_two : {A : Type 0} → (A → ℕ × ℕ) → Stepped A ℕ → Stepped (ℕ × ℕ) ℕ
step_in_two f end = end
step_in_two f (Some (a, next)) = item (f a) next

abbrev pub in_two : {A : Type 0} → (A → ℕ × ℕ) → Outcome (Stepped A ℕ) → Outcome (Stepped (ℕ × ℕ) ℕ)
in_two f o = after o (λ x. ok (step_in_two f x))

-- 1 integers: the integer, and 0; 2 pairs: both; 3 strings: start and length; 4 groups: how many strings, and where the first stands; 13
-- for a list that there is not
unfoldable pub item_at : ℕ → List ℕ → ℕ → Outcome (Stepped (ℕ × ℕ) ℕ)
unfolding step pair_item group_item
item_at list value offset =
    cond (eqb list 1) (in_two (λ n. (n, 0)) (step integer_item value offset))
    (cond (eqb list 2) (in_two (λ p. p) (step pair_item value offset))
    (cond (eqb list 3) (in_two (λ s. (s.start, s.len)) (step string_item value offset))
    (cond (eqb list 4) (in_two (λ g. g) (step group_item value offset))
    (refuse 13 0))))

-- 1, the two numbers of the item, and where the next stands; zeros are the end
abbrev pub item_numbers : Stepped (ℕ × ℕ) ℕ → List ℕ
item_numbers end = 0 ∷ (0 ∷ (0 ∷ (0 ∷ [])))
item_numbers (Some (x, next)) = 1 ∷ (x.0 ∷ (x.1 ∷ (next ∷ [])))

-- a step from any offset
unfoldable pub feed_item : ℕ → List ℕ → ℕ → Outcome (List ℕ)
unfolding item_at
feed_item list value offset = said item_numbers (item_at list value offset)
