-- Optional fields: "Type byte, packed length, value. The value is cut out first, then type, then contents judged." "The walk judges
-- contents only so: 1 holds ceil(numeric/8) bytes and 12 ceil(n/8), no more; 2 and 10 start with a packed integer." Assumes nothing.
use Rattle.std.specs.Prelude.{ℕ, ◌+◌, Bool, true, false, cond, ◌&&◌, ◌||◌, Some, List, [], ◌∷◌, length, get_or, leb, eqb}
use Rattle.wire.specs.Bits.{bytes_for}
use Rattle.wire.specs.Outcome.{Outcome, ok, refused, refuse, after}
use Rattle.wire.specs.Packed.{read_packed}
use Rattle.wire.specs.declared.part.Part.{Part}
use Rattle.wire.specs.Parts.{lent_part, within}
use Rattle.value.specs.declared.classes.Dialect.{Dialect}
use Rattle.value.specs.Classes.{has_sign_bit}
use Rattle.table_map.specs.declared.field.Fields.{Fields}
use Rattle.table_map.specs.Parts.{long_part}
use Rattle.table_map.specs.Lists.{Rule, Stepped, end, item, step}

-- how many signedness bits a column of the type has
unfoldable pub sign_bits : Dialect → ℕ → ℕ
unfolding has_sign_bit
sign_bits d t = cond (has_sign_bit d t) 1 0

-- how many of the types have one
unfoldable pub count_sign_bits : Dialect → List ℕ → ℕ
unfolding sign_bits
count_sign_bits d [] = 0
count_sign_bits d (t ∷ types) = sign_bits d t + count_sign_bits d types

-- "Types: 1 signedness .. 13 vector dimensions"
abbrev pub is_field : ℕ → Bool
is_field kind = leb 1 kind && leb kind 13

abbrev pub is_read : {A : Type 0} → Outcome A → Bool
is_read (ok a) = true
is_read (refused r) = false

unfoldable pub contents_hold : ℕ → ℕ → ℕ → List ℕ → Bool
unfolding read_packed
contents_hold numeric columns kind value =
    cond (eqb kind 1) (eqb (length value) (bytes_for numeric))
    (cond (eqb kind 12) (eqb (length value) (bytes_for columns))
    (cond (eqb kind 2 || eqb kind 10) (is_read (read_packed value 0))
    true))

-- a field cut out at a place: its type byte and its value, whatever they are. 1 at the place for no type byte, 1 or 2 at the length behind
-- it
unfoldable pub cut_field : Rule (ℕ × Part)
unfolding within long_part
cut_field s at = after (within s at 1 at) (λ a. after (long_part s a) (λ v. ok ((get_or s at 0, v.0), v.1)))

-- and judged, its type and then its contents: 6 or 7 at the place
unfoldable pub judge_field : ℕ → ℕ → List ℕ → ℕ → ℕ × Part → Outcome (Unit {0})
unfolding contents_hold
judge_field numeric columns s at f =
    cond (is_field f.0)
    (cond (contents_hold numeric columns f.0 (lent_part s f.1)) (ok tt) (refuse 7 at))
    (refuse 6 at)

-- the field at a place: cut out, then judged
unfoldable pub field_item : ℕ → ℕ → Rule (ℕ × Part)
unfolding cut_field judge_field
field_item numeric columns s at = after (cut_field s at) (λ x. after (judge_field numeric columns s at x.0) (λ held. ok x))

-- a step's answer with a cursor for its place: moved on, with the same counts
abbrev pub with_cursor : Fields → Stepped (ℕ × Part) ℕ → Stepped (ℕ × Part) Fields
with_cursor c end = end
with_cursor c (Some (field, next)) = item field (record { at = next; numeric = c.numeric; columns = c.columns })

-- a step of the walk, from a cursor
unfoldable pub field_step : Fields → List ℕ → Outcome (Stepped (ℕ × Part) Fields)
unfolding step field_item
field_step c s = after (step (field_item c.numeric c.columns) s c.at) (λ x. ok (with_cursor c x))
