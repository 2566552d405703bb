-- Names of columns: "A column's name comes from the map's names field if that is not empty, else from the operator's list lent beside it,
-- in the same layout, read no further; 14 if it ends first." Assumes nothing.
use Rattle.std.specs.Prelude.{None, Option, Some}
use Rattle.std.specs.Prelude.{ℕ, zero, suc, cond, List, [], length, eqb}
use Rattle.wire.specs.Outcome.{Outcome, ok, refused, refuse, after}
use Rattle.wire.specs.declared.part.Part.{Part}
use Rattle.wire.specs.Parts.{lent_part}
use Rattle.value.specs.declared.classes.Dialect.{Dialect}
use Rattle.table_map.specs.Events.{read_event}
use Rattle.table_map.specs.Lists.{Stepped, end, step, Ended, whole, broken, ItemsWalked, string_item}
use Rattle.map_check.specs.declared.rank.TablePlace.{TablePlace}
use Rattle.map_check.specs.Fields.{first_of, fields_at, walk_fields}

-- the list that is looked at
unfoldable pub list_of : List ℕ → List ℕ → List ℕ
list_of names operator = cond (eqb (length names) 0) operator names

-- the string that a step met, or 14 at the column asked
abbrev pub met_string : {A : Type 0} → (Part → ℕ → Outcome A) → ℕ → Outcome (Stepped Part ℕ) → Outcome A
met_string found asked (ok end) = refuse 14 asked
met_string found asked (ok (Some (p, next))) = found p next
met_string found asked (refused r) = refused r

-- string i from a place on
unfoldable pub string_at : ℕ → ℕ → List ℕ → ℕ → Outcome Part
unfolding step
string_at zero asked s at = met_string (λ p next. ok p) asked (step string_item s at)
string_at (suc i) asked s at = met_string (λ p next. string_at i asked s next) asked (step string_item s at)

-- the name, as a part of the list that is looked at
unfoldable pub column_name : List ℕ → List ℕ → TablePlace → Outcome Part
unfolding list_of string_at
column_name names operator column = string_at column.0 column.0 (list_of names operator) 0

-- its bytes, none where it is refused
abbrev pub name_in : List ℕ → Outcome Part → List ℕ
name_in s (ok p) = lent_part s p
name_in s (refused r) = []

-- ---- the names field of a map: the first field of type 4 that the walk over its optional fields meets. Three answers are kept apart: its
-- value, which may be empty; that there is none, where the walk comes to its end without one; and the refusal of the event or of the walk
-- that comes before it. What stands behind the field is not looked at, as a list is "read no further" than the name

-- a field that was met, or else how the walk ended
abbrev pub or_ended : Option Part → Ended → Outcome (Option Part)
or_ended (Some p) how = ok (Some p)
or_ended None whole = ok None
or_ended None (broken r) = refused r

-- the names among the fields of a walk
abbrev pub names_in : ItemsWalked (ℕ × Part) → Outcome (Option Part)
names_in w = or_ended (first_of 4 w.items) w.how

-- and among those of a map
abbrev pub names_field : Dialect → List ℕ → ℕ → Outcome (Option Part)
names_field d s post_header =
    after (read_event s post_header) (λ e. names_in (walk_fields (fields_at d (lent_part s e.types) e.optional.start) s))
