-- Names of columns: "A column's name comes from the map's names field if that is not empty, else from the operator's list lent beside it,
-- in the same layout, read no further; 14 if it ends first." First of any bytes, then of a map that the check accepts, asked in the dialect
-- that it was checked in: its names are not refused, and where they are told each column has its own, whatever the operator's list is. So
-- that list is looked at only for a map that has no names field, or no columns. `named` in proofs/Demand3/Names.antt proves it. Assumes
-- nothing.
use Rattle.std.specs.Prelude.{ℕ, ◌≤◌, ◌<◌, ◌≡◌, ◌⊎◌, List, [], length, get_or}
use Rattle.std.specs.Prelude.{None as none, Some as some}
use Rattle.wire.specs.declared.refusal.Refusal.{Refusal}
use Rattle.wire.specs.Outcome.{Outcome, ok, refused, refuse}
use Rattle.wire.specs.declared.part.Part.{Part}
use Rattle.wire.specs.Parts.{part, lent_part}
use Rattle.value.specs.declared.classes.Dialect.{Dialect}
use Rattle.table_map.specs.declared.event.Event.{Event}
use Rattle.table_map.specs.Events.{read_event}
use Rattle.table_map.specs.Lists.{string_item}
use Rattle.record.specs.declared.entry.Entry.{Entry}
use Rattle.map_check.specs.Ranks.{table_place}
use Rattle.map_check.specs.Check.{check_map}
use Rattle.map_check.specs.Names.{column_name, names_field}
use Rattle.map_check.specs.Passes.{Member, Between, ItemsAre, Field, FieldsAre, Absent}

-- the names of columns are looked for in this list
pub record LooksIn (list : List ℕ) (name : ℕ → Outcome Part) : Type 0 where
  -- string j is column j's, whatever stands behind the strings that lie end to end from the list's start
  pub string : {to : ℕ} {items : List Part} → Between string_item list 0 to items → (j : ℕ) → j < length items
      → name j ≡ ok (get_or items j (part 0 0))
  -- 14 at the column asked, where the list ends first
  pub ended : {items : List Part} → ItemsAre string_item list items → (j : ℕ) → length items ≤ j → name j ≡ refuse 14 j
  -- the refusal of a string that cannot be read, where that comes first
  pub broken : {to : ℕ} {items : List Part} {w : Refusal} → Between string_item list 0 to items → to < length list
      → string_item list to ≡ refused w → (j : ℕ) → length items ≤ j → name j ≡ refused w

pub record Named : Type 0 where
  -- ---- whatever the bytes are
  -- names that are not empty are the list, whatever the operator's is
  pub in_names : (names operator : List ℕ) → 0 < length names → LooksIn names (λ j. column_name names operator (table_place j))
  -- else it is the operator's
  pub in_operator : (operator : List ℕ) → LooksIn operator (λ j. column_name [] operator (table_place j))
  -- ---- a map that is accepted
  -- its names are the value of its field 4, or it has no such field
  pub known : (d : Dialect) (event : List ℕ) (post_header : ℕ) (e : Event) (es : List Entry) (fields : List Field)
      → read_event event post_header ≡ ok e → check_map d event post_header ≡ ok es → FieldsAre event e.optional.start fields
      → ((names : Part) × (names_field d event post_header ≡ ok (some names)) × Member (4, lent_part event names) fields)
      ⊎ ((names_field d event post_header ≡ ok none) × Absent 4 fields)
  -- they are a string for each column, as many as the event's type bytes, and string j is column j's
  pub each : (d : Dialect) (event : List ℕ) (post_header : ℕ) (e : Event) (es : List Entry) (names : Part)
      → read_event event post_header ≡ ok e → check_map d event post_header ≡ ok es → names_field d event post_header ≡ ok (some names)
      → (items : List Part) × ItemsAre string_item (lent_part event names) items × (length items ≡ length (lent_part event e.types))
      × ((operator : List ℕ) (j : ℕ) → j < length items
      → column_name (lent_part event names) operator (table_place j) ≡ ok (get_or items j (part 0 0)))
