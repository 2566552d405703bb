-- The optional fields "one by one, contents in full": "a type stands at most once; not both 2 and 3, 10 and 11, 8 and 9". Assumes nothing.
use Rattle.std.specs.Prelude.{None, Option, Some}
use Rattle.std.specs.Prelude.{ℕ, zero, suc, ◌-◌, Bool, false, cond, ◌&&◌, ◌||◌, not, List, [], ◌∷◌, length, eqb}
use Rattle.wire.specs.Outcome.{Outcome, ok, refused, refuse, after}
use Rattle.wire.specs.declared.part.Part.{Part}
use Rattle.wire.specs.Parts.{lent_part}
use Rattle.value.specs.declared.classes.Dialect.{Dialect}
use Rattle.table_map.specs.declared.field.Fields.{Fields as FieldCursor}
use Rattle.table_map.specs.Lists.{Stepped, end, step, ItemsWalked, walk_items}
use Rattle.table_map.specs.Fields.{field_item, count_sign_bits}
use Rattle.map_check.specs.declared.rank.Ranks.{Ranks}
use Rattle.map_check.specs.Contents.{contents_full}

-- whether a type stood before; `Keys` asks the same of a key
unfoldable pub stood : ℕ → List ℕ → Bool
stood kind [] = false
stood kind (k ∷ ks) = eqb k kind || stood kind ks

-- the type that may not stand beside one; there is no type 0
unfoldable pub rival_of : ℕ → ℕ
rival_of kind =
    cond (eqb kind 2) 3 (cond (eqb kind 3) 2 (cond (eqb kind 10) 11 (cond (eqb kind 11) 10 (cond (eqb kind 8) 9 (cond (eqb kind 9) 8 0)))))

-- whether a field may stand, given whether its type and its rival stood before it
unfoldable pub stands_given : Ranks → ℕ → List ℕ → Bool → Bool → ℕ × Part → Bool
unfolding contents_full
stands_given sizes n s twice rivalled f = not twice && (not rivalled && contents_full sizes n f.0 (lent_part s f.1))

-- so, behind fields of some types
abbrev pub stands_behind : Ranks → ℕ → List ℕ → List ℕ → ℕ × Part → Bool
stands_behind sizes n s before f = stands_given sizes n s (stood f.0 before) (stood (rival_of f.0) before) f

-- the field that a step met at `at`, and those behind it
abbrev pub keep : (ℕ → ℕ → Outcome (List (ℕ × Part))) → (ℕ × Part → Bool) → ℕ → Outcome (Stepped (ℕ × Part) ℕ) → Outcome (List (ℕ × Part))
keep rest p at (ok end) = ok []
keep rest p at (ok (Some (f, next))) = cond (p f) (after (rest f.0 next) (λ fs. ok (f ∷ fs))) (refuse 7 at)
keep rest p at (refused r) = refused r

-- at most m fields, which are enough if m is more than the bytes left
unfoldable pub keep_steps : ℕ → Ranks → FieldCursor → List ℕ → List ℕ → ℕ → Outcome (List (ℕ × Part))
unfolding step field_item stood rival_of stands_given
keep_steps zero sizes c s before at = ok []
keep_steps (suc m) sizes c s before at =
    keep (λ kind next. keep_steps m sizes c s (kind ∷ before) next) (stands_behind sizes c.columns s before) at
    (step (field_item c.numeric c.columns) s at)

-- all of them from a place on, behind fields of some types; s is the event, so that places are places in it
abbrev pub keep_from : Ranks → FieldCursor → List ℕ → List ℕ → ℕ → Outcome (List (ℕ × Part))
keep_from sizes c s before at = keep_steps (suc (length s - at)) sizes c s before at

-- and from where a walk stands
abbrev pub keep_fields : Ranks → FieldCursor → List ℕ → Outcome (List (ℕ × Part))
keep_fields sizes c s = keep_from sizes c s [] c.at

-- ---- the value of the first field of a type
unfoldable pub first_of : ℕ → List (ℕ × Part) → Option Part
first_of kind [] = None
first_of kind (f ∷ fs) = cond (eqb f.0 kind) (Some f.1) (first_of kind fs)

abbrev pub value_in : List ℕ → Option Part → List ℕ
value_in s (Some p) = lent_part s p
value_in s None = []

-- the cursor at the first optional field of a map with these types
abbrev pub fields_at : Dialect → List ℕ → ℕ → FieldCursor
fields_at d types at = record { at = at; numeric = count_sign_bits d types; columns = length types }

-- the walk over the fields from a cursor on, and the fields that it meets, up to its end or to a refusal
abbrev pub walk_fields : FieldCursor → List ℕ → ItemsWalked (ℕ × Part)
walk_fields c s = walk_items (field_item c.numeric c.columns) s c.at
