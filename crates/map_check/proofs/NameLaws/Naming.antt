-- The names of a map that is accepted: they are the value of its field 4, or there are none and no such field stands; and they are a list
-- of a string for each column. Assumes nothing.
use Rattle.std.specs.Prelude.{None, Option, Some}
use Prim.Native.Nat.{ℕ, ◌+◌, ◌<◌}
use mathlib.Core.Path.{◌≡◌, refl, sym, ap, subst, ◌∙◌}
use mathlib.Core.Logic.{◌⊎◌, inl, inr}
use mathlib.Core.Bool.{true}
use mathlib.Core.List.{List, ◌∷◌}
use native.Mathlib.Omega.{arith}
use lib.ListN.{length, get_or, take, drop}
use Rattle.wire.specs.Outcome.{Outcome, ok, after}
use Rattle.wire.specs.declared.part.Part.{Part}
use Rattle.wire.specs.Parts.{part, lent_part}
use Rattle.wire.proofs.Outcomes.{same_ok}
use Rattle.wire.proofs.Forms.{read_moves}
use Rattle.value.specs.declared.classes.Dialect.{Dialect}
use Rattle.table_map.specs.declared.event.Event.{Event}
use Rattle.table_map.specs.declared.field.Fields.{Fields as FieldCursor}
use Rattle.table_map.specs.Events.{read_event}
use Rattle.table_map.specs.Lists.{Ended, whole, walk_items, string_item}
use Rattle.table_map.proofs.Items.{string_moves}
use Rattle.record.specs.declared.entry.Entry.{Entry}
use Rattle.map_check.specs.declared.rank.Ranks.{Ranks}
use Rattle.map_check.specs.Ranks.{table_place, sizes_of}
use Rattle.map_check.specs.Contents.{whatever, contents_full}
use Rattle.map_check.specs.Fields.{keep_fields, first_of, fields_at, walk_fields}
use Rattle.map_check.specs.Check.{check_event, check_map}
use Rattle.map_check.specs.Names.{column_name, or_ended, names_in, names_field}
use Rattle.map_check.specs.Passes.{Member, Distinct, firsts, ItemsAre, Field, FieldsAre, no_field, a_field, Absent}
use Rattle.map_check.proofs.FieldLaws.KeptFields.{kept_walk, kept_first}
use Rattle.map_check.proofs.ContentsLaws.Between.{filled}
use Rattle.map_check.proofs.ContentsLaws.Laid.{exact_laid}
use Rattle.map_check.proofs.FieldLaws.Lined.{bare, found_member, nothing_absent, kept_stood}
use Rattle.map_check.proofs.MapLaws.Relied.{Chain, chained}
use Rattle.map_check.proofs.NameLaws.NameLooks.{laid_found, looks_names}

-- ---- fields that are kept: the walk over them is whole, so the names are among them or there are none
abbrev part_found : Option Part → Option Part
part_found (Some p) = Some p
part_found None = None

whole_found : (f : Option Part) → or_ended f whole ≡ ok (part_found f)
whole_found (Some p) = refl
whole_found None = refl

names_kept : (sizes : Ranks) (c : FieldCursor) (s : List ℕ) (fs : List (ℕ × Part)) → keep_fields sizes c s ≡ ok fs
    → names_in (walk_fields c s) ≡ ok (part_found (first_of 4 fs))
names_kept sizes c s fs e =
    let w = kept_walk sizes c s fs e in
    ap (λ (h : Ended). or_ended (first_of 4 (walk_fields c s).items) h) w.1 ∙ whole_found (first_of 4 (walk_fields c s).items)
    ∙ ap (λ (l : List (ℕ × Part)). ok (part_found (first_of 4 l))) w.0

-- ---- a map that is accepted: the tests that it passed, and its names among the fields that were kept
tested : (d : Dialect) (s : List ℕ) (post_header : ℕ) (e : Event) (es : List Entry) → read_event s post_header ≡ ok e
    → check_map d s post_header ≡ ok es → Chain d s e es
unfolding check_map
tested d s post_header e es r h = chained d s e es (sym (ap (λ (o : Outcome Event). after o (λ e. check_event d s e)) r) ∙ h)

names_of : {d : Dialect} {s : List ℕ} {e : Event} {es : List Entry} (post_header : ℕ) → read_event s post_header ≡ ok e
    → (x : Chain d s e es) → names_field d s post_header ≡ ok (part_found (first_of 4 x.fields))
names_of {d} {s} {e} post_header r x =
    rw r (names_kept (sizes_of d x.columns) (fields_at d (lent_part s e.types) e.optional.start) s x.fields x.kept)

-- ---- the fields of bytes are one row: there is no second way to cut them
pub fields_same : {s : List ℕ} {at : ℕ} {fs gs : List Field} → FieldsAre s at fs → FieldsAre s at gs → fs ≡ gs
fields_same (no_field e) (no_field f) = refl
fields_same {s} {at} (no_field e) (a_field len start r w rest) =
    let m = read_moves s (at + 1) len start r in
    absurd (omega (arith, m.0, m.1, e))
fields_same {s} {at} (a_field len start r w rest) (no_field e) =
    let m = read_moves s (at + 1) len start r in
    absurd (omega (arith, m.0, m.1, e))
fields_same {s} {at} (a_field {fs = fs} len start r w rest) (a_field {fs = gs} len₂ start₂ r₂ w₂ rest₂) =
    let q : ◌≡◌ {A = ℕ × ℕ} (len, start) (len₂, start₂) = same_ok (sym r ∙ r₂) in
    let z = fields_same rest (subst (λ (x : ℕ × ℕ). FieldsAre s (x.1 + x.0) gs) (sym q) rest₂) in
    ap (λ (l : List Field). (get_or s at 0, take len (drop start s)) ∷ l) z
    ∙ ap (λ (x : ℕ × ℕ). (get_or s at 0, take x.0 (drop x.1 s)) ∷ gs) q

-- ---- the names are known: the value of the field that stands, or none stands
told_or_none : (s : List ℕ) (ps : List (ℕ × Part)) (o : Outcome (Option Part)) → Distinct (firsts (bare s ps))
    → o ≡ ok (part_found (first_of 4 ps))
    → ((p : Part) × (o ≡ ok (Some p)) × Member (4, lent_part s p) (bare s ps)) ⊎ ((o ≡ ok None) × Absent 4 (bare s ps))
told_or_none s ps o d n = go (first_of 4 ps) refl
  where
    go : (f : Option Part) → first_of 4 ps ≡ f
        → ((p : Part) × (o ≡ ok (Some p)) × Member (4, lent_part s p) (bare s ps)) ⊎ ((o ≡ ok None) × Absent 4 (bare s ps))
    go (Some p) e = inl (p, n ∙ ap (λ (f : Option Part). ok (part_found f)) e, found_member s ps 4 p e)
    go None e = inr (n ∙ ap (λ (f : Option Part). ok (part_found f)) e, nothing_absent s ps 4 d e)

pub accepted_known : (d : Dialect) (s : List ℕ) (post_header : ℕ) (e : Event) (es : List Entry) (fs : List Field)
    → read_event s post_header ≡ ok e → check_map d s post_header ≡ ok es → FieldsAre s e.optional.start fs
    → ((p : Part) × (names_field d s post_header ≡ ok (Some p)) × Member (4, lent_part s p) fs)
    ⊎ ((names_field d s post_header ≡ ok None) × Absent 4 fs)
accepted_known d s post_header e es fs r h f =
    let x = tested d s post_header e es r h in
    let c = fields_at d (lent_part s e.types) e.optional.start in
    let y = kept_stood (sizes_of d x.columns) c s x.fields x.kept x.once in
    subst
    (λ (l : List Field). ((p : Part) × (names_field d s post_header ≡ ok (Some p)) × Member (4, lent_part s p) l)
    ⊎ ((names_field d s post_header ≡ ok None) × Absent 4 l))
    (fields_same y.fields_are f) (told_or_none s x.fields (names_field d s post_header) y.once (names_of post_header r x))

-- ---- and where they are told, they are a string for each column: that of column j is string j, whatever the operator's list is
same_part : (f : Option Part) (p : Part) → part_found f ≡ Some p → f ≡ Some p
same_part (Some q) p e = let x : q ≡ p = cc in rw x
same_part None p e = let z : ◌≡◌ {A = ℕ} 0 1 = cc in absurd (omega arith)

names_laid : (sizes : Ranks) (n : ℕ) (value : List ℕ) → contents_full sizes n 4 value ≡ true
    → (items : List Part) × ItemsAre string_item value items × (length items ≡ n)
unfolding contents_full
names_laid sizes n value e =
    let y = exact_laid string_item string_moves whatever n value e in
    ((walk_items string_item value 0).items, y.0, y.1)

pub accepted_named : (d : Dialect) (s : List ℕ) (post_header : ℕ) (e : Event) (es : List Entry) (p : Part)
    → read_event s post_header ≡ ok e → check_map d s post_header ≡ ok es → names_field d s post_header ≡ ok (Some p)
    → (items : List Part) × ItemsAre string_item (lent_part s p) items × (length items ≡ length (lent_part s e.types))
    × ((operator : List ℕ) (j : ℕ) → j < length items → column_name (lent_part s p) operator (table_place j) ≡ ok (get_or items j (part 0 0)))
accepted_named d s post_header e es p r h n =
    let x = tested d s post_header e es r h in
    let types = lent_part s e.types in
    let v = same_part (first_of 4 x.fields) p (same_ok (sym (names_of post_header r x) ∙ n)) in
    let y = names_laid (sizes_of d x.columns) (length types) (lent_part s p)
    (kept_first (sizes_of d x.columns) (fields_at d types e.optional.start) s x.fields x.kept 4 p v) in (
      y.0,
      y.1,
      y.2,
      λ operator j l.
          looks_names (lent_part s p) operator j (filled string_moves y.1 (omega (arith, l))) ∙ laid_found y.1 j j l,
    )
