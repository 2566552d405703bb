-- What the fields are that were kept: all those of a walk that ends whole, each known and with its contents in full, behind fields of other
-- types and of none that is its rival. Assumes nothing.
use Rattle.std.specs.Prelude.{None, Some}
use Prim.Native.Nat.{ℕ, zero, suc, ◌-◌}
use mathlib.Core.Path.{◌≡◌, refl, sym, subst}
use mathlib.Core.Bool.{true, false, ◌&&◌, not}
use mathlib.Core.List.{List, [], ◌∷◌}
use native.Mathlib.Omega.{arith}
use borrow.Author.Tests.{eqb-true, not-true}
use lib.ListN.{length}
use lib.Dec.{eqb}
use Rattle.wire.specs.Outcome.{Outcome, ok, refused}
use Rattle.wire.specs.Parts.{lent_part}
use Rattle.wire.specs.declared.part.Part.{Part}
use Rattle.wire.proofs.Outcomes.{after_is_ok, by_test, ok_not_refused, same_ok, both_true}
use Rattle.table_map.specs.declared.field.Fields.{Fields as FieldCursor}
use Rattle.table_map.specs.Lists.{Stepped, end, item, step, ItemsWalked, whole, items_onward, walk_steps, walk_items}
use Rattle.table_map.specs.Fields.{is_field, field_item}
use Rattle.table_map.proofs.Steps.{item_read}
use Rattle.table_map.proofs.Optional.{field_read}
use Rattle.map_check.specs.declared.rank.Ranks.{Ranks}
use Rattle.map_check.specs.Contents.{contents_full}
use Rattle.map_check.specs.Fields.{stood, rival_of, stands_given, stands_behind, keep, keep_steps, keep_fields, first_of}
use Rattle.map_check.specs.Inner.Fields.{fields_from}

-- ---- fields that are kept behind fields of some types: each is known and kept behind those before it
pub data Kept (sizes : Ranks) (n : ℕ) (s : List ℕ) : List ℕ → List (ℕ × Part) → Type 0 where
  none : (before : List ℕ) → Kept sizes n s before []
  more : (before : List ℕ) (f : ℕ × Part) (fs : List (ℕ × Part)) → is_field f.0 ≡ true → stands_behind sizes n s before f ≡ true
      → Kept sizes n s (f.0 ∷ before) fs → Kept sizes n s before (f ∷ fs)

-- what keeping some fields says: they are such, and a walk's, which ends whole
record Says (sizes : Ranks) (c : FieldCursor) (s before : List ℕ) (fs : List (ℕ × Part)) (w : ItemsWalked (ℕ × Part)) : Type 0 where
  fields : Kept sizes c.columns s before fs
  items : w.items ≡ fs
  how : w.how ≡ whole

kept_says : (sizes : Ranks) (c : FieldCursor) (m : ℕ) (s before : List ℕ) (at : ℕ) (fs : List (ℕ × Part))
    → keep_steps m sizes c s before at ≡ ok fs
    → Says sizes c s before fs (walk_steps m (field_item c.numeric c.columns) s at)
unfolding keep_steps walk_steps
kept_says sizes c zero s before at fs e =
    subst (λ (gs : List (ℕ × Part)). Says sizes c s before gs (record { items = []; how = whole })) (same_ok e)
    (record { fields = none before; items = refl; how = refl })
kept_says sizes c (suc m) s before at fs e =
    go (λ kind next. kept_says sizes c m s (kind ∷ before) next) (step (field_item c.numeric c.columns) s at) refl e
  where
    rest : ℕ → ℕ → Outcome (List (ℕ × Part))
    rest kind next = keep_steps m sizes c s (kind ∷ before) next

    go : ((kind next : ℕ) (gs : List (ℕ × Part)) → rest kind next ≡ ok gs
        → Says sizes c s (kind ∷ before) gs (walk_steps m (field_item c.numeric c.columns) s next))
        → (o : Outcome (Stepped (ℕ × Part) ℕ)) → step (field_item c.numeric c.columns) s at ≡ o
        → keep rest (stands_behind sizes c.columns s before) at o ≡ ok fs
        → Says sizes c s before fs (items_onward (walk_steps m (field_item c.numeric c.columns) s) o)
    go again (ok end) x y =
        subst (λ (gs : List (ℕ × Part)). Says sizes c s before gs (record { items = []; how = whole })) (same_ok y)
        (record { fields = none before; items = refl; how = refl })
    go again (ok (Some (f, next))) x y =
        by_test (stands_behind sizes c.columns s before f) _ _ _ y
        (λ t u.
        let z = after_is_ok (rest f.0 next) (λ gs. ok (f ∷ gs)) fs u in
        let a = again f.0 next z.0 z.1 in
        let r = item_read (field_item c.numeric c.columns) s at f next x in
        let k = (field_read c.numeric c.columns s at f next r.1).known in
        subst
        (λ (gs : List (ℕ × Part)). Says sizes c s before gs
        (items_onward (walk_steps m (field_item c.numeric c.columns) s) (ok (item f next))))
        (same_ok z.2)
        (record { fields = more before f z.0 k t a.fields; items = rw a.items; how = a.how }))
        (λ t u. absurd (ok_not_refused (sym u)))
    go again (refused w) x y = absurd (ok_not_refused (sym y))

pub kept_fields : (sizes : Ranks) (c : FieldCursor) (s : List ℕ) (fs : List (ℕ × Part)) → keep_fields sizes c s ≡ ok fs
    → Kept sizes c.columns s [] fs
kept_fields sizes c s fs e = (kept_says sizes c (suc (length s - c.at)) s [] c.at fs e).fields

-- ---- they are the walk's items, in order, and the walk is whole
pub kept_walk : (sizes : Ranks) (c : FieldCursor) (s : List ℕ) (fs : List (ℕ × Part)) → keep_fields sizes c s ≡ ok fs
    → (fields_from c s ≡ fs) × ((walk_items (field_item c.numeric c.columns) s c.at).how ≡ whole)
kept_walk sizes c s fs e =
    let x = kept_says sizes c (suc (length s - c.at)) s [] c.at fs e in
    (x.items, x.how)

-- ---- what a field that is kept is, behind those before it
pub record Fits (sizes : Ranks) (n : ℕ) (s before : List ℕ) (f : ℕ × Part) : Type 0 where
  pub first : stood f.0 before ≡ false
  pub alone : stood (rival_of f.0) before ≡ false
  pub contents : contents_full sizes n f.0 (lent_part s f.1) ≡ true

pub fits : (sizes : Ranks) (n : ℕ) (s before : List ℕ) (f : ℕ × Part) → stands_behind sizes n s before f ≡ true → Fits sizes n s before f
unfolding stands_given
fits sizes n s before f e =
    let full = contents_full sizes n f.0 (lent_part s f.1) in
    let x = both_true (not (stood f.0 before)) (not (stood (rival_of f.0) before) && full) e in
    let y = both_true (not (stood (rival_of f.0) before)) full x.1 in
    record { first = not-true _ x.0; alone = not-true _ y.0; contents = y.1 }

-- ---- the contents of the field that is found
pub same_value : {p q : Part} → Some p ≡ Some q → p ≡ q
same_value e = cc

pub nothing_not_value : {p : Part} → None ≡ Some p → ⊥
nothing_not_value e = let z : ◌≡◌ {A = ℕ} 0 1 = cc in omega arith

first_full : (sizes : Ranks) (n : ℕ) (s before : List ℕ) (fs : List (ℕ × Part)) → Kept sizes n s before fs → (kind : ℕ) (p : Part)
    → first_of kind fs ≡ Some p → contents_full sizes n kind (lent_part s p) ≡ true
unfolding first_of
first_full sizes n s before [] (none b) kind p e = absurd (nothing_not_value e)
first_full sizes n s before (f ∷ fs) (more b g gs known k rest) kind p e =
    by_test (eqb f.0 kind) _ _ _ e
    (λ t u.
    let x : f.0 ≡ kind = eqb-true f.0 kind t in
    let y : f.1 ≡ p = same_value u in
    rw (← x, ← y) (fits sizes n s before f k).contents)
    (λ t u. first_full sizes n s (f.0 ∷ before) fs rest kind p u)

pub kept_first : (sizes : Ranks) (c : FieldCursor) (s : List ℕ) (fs : List (ℕ × Part)) → keep_fields sizes c s ≡ ok fs
    → (kind : ℕ) (p : Part)
    → first_of kind fs ≡ Some p → contents_full sizes c.columns kind (lent_part s p) ≡ true
kept_first sizes c s fs e kind p v = first_full sizes c.columns s [] fs (kept_fields sizes c s fs e) kind p v
