-- The optional fields one by one: the loop that keeps them, with what it has noted. Assumes nothing.
use Rattle.std.specs.Prelude.{None, Option, Some}
use Prim.Native.Nat.{ℕ, zero, suc, ◌-◌, ◌≤◌, ◌<◌, suc-le-suc}
use mathlib.Core.Path.{◌≡◌, refl, sym, ap, ◌∙◌}
use mathlib.Core.Bool.{Bool, true, false, cond, ◌||◌, true≢false}
use mathlib.Core.List.{List, [], ◌∷◌, ◌++◌, append-nil, append_assoc}
use native.Mathlib.Omega.{arith}
use borrow.Author.Tests.{leb-true, eqb-true, eqb-false, eq-eqb}
use lib.ListN.{length, get_or, set, replicate, length-set, get_or-replicate}
use lib.Seq.{get_or-set_same, get_or-set_other}
use lib.Dec.{leb, eqb}
use Rattle.wire.specs.declared.refusal.Refusal.{Refusal}
use Rattle.wire.specs.Outcome.{Outcome, ok, refused, refuse, after}
use Rattle.wire.specs.declared.part.Part.{Part}
use Rattle.wire.proofs.Outcomes.{both_true}
use Rattle.table_map.specs.declared.field.Fields.{Fields as FieldCursor}
use Rattle.table_map.specs.Lists.{Stepped, end, item, step}
use Rattle.table_map.specs.Fields.{field_item, field_step}
use Rattle.table_map.proofs.Steps.{item_read}
use Rattle.table_map.proofs.Walks.{item_moves}
use Rattle.table_map.proofs.Optional.{field_stepped, field_ended, field_broken, field_read, field_moves}
use Rattle.map_check.specs.declared.rank.Ranks.{Ranks}
use Rattle.map_check.specs.declared.facts.KeptFields.{KeptFields}
use Rattle.map_check.specs.Fields.{stood, rival_of, stands_given, stands_behind, keep, keep_steps, keep_from, keep_fields, first_of}
use Rattle.map_check.specs.Profile.{stands}
use Rattle.map_check.specs.Inner.Making.{kept_by}
use Rattle.map_check.proofs.ContentsLaws.Bounds.{either_at_most}
use Rattle.map_check.proofs.FieldLaws.KeptFields.{fits}

-- ---- a step leads on, within the bytes
pub cursor_moves : (c : FieldCursor) (s : List ℕ) (f : ℕ × Part) (next : FieldCursor) → field_step c s ≡ ok (item f next)
    → (c.at < next.at) × (next.at ≤ length s)
cursor_moves c s f next e =
    item_moves (field_item c.numeric c.columns) (field_moves c.numeric c.columns) s c.at f next.at
    (field_stepped c s f next e).0

-- ---- keeping fields: more turns than bytes are enough
abbrev step_at : FieldCursor → List ℕ → ℕ → Outcome (Stepped (ℕ × Part) ℕ)
step_at c s at = step (field_item c.numeric c.columns) s at

pub keep_enough : (sizes : Ranks) (c : FieldCursor) (m k : ℕ) (s before : List ℕ) (at : ℕ) → length s - at < m → length s - at < k
    → keep_steps m sizes c s before at ≡ keep_steps k sizes c s before at
unfolding keep_steps
keep_enough sizes c zero k s before at h l = absurd (omega arith)
keep_enough sizes c (suc m) zero s before at h l = absurd (omega arith)
keep_enough sizes c (suc m) (suc k) s before at h l = go (λ kind next. keep_enough sizes c m k s (kind ∷ before) next) (step_at c s at) refl
  where
    rest : ℕ → ℕ → ℕ → Outcome (List (ℕ × Part))
    rest j kind next = keep_steps j sizes c s (kind ∷ before) next

    go : ((kind next : ℕ) → length s - next < m → length s - next < k → rest m kind next ≡ rest k kind next)
        → (o : Outcome (Stepped (ℕ × Part) ℕ)) → step_at c s at ≡ o
        → keep (rest m) (stands_behind sizes c.columns s before) at o ≡ keep (rest k) (stands_behind sizes c.columns s before) at o
    go again (ok end) e = refl
    go again (ok (Some (f, next))) e =
        let w = item_moves (field_item c.numeric c.columns) (field_moves c.numeric c.columns) s at f next e in
        rw (again f.0 next (omega (arith, w.0, w.1)) (omega (arith, w.0, w.1)))
    go again (refused r) e = refl

-- a turn: what the step met, and what is kept from where it leads
pub keep_turn : (sizes : Ranks) (c : FieldCursor) (s before : List ℕ) (at : ℕ)
    → keep_from sizes c s before at
    ≡ keep (λ kind next. keep_from sizes c s (kind ∷ before) next) (stands_behind sizes c.columns s before) at
    (step (field_item c.numeric c.columns) s at)
unfolding keep_steps
keep_turn sizes c s before at = go (step_at c s at) refl
  where
    go : (o : Outcome (Stepped (ℕ × Part) ℕ)) → step_at c s at ≡ o
        → keep (λ kind next. keep_steps (length s - at) sizes c s (kind ∷ before) next) (stands_behind sizes c.columns s before) at o
        ≡ keep (λ kind next. keep_from sizes c s (kind ∷ before) next) (stands_behind sizes c.columns s before) at o
    go (ok end) e = refl
    go (ok (Some (f, next))) e =
        let w = item_moves (field_item c.numeric c.columns) (field_moves c.numeric c.columns) s at f next e in
        rw (keep_enough sizes c (length s - at) (suc (length s - next)) s (f.0 ∷ before) next (omega (arith, w.0, w.1)) (omega arith))
    go (refused r) e = refl

-- ---- the first of a type, among some fields and one behind them
abbrev or_else : Option Part → Option Part → Option Part
or_else (Some p) x = Some p
or_else None x = x

or_nothing : (x : Option Part) → or_else x None ≡ x
or_nothing (Some p) = refl
or_nothing None = refl

first_snoc : (k : ℕ) (fs : List (ℕ × Part)) (f : ℕ × Part) → first_of k (fs ++ (f ∷ [])) ≡ or_else (first_of k fs) (first_of k (f ∷ []))
unfolding first_of
first_snoc k [] f = refl
first_snoc k (g ∷ gs) f = go (first_snoc k gs f) (eqb g.0 k)
  where
    go : first_of k (gs ++ (f ∷ [])) ≡ or_else (first_of k gs) (first_of k (f ∷ []))
        → (t : Bool) → cond t (Some g.1) (first_of k (gs ++ (f ∷ [])))
        ≡ or_else (cond t (Some g.1) (first_of k gs)) (first_of k (f ∷ []))
    go again true = refl
    go again false = again

-- ---- where the loop stands, at a cursor: the fields that it has met, their types, and where it has noted their values. What is to come
-- decides the rest
pub record KeptTo (sizes : Ranks) (c : FieldCursor) (s : List ℕ) (here : FieldCursor) (places : List (Option Part)) : Type 0 where
  pub met : List (ℕ × Part)
  pub before : List ℕ
  pub size : length places ≡ 14
  pub noted : (k : ℕ) → k < 14 → get_or places k None ≡ first_of k met
  pub types : (k : ℕ) → stands (first_of k met) ≡ stood k before
  pub numeric : here.numeric ≡ c.numeric
  pub columns : here.columns ≡ c.columns
  pub rest : keep_fields sizes c s ≡ after (keep_from sizes c s before here.at) (λ fs. ok (met ++ fs))

same_after : {A : Type 0} (o : Outcome A) → o ≡ after o (λ a. ok a)
same_after (ok a) = refl
same_after (refused w) = refl

pub kept_to_first : (sizes : Ranks) (c : FieldCursor) (s : List ℕ) → KeptTo sizes c s c (replicate 14 None)
unfolding stood first_of
kept_to_first sizes c s = record {
  met = [];
  before = [];
  size = refl;
  noted = λ k h. get_or-replicate 14 k None None h;
  types = λ k. refl;
  numeric = refl;
  columns = refl;
  rest = same_after (keep_fields sizes c s);
}

-- its step is the walk's
stepped : {sizes : Ranks} {c : FieldCursor} {s : List ℕ} {here : FieldCursor} {places : List (Option Part)} → KeptTo sizes c s here places
    → (f : ℕ × Part) (next : FieldCursor) → field_step here s ≡ ok (item f next) → step_at c s here.at ≡ ok (item f next.at)
stepped st f next e = rw (← st.numeric, ← st.columns) (field_stepped _ _ f next e).0

-- a type that was met is below 14, and so is every rival
pub kind_low : (c : FieldCursor) (s : List ℕ) (f : ℕ × Part) (next : FieldCursor) → field_step c s ≡ ok (item f next) → f.0 < 14
kind_low c s f next e =
    let r = item_read (field_item c.numeric c.columns) s c.at f next.at (field_stepped c s f next e).0 in
    let k = (field_read c.numeric c.columns s c.at f next.at r.1).known in
    let l = leb-true f.0 13 (both_true (leb 1 f.0) (leb f.0 13) k).1 in
    omega arith

pub rival_low : (k : ℕ) → rival_of k < 14
unfolding rival_of
rival_low k =
    suc-le-suc
    (either_at_most 13 (eqb k 2) 3 _ (omega arith)
    (either_at_most 13 (eqb k 3) 2 _ (omega arith)
    (either_at_most 13 (eqb k 10) 11 _ (omega arith)
    (either_at_most 13 (eqb k 11) 10 _ (omega arith)
    (either_at_most 13 (eqb k 8) 9 _ (omega arith)
    (either_at_most 13 (eqb k 9) 8 0 (omega arith) (omega arith)))))))

-- what is noted tells whether a field is kept
pub noted_tells : {sizes : Ranks} {c : FieldCursor} {s : List ℕ} {here : FieldCursor} {places : List (Option Part)}
    (st : KeptTo sizes c s here places)
    → (f : ℕ × Part) (rival : ℕ) (twice rivalled t : Bool) → f.0 < 14 → rival ≡ rival_of f.0
    → twice ≡ stands (get_or places f.0 None) → rivalled ≡ stands (get_or places rival None)
    → t ≡ stands_given sizes c.columns s twice rivalled f
    → stands_behind sizes c.columns s st.before f ≡ t
noted_tells st f rival twice rivalled t h r a b e =
    rw (e, a, b, r, st.noted f.0 h, st.noted (rival_of f.0) (rival_low f.0), st.types f.0, st.types (rival_of f.0))

-- with one field more noted, it is what is noted of the fields up to the next
noted_next : (places : List (Option Part)) (met : List (ℕ × Part)) (f : ℕ × Part) → length places ≡ 14 → f.0 < 14 → first_of f.0 met ≡ None
    → ((k : ℕ) → k < 14 → get_or places k None ≡ first_of k met)
    → (k : ℕ) → k < 14 → get_or (set places f.0 (Some f.1)) k None ≡ first_of k (met ++ (f ∷ []))
unfolding first_of
noted_next places met f n h z m k l = go (eqb f.0 k) refl
  where
    go : (t : Bool) → eqb f.0 k ≡ t → get_or (set places f.0 (Some f.1)) k None ≡ first_of k (met ++ (f ∷ []))
    go true e =
        let x : first_of f.0 (met ++ (f ∷ [])) ≡ Some f.1 = first_snoc f.0 met f ∙ rw (z, eq-eqb f.0 f.0 refl) in
        rw (← eqb-true f.0 k e) (get_or-set_same places f.0 (Some f.1) None (omega arith) ∙ sym x)
    go false e =
        let x : first_of k (met ++ (f ∷ [])) ≡ first_of k met = first_snoc k met f ∙ rw e (or_nothing (first_of k met)) in
        get_or-set_other places f.0 k (Some f.1) None (λ q. eqb-false f.0 k e (sym q)) ∙ m k l ∙ sym x

either_stands : (x : Option Part) (t : Bool) (p : Part) → stands (or_else x (cond t (Some p) None)) ≡ (t || stands x)
either_stands (Some q) true p = refl
either_stands (Some q) false p = refl
either_stands None true p = refl
either_stands None false p = refl

types_next : (met : List (ℕ × Part)) (before : List ℕ) (f : ℕ × Part) → ((k : ℕ) → stands (first_of k met) ≡ stood k before)
    → (k : ℕ) → stands (first_of k (met ++ (f ∷ []))) ≡ stood k (f.0 ∷ before)
unfolding stood first_of
types_next met before f m k =
    rw (first_snoc k met f) (either_stands (first_of k met) (eqb f.0 k) f.1 ∙ ap (λ (t : Bool). eqb f.0 k || t) (m k))

not_found : (x : Option Part) → stands x ≡ false → x ≡ None
not_found (Some p) e = absurd (true≢false e)
not_found None e = refl

-- one field more that was met
regroup : (met : List (ℕ × Part)) (f : ℕ × Part) (o : Outcome (List (ℕ × Part)))
    → after (after o (λ fs. ok (f ∷ fs))) (λ fs. ok (met ++ fs)) ≡ after o (λ fs. ok (met ++ (f ∷ []) ++ fs))
regroup met f (ok fs) = ap (λ (l : List (ℕ × Part)). ok l) (sym (append_assoc met (f ∷ []) fs))
regroup met f (refused w) = refl

-- a field that is kept
pub kept_to_next : {sizes : Ranks} {c : FieldCursor} {s : List ℕ} {here : FieldCursor} {places : List (Option Part)}
    (st : KeptTo sizes c s here places)
    → (f : ℕ × Part) (next : FieldCursor) → field_step here s ≡ ok (item f next) → stands_behind sizes c.columns s st.before f ≡ true
    → KeptTo sizes c s next (set places f.0 (Some f.1))
kept_to_next {sizes} {c} {s} {here} {places} st f next e k =
    let w = field_stepped here s f next e in
    let t : keep_from sizes c s st.before here.at ≡ after (keep_from sizes c s (f.0 ∷ st.before) next.at) (λ fs. ok (f ∷ fs)) =
    rw (keep_turn sizes c s st.before here.at, stepped st f next e, k) in
    let z = not_found (first_of f.0 st.met) (st.types f.0 ∙ (fits sizes c.columns s st.before f k).first) in
    record {
      met = st.met ++ (f ∷ []);
      before = f.0 ∷ st.before;
      size = length-set places f.0 (Some f.1) ∙ st.size;
      noted = noted_next places st.met f st.size (kind_low here s f next e) z st.noted;
      types = types_next st.met st.before f st.types;
      numeric = w.1 ∙ st.numeric;
      columns = w.2 ∙ st.columns;
      rest =
          st.rest ∙ ap (λ (o : Outcome (List (ℕ × Part))). after o (λ fs. ok (st.met ++ fs))) t
          ∙ regroup st.met f (keep_from sizes c s (f.0 ∷ st.before) next.at);
    }

-- ---- the answer: what is handed on of the fields, if all are kept
abbrev pub handed : Part → Outcome (List (ℕ × Part)) → Outcome KeptFields
handed bits o = after o (λ fs. ok (kept_by bits (λ k. first_of k fs)))

-- one is not
pub kept_to_refused : {sizes : Ranks} {c : FieldCursor} {s : List ℕ} {here : FieldCursor} {places : List (Option Part)}
    (st : KeptTo sizes c s here places) (bits : Part)
    → (f : ℕ × Part) (next : FieldCursor) → field_step here s ≡ ok (item f next) → stands_behind sizes c.columns s st.before f ≡ false
    → handed bits (keep_fields sizes c s) ≡ refuse 7 here.at
kept_to_refused {sizes} {c} {s} {here} st bits f next e k =
    let x : keep_fields sizes c s ≡ refuse 7 here.at =
    st.rest ∙ rw (keep_turn sizes c s st.before here.at, stepped st f next e, k) in
    rw x

-- no field: a refusal of the walk, or the end
pub kept_to_broken : {sizes : Ranks} {c : FieldCursor} {s : List ℕ} {here : FieldCursor} {places : List (Option Part)}
    → KeptTo sizes c s here places → (bits : Part)
    → (w : Refusal) → field_step here s ≡ refused w → handed bits (keep_fields sizes c s) ≡ refused w
kept_to_broken {sizes} {c} {s} {here} st bits w e =
    let y : step_at c s here.at ≡ refused w = rw (← st.numeric, ← st.columns) (field_broken here s w e) in
    let x : keep_fields sizes c s ≡ refused w = st.rest ∙ rw (keep_turn sizes c s st.before here.at, y) in
    rw x

pub kept_to_end : {sizes : Ranks} {c : FieldCursor} {s : List ℕ} {here : FieldCursor} {places : List (Option Part)} → KeptTo sizes c s here places
    → (bits : Part)
    → field_step here s ≡ ok end → handed bits (keep_fields sizes c s) ≡ ok (kept_by bits (λ k. get_or places k None))
kept_to_end {sizes} {c} {s} {here} st bits e =
    let y : step_at c s here.at ≡ ok end = rw (← st.numeric, ← st.columns) (field_ended here s e) in
    let x : keep_fields sizes c s ≡ ok st.met =
    st.rest ∙ rw (keep_turn sizes c s st.before here.at, y) (ap (λ (l : List (ℕ × Part)). ok l) (append-nil st.met)) in
    let n = st.noted in
    rw (
      x,
      n 8 (omega arith),
      n 9 (omega arith),
      n 1 (omega arith),
      n 12 (omega arith),
      n 2 (omega arith),
      n 3 (omega arith),
      n 10 (omega arith),
      n 11 (omega arith),
    )
