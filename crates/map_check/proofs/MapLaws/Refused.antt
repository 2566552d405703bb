-- When a field is refused, and when a key is: what the check tells of them is what is so, and what is so it tells. Assumes nothing.
use Rattle.std.specs.Prelude.{None, Option, Some}
use Prim.Native.Nat.{ℕ, zero, suc, ◌+◌, ◌-◌, ◌≤◌, ◌<◌}
use mathlib.Core.Path.{◌≡◌, refl, sym, ap, subst, ◌∙◌}
use mathlib.Core.Bool.{Bool, true, false, cond, ◌&&◌, ◌||◌, not, true≢false}
use mathlib.Core.Logic.{inl, inr, ⊎_elim}
use mathlib.Core.List.{List, [], ◌∷◌}
use native.Mathlib.Omega.{arith}
use borrow.Author.Tests.{le-leb, lt-leb, ltb-true, eqb-true, eqb-false, eq-eqb, ne_eqb, not-true}
use lib.ListN.{length, get_or, take, drop}
use lib.Dec.{ltb, eqb}
use Rattle.wire.specs.declared.refusal.Refusal.{Refusal}
use Rattle.wire.specs.declared.part.Part.{Part}
use Rattle.wire.specs.Number.{Bytes}
use Rattle.wire.specs.Bits.{bytes_for}
use Rattle.wire.specs.Outcome.{Outcome, ok, refused, refuse, why, after}
use Rattle.wire.specs.Packed.{read_packed}
use Rattle.wire.specs.Parts.{part, lent_part, within}
use Rattle.wire.specs.Layouts.{string, Whole, all_string}
use Rattle.wire.proofs.Outcomes.{after_is_ok, after_refuses, by_test, ok_not_refused, same_ok, same_refused, both_true}
use Rattle.wire.proofs.Parts.{within_fits, within_ok, within_refuses, lent_is}
use Rattle.wire.proofs.Forms.{read_moves}
use Rattle.value.specs.declared.classes.Dialect.{Dialect}
use Rattle.table_map.specs.declared.event.Event.{Event}
use Rattle.table_map.specs.declared.field.Fields.{Fields as FieldCursor}
use Rattle.table_map.specs.Events.{read_event}
use Rattle.table_map.specs.Parts.{long_part}
use Rattle.table_map.specs.Lists.{Rule, Stepped, end, item, step, broken, items_onward, walk_steps}
use Rattle.table_map.specs.Fields.{is_field, is_read, contents_hold, cut_field, judge_field, field_item}
use Rattle.table_map.proofs.Chains.{each_within, long_named}
use Rattle.table_map.proofs.Layouts.{string_whole, StringRefuses, cut_string, bad_string, string_refuses, cut_told, unpacked_told}
use Rattle.table_map.proofs.Steps.{step_end, item_read}
use Rattle.table_map.proofs.Walks.{whole_not_broken}
use Rattle.table_map.proofs.Optional.{cut_read, field_read, signs_there, visible_there, charset_there, field_moves}
use Rattle.record.specs.Records.{most_columns}
use Rattle.map_check.specs.declared.declare.Declared.{Declared}
use Rattle.map_check.specs.declared.rank.Ranks.{Ranks}
use Rattle.map_check.specs.Columns.{take_columns}
use Rattle.map_check.specs.Ranks.{ranks_from, sizes_of}
use Rattle.map_check.specs.Contents.{contents_full}
use Rattle.map_check.specs.Fields.{stood, rival_of, stands_given, stands_behind, keep, keep_steps, keep_from, keep_fields, first_of}
use Rattle.map_check.specs.Fields.{walk_fields, fields_at}
use Rattle.map_check.specs.Keys.{keys_from, keys_once, once_in, keys_hold}
use Rattle.map_check.specs.Passes.{Member, here, later, Distinct, firsts, signed, count}
use Rattle.map_check.specs.Places.{TooMany, too_many, TypeNotTaken, MetadataWrong, InColumns, in_columns, ColumnsTaken, InFields}
use Rattle.map_check.specs.Places.{in_fields, KeyRepeated, repeated, Stand, no_field, a_field, FieldRefused, cut, unpacked, unknown}
use Rattle.map_check.specs.Places.{faulty, Breaks, twice, rivalled, contents, keys_field, Repeats, WalkBreaks, not_signs, not_visible}
use Rattle.map_check.specs.Places.{no_default, no_choice}
use Rattle.map_check.specs.Check.{few_enough, check_event, check_map}
use Rattle.map_check.specs.Names.{names_in}
use Rattle.map_check.proofs.ContentsLaws.Tallies.{item_stepped, refusal_stepped}
use Rattle.map_check.proofs.FieldLaws.KeptFields.{kept_fields, same_value, nothing_not_value}
use Rattle.map_check.proofs.FieldLaws.FieldTurns.{keep_turn}
use Rattle.map_check.proofs.KeyLaws.Twice.{place_at, Repeat, refused_repeat, repeat_refused}
use Rattle.map_check.proofs.ContentsLaws.Laid.{end_there, member_stood, stood_member}
use Rattle.map_check.proofs.ContentsLaws.Filled.{sized, Held, contents_held, held_contents, first_member}
use Rattle.map_check.proofs.NameLaws.NameLooks.{names_unmet, names_broken, same_broken}
use Rattle.map_check.proofs.FieldLaws.Lined.{columns_taken, taken_columns, no_member, bare, bare_member, field_there, kept_distinct}
use Rattle.map_check.proofs.FieldLaws.Lined.{prefixed_alone}
use Rattle.map_check.proofs.MapLaws.Passing.{Counted, counted}
use Rattle.map_check.proofs.MapLaws.Places.{type_told, metadata_told}

-- ---- fields: what the check asks of one, as one test
abbrev asks : ℕ → ℕ → Ranks → List ℕ → ℕ → List ℕ → Bool
asks numeric n sizes before kind value =
    contents_hold numeric n kind value && (not (stood kind before) && (not (stood (rival_of kind) before) && contents_full sizes n kind value))

-- one that is asked breaks no rule
asked : {d : Dialect} {cs : List Declared} (before : List ℕ) (kind : ℕ) (value : List ℕ) → is_field kind ≡ true
    → asks (count (signed d) cs) (length cs) (sizes_of d cs) before kind value ≡ true → Breaks d cs before kind value → ⊥
unfolding ranks_from
asked {d} {cs} before kind value k e b =
    let full = contents_full (sizes_of d cs) (length cs) kind value in
    let x = both_true (contents_hold (count (signed d) cs) (length cs) kind value) _ e in
    let y = both_true (not (stood kind before)) _ x.1 in
    let z = both_true (not (stood (rival_of kind) before)) full y.1 in
    go (not-true _ y.0) (not-true _ z.0) (record { known = k; holds = x.0; full = z.1 }) b
  where
    go : stood kind before ≡ false → stood (rival_of kind) before ≡ false
        → Held (count (signed d) cs) (length cs) (sizes_of d cs) kind value → Breaks d cs before kind value → ⊥
    go t r h (twice m) = true≢false (sym (member_stood m) ∙ t)
    go t r h (rivalled m) = true≢false (sym (member_stood m) ∙ r)
    go t r h (contents n) = n (held_contents (sized d cs) kind value h)

-- and one that is not breaks one
pub unasked : {d : Dialect} {cs : List Declared} (before : List ℕ) (kind : ℕ) (value : List ℕ)
    → asks (count (signed d) cs) (length cs) (sizes_of d cs) before kind value ≡ false → Breaks d cs before kind value
unfolding ranks_from
unasked {d} {cs} before kind value e = go hold refl (stood kind before) refl (stood (rival_of kind) before) refl full refl e
  where
    hold : Bool
    hold = contents_hold (count (signed d) cs) (length cs) kind value

    full : Bool
    full = contents_full (sizes_of d cs) (length cs) kind value

    go : (a : Bool) → hold ≡ a → (b : Bool) → stood kind before ≡ b → (c : Bool) → stood (rival_of kind) before ≡ c
        → (f : Bool) → full ≡ f → (a && (not b && (not c && f))) ≡ false → Breaks d cs before kind value
    go false h b t c r f u x = contents (λ y. true≢false (sym (contents_held (sized d cs) y).holds ∙ h))
    go true h true t c r f u x = twice (stood_member kind before t)
    go true h false t true r f u x = rivalled (stood_member (rival_of kind) before r)
    go true h false t false r false u x = contents (λ y. true≢false (sym (contents_held (sized d cs) y).full ∙ u))
    go true h false t false r true u x = absurd (true≢false x)

-- ---- a field that is not read, by what it is
field_refused : (numeric columns : ℕ) (s : List ℕ) (o : ℕ) (w : Refusal) → o < length s → long_part s (o + 1) ≡ refused w
    → field_item numeric columns s o ≡ refused w
unfolding field_item cut_field
field_refused numeric columns s o w l e = rw (within_fits s o 1 o (omega arith), e)

field_unknown : (numeric columns : ℕ) (s : List ℕ) (o q : ℕ) → Whole s string (o + 1) q → is_field (get_or s o 0) ≡ false
    → (o < length s) × (field_item numeric columns s o ≡ refuse 6 o)
unfolding field_item cut_field judge_field long_part
field_unknown numeric columns s o q (all_string {n = n} {q = m} r h) k =
    let v = read_moves s (o + 1) n m r in
    let l : o + 1 ≤ length s = omega (arith, v.0, v.1) in
    (omega arith, rw (within_fits s o 1 o l, r, within_fits s m n (o + 1) h, k))

field_faulty : (numeric columns : ℕ) (s : List ℕ) (o len start : ℕ) → read_packed s (o + 1) ≡ ok (len, start) → start + len ≤ length s
    → is_field (get_or s o 0) ≡ true → contents_hold numeric columns (get_or s o 0) (take len (drop start s)) ≡ false
    → field_item numeric columns s o ≡ refuse 7 o
unfolding field_item cut_field judge_field long_part
field_faulty numeric columns s o len start r h k e =
    let v = read_moves s (o + 1) len start r in
    let l : o + 1 ≤ length s = omega (arith, v.0, v.1) in
    rw (within_fits s o 1 o l, r, within_fits s start len (o + 1) h, k, lent_is s (part start len) h, e)

-- ---- what is kept from a place on where a whole field of a known type stands
keep_field : (sizes : Ranks) (c : FieldCursor) (s before : List ℕ) (o len start : ℕ) → is_field (get_or s o 0) ≡ true
    → read_packed s (o + 1) ≡ ok (len, start) → start + len ≤ length s
    → keep_from sizes c s before o
    ≡ cond (asks c.numeric c.columns sizes before (get_or s o 0) (take len (drop start s)))
    (after (keep_from sizes c s (get_or s o 0 ∷ before) (start + len)) (λ fs. ok ((get_or s o 0, part start len) ∷ fs))) (refuse 7 o)
unfolding stands_given
keep_field sizes c s before o len start k r h =
    keep_turn sizes c s before o ∙ go (contents_hold c.numeric c.columns kind value) refl
  where
    kind : ℕ
    kind = get_or s o 0

    value : List ℕ
    value = take len (drop start s)

    rule : Rule (ℕ × Part)
    rule = field_item c.numeric c.columns

    rest : ℕ → ℕ → Outcome (List (ℕ × Part))
    rest kind next = keep_from sizes c s (kind ∷ before) next

    l : o < length s
    l = let m = read_moves s (o + 1) len start r in omega (arith, m.0, m.1)

    go : (t : Bool) → contents_hold c.numeric c.columns kind value ≡ t
        → keep rest (stands_behind sizes c.columns s before) o (step rule s o)
        ≡ cond (t && (not (stood kind before) && (not (stood (rival_of kind) before) && contents_full sizes c.columns kind value)))
        (after (rest kind (start + len)) (λ fs. ok ((kind, part start len) ∷ fs))) (refuse 7 o)
    go true e =
        rw (
          item_stepped rule s o (kind, part start len) (start + len) l (field_there c.numeric c.columns s o len start r h k e),
          lent_is s (part start len) h,
        )
    go false e = rw (refusal_stepped rule s o (why 7 o) l (field_faulty c.numeric c.columns s o len start r h k e))

-- ---- what a step over fields met
-- a field: whole, of a type that is known, and as the walk asks
record Met (numeric columns : ℕ) (s : List ℕ) (o : ℕ) (f : ℕ × Part) (q : ℕ) : Type 0 where
  kind_is : get_or s o 0 ≡ f.0
  known : is_field (get_or s o 0) ≡ true
  read : read_packed s (o + 1) ≡ ok (f.1.len, f.1.start)
  fits : f.1.start + f.1.len ≤ length s
  ends : q ≡ f.1.start + f.1.len
  within : q ≤ length s
  lent : lent_part s f.1 ≡ take f.1.len (drop f.1.start s)
  holds : contents_hold numeric columns (get_or s o 0) (take f.1.len (drop f.1.start s)) ≡ true

field_met : (numeric columns : ℕ) (s : List ℕ) (o : ℕ) (f : ℕ × Part) (q : ℕ) → step (field_item numeric columns) s o ≡ ok (item f q)
    → Met numeric columns s o f q
field_met numeric columns s o f q e =
    let r = field_read numeric columns s o f q (item_read (field_item numeric columns) s o f q e).1 in
    let n = long_named s (o + 1) (f.1, q) r.value in
    let h : f.1.start + f.1.len ≤ length s = omega (arith, n.1, n.2) in
    record {
      kind_is = r.kind;
      known = rw r.kind r.known;
      read = n.0;
      fits = h;
      ends = n.1;
      within = omega (arith, n.1, h);
      lent = lent_is s f.1 h;
      holds = rw r.kind r.holds;
    }

-- or a refusal, which is that of the field there
abbrev pub Told : (s : List ℕ) → (ℕ → List ℕ → Type 0) → (List ℕ → ℕ → List ℕ → Type 0) → Refusal → Type 0
Told s Comes Fault w = (number p : ℕ) × (w ≡ why number p) × FieldRefused s Comes Fault number p

step_refuses : (Comes : ℕ → List ℕ → Type 0) (Fault : List ℕ → ℕ → List ℕ → Type 0) (numeric columns : ℕ) (s : List ℕ) (o : ℕ)
    (before : List ℕ) → Comes o before → o ≤ length s
    → ((len start : ℕ) → is_field (get_or s o 0) ≡ true → contents_hold numeric columns (get_or s o 0) (take len (drop start s)) ≡ false
    → Fault before (get_or s o 0) (take len (drop start s)))
    → (w : Refusal) → step (field_item numeric columns) s o ≡ refused w → Told s Comes Fault w
unfolding step field_item cut_field judge_field
step_refuses Comes Fault numeric columns s o before u h wrong w e =
    by_test (eqb o (length s)) _ _ _ e (λ t x. absurd (ok_not_refused x))
    (λ t x.
    by_test (ltb (length s) o) _ _ _ x (λ r y. absurd (omega (arith, ltb-true (length s) o r)))
    (λ r y.
    let n = eqb-false o (length s) t in
    let l : o < length s = omega arith in
    ⊎_elim (λ z. item_refuses l z) (λ z. absurd (ok_not_refused z.2)) (after_refuses (field_item numeric columns s o) _ w y)))
  where
    string_told : o < length s → {w : Refusal} → StringRefuses s (o + 1) w → Told s Comes Fault w
    string_told l (cut_string c) = (1, o + 1, refl, cut u l c)
    string_told l (bad_string c) = (2, o + 1, refl, unpacked u l c)

    cut_refuses : o < length s → cut_field s o ≡ refused w → Told s Comes Fault w
    cut_refuses l e =
        ⊎_elim (λ z. absurd (omega (arith, (within_refuses s o 1 o w z).0)))
        (λ a.
        let q : a.0 ≡ o + 1 = (within_ok s o 1 o a.0 a.1).0 in
        ⊎_elim
        (λ z. string_told l (string_refuses s (o + 1) w (subst (λ (p : ℕ). long_part s p ≡ refused w) q z)))
        (λ z. absurd (ok_not_refused z.2))
        (after_refuses (long_part s a.0) _ w a.2))
        (after_refuses (within s o 1 o) _ w e)

    judge_refuses : (f : ℕ × Part) (q : ℕ) → cut_field s o ≡ ok (f, q) → judge_field numeric columns s o f ≡ refused w → Told s Comes Fault w
    judge_refuses f q x e =
        let r = cut_read s o f q x in
        let n = long_named s (o + 1) (f.1, q) r.1 in
        let h : f.1.start + f.1.len ≤ length s = omega (arith, n.1, n.2) in
        by_test (is_field f.0) _ _ _ e
        (λ t y.
        let k : is_field (get_or s o 0) ≡ true = rw r.0 t in
        by_test (contents_hold numeric columns f.0 (lent_part s f.1)) _ _ _ y (λ v z. absurd (ok_not_refused z))
        (λ v z.
        let b : contents_hold numeric columns (get_or s o 0) (take f.1.len (drop f.1.start s)) ≡ false
        = rw (r.0, ← lent_is s f.1 h) v in
        (7, o, sym (same_refused z), faulty u k n.0 h (wrong f.1.len f.1.start k b))))
        (λ t y.
        let k : is_field (get_or s o 0) ≡ false = rw r.0 t in
        (6, o, sym (same_refused y), unknown u (string_whole s (o + 1) (f.1, q) r.1) k))

    item_refuses : o < length s → field_item numeric columns s o ≡ refused w → Told s Comes Fault w
    item_refuses l e =
        ⊎_elim (λ z. cut_refuses l z)
        (λ a.
        ⊎_elim (λ z. judge_refuses a.0.0 a.0.1 a.1 z) (λ z. absurd (ok_not_refused z.2))
        (after_refuses (judge_field numeric columns s o a.0.0) _ w a.2))
        (after_refuses (cut_field s o) _ w e)

-- ---- keys: a field that stands among others of which no type stands twice is the first of its type
member_first : (s : List ℕ) (fs : List (ℕ × Part)) (kind : ℕ) (p : Part) → Distinct (firsts (bare s fs)) → Member (kind, p) fs
    → first_of kind fs ≡ Some p
unfolding first_of Distinct
member_first s [] kind p d x'' = elim x'' [ ]
member_first s (f ∷ fs) kind p d (here q) =
    let x : kind ≡ f.0 = ap (λ (g : ℕ × Part). g.0) q in
    let y : p ≡ f.1 = ap (λ (g : ℕ × Part). g.1) q in
    rw (eq-eqb f.0 kind (sym x), y)
member_first s (f ∷ fs) kind p d (later m) =
    let n : f.0 ≡ kind → ⊥ = λ e. d.0 (subst (λ (k : ℕ). Member k (firsts (bare s fs))) (sym e) (first_member (bare_member s m))) in
    rw (ne_eqb f.0 kind n) (member_first s fs kind p d.1 m)

-- the first key that repeats one is told
once_refused : (paired : Bool) (s : List ℕ) (p : Part) (q : ℕ) → Repeats paired (lent_part s p) q
    → once_in paired s (Some p) ≡ refuse 7 (p.start + q)
once_refused paired s p q r =
    let items = keys_from paired (lent_part s p) 0 in
    let x : Repeat items r.j =
    record { earlier = r.earlier; before = r.before; there = r.there; same = r.same; first = record { apart = r.first } } in
    repeat_refused p.start items r.j x ∙ ap (λ (i : ℕ). refuse 7 (p.start + i)) r.stands

keys_refused : (paired : Bool) (s : List ℕ) (sizes : Ranks) (c : FieldCursor) (fs : List (ℕ × Part)) (p : Part) (q : ℕ)
    → keep_fields sizes c s ≡ ok fs → first_of (keys_field paired) fs ≡ Some p → Repeats paired (lent_part s p) q
    → keys_hold s fs ≡ refuse 7 (p.start + q)
unfolding keys_hold
keys_refused false s sizes c fs p q k v r = rw (v, once_refused false s p q r)
keys_refused true s sizes c fs p q k v r = rw (prefixed_alone sizes c s fs k p v, v, once_refused true s p q r)

-- ---- a map's columns, as the walk counts them
module _ {d : Dialect} {cs : List Declared} {c : FieldCursor} (n : Counted d cs c) (s : List ℕ) where
  -- what is asked of a field, and the rules that it breaks or not
  abbrev asks_here : List ℕ → ℕ → List ℕ → Bool
  asks_here before kind value = asks c.numeric c.columns (sizes_of d cs) before kind value

  as_counted : (before : List ℕ) (kind : ℕ) (value : List ℕ)
      → asks_here before kind value ≡ asks (count (signed d) cs) (length cs) (sizes_of d cs) before kind value
  as_counted before kind value = rw (n.numeric, n.columns)

  breaks_none : (before : List ℕ) (kind : ℕ) (value : List ℕ) → is_field kind ≡ true → asks_here before kind value ≡ true
      → Breaks d cs before kind value → ⊥
  breaks_none before kind value k e = asked before kind value k (sym (as_counted before kind value) ∙ e)

  breaks_one : (before : List ℕ) (kind : ℕ) (value : List ℕ) → asks_here before kind value ≡ false → Breaks d cs before kind value
  breaks_one before kind value e = unasked before kind value (sym (as_counted before kind value) ∙ e)

  none_asked : (before : List ℕ) (kind : ℕ) (value : List ℕ) → (Breaks d cs before kind value → ⊥) → asks_here before kind value ≡ true
  none_asked before kind value b = go (asks_here before kind value) refl
    where
      go : (t : Bool) → asks_here before kind value ≡ t → t ≡ true
      go true e = refl
      go false e = absurd (b (breaks_one before kind value e))

  one_asked : (before : List ℕ) (kind : ℕ) (value : List ℕ) → is_field kind ≡ true → Breaks d cs before kind value
      → asks_here before kind value ≡ false
  one_asked before kind value k b = go (asks_here before kind value) refl
    where
      go : (t : Bool) → asks_here before kind value ≡ t → t ≡ false
      go true e = absurd (breaks_none before kind value k e b)
      go false e = refl

  abbrev keep_here : List ℕ → ℕ → Outcome (List (ℕ × Part))
  keep_here before o = keep_from (sizes_of d cs) c s before o

  abbrev rule : Rule (ℕ × Part)
  rule = field_item c.numeric c.columns

  -- ---- fields that stand lead to what is behind them
  stand_refuses : {from o : ℕ} {before : List ℕ} (w : Refusal) → Stand s (Breaks d cs) from o before → keep_here before o ≡ refused w
      → keep_here [] from ≡ refused w
  stand_refuses w no_field e = e
  stand_refuses w (a_field {o} {len} {start} {before} u k r h b) e =
      let t = none_asked before (get_or s o 0) (take len (drop start s)) b in
      stand_refuses w u (keep_field (sizes_of d cs) c s before o len start k r h ∙ rw (t, e))

  -- so the first field that is refused is told
  pub field_told : {from number p : ℕ} → Bytes s → FieldRefused s (Stand s (Breaks d cs) from) (Breaks d cs) number p
      → keep_here [] from ≡ refuse number p
  field_told b (cut {o} {before} u l x) =
      let e = field_refused c.numeric c.columns s o (why 1 (o + 1)) l (cut_told x) in
      stand_refuses (why 1 (o + 1)) u (keep_turn (sizes_of d cs) c s before o ∙ rw (refusal_stepped rule s o (why 1 (o + 1)) l e))
  field_told b (unpacked {o} {before} u l x) =
      let e = field_refused c.numeric c.columns s o (why 2 (o + 1)) l (unpacked_told b x) in
      stand_refuses (why 2 (o + 1)) u (keep_turn (sizes_of d cs) c s before o ∙ rw (refusal_stepped rule s o (why 2 (o + 1)) l e))
  field_told b (unknown {o} {q} {before} u x k) =
      let y = field_unknown c.numeric c.columns s o q x k in
      stand_refuses (why 6 o) u (keep_turn (sizes_of d cs) c s before o ∙ rw (refusal_stepped rule s o (why 6 o) y.0 y.1))
  field_told b (faulty {o} {len} {start} {before} u k r h f) =
      let t = one_asked before (get_or s o 0) (take len (drop start s)) k f in
      stand_refuses (why 7 o) u (keep_field (sizes_of d cs) c s before o len start k r h ∙ rw t)

  -- ---- the other way: a refusal is that of the first field that is refused
  kept_refuses : (m : ℕ) {from o : ℕ} {before : List ℕ} (w : Refusal) → o ≤ length s → Stand s (Breaks d cs) from o before
      → keep_steps m (sizes_of d cs) c s before o ≡ refused w → Told s (Stand s (Breaks d cs) from) (Breaks d cs) w
  unfolding keep_steps stands_given
  kept_refuses zero w h u e = absurd (ok_not_refused e)
  kept_refuses (suc m) {from} {o} {before} w h u e =
      go (λ q l v x. kept_refuses m w l v x) (step rule s o) refl e
    where
      kind : ℕ
      kind = get_or s o 0

      go : ((q : ℕ) → q ≤ length s → Stand s (Breaks d cs) from q (kind ∷ before)
          → keep_steps m (sizes_of d cs) c s (kind ∷ before) q ≡ refused w → Told s (Stand s (Breaks d cs) from) (Breaks d cs) w)
          → (x : Outcome (Stepped (ℕ × Part) ℕ)) → step rule s o ≡ x
          → keep (λ k q. keep_steps m (sizes_of d cs) c s (k ∷ before) q) (stands_behind (sizes_of d cs) c.columns s before) o x ≡ refused w
          → Told s (Stand s (Breaks d cs) from) (Breaks d cs) w
      go again (ok end) x y = absurd (ok_not_refused y)
      go again (ok (Some (f, q))) x y =
          let a = field_met c.numeric c.columns s o f q x in
          by_test (stands_behind (sizes_of d cs) c.columns s before f) _ _ _ y
          (λ t z.
          let b = breaks_none before kind (take f.1.len (drop f.1.start s)) a.known (asks_so a t) in
          let v =
          subst (λ (p : ℕ). Stand s (Breaks d cs) from p (kind ∷ before)) (sym a.ends)
          (a_field u a.known a.read a.fits b) in
          ⊎_elim
          (λ r. again q a.within v (subst (λ (k : ℕ). keep_steps m (sizes_of d cs) c s (k ∷ before) q ≡ refused w) (sym a.kind_is) r))
          (λ r. absurd (ok_not_refused r.2))
          (after_refuses (keep_steps m (sizes_of d cs) c s (f.0 ∷ before) q) _ w z))
          (λ t z.
          let b = breaks_one before kind (take f.1.len (drop f.1.start s)) (asks_so a t) in
          (7, o, sym (same_refused z), faulty u a.known a.read a.fits b))
        where
          asks_so : {t : Bool} → Met c.numeric c.columns s o f q → stands_behind (sizes_of d cs) c.columns s before f ≡ t
              → asks_here before kind (take f.1.len (drop f.1.start s)) ≡ t
          asks_so a t = rw (a.holds, a.kind_is, ← a.lent) t
      go again (refused v) x y =
          let q : v ≡ w = same_refused y in
          step_refuses (Stand s (Breaks d cs) from) (Breaks d cs) c.numeric c.columns s o before u h
          (λ len start k f. breaks_one before kind (take len (drop start s)) (rw f)) w (x ∙ ap (λ (r : Refusal). refused r) q)

  pub field_refuses : (w : Refusal) {from : ℕ} → from ≤ length s → keep_here [] from ≡ refused w
      → Told s (Stand s (Breaks d cs) from) (Breaks d cs) w
  field_refuses w {from} h e = kept_refuses (suc (length s - from)) w h no_field e

  -- ---- keys, where all fields stand
  -- the field of a type that was found, behind those that stand before it
  record FoundAt (from kind : ℕ) (p : Part) : Type 0 where
    place : ℕ
    before : List ℕ
    stand : Stand s (Breaks d cs) from place before
    kind_is : get_or s place 0 ≡ kind
    read : read_packed s (place + 1) ≡ ok (p.len, p.start)
    fits : p.start + p.len ≤ length s

  record AllStand (from : ℕ) (fs : List (ℕ × Part)) : Type 0 where
    types : List ℕ
    stand : Stand s (Breaks d cs) from (length s) types
    found : (kind : ℕ) (p : Part) → first_of kind fs ≡ Some p → FoundAt from kind p

  kept_stand : (m : ℕ) {from o : ℕ} {before : List ℕ} (fs : List (ℕ × Part)) → length s - o < m → o ≤ length s
      → Stand s (Breaks d cs) from o before → keep_steps m (sizes_of d cs) c s before o ≡ ok fs → AllStand from fs
  unfolding keep_steps stands_given first_of
  kept_stand zero fs l h u e = absurd (omega arith)
  kept_stand (suc m) {from} {o} {before} fs l h u e = go (λ q gs k g v x. kept_stand m gs k g v x) (step rule s o) refl e
    where
      kind : ℕ
      kind = get_or s o 0

      go : ((q : ℕ) (gs : List (ℕ × Part)) → length s - q < m → q ≤ length s → Stand s (Breaks d cs) from q (kind ∷ before)
          → keep_steps m (sizes_of d cs) c s (kind ∷ before) q ≡ ok gs → AllStand from gs)
          → (x : Outcome (Stepped (ℕ × Part) ℕ)) → step rule s o ≡ x
          → keep (λ k q. keep_steps m (sizes_of d cs) c s (k ∷ before) q) (stands_behind (sizes_of d cs) c.columns s before) o x ≡ ok fs
          → AllStand from fs
      go again (ok end) x y =
          let q : o ≡ length s = end_there rule s o x in
          subst (AllStand from) (same_ok y) (record {
            types = before;
            stand = subst (λ (p : ℕ). Stand s (Breaks d cs) from p before) q u;
            found = λ k p f. absurd (nothing_not_value f);
          })
      go again (ok (Some (f, q))) x y =
          let a = field_met c.numeric c.columns s o f q x in
          let i = item_read rule s o f q x in
          let j = (field_moves c.numeric c.columns).moves s o f q i.1 in
          by_test (stands_behind (sizes_of d cs) c.columns s before f) _ _ _ y
          (λ t z.
          let b = breaks_none before kind (take f.1.len (drop f.1.start s)) a.known (rw (a.holds, a.kind_is, ← a.lent) t) in
          let v =
          subst (λ (p : ℕ). Stand s (Breaks d cs) from p (kind ∷ before)) (sym a.ends)
          (a_field u a.known a.read a.fits b) in
          let w = after_is_ok (keep_steps m (sizes_of d cs) c s (f.0 ∷ before) q) (λ gs. ok (f ∷ gs)) fs z in
          let r = again q w.0 (omega (arith, j.0, j.1)) a.within v
          (subst (λ (k : ℕ). keep_steps m (sizes_of d cs) c s (k ∷ before) q ≡ ok w.0) (sym a.kind_is) w.1) in
          subst (AllStand from) (same_ok w.2) (record {
            types = r.types;
            stand = r.stand;
            found = λ k p g.
                by_test (eqb f.0 k) _ _ _ g
                (λ t z.
                let e : f.1 ≡ p = same_value z in
                subst (FoundAt from k) e (record {
                  place = o;
                  before = before;
                  stand = u;
                  kind_is = a.kind_is ∙ eqb-true f.0 k t;
                  read = a.read;
                  fits = a.fits;
                }))
                (λ t z. r.found k p z);
          }))
          (λ t z. absurd (ok_not_refused (sym z)))
      go again (refused v) x y = absurd (ok_not_refused (sym y))

  -- the value of keys that is told
  pub record KeyTold (from : ℕ) (w : Refusal) : Type 0 where
    pub types : List ℕ
    pub all : Stand s (Breaks d cs) from (length s) types
    pub paired : Bool
    pub place : ℕ
    pub before : List ℕ
    pub stand : Stand s (Breaks d cs) from place before
    pub kind_is : get_or s place 0 ≡ keys_field paired
    pub len : ℕ
    pub start : ℕ
    pub read : read_packed s (place + 1) ≡ ok (len, start)
    pub fits : start + len ≤ length s
    pub at : ℕ
    pub repeats : Repeats paired (take len (drop start s)) at
    pub told : w ≡ why 7 (start + at)

  once_told : {from : ℕ} {fs : List (ℕ × Part)} → AllStand from fs → (paired : Bool) (w : Refusal) (f : Option Part)
      → first_of (keys_field paired) fs ≡ f → once_in paired s f ≡ refused w → KeyTold from w
  once_told {from} {fs} a paired w (Some p) e h =
      let f = a.found (keys_field paired) p e in
      let l : lent_part s p ≡ take p.len (drop p.start s) = lent_is s p f.fits in
      let ks = keys_from paired (take p.len (drop p.start s)) 0 in
      let x = refused_repeat p.start ks w (subst (λ (v : List ℕ). keys_once p.start [] (keys_from paired v 0) ≡ refused w) l h) in
      let r = x.1 in
      record {
        types = a.types;
        all = a.stand;
        paired = paired;
        place = f.place;
        before = f.before;
        stand = f.stand;
        kind_is = f.kind_is;
        len = p.len;
        start = p.start;
        read = f.read;
        fits = f.fits;
        at = place_at ks x.0;
        repeats = record {
          j = x.0;
          there = r.there;
          stands = refl;
          earlier = r.earlier;
          before = r.before;
          same = r.same;
          first = r.first.apart;
        };
        told = x.2;
      }
  once_told a paired w None e h = absurd (ok_not_refused h)

  pub key_refuses : (w : Refusal) {from : ℕ} (fs : List (ℕ × Part)) → from ≤ length s → keep_here [] from ≡ ok fs → keys_hold s fs ≡ refused w
      → KeyTold from w
  unfolding keys_hold
  key_refuses w {from} fs h k e =
      let a = kept_stand (suc (length s - from)) fs (omega arith) h no_field k in
      ⊎_elim (λ l. once_told a false w (first_of 8 fs) refl l) (λ r. once_told a true w (first_of 9 fs) refl r.2)
      (after_refuses (once_in false s (first_of 8 fs)) (λ x. once_in true s (first_of 9 fs)) w e)

  -- ---- and the other way
  -- fields that stand are kept
  stand_kept : {from o : ℕ} {before : List ℕ} (gs : List (ℕ × Part)) → Stand s (Breaks d cs) from o before → keep_here before o ≡ ok gs
      → (fs : List (ℕ × Part)) × (keep_here [] from ≡ ok fs)
  stand_kept gs no_field e = (gs, e)
  stand_kept gs (a_field {o} {len} {start} {before} u k r h b) e =
      let t = none_asked before (get_or s o 0) (take len (drop start s)) b in
      stand_kept ((get_or s o 0, part start len) ∷ gs) u (keep_field (sizes_of d cs) c s before o len start k r h ∙ rw (t, e))

  -- of those that are kept, what is kept from a field on is a part
  stand_among : {from o : ℕ} {before : List ℕ} (fs : List (ℕ × Part)) → Stand s (Breaks d cs) from o before → keep_here [] from ≡ ok fs
      → (gs : List (ℕ × Part)) × (keep_here before o ≡ ok gs) × ((f : ℕ × Part) → Member f gs → Member f fs)
  stand_among fs no_field e = (fs, e, λ f m. m)
  stand_among fs (a_field {o} {len} {start} {before} u k r h b) e =
      let x = stand_among fs u e in
      let t = none_asked before (get_or s o 0) (take len (drop start s)) b in
      let y : after (keep_here (get_or s o 0 ∷ before) (start + len)) (λ gs. ok ((get_or s o 0, part start len) ∷ gs)) ≡ ok x.0
      = rw (← x.1, keep_field (sizes_of d cs) c s before o len start k r h, t) in
      let z = after_is_ok (keep_here (get_or s o 0 ∷ before) (start + len)) (λ gs. ok ((get_or s o 0, part start len) ∷ gs)) x.0 y in
      (z.0, z.1, λ f m. x.2 f (behind f z.0 x.0 z.2 m))
    where
      behind : (f : ℕ × Part) (gs hs : List (ℕ × Part)) → ◌≡◌ {A = Outcome (List (ℕ × Part))} (ok ((get_or s o 0, part start len) ∷ gs)) (ok hs) → Member f gs
          → Member f hs
      behind f gs hs e m = subst (Member f) (same_ok e) (later m)

  field_among : {from o len start : ℕ} {before : List ℕ} (fs : List (ℕ × Part)) → Stand s (Breaks d cs) from o before
      → is_field (get_or s o 0) ≡ true → read_packed s (o + 1) ≡ ok (len, start) → start + len ≤ length s → keep_here [] from ≡ ok fs
      → Member (get_or s o 0, part start len) fs
  field_among {from} {o} {len} {start} {before} fs u k r h e =
      let x = stand_among fs u e in
      let y : cond (asks_here before (get_or s o 0) (take len (drop start s)))
      (after (keep_here (get_or s o 0 ∷ before) (start + len)) (λ gs. ok ((get_or s o 0, part start len) ∷ gs))) (refuse 7 o) ≡ ok x.0
      = rw (← x.1, keep_field (sizes_of d cs) c s before o len start k r h) in
      by_test (asks_here before (get_or s o 0) (take len (drop start s))) _ _ _ y
      (λ t z.
      let w = after_is_ok (keep_here (get_or s o 0 ∷ before) (start + len)) (λ gs. ok ((get_or s o 0, part start len) ∷ gs)) x.0 z in
      x.2 (get_or s o 0, part start len) (at_front w.0 x.0 w.2))
      (λ t z. absurd (ok_not_refused (sym z)))
    where
      at_front : (gs hs : List (ℕ × Part)) → ◌≡◌ {A = Outcome (List (ℕ × Part))} (ok ((get_or s o 0, part start len) ∷ gs)) (ok hs)
          → Member (get_or s o 0, part start len) hs
      at_front gs hs e = subst (Member (get_or s o 0, part start len)) (same_ok e) (here refl)

  -- so the first key that repeats one is told
  pub key_told : {from o len start p : ℕ} {before types : List ℕ} (paired : Bool) → c.at ≡ from
      → Stand s (Breaks d cs) from (length s) types
      → Stand s (Breaks d cs) from o before → get_or s o 0 ≡ keys_field paired → read_packed s (o + 1) ≡ ok (len, start)
      → start + len ≤ length s → Repeats paired (take len (drop start s)) p
      → (fs : List (ℕ × Part)) × (keep_here [] from ≡ ok fs) × (keys_hold s fs ≡ refuse 7 (start + p))
  key_told {from} {o} {len} {start} {p} {before} {types} paired q all u k r h x =
      let y = stand_kept [] all (keep_turn (sizes_of d cs) c s types (length s) ∙ rw (step_end rule s (length s) refl)) in
      let e : keep_fields (sizes_of d cs) c s ≡ ok y.0 = subst (λ (i : ℕ). keep_here [] i ≡ ok y.0) (sym q) y.1 in
      let m = subst (λ (t : ℕ). Member (t, part start len) y.0) k (field_among y.0 u (known paired k) r h y.1) in
      let f = member_first s y.0 (keys_field paired) (part start len) (kept_distinct (kept_fields (sizes_of d cs) c s y.0 e)) m in
      (y.0, y.1, keys_refused paired s (sizes_of d cs) c y.0 (part start len) p e f (rw (lent_is s (part start len) h) x))
    where
      known : (paired : Bool) → get_or s o 0 ≡ keys_field paired → is_field (get_or s o 0) ≡ true
      known true e = rw e
      known false e = rw e

-- ---- the fields up to the names: what the walk asks of one
walk_holds : (numeric n : ℕ) {before : List ℕ} {kind : ℕ} {value : List ℕ} → contents_hold numeric n kind value ≡ true
    → WalkBreaks numeric n before kind value → ⊥
walk_holds numeric n e (not_signs {value} b) = b (signs_there numeric n value e)
walk_holds numeric n e (not_visible {value} b) = b (visible_there numeric n value e)
walk_holds numeric n e (no_default {value} b) =
    let x = charset_there numeric n 2 value (inl refl) e in
    b x.0.0 x.0.1 x.1
walk_holds numeric n e (no_choice {value} b) =
    let x = charset_there numeric n 10 value (inr refl) e in
    b x.0.0 x.0.1 x.1

not_read : (value : List ℕ) → is_read (read_packed value 0) ≡ false → (v next : ℕ) → read_packed value 0 ≡ ok (v, next) → ⊥
not_read value e v next r = true≢false (sym (ap is_read r) ∙ e)

walk_breaks : (numeric n : ℕ) (before : List ℕ) (kind : ℕ) (value : List ℕ) → contents_hold numeric n kind value ≡ false
    → WalkBreaks numeric n before kind value
unfolding contents_hold
walk_breaks numeric n before kind value e =
    by_test (eqb kind 1) _ _ _ e
    (λ t x. at_kind 1 t (not_signs (eqb-false (length value) (bytes_for numeric) x)))
    (λ t e₁. by_test (eqb kind 12) _ _ _ e₁
    (λ u x. at_kind 12 u (not_visible (eqb-false (length value) (bytes_for n) x)))
    (λ u e₂. by_test (eqb kind 2 || eqb kind 10) _ _ _ e₂
    (λ v x. default (eqb kind 2) refl v (not_read value x))
    (λ v x. absurd (true≢false x))))
  where
    at_kind : (k : ℕ) → eqb kind k ≡ true → WalkBreaks numeric n before k value → WalkBreaks numeric n before kind value
    at_kind k t b = subst (λ (j : ℕ). WalkBreaks numeric n before j value) (sym (eqb-true kind k t)) b

    default : (t : Bool) → eqb kind 2 ≡ t → (t || eqb kind 10) ≡ true → ((v next : ℕ) → read_packed value 0 ≡ ok (v, next) → ⊥)
        → WalkBreaks numeric n before kind value
    default true t e b = at_kind 2 t (no_default b)
    default false t e b = at_kind 10 e (no_choice b)

-- a walk that breaks off, with no names before that
module _ (numeric n : ℕ) (s : List ℕ) (from : ℕ) where
  abbrev Comes : ℕ → List ℕ → Type 0
  Comes o before = Stand s (WalkBreaks numeric n) from o before × (Member 4 before → ⊥)

  walk_refuses : (m o : ℕ) (before : List ℕ) (w : Refusal) → o ≤ length s → Comes o before
      → first_of 4 (walk_steps m (field_item numeric n) s o).items ≡ None → (walk_steps m (field_item numeric n) s o).how ≡ broken w
      → Told s Comes (WalkBreaks numeric n) w
  unfolding walk_steps first_of
  walk_refuses zero o before w h u f e = absurd (whole_not_broken e)
  walk_refuses (suc m) o before w h u f e = go (λ q l v g x. walk_refuses m q (kind ∷ before) w l v g x) (step rule s o) refl f e
    where
      kind : ℕ
      kind = get_or s o 0

      rule : Rule (ℕ × Part)
      rule = field_item numeric n

      go : ((q : ℕ) → q ≤ length s → Comes q (kind ∷ before) → first_of 4 (walk_steps m rule s q).items ≡ None
          → (walk_steps m rule s q).how ≡ broken w → Told s Comes (WalkBreaks numeric n) w)
          → (x : Outcome (Stepped (ℕ × Part) ℕ)) → step rule s o ≡ x → first_of 4 (items_onward (walk_steps m rule s) x).items ≡ None
          → (items_onward (walk_steps m rule s) x).how ≡ broken w → Told s Comes (WalkBreaks numeric n) w
      go again (ok end) x f y = absurd (whole_not_broken y)
      go again (ok (Some (g, q))) x f y =
          let a = field_met numeric n s o g q x in
          by_test (eqb g.0 4) _ _ _ f (λ t z. absurd (nothing_not_value (sym z)))
          (λ t z.
          let v = subst (λ (p : ℕ). Stand s (WalkBreaks numeric n) from p (kind ∷ before)) (sym a.ends)
          (a_field u.0 a.known a.read a.fits (walk_holds numeric n a.holds)) in
          again q a.within (v, none_before (eqb-false g.0 4 t) a) z y)
        where
          none_before : (g.0 ≡ 4 → ⊥) → Met numeric n s o g q → Member 4 (kind ∷ before) → ⊥
          none_before k a (here e) = k (sym (e ∙ a.kind_is))
          none_before k a (later m) = u.1 m
      go again (refused v) x f y =
          let q : v ≡ w = same_broken y in
          step_refuses Comes (WalkBreaks numeric n) numeric n s o before u h
          (λ len start k b. walk_breaks numeric n before kind (take len (drop start s)) b) w (x ∙ ap (λ (r : Refusal). refused r) q)

pub names_refuses : (c : FieldCursor) (s : List ℕ) (w : Refusal) → c.at ≤ length s → names_in (walk_fields c s) ≡ refused w
    → Told s (λ o before. Stand s (WalkBreaks c.numeric c.columns) c.at o before × (Member 4 before → ⊥))
    (WalkBreaks c.numeric c.columns) w
names_refuses c s w h e =
    walk_refuses c.numeric c.columns s c.at (suc (length s - c.at)) c.at [] w h (no_field, λ m. no_member m refl)
    (names_unmet (walk_fields c s) w e) (names_broken (walk_fields c s) w e)

-- ---- the whole check, of an event that is read
-- it has too many columns
pub many_told : (d : Dialect) {s : List ℕ} {post_header p : ℕ} → TooMany s post_header p → check_map d s post_header ≡ refuse 3 p
unfolding check_map check_event few_enough
many_told d {s} {post_header} (too_many {e} r l) = rw (r, lt-leb (length (lent_part s e.types)) most_columns l)

-- a column is not taken, for its type or for its metadata
columns_told : (d : Dialect) (s : List ℕ) (post_header n j : ℕ) (e : Event) → read_event s post_header ≡ ok e
    → length (lent_part s e.types) ≤ most_columns → take_columns (lent_part s e.types) (lent_part s e.metadata) 0 ≡ refuse n (0 + j)
    → check_map d s post_header ≡ refuse n j
unfolding check_map check_event few_enough
columns_told d s post_header n j e r l h =
    let z : 0 + j ≡ j = omega arith in
    rw (r, le-leb (length (lent_part s e.types)) most_columns l, h, z)

pub type_refused : (d : Dialect) {s : List ℕ} {post_header j : ℕ} → InColumns TypeNotTaken s post_header j
    → check_map d s post_header ≡ refuse 4 j
type_refused d {s} {post_header} {j} (in_columns {e} r l x) = columns_told d s post_header 4 j e r l (type_told x 0)

pub metadata_refused : (d : Dialect) {s : List ℕ} {post_header j : ℕ} → InColumns MetadataWrong s post_header j
    → check_map d s post_header ≡ refuse 5 j
metadata_refused d {s} {post_header} {j} (in_columns {e} r l x) = columns_told d s post_header 5 j e r l (metadata_told x 0)

-- where all are taken, the walk counts them
taken_counted : (d : Dialect) {s : List ℕ} {post_header : ℕ} (x : ColumnsTaken s post_header)
    → Counted d x.columns (fields_at d (lent_part s x.event.types) x.event.optional.start)
taken_counted d {s} x =
    counted d (lent_part s x.event.types) (lent_part s x.event.metadata) x.event.optional.start x.columns
    (columns_taken x.columns_are 0)

abbrev all_taken : (s : List ℕ) (post_header : ℕ) (e : Event) (cs : List Declared) → read_event s post_header ≡ ok e
    → length (lent_part s e.types) ≤ most_columns → take_columns (lent_part s e.types) (lent_part s e.metadata) 0 ≡ ok cs
    → ColumnsTaken s post_header
all_taken s post_header e cs r l t = record {
  event = e;
  read = r;
  few = l;
  columns = cs;
  columns_are = taken_columns (lent_part s e.types) (lent_part s e.metadata) 0 cs t;
}

-- a field is refused
pub fields_told : {d : Dialect} {s : List ℕ} {post_header number p : ℕ} → Bytes s → InFields d s post_header number p
    → check_map d s post_header ≡ refuse number p
unfolding check_map check_event few_enough
fields_told {d} {s} b (in_fields x f) =
    let types = lent_part s x.event.types in
    rw (
      x.read,
      le-leb (length types) most_columns x.few,
      columns_taken x.columns_are 0,
      field_told (taken_counted d x) s b f,
    )

pub fields_refuse : (d : Dialect) (s : List ℕ) (post_header : ℕ) (e : Event) (cs : List Declared) (w : Refusal)
    → read_event s post_header ≡ ok e
    → length (lent_part s e.types) ≤ most_columns → take_columns (lent_part s e.types) (lent_part s e.metadata) 0 ≡ ok cs
    → keep_fields (sizes_of d cs) (fields_at d (lent_part s e.types) e.optional.start) s ≡ refused w
    → (number p : ℕ) × (w ≡ why number p) × InFields d s post_header number p
fields_refuse d s post_header e cs w r l t k =
    let x = all_taken s post_header e cs r l t in
    let y = field_refuses (taken_counted d x) s w (omega (arith, (each_within s post_header e r).optional)) k in
    (y.0, y.1, y.2, in_fields x y.3)

-- a key is
pub keys_told : {d : Dialect} {s : List ℕ} {post_header p : ℕ} → KeyRepeated d s post_header p → check_map d s post_header ≡ refuse 7 p
unfolding check_map check_event few_enough
keys_told {d} {s} (repeated paired x all u k r h y) =
    let types = lent_part s x.event.types in
    let z = key_told (taken_counted d x) s paired refl all u k r h y in
    rw (x.read, le-leb (length types) most_columns x.few, columns_taken x.columns_are 0, z.1, z.2)

pub keys_refuse : (d : Dialect) (s : List ℕ) (post_header : ℕ) (e : Event) (cs : List Declared) (fs : List (ℕ × Part)) (w : Refusal)
    → read_event s post_header ≡ ok e
    → length (lent_part s e.types) ≤ most_columns → take_columns (lent_part s e.types) (lent_part s e.metadata) 0 ≡ ok cs
    → keep_fields (sizes_of d cs) (fields_at d (lent_part s e.types) e.optional.start) s ≡ ok fs → keys_hold s fs ≡ refused w
    → (p : ℕ) × (w ≡ why 7 p) × KeyRepeated d s post_header p
keys_refuse d s post_header e cs fs w r l t k h =
    let x = all_taken s post_header e cs r l t in
    let y = key_refuses (taken_counted d x) s w fs (omega (arith, (each_within s post_header e r).optional)) k h in
    (y.start + y.at, y.told, repeated y.paired x y.all y.stand y.kind_is y.read y.fits y.repeats)
