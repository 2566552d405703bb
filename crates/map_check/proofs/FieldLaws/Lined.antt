-- Columns and fields, one behind the other in the bytes: those that are taken, and those that are kept. Assumes nothing.
use Rattle.std.specs.Prelude.{None, Option, Some}
use Prim.Native.Nat.{ℕ, zero, suc, ◌+◌, ◌-◌, ◌≤◌, ◌<◌}
use mathlib.Core.Path.{◌≡◌, refl, sym, ap, subst, ◌∙◌}
use mathlib.Core.Logic.{dite}
use mathlib.Core.Bool.{Bool, true, false, true≢false}
use mathlib.Core.List.{List, [], ◌∷◌, ◌++◌, map}
use native.Mathlib.Decide.{dec_le}
use native.Mathlib.Omega.{arith}
use borrow.Author.Tests.{le-leb, lt-leb, leb-true, eqb-true, eq-eqb, ne_eqb}
use lib.ListN.{length, get_or, take, drop, length-append, take-append-drop, get_or-append, get_or-eq_default}
use lib.Seq.{length-take-le, drop_at}
use lib.Dec.{leb, eqb}
use Rattle.wire.specs.Outcome.{ok, why, after}
use Rattle.wire.specs.Packed.{read_packed}
use Rattle.wire.specs.declared.part.Part.{Part}
use Rattle.wire.specs.Parts.{part, lent_part}
use Rattle.wire.proofs.Outcomes.{after_is_ok, test_is_ok, by_test, ok_not_refused, same_ok, both_true}
use Rattle.wire.proofs.Parts.{within_fits, lent_is}
use Rattle.wire.proofs.Forms.{read_moves}
use Rattle.value.specs.Types.{family_of, is_known}
use Rattle.table_map.specs.declared.field.Fields.{Fields as FieldCursor}
use Rattle.table_map.specs.Parts.{long_part}
use Rattle.table_map.specs.Lists.{Rule, walk_items}
use Rattle.table_map.specs.Fields.{is_field, contents_hold, cut_field, judge_field, field_item}
use Rattle.table_map.proofs.Chains.{long_named}
use Rattle.table_map.proofs.Steps.{step_end}
use Rattle.table_map.proofs.Optional.{value_lent, field_read, field_moves}
use Rattle.map_check.specs.declared.declare.Declared.{Declared}
use Rattle.map_check.specs.declared.rank.Ranks.{Ranks}
use Rattle.map_check.specs.Columns.{meta_bytes, meta_byte, declared, is_accepted, take_column, take_columns}
use Rattle.map_check.specs.Contents.{is_whole, key_item, contents_full}
use Rattle.map_check.specs.Fields.{stood, rival_of, stands_given, keep_steps, keep_fields, first_of}
use Rattle.map_check.specs.Keys.{once_in, keys_hold}
use Rattle.map_check.specs.Passes.{Member, here, later, Each, Distinct, firsts, Between, none, more, ColumnIs, ColumnsAre, no_column}
use Rattle.map_check.specs.Passes.{a_column, Field, FieldsAre, no_field, a_field, Absent, NotBoth}
use Rattle.map_check.proofs.ColumnLaws.Declares.{taken_is}
use Rattle.map_check.proofs.ContentsLaws.Tallies.{item_stepped}
use Rattle.map_check.proofs.FieldLaws.KeptFields.{Kept, none as none_kept, more as more_kept, kept_fields, kept_walk, fits}
use Rattle.map_check.proofs.FieldLaws.KeptFields.{same_value, nothing_not_value}
use Rattle.map_check.proofs.ContentsLaws.Laid.{whole_laid, member_stood, stood_member, once_distinct, distinct_once}
use Rattle.map_check.proofs.ContentsLaws.Filled.{Held, first_member, pair_member}

-- ---- columns
-- a byte of the metadata from a column's own on is one of its own, or there is none
own_byte : (i kind : ℕ) (own rest : List ℕ) → length own ≡ meta_bytes kind → meta_byte i kind (own ++ rest) ≡ get_or own i 0
unfolding meta_byte
own_byte i kind own rest e =
    dite (dec_le (meta_bytes kind) i)
    (λ h. rw (le-leb (meta_bytes kind) i h) (sym (get_or-eq_default own 0 (omega arith))))
    (λ h.
    let l : i < meta_bytes kind = omega arith in
    rw (lt-leb (meta_bytes kind) i l) (get_or-append own rest 0 i (omega arith)))

column_declared : (kind : ℕ) (own rest : List ℕ) (c : Declared) → ColumnIs kind own c → declared kind (own ++ rest) ≡ c
unfolding declared
column_declared kind own rest c x =
    rw (
      own_byte 0 kind own rest x.size,
      own_byte 1 kind own rest x.size,
      ← x.real_is,
      ← x.m0_is,
      ← x.m1_is,
      ← x.kind_is,
    )

column_taken : (kind : ℕ) (own rest : List ℕ) (c : Declared) (p : ℕ) → ColumnIs kind own c → take_column kind (own ++ rest) p ≡ ok c
unfolding take_column
column_taken kind own rest c p x =
    let l : meta_bytes kind ≤ length (own ++ rest) = omega (arith, length-append own rest, x.size) in
    let e = column_declared kind own rest c x in
    let a : is_accepted (declared kind (own ++ rest)) ≡ true = subst (λ (y : Declared). is_accepted y ≡ true) (sym e) x.accepted in
    rw (x.known, le-leb (meta_bytes kind) (length (own ++ rest)) l, a) (ap (λ (y : Declared). ok y) e)

pub columns_taken : {types meta : List ℕ} {cs : List Declared} → ColumnsAre types meta cs → (p : ℕ) → take_columns types meta p ≡ ok cs
unfolding take_columns
columns_taken no_column p = refl
columns_taken (a_column {kind = kind} {c = c} own rest e x r) p =
    rw (e, column_taken kind own rest c p x, drop_at own rest (meta_bytes kind) x.size, columns_taken r (suc p))

-- the other way
taken_known : (kind : ℕ) (meta : List ℕ) (p : ℕ) (c : Declared) → take_column kind meta p ≡ ok c → is_known (family_of kind) ≡ true
unfolding take_column
taken_known kind meta p c e = by_test (is_known (family_of kind)) _ _ _ e (λ t f. t) (λ t f. absurd (ok_not_refused (sym f)))

taken_column : (kind : ℕ) (meta : List ℕ) (p : ℕ) (c : Declared) → take_column kind meta p ≡ ok c
    → ColumnIs kind (take (meta_bytes kind) meta) c
unfolding declared
taken_column kind meta p c e =
    let t = taken_is kind meta p c e in
    let own = take (meta_bytes kind) meta in
    let n : length own ≡ meta_bytes kind = length-take-le (meta_bytes kind) meta t.2 in
    let b : (i : ℕ) → meta_byte i kind meta ≡ get_or own i 0 =
    λ i. ap (meta_byte i kind) (sym (take-append-drop (meta_bytes kind) meta)) ∙ own_byte i kind own (drop (meta_bytes kind) meta) n in
    record {
      known = taken_known kind meta p c e;
      size = n;
      kind_is = ap (λ (x : Declared). x.kind) t.0;
      m0_is = ap (λ (x : Declared). x.m0) t.0 ∙ b 0;
      m1_is = ap (λ (x : Declared). x.m1) t.0 ∙ b 1;
      real_is = ap (λ (x : Declared). x.real) t.0 ∙ rw (b 0);
      accepted = rw t.0 t.1;
    }

pub taken_columns : (types meta : List ℕ) (p : ℕ) (cs : List Declared) → take_columns types meta p ≡ ok cs → ColumnsAre types meta cs
unfolding take_columns
taken_columns [] [] p cs e = subst (ColumnsAre [] []) (same_ok e) no_column
taken_columns [] (b ∷ meta) p cs e =
    let t = test_is_ok (eqb (suc (length meta)) 0) [] (why 5 p) cs e in
    absurd (omega (arith, eqb-true (suc (length meta)) 0 t.0))
taken_columns (kind ∷ types) meta p cs e =
    let rest = drop (meta_bytes kind) meta in
    let x = after_is_ok (take_column kind meta p) (λ c. after (take_columns types rest (suc p)) (λ l. ok (c ∷ l))) cs e in
    let y = after_is_ok (take_columns types rest (suc p)) (λ l. ok (x.0 ∷ l)) cs x.2 in
    subst (ColumnsAre (kind ∷ types) meta) (same_ok y.2)
    (a_column (take (meta_bytes kind) meta) rest (sym (take-append-drop (meta_bytes kind) meta)) (taken_column kind meta p x.0 x.1)
    (taken_columns types rest (suc p) y.0 y.1))

-- ---- fields with their values
abbrev pub bare : List ℕ → List (ℕ × Part) → List Field
bare s fs = map (λ (f : ℕ × Part). (f.0, lent_part s f.1)) fs

pub bare_each : (P : Field → Type 0) (s : List ℕ) (fs : List (ℕ × Part)) → Each (λ (f : ℕ × Part). P (f.0, lent_part s f.1)) fs
    → Each P (bare s fs)
bare_each P s [] h a x'' = elim x'' [ ]
bare_each P s (f ∷ fs) h a (here q) = subst P (sym q) (h f (here refl))
bare_each P s (f ∷ fs) h a (later m) = bare_each P s fs (λ g n. h g (later n)) a m

pub no_member : {A : Type 0} {a : A} {l : List A} → Member a l → l ≡ [] → ⊥
no_member (here q) e = let z = ap length e in omega arith
no_member (later m) e = let z = ap length e in omega arith

-- the first of a type, and one that stands
pub found_member : (s : List ℕ) (fs : List (ℕ × Part)) (kind : ℕ) (p : Part) → first_of kind fs ≡ Some p
    → Member (kind, lent_part s p) (bare s fs)
unfolding first_of
found_member s [] kind p e = absurd (nothing_not_value e)
found_member s (f ∷ fs) kind p e =
    by_test (eqb f.0 kind) _ _ _ e
    (λ t u.
    let x : f.0 ≡ kind = eqb-true f.0 kind t in
    let y : f.1 ≡ p = same_value u in
    let q : ◌≡◌ {A = Field} (kind, lent_part s p) (f.0, lent_part s f.1) = rw (x, y) in
    here q)
    (λ t u. later (found_member s fs kind p u))

pub member_found : (s : List ℕ) (fs : List (ℕ × Part)) (kind : ℕ) (value : List ℕ) → Distinct (firsts (bare s fs))
    → Member (kind, value) (bare s fs)
    → (p : Part) × (first_of kind fs ≡ Some p) × (lent_part s p ≡ value)
unfolding first_of Distinct
member_found s [] kind value d x'' = elim x'' [ ]
member_found s (f ∷ fs) kind value d (here q) = (
  f.1,
  rw (eq-eqb f.0 kind (sym (ap (λ (x : Field). x.0) q))),
  sym (ap (λ (x : Field). x.1) q),
)
member_found s (f ∷ fs) kind value d (later m) =
    let n : f.0 ≡ kind → ⊥ = λ e. d.0 (subst (λ (k : ℕ). Member k (firsts (bare s fs))) (sym e) (first_member m)) in
    let y = member_found s fs kind value d.1 m in
    (y.0, rw (ne_eqb f.0 kind n) y.1, y.2)

pub nothing_absent : (s : List ℕ) (fs : List (ℕ × Part)) (kind : ℕ) → Distinct (firsts (bare s fs)) → first_of kind fs ≡ None
    → Absent kind (bare s fs)
nothing_absent s fs kind d e value m = nothing_not_value (sym e ∙ (member_found s fs kind value d m).1)

pub absent_nothing : (s : List ℕ) (fs : List (ℕ × Part)) (kind : ℕ) → Absent kind (bare s fs) → first_of kind fs ≡ None
absent_nothing s fs kind a = go (first_of kind fs) refl
  where
    go : (o : Option Part) → first_of kind fs ≡ o → o ≡ None
    go None e = refl
    go (Some p) e = absurd (a (lent_part s p) (found_member s fs kind p e))

-- ---- fields that a walk cut out
laid_fields : (numeric columns : ℕ) {s : List ℕ} {at to : ℕ} {fs : List (ℕ × Part)} → Between (field_item numeric columns) s at to fs
    → to ≡ length s
    → FieldsAre s at (bare s fs)
laid_fields numeric columns none e = no_field e
laid_fields numeric columns {s} {at} (more {next = next} {a = a} {xs = xs} f b) e =
    let r = field_read numeric columns s at a next f in
    let l = long_named s (at + 1) (a.1, next) r.value in
    let q : ◌≡◌ {A = Field} (get_or s at 0, take a.1.len (drop a.1.start s)) (a.0, lent_part s a.1)
    = rw (r.kind, value_lent s (at + 1) a.1 next r.value) in
    let rest = subst (λ (n : ℕ). FieldsAre s n (bare s xs)) l.1 (laid_fields numeric columns b e) in
    subst (λ (g : Field). FieldsAre s at (g ∷ bare s xs)) q (a_field a.1.len a.1.start l.0 (omega (arith, l.1, l.2)) rest)

-- where one of the items was read
item_at_lem : {A : Type 0} {rule : Rule A} {s : List ℕ} {at to : ℕ} {xs : List A} {a : A} → Between rule s at to xs → Member a xs
    → (place next : ℕ) × (rule s place ≡ ok (a, next))
item_at_lem {A = A} {rule = rule} {s = s} {a = a} (none {at = at}) x5 = elim x5 [ ]
item_at_lem {A} {rule} {s} {at} (more {next = next} f b) (here q) = (at, next, f ∙ ap (λ (x : A). ok (x, next)) (sym q))
item_at_lem (more f b) (later m) = item_at_lem b m

kept_full : {sizes : Ranks} {n : ℕ} {s before : List ℕ} {fs : List (ℕ × Part)} → Kept sizes n s before fs
    → Each (λ (f : ℕ × Part). contents_full sizes n f.0 (lent_part s f.1) ≡ true) fs
kept_full {sizes = sizes} {n = n} {s = s} (none_kept before) f x4 = elim x4 [ ]
kept_full {sizes} {n} {s} (more_kept before g gs known t rest) f (here q) =
    subst (λ (x : ℕ × Part). contents_full sizes n x.0 (lent_part s x.1) ≡ true) (sym q) (fits sizes n s before g t).contents
kept_full (more_kept before g gs known t rest) f (later m) = kept_full rest f m

-- ---- no type stands twice
kept_new : {sizes : Ranks} {n : ℕ} {s before : List ℕ} {fs : List (ℕ × Part)} → Kept sizes n s before fs
    → (k : ℕ) → Member k (firsts (bare s fs)) → Member k before → ⊥
kept_new {sizes = sizes} {n = n} {s = s} (none_kept before) k x7 b = elim x7 [ ]
kept_new {sizes} {n} {s} (more_kept before g gs known t rest) k (here q) b =
    true≢false (sym (member_stood b) ∙ ap (λ (x : ℕ). stood x before) q ∙ (fits sizes n s before g t).first)
kept_new (more_kept before g gs known t rest) k (later m) b = kept_new rest k m (later b)

pub kept_distinct : {sizes : Ranks} {n : ℕ} {s before : List ℕ} {fs : List (ℕ × Part)} → Kept sizes n s before fs
    → Distinct (firsts (bare s fs))
unfolding Distinct
kept_distinct (none_kept before) = tt
kept_distinct (more_kept before g gs known t rest) = (λ m. kept_new rest g.0 m (here refl), kept_distinct rest)

-- and none beside its rival
kept_alone : {sizes : Ranks} {n : ℕ} {s before : List ℕ} {fs : List (ℕ × Part)} → Kept sizes n s before fs
    → (k : ℕ) → Member k (firsts (bare s fs)) → Member (rival_of k) before → ⊥
kept_alone {sizes = sizes} {n = n} {s = s} (none_kept before) k x7 b = elim x7 [ ]
kept_alone {sizes} {n} {s} (more_kept before g gs known t rest) k (here q) b =
    true≢false (sym (member_stood b) ∙ ap (λ (x : ℕ). stood (rival_of x) before) q ∙ (fits sizes n s before g t).alone)
kept_alone (more_kept before g gs known t rest) k (later m) b = kept_alone rest k m (later b)

one_alone : {sizes : Ranks} {n : ℕ} {s before : List ℕ} {fs : List (ℕ × Part)} {one other : ℕ} → Kept sizes n s before fs
    → (one ≡ other → ⊥)
    → rival_of one ≡ other → rival_of other ≡ one → Member one (firsts (bare s fs)) → Member other (firsts (bare s fs)) → ⊥
one_alone {sizes = sizes} {s = s} {one = one} {other = other} (none_kept before) n r u x16 _ = elim x16 [ ]
one_alone (more_kept before g gs known t rest) n r u (here p) (here q) = n (p ∙ sym q)
one_alone {one = one} {other = other} (more_kept before g gs known t rest) n r u (here p) (later m) = kept_alone rest other m (here (u ∙ p))
one_alone {one = one} {other = other} (more_kept before g gs known t rest) n r u (later m) (here q) = kept_alone rest one m (here (r ∙ q))
one_alone (more_kept before g gs known t rest) n r u (later m) (later o) = one_alone rest n r u m o

not_both : {sizes : Ranks} {n : ℕ} {s before : List ℕ} {fs : List (ℕ × Part)} → Kept sizes n s before fs → (one other : ℕ)
    → (one ≡ other → ⊥)
    → rival_of one ≡ other → rival_of other ≡ one → NotBoth one other (bare s fs)
not_both t one other n r u v w a b = one_alone t n r u (first_member a) (first_member b)

-- so keys with prefix stand without simple ones
pub prefixed_alone : (sizes : Ranks) (c : FieldCursor) (s : List ℕ) (fs : List (ℕ × Part)) → keep_fields sizes c s ≡ ok fs → (p : Part)
    → first_of 9 fs ≡ Some p → first_of 8 fs ≡ None
unfolding rival_of
prefixed_alone sizes c s fs e p f =
    absent_nothing s fs 8 (λ v m.
    not_both (kept_fields sizes c s fs e) 8 9 (λ q. omega arith) refl refl v (lent_part s p) m (found_member s fs 9 p f))

-- ---- keys that stand once
keyed : (paired : Bool) (s : List ℕ) (fs : List (ℕ × Part)) (kind : ℕ) → once_in paired s (first_of kind fs) ≡ ok tt
    → Distinct (firsts (bare s fs)) → (value : List ℕ) → Member (kind, value) (bare s fs)
    → Distinct (walk_items (key_item paired) value 0).items
keyed paired s fs kind e d value m =
    let y = member_found s fs kind value d m in
    let z = subst (λ (f : Option Part). once_in paired s f ≡ ok tt) y.1 e in
    subst (λ (v : List ℕ). Distinct (walk_items (key_item paired) v 0).items) y.2
    (once_distinct paired y.0.start (lent_part s y.0) z)

keys_once_lem : (paired : Bool) (s : List ℕ) (fs : List (ℕ × Part)) (kind : ℕ)
    → ((value : List ℕ) → Member (kind, value) (bare s fs) → Distinct (walk_items (key_item paired) value 0).items)
    → once_in paired s (first_of kind fs) ≡ ok tt
keys_once_lem paired s fs kind h = go (first_of kind fs) refl
  where
    go : (o : Option Part) → first_of kind fs ≡ o → once_in paired s o ≡ ok tt
    go (Some p) e = distinct_once paired p.start (lent_part s p) (h (lent_part s p) (found_member s fs kind p e))
    go None e = refl

pub bare_member : (s : List ℕ) {f : ℕ × Part} {fs : List (ℕ × Part)} → Member f fs → Member (f.0, lent_part s f.1) (bare s fs)
bare_member s (here q) = here (ap (λ (x : ℕ × Part). (x.0, lent_part s x.1)) q)
bare_member s (later m) = later (bare_member s m)

-- ---- what fields are that are kept, with keys that stand once
pub record Stood (sizes : Ranks) (c : FieldCursor) (s : List ℕ) (fs : List Field) : Type 0 where
  pub fields_are : FieldsAre s c.at fs
  pub once : Distinct (firsts fs)
  pub not_2_3 : NotBoth 2 3 fs
  pub not_10_11 : NotBoth 10 11 fs
  pub not_8_9 : NotBoth 8 9 fs
  pub held : Each (λ (f : Field). Held c.numeric c.columns sizes f.0 f.1) fs
  pub simple : (value : List ℕ) → Member (8, value) fs → Distinct (walk_items (key_item false) value 0).items
  pub prefixed : (value : List ℕ) → Member (9, value) fs → Distinct (walk_items (key_item true) value 0).items

kept_laid : (sizes : Ranks) (c : FieldCursor) (s : List ℕ) (fs : List (ℕ × Part)) → keep_fields sizes c s ≡ ok fs
    → Between (field_item c.numeric c.columns) s c.at (length s) fs
kept_laid sizes c s fs e =
    let w = kept_walk sizes c s fs e in
    subst (Between (field_item c.numeric c.columns) s c.at (length s)) w.0
    (whole_laid (field_item c.numeric c.columns) (field_moves c.numeric c.columns) s c.at (ap is_whole w.1))

pub kept_stood : (sizes : Ranks) (c : FieldCursor) (s : List ℕ) (fs : List (ℕ × Part)) → keep_fields sizes c s ≡ ok fs
    → keys_hold s fs ≡ ok tt
    → Stood sizes c s (bare s fs)
unfolding rival_of keys_hold
kept_stood sizes c s fs e k =
    let b = kept_laid sizes c s fs e in
    let t = kept_fields sizes c s fs e in
    let d = kept_distinct t in
    let x = after_is_ok (once_in false s (first_of 8 fs)) (λ u. once_in true s (first_of 9 fs)) tt k in
    let held : Each (λ (f : ℕ × Part). Held c.numeric c.columns sizes f.0 (lent_part s f.1)) fs =
    λ f m.
    let i = item_at_lem b m in
    let r = field_read c.numeric c.columns s i.0 f i.1 i.2 in
    record {
      known = r.known;
      holds = rw (value_lent s (i.0 + 1) f.1 i.1 r.value) r.holds;
      full = kept_full t f m;
    } in
    record {
      fields_are = laid_fields c.numeric c.columns b refl;
      once = d;
      not_2_3 = not_both t 2 3 (λ q. omega arith) refl refl;
      not_10_11 = not_both t 10 11 (λ q. omega arith) refl refl;
      not_8_9 = not_both t 8 9 (λ q. omega arith) refl refl;
      held = bare_each (λ (f : Field). Held c.numeric c.columns sizes f.0 f.1) s fs held;
      simple = keyed false s fs 8 x.1 d;
      prefixed = keyed true s fs 9 x.2 d;
    }

-- ---- and the other way: such fields are kept
-- no field has the rival of another
abbrev Apart : List Field → Type 0
Apart fs = (i j : ℕ) → Member i (firsts fs) → Member j (firsts fs) → rival_of j ≡ i → ⊥

both_firsts : {one other : ℕ} (fs : List Field) → NotBoth one other fs → Member one (firsts fs) → Member other (firsts fs) → ⊥
both_firsts {one} {other} fs n a b =
    let x = pair_member fs one a in
    let y = pair_member fs other b in
    n x.0.1 y.0.1 (subst (λ (k : ℕ). Member (k, x.0.1) fs) x.2 x.1)
    (subst (λ (k : ℕ). Member (k, y.0.1) fs) y.2 y.1)

apart : (fs : List Field) → NotBoth 2 3 fs → NotBoth 10 11 fs → NotBoth 8 9 fs → Each (λ (f : Field). 1 ≤ f.0) fs → Apart fs
unfolding rival_of
apart fs n m o h i j a b e =
    by_test (eqb j 2) 3 _ i e (λ t u. both_firsts fs n (at_kind t) (at_rival u))
    (λ t₂ e₂. by_test (eqb j 3) 2 _ i e₂ (λ t u. both_firsts fs n (at_rival u) (at_kind t))
    (λ t₃ e₃. by_test (eqb j 10) 11 _ i e₃ (λ t u. both_firsts fs m (at_kind t) (at_rival u))
    (λ t₄ e₄. by_test (eqb j 11) 10 _ i e₄ (λ t u. both_firsts fs m (at_rival u) (at_kind t))
    (λ t₅ e₅. by_test (eqb j 8) 9 _ i e₅ (λ t u. both_firsts fs o (at_kind t) (at_rival u))
    (λ t₆ e₆. by_test (eqb j 9) 8 _ i e₆ (λ t u. both_firsts fs o (at_rival u) (at_kind t))
    (λ t₇ e₇.
    let x = pair_member fs i a in
    omega (arith, h x.0 x.1, x.2, e₇)))))))
  where
    at_kind : {k : ℕ} → eqb j k ≡ true → Member k (firsts fs)
    at_kind {k} t = subst (λ (y : ℕ). Member y (firsts fs)) (eqb-true j k t) b

    at_rival : {k : ℕ} → k ≡ i → Member k (firsts fs)
    at_rival u = subst (λ (y : ℕ). Member y (firsts fs)) (sym u) a

-- where the walk stands: no type that is to come stood, and none whose rival did
record Clear (before : List ℕ) (fs : List Field) : Type 0 where
  new : (k : ℕ) → Member k (firsts fs) → Member k before → ⊥
  alone : (k j : ℕ) → Member j (firsts fs) → rival_of j ≡ k → Member k before → ⊥

clear_next : {before : List ℕ} {f : Field} {fs : List Field} → Distinct (firsts (f ∷ fs)) → Apart (f ∷ fs) → Clear before (f ∷ fs)
    → Clear (f.0 ∷ before) fs
unfolding Distinct
clear_next {before} {f} {fs} d a c = record { new = new; alone = alone }
  where
    new : (k : ℕ) → Member k (firsts fs) → Member k (f.0 ∷ before) → ⊥
    new k m (here q) = d.0 (subst (λ (x : ℕ). Member x (firsts fs)) q m)
    new k m (later b) = c.new k (later m) b

    alone : (k j : ℕ) → Member j (firsts fs) → rival_of j ≡ k → Member k (f.0 ∷ before) → ⊥
    alone k j m r (here q) = a f.0 j (here refl) (later m) (r ∙ q)
    alone k j m r (later b) = c.alone k j (later m) r b

not_stood : (k : ℕ) (before : List ℕ) → (Member k before → ⊥) → stood k before ≡ false
not_stood k before n = go (stood k before) refl
  where
    go : (t : Bool) → stood k before ≡ t → t ≡ false
    go true e = absurd (n (stood_member k before e))
    go false e = refl

-- the field at a place
pub field_there : (numeric columns : ℕ) (s : List ℕ) (at len start : ℕ) → read_packed s (at + 1) ≡ ok (len, start)
    → start + len ≤ length s → is_field (get_or s at 0) ≡ true
    → contents_hold numeric columns (get_or s at 0) (take len (drop start s)) ≡ true
    → field_item numeric columns s at ≡ ok ((get_or s at 0, part start len), start + len)
unfolding field_item cut_field judge_field long_part
field_there numeric columns s at len start r h known holds =
    let m = read_moves s (at + 1) len start r in
    let l : at + 1 ≤ length s = omega (arith, m.0, m.1) in
    rw (within_fits s at 1 at l, r, within_fits s start len (at + 1) h, known, lent_is s (part start len) h, holds)

kept_all : (sizes : Ranks) (c : FieldCursor) {s : List ℕ} {at : ℕ} {fs : List Field} → FieldsAre s at fs → (m : ℕ) → length s - at < m
    → (before : List ℕ)
    → Clear before fs → Distinct (firsts fs) → Apart fs → Each (λ (f : Field). Held c.numeric c.columns sizes f.0 f.1) fs
    → (ps : List (ℕ × Part)) × (keep_steps m sizes c s before at ≡ ok ps) × (bare s ps ≡ fs)
unfolding keep_steps stands_given Distinct
kept_all sizes c f zero l before k d a h = absurd (omega arith)
kept_all sizes c {s} {at} (no_field e) (suc m) l before k d a h = ([], rw (step_end (field_item c.numeric c.columns) s at e), refl)
kept_all sizes c {s} {at} (a_field {fs = fs} len start r w rest) (suc m) l before k d a h =
    let kind = get_or s at 0 in
    let value = take len (drop start s) in
    let p = part start len in
    let x = h (kind, value) (here refl) in
    let v = read_moves s (at + 1) len start r in
    let e = item_stepped (field_item c.numeric c.columns) s at (kind, p) (start + len) (omega (arith, v.0, v.1))
    (field_there c.numeric c.columns s at len start r w x.known x.holds) in
    let q : lent_part s p ≡ value = lent_is s p w in
    let n : stood kind before ≡ false = not_stood kind before (k.new kind (here refl)) in
    let o : stood (rival_of kind) before ≡ false = not_stood (rival_of kind) before (k.alone (rival_of kind) kind (here refl) refl) in
    let z = kept_all sizes c {at = start + len} rest m (omega (arith, v.0, v.1)) (kind ∷ before) (clear_next d a k) d.1
    (λ i j b g. a i j (later b) (later g)) (λ f b. h f (later b)) in
    ((kind, p) ∷ z.0, rw (e, n, o, q, x.full, z.1), rw (q, z.2))

pub stood_kept : (sizes : Ranks) (c : FieldCursor) (s : List ℕ) (fs : List Field) → Stood sizes c s fs
    → (ps : List (ℕ × Part)) × (keep_fields sizes c s ≡ ok ps) × (keys_hold s ps ≡ ok tt) × (bare s ps ≡ fs)
unfolding keys_hold
stood_kept sizes c s fs x =
    let h : Each (λ (f : Field). 1 ≤ f.0) fs =
    λ f m. leb-true 1 f.0 (both_true (leb 1 f.0) (leb f.0 13) (x.held f m).known).0 in
    let k : Clear [] fs = record { new = λ k m b. no_member b refl; alone = λ k j m r b. no_member b refl } in
    let y =
    kept_all sizes c x.fields_are (suc (length s - c.at)) (omega arith) [] k x.once
    (apart fs x.not_2_3 x.not_10_11 x.not_8_9 h) x.held in
    let once₈ = keys_once_lem false s y.0 8 (λ v m. x.simple v (subst (Member (8, v)) y.2 m)) in
    let once₉ = keys_once_lem true s y.0 9 (λ v m. x.prefixed v (subst (Member (9, v)) y.2 m)) in
    (y.0, y.1, rw (once₈, once₉), y.2)
