-- Lists laid end to end: a walk that comes to the value's end, what holds of each item, pairs that rise, and keys apart. Assumes nothing.
use Rattle.std.specs.Prelude.{Some}
use Prim.Native.Nat.{ℕ, zero, suc, ◌-◌, ◌≤◌, ◌<◌}
use mathlib.Core.Path.{◌≡◌, refl, sym, ap, subst, ◌∙◌}
use mathlib.Core.Bool.{Bool, true, false, cond, ◌&&◌, ◌||◌, or-true, false≢true}
use mathlib.Core.List.{List, [], ◌∷◌, map}
use native.Mathlib.Omega.{arith}
use borrow.Author.Tests.{lt-ltb, le-leb, leb-true, ltb-true, eqb-true, eq-eqb}
use lib.ListN.{length}
use lib.Dec.{leb, ltb, eqb}
use Rattle.wire.specs.Outcome.{Outcome, ok, refused, refuse, after}
use Rattle.wire.specs.Packed.{read_packed}
use Rattle.wire.proofs.Outcomes.{after_is_ok, by_test, ok_not_refused, same_ok, both_true}
use Rattle.table_map.specs.Lists.{Rule, Stepped, end, item, step, whole, items_onward, walk_steps, walk_items, integer_item, pair_item}
use Rattle.table_map.proofs.Steps.{step_end, step_before, item_read}
use Rattle.table_map.proofs.Items.{Moves, pair_moves}
use Rattle.table_map.proofs.Walks.{item_moves, walk_steps_lem}
use Rattle.map_check.specs.Contents.{is_whole, every, list_holds, exactly, is_charset, pairs_hold, pairs_whole, read_holds, default_holds}
use Rattle.map_check.specs.Contents.{key_item}
use Rattle.map_check.specs.Fields.{stood}
use Rattle.map_check.specs.Keys.{with_place, keys_from, keys_once}
use Rattle.map_check.specs.Passes.{Member, here, later, Each, Distinct, Rise, firsts, Between, none, more, ItemsAre, IsCharset}
use Rattle.map_check.specs.Passes.{DefaultCharsets}
use Rattle.map_check.proofs.ContentsLaws.Tallies.{list_true, exactly_true, pairs_true}
use Rattle.map_check.proofs.KeyLaws.Twice.{key_at, Apart, once_apart, apart_once}

-- ---- a walk comes to the end where its items lie end to end up to it
not_end : {A : Type 0} (o : Outcome (A × ℕ)) → after o (λ x. ok (item x.0 x.1)) ≡ ok end → ⊥
not_end (ok x) e = let z : ◌≡◌ {A = ℕ} 0 1 = cc in omega arith
not_end (refused w) e = ok_not_refused (sym e)

pub end_there : {A : Type 0} (rule : Rule A) (s : List ℕ) (at : ℕ) → step rule s at ≡ ok end → at ≡ length s
unfolding step
end_there rule s at e =
    by_test (eqb at (length s)) _ _ _ e (λ t f. eqb-true at (length s) t)
    (λ t f. by_test (ltb (length s) at) _ _ _ f (λ u g. absurd (ok_not_refused (sym g))) (λ u g. absurd (not_end (rule s at) g)))

pub laid_walk : {A : Type 0} (rule : Rule A) → Moves rule → {s : List ℕ} {at to : ℕ} {xs : List A} → Between rule s at to xs → to ≡ length s
    → walk_items rule s at ≡ record { items = xs; how = whole }
laid_walk rule m {s} {at} none e = rw (walk_steps_lem rule m s at, step_end rule s at e)
laid_walk rule m {s} {at} (more {next = next} {a = a} f b) e =
    let w = m.moves s at a next f in
    rw (walk_steps_lem rule m s at, step_before rule s at (omega (arith, w.0, w.1)), f, laid_walk rule m b e)

steps_laid : {A : Type 0} (rule : Rule A) → Moves rule → (m : ℕ) (s : List ℕ) (at : ℕ) → length s - at < m
    → is_whole (walk_steps m rule s at).how ≡ true
    → Between rule s at (length s) (walk_steps m rule s at).items
unfolding walk_steps
steps_laid rule v zero s at h e = absurd (omega arith)
steps_laid {A} rule v (suc m) s at h e = go (λ next. steps_laid rule v m s next) (step rule s at) refl e
  where
    go : ((next : ℕ) → length s - next < m → is_whole (walk_steps m rule s next).how ≡ true
        → Between rule s next (length s) (walk_steps m rule s next).items)
        → (o : Outcome (Stepped A ℕ)) → step rule s at ≡ o → is_whole (items_onward (walk_steps m rule s) o).how ≡ true
        → Between rule s at (length s) (items_onward (walk_steps m rule s) o).items
    go again (ok end) x y = subst (λ (to : ℕ). Between rule s at to []) (end_there rule s at x) none
    go again (ok (Some (a, next))) x y =
        let w = item_moves rule v s at a next x in
        more (item_read rule s at a next x).1 (again next (omega (arith, w.0, w.1)) y)
    go again (refused r) x y = absurd (false≢true y)

pub whole_laid : {A : Type 0} (rule : Rule A) → Moves rule → (s : List ℕ) (at : ℕ) → is_whole (walk_items rule s at).how ≡ true
    → Between rule s at (length s) (walk_items rule s at).items
whole_laid rule m s at e = steps_laid rule m (suc (length s - at)) s at (omega arith) e

-- ---- each item
every_each : {A : Type 0} (p : A → Bool) {a : A} {l : List A} → Member a l → every p l ≡ true → p a ≡ true
unfolding every
every_each p (here {b = b} {l = l} q) e = rw q (both_true (p b) (every p l) e).0
every_each p (later {b = b} {l = l} m) e = every_each p m (both_true (p b) (every p l) e).1

each_every : {A : Type 0} (p : A → Bool) (l : List A) → Each (λ a. p a ≡ true) l → every p l ≡ true
unfolding every
each_every p [] h = refl
each_every p (b ∷ l) h = rw (h b (here refl), each_every p l (λ a m. h a (later m)))

-- a list that holds
pub list_laid : {A : Type 0} (rule : Rule A) → Moves rule → (p : A → Bool) (value : List ℕ) → list_holds rule p value 0 ≡ true
    → ItemsAre rule value (walk_items rule value 0).items × Each (λ a. p a ≡ true) (walk_items rule value 0).items
list_laid rule m p value e =
    let y = list_true rule p value 0 e in
    (whole_laid rule m value 0 y.0, λ a h. every_each p h y.1)

pub laid_list : {A : Type 0} (rule : Rule A) → Moves rule → (p : A → Bool) (value : List ℕ) (xs : List A) → ItemsAre rule value xs
    → Each (λ a. p a ≡ true) xs → list_holds rule p value 0 ≡ true
unfolding list_holds
laid_list rule m p value xs b h = rw (laid_walk rule m b refl, each_every p xs h)

-- a value of n items that hold
pub exact_laid : {A : Type 0} (rule : Rule A) → Moves rule → (p : A → Bool) (n : ℕ) (value : List ℕ) → exactly rule p n value ≡ true
    → ItemsAre rule value (walk_items rule value 0).items × (length (walk_items rule value 0).items ≡ n)
    × Each (λ a. p a ≡ true) (walk_items rule value 0).items
exact_laid rule m p n value e =
    let x = exactly_true rule p n value e in
    let y = list_laid rule m p value x.0 in
    (y.0, x.1, y.1)

pub laid_exact : {A : Type 0} (rule : Rule A) → Moves rule → (p : A → Bool) (n : ℕ) (value : List ℕ) (xs : List A) → ItemsAre rule value xs
    → length xs ≡ n
    → Each (λ a. p a ≡ true) xs → exactly rule p n value ≡ true
unfolding exactly
laid_exact rule m p n value xs b e h = rw (laid_list rule m p value xs b h, laid_walk rule m b refl, eq-eqb (length xs) n e)

-- ---- charsets
pub charset_is : (c : ℕ) → is_charset c ≡ true → IsCharset c
unfolding is_charset
charset_is c e =
    let x = both_true (leb 1 c) (leb c 65535) e in
    (leb-true 1 c x.0, leb-true c 65535 x.1)

pub is_charset_lem : (c : ℕ) → IsCharset c → is_charset c ≡ true
unfolding is_charset
is_charset_lem c h = rw (le-leb 1 c h.0, le-leb c 65535 h.1)

-- ---- pairs (rank, charset)
pub pair_first : (size low : ℕ) (p : ℕ × ℕ) (ps : List (ℕ × ℕ)) → pairs_hold size low (p ∷ ps) ≡ true
    → (low ≤ p.0) × (p.0 < size) × IsCharset p.1 × (pairs_hold size (suc p.0) ps ≡ true)
unfolding pairs_hold
pair_first size low p ps e =
    let rest = pairs_hold size (suc p.0) ps in
    let x = both_true (leb low p.0) (ltb p.0 size && (is_charset p.1 && rest)) e in
    let y = both_true (ltb p.0 size) (is_charset p.1 && rest) x.1 in
    let z = both_true (is_charset p.1) rest y.1 in
    (leb-true low p.0 x.0, ltb-true p.0 size y.0, charset_is p.1 z.0, z.1)

pub pairs_each : {p : ℕ × ℕ} {ps : List (ℕ × ℕ)} → Member p ps → (size low : ℕ) → pairs_hold size low ps ≡ true
    → (low ≤ p.0) × (p.0 < size) × IsCharset p.1
pairs_each (here {b = b} {l = l} q) size low e =
    let x = pair_first size low b l e in
    rw q (x.0, x.1, x.2)
pairs_each (later {b = b} {l = l} m) size low e =
    let x = pair_first size low b l e in
    let y = pairs_each m size (suc b.0) x.3 in
    (omega (arith, x.0, y.0), y.1, y.2)

firsts_low : (ps : List (ℕ × ℕ)) (size low : ℕ) → pairs_hold size low ps ≡ true → Each (λ (y : ℕ). low ≤ y) (firsts ps)
firsts_low [] size low e y x'' = elim x'' [ ]
firsts_low (p ∷ ps) size low e y (here q) = omega (arith, (pair_first size low p ps e).0, q)
firsts_low (p ∷ ps) size low e y (later m) =
    let x = pair_first size low p ps e in
    omega (arith, x.0, firsts_low ps size (suc p.0) x.3 y m)

pairs_rise : (size low : ℕ) (ps : List (ℕ × ℕ)) → pairs_hold size low ps ≡ true → Rise (firsts ps)
unfolding Rise
pairs_rise size low [] e = tt
pairs_rise size low (p ∷ ps) e =
    let x = pair_first size low p ps e in
    (firsts_low ps size (suc p.0) x.3, pairs_rise size (suc p.0) ps x.3)

rise_holds : (size low : ℕ) (ps : List (ℕ × ℕ)) → Rise (firsts ps) → Each (λ (y : ℕ). low ≤ y) (firsts ps)
    → Each (λ (p : ℕ × ℕ). p.0 < size) ps
    → Each (λ (p : ℕ × ℕ). IsCharset p.1) ps → pairs_hold size low ps ≡ true
unfolding pairs_hold Rise
rise_holds size low [] r l b c = refl
rise_holds size low (p ∷ ps) r l b c =
    rw (
      le-leb low p.0 (l p.0 (here refl)),
      lt-ltb p.0 size (b p (here refl)),
      is_charset_lem p.1 (c p (here refl)),
      rise_holds size (suc p.0) ps r.1 r.0 (λ q m. b q (later m)) (λ q m. c q (later m)),
    )

pub default_holds_lem : (size : ℕ) (value : List ℕ) → default_holds size value ≡ true → DefaultCharsets size value
unfolding default_holds
default_holds_lem size value e = go (read_packed value 0) refl e
  where
    go : (o : Outcome (ℕ × ℕ)) → read_packed value 0 ≡ o → read_holds size value o ≡ true → DefaultCharsets size value
    go (ok c) f g =
        let x = both_true (is_charset c.0) (pairs_whole size 0 value c.1) g in
        let y = pairs_true size 0 value c.1 x.1 in
        record {
          default = c.0;
          pairs = (walk_items pair_item value c.1).items;
          holds = record { behind = c.1; start = f; items = whole_laid pair_item pair_moves value c.1 y.0 };
          default_is = charset_is c.0 x.0;
          rise = pairs_rise size 0 (walk_items pair_item value c.1).items y.1;
          below = λ p m. (pairs_each m size 0 y.1).1;
          each = λ p m. (pairs_each m size 0 y.1).2;
        }
    go (refused w) f g = absurd (false≢true g)

pub holds_default : (size : ℕ) (value : List ℕ) → DefaultCharsets size value → default_holds size value ≡ true
unfolding default_holds pairs_whole
holds_default size value x =
    rw (
      x.holds.start,
      is_charset_lem x.default x.default_is,
      laid_walk pair_item pair_moves x.holds.items refl,
      rise_holds size 0 x.pairs x.rise (λ y m. omega arith) x.below x.each,
    )

-- ---- what stood
pub member_stood : {k : ℕ} {l : List ℕ} → Member k l → stood k l ≡ true
unfolding stood
member_stood {k} (here {b = b} {l = l} q) = rw (eq-eqb b k (sym q))
member_stood {k} (later {b = b} {l = l} m) = rw (member_stood m) (or-true (eqb b k))

pub stood_member : (k : ℕ) (l : List ℕ) → stood k l ≡ true → Member k l
unfolding stood
stood_member k [] e = absurd (false≢true e)
stood_member k (b ∷ l) e = go (λ y. stood_member k l y) (eqb b k) refl e
  where
    go : (stood k l ≡ true → Member k l) → (t : Bool) → eqb b k ≡ t → (t || stood k l) ≡ true → Member k (b ∷ l)
    go again true x y = here (sym (eqb-true b k x))
    go again false x y = later (again y)

-- ---- keys: with their places, they are the items of the same walk
abbrev seconds : {A : Type 0} → List (ℕ × A) → List A
seconds {A} ps = map (λ (p : ℕ × A). p.1) ps

placed_items : {A : Type 0} (rule : Rule A) (m : ℕ) (s : List ℕ) (at : ℕ)
    → seconds (walk_steps m (with_place rule) s at).items ≡ (walk_steps m rule s at).items
unfolding walk_steps with_place step
placed_items rule zero s at = refl
placed_items {A} rule (suc m) s at = go (λ next. placed_items rule m s next) (eqb at (length s)) (ltb (length s) at) (rule s at)
  where
    go : ((next : ℕ) → seconds (walk_steps m (with_place rule) s next).items ≡ (walk_steps m rule s next).items)
        → (t u : Bool) (o : Outcome (A × ℕ))
        → seconds (items_onward (walk_steps m (with_place rule) s)
        (cond t (ok end) (cond u (refuse 1 at)
        (after (after {B = (ℕ × A) × ℕ} o (λ x. ok ((at, x.0), x.1))) (λ x. ok (item x.0 x.1)))))).items
        ≡ (items_onward (walk_steps m rule s) (cond t (ok end) (cond u (refuse 1 at) (after o (λ x. ok (item x.0 x.1)))))).items
    go again true u o = refl
    go again false true o = refl
    go again false false (ok x) = ap (λ (l : List A). x.0 ∷ l) (again x.1)
    go again false false (refused w) = refl

-- apart by their places in the list, or none standing behind itself
member_at : (ks : List (ℕ × ℕ)) (x : ℕ) → Member x (seconds ks) → (j : ℕ) × (j < length ks) × (key_at ks j ≡ x)
member_at [] x x3 = elim x3 [ ]
member_at (k ∷ ks) x (here q) = (0, omega arith, sym q)
member_at (k ∷ ks) x (later m) =
    let y = member_at ks x m in
    (suc y.0, omega (arith, y.1), y.2)

at_member : (ks : List (ℕ × ℕ)) (j : ℕ) → j < length ks → Member (key_at ks j) (seconds ks)
at_member [] j h = absurd (omega arith)
at_member (k ∷ ks) zero h = here refl
at_member (k ∷ ks) (suc j) h = later (at_member ks j (omega arith))

apart_distinct : (ks : List (ℕ × ℕ)) → Apart ks (length ks) → Distinct (seconds ks)
unfolding Distinct
apart_distinct [] a = tt
apart_distinct (k ∷ ks) a = (
  λ m. let y = member_at ks k.1 m in a.apart 0 (suc y.0) (omega arith) (omega (arith, y.1)) (sym y.2),
  apart_distinct ks (record { apart = λ i j h l e. a.apart (suc i) (suc j) (omega arith) (omega arith) e }),
)

distinct_apart : (ks : List (ℕ × ℕ)) → Distinct (seconds ks) → (i j : ℕ) → i < j → j < length ks → key_at ks i ≡ key_at ks j → ⊥
unfolding Distinct
distinct_apart [] d i j h l e = omega arith
distinct_apart (k ∷ ks) d i zero h l e = omega arith
distinct_apart (k ∷ ks) d zero (suc j) h l e = d.0 (subst (λ (x : ℕ). Member x (seconds ks)) (sym e) (at_member ks j (omega arith)))
distinct_apart (k ∷ ks) d (suc i) (suc j) h l e = distinct_apart ks d.1 i j (omega arith) (omega arith) e

pub once_distinct : (paired : Bool) (start : ℕ) (value : List ℕ) → keys_once start [] (keys_from paired value 0) ≡ ok tt
    → Distinct (walk_items (key_item paired) value 0).items
once_distinct paired start value e =
    let ks = keys_from paired value 0 in
    subst Distinct (placed_items (key_item paired) (suc (length value - 0)) value 0) (apart_distinct ks (once_apart start ks e))

pub distinct_once : (paired : Bool) (start : ℕ) (value : List ℕ) → Distinct (walk_items (key_item paired) value 0).items
    → keys_once start [] (keys_from paired value 0) ≡ ok tt
distinct_once paired start value d =
    let ks = keys_from paired value 0 in
    let e = subst Distinct (sym (placed_items (key_item paired) (suc (length value - 0)) value 0)) d in
    apart_once start ks (record { apart = distinct_apart ks e })

-- ---- keys of field 8 are integers, and those of field 9 the first of pairs
pub simple_laid : {value : List ℕ} {at to : ℕ} {ks : List ℕ} → Between (key_item false) value at to ks → Between integer_item value at to ks
unfolding key_item
simple_laid none = none
simple_laid {value} {at} (more {next = next} {a = a} f b) =
    let x = after_is_ok (read_packed value at) (λ k. ok k) (a, next) f in
    more (x.1 ∙ x.2) (simple_laid b)

pub laid_simple : {value : List ℕ} {at to : ℕ} {ks : List ℕ} → Between integer_item value at to ks → Between (key_item false) value at to ks
unfolding key_item
laid_simple none = none
laid_simple {value} {at} (more {next = next} {a = a} f b) =
    let e : key_item false value at ≡ ok (a, next) = rw f in
    more e (laid_simple b)

two_read : (value : List ℕ) (at a p b q : ℕ) → read_packed value at ≡ ok (a, p) → read_packed value p ≡ ok (b, q)
    → (pair_item value at ≡ ok ((a, b), q)) × (key_item true value at ≡ ok (a, q))
unfolding pair_item key_item
two_read value at a p b q e f = (rw (e, f), rw (e, f))

key_pair : (value : List ℕ) (at k next : ℕ) → key_item true value at ≡ ok (k, next) → (b : ℕ) × (pair_item value at ≡ ok ((k, b), next))
unfolding key_item
key_pair value at k next e =
    let x = after_is_ok (read_packed value at) (λ a. after (read_packed value a.1) (λ b. ok (a.0, b.1))) (k, next) e in
    let y = after_is_ok (read_packed value x.0.1) (λ b. ok (x.0.0, b.1)) (k, next) x.2 in
    let r = two_read value at x.0.0 x.0.1 y.0.0 y.0.1 x.1 y.1 in
    (y.0.0, subst (λ (w : ℕ × ℕ). pair_item value at ≡ ok ((w.0, y.0.0), w.1)) (same_ok y.2) r.0)

pair_key : (value : List ℕ) (at : ℕ) (p : ℕ × ℕ) (next : ℕ) → pair_item value at ≡ ok (p, next) → key_item true value at ≡ ok (p.0, next)
unfolding pair_item
pair_key value at p next e =
    let x = after_is_ok (read_packed value at) (λ a. after (read_packed value a.1) (λ b. ok ((a.0, b.0), b.1))) (p, next) e in
    let y = after_is_ok (read_packed value x.0.1) (λ b. ok ((x.0.0, b.0), b.1)) (p, next) x.2 in
    let r = two_read value at x.0.0 x.0.1 y.0.0 y.0.1 x.1 y.1 in
    subst (λ (w : (ℕ × ℕ) × ℕ). key_item true value at ≡ ok (w.0.0, w.1)) (same_ok y.2) r.1

pub prefixed_laid : {value : List ℕ} {at to : ℕ} {ks : List ℕ} → Between (key_item true) value at to ks
    → (ps : List (ℕ × ℕ)) × (firsts ps ≡ ks) × Between pair_item value at to ps
prefixed_laid none = ([], refl, none)
prefixed_laid {value} {at} (more {next = next} {a = a} f b) =
    let x = key_pair value at a next f in
    let z = prefixed_laid b in
    ((a, x.0) ∷ z.0, ap (λ (l : List ℕ). a ∷ l) z.1, more x.1 z.2)

pub laid_prefixed : {value : List ℕ} {at to : ℕ} {ps : List (ℕ × ℕ)} → Between pair_item value at to ps
    → Between (key_item true) value at to (firsts ps)
laid_prefixed none = none
laid_prefixed {value} {at} (more {next = next} {a = a} f b) = more (pair_key value at a next f) (laid_prefixed b)
