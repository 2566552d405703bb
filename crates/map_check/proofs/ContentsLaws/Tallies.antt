-- Lists judged item by item: at a place, what the step there says decides, and the rest of the list. Assumes nothing.
use Rattle.std.specs.Prelude.{None, Option, Some}
use Rattle.std.specs.Option.{option_eq}
use Prim.Native.Nat.{ℕ, suc, ◌+◌, ◌≤◌, ◌<◌}
use mathlib.Core.Path.{◌≡◌, refl, sym, ap, ◌∙◌}
use mathlib.Core.Bool.{Bool, true, false, cond, ◌&&◌, and_assoc}
use mathlib.Core.List.{List}
use native.Mathlib.Omega.{arith}
use borrow.Author.Tests.{eqb-true}
use lib.ListN.{length}
use lib.Dec.{leb, ltb, eqb}
use Rattle.wire.specs.declared.refusal.Refusal.{Refusal}
use Rattle.wire.specs.Outcome.{ok, refused}
use Rattle.wire.proofs.Outcomes.{both_true}
use Rattle.table_map.specs.Lists.{Rule, end, item, step, walk_items, pair_item}
use Rattle.table_map.proofs.Steps.{step_before}
use Rattle.table_map.proofs.Items.{Moves, pair_moves}
use Rattle.table_map.proofs.Walks.{item_moves, walk_steps_lem}
use Rattle.map_check.specs.Inner.Contents.{Computes, held_from, items_held}
use Rattle.map_check.specs.Contents.{is_whole, every, list_holds, exactly, is_charset, pairs_hold, pairs_whole}

-- ---- two tests may change places
and_swap : (a b c : Bool) → (a && (b && c)) ≡ (b && (a && c))
and_swap true b c = refl
and_swap false true c = refl
and_swap false false c = refl

-- ---- before the end, a step answers what the rule answers
pub item_stepped : {A : Type 0} (rule : Rule A) (s : List ℕ) (at : ℕ) (a : A) (next : ℕ) → at < length s → rule s at ≡ ok (a, next)
    → step rule s at ≡ ok (item a next)
item_stepped rule s at a next h e = rw (step_before rule s at h, e)

pub refusal_stepped : {A : Type 0} (rule : Rule A) (s : List ℕ) (at : ℕ) (w : Refusal) → at < length s → rule s at ≡ refused w
    → step rule s at ≡ refused w
refusal_stepped rule s at w h e = rw (step_before rule s at h, e)

-- ---- a list
pub list_end : {A : Type 0} (rule : Rule A) (p : A → Bool) → Moves rule → (value : List ℕ) (at : ℕ) → step rule value at ≡ ok end
    → list_holds rule p value at ≡ true
unfolding list_holds every
list_end rule p m value at e = rw (walk_steps_lem rule m value at, e)

pub list_item : {A : Type 0} (rule : Rule A) (p : A → Bool) → Moves rule → (value : List ℕ) (at : ℕ) (a : A) (next : ℕ)
    → step rule value at ≡ ok (item a next)
    → list_holds rule p value at ≡ (p a && list_holds rule p value next)
unfolding list_holds every
list_item rule p m value at a next e =
    rw (walk_steps_lem rule m value at, e)
    (and_swap (is_whole (walk_items rule value next).how) (p a) (every p (walk_items rule value next).items))

pub list_broken : {A : Type 0} (rule : Rule A) (p : A → Bool) → Moves rule → (value : List ℕ) (at : ℕ) (w : Refusal)
    → step rule value at ≡ refused w
    → list_holds rule p value at ≡ false
unfolding list_holds
list_broken rule p m value at w e = rw (walk_steps_lem rule m value at, e)

-- a list that holds: it is whole, and so does each item
pub list_true : {A : Type 0} (rule : Rule A) (p : A → Bool) (value : List ℕ) (at : ℕ) → list_holds rule p value at ≡ true
    → (is_whole (walk_items rule value at).how ≡ true) × (every p (walk_items rule value at).items ≡ true)
unfolding list_holds
list_true rule p value at e = both_true (is_whole (walk_items rule value at).how) (every p (walk_items rule value at).items) e

-- a value of n items that hold
pub exactly_true : {A : Type 0} (rule : Rule A) (p : A → Bool) (n : ℕ) (value : List ℕ) → exactly rule p n value ≡ true
    → (list_holds rule p value 0 ≡ true) × (length (walk_items rule value 0).items ≡ n)
unfolding exactly
exactly_true rule p n value e =
    let x = both_true (list_holds rule p value 0) (eqb (length (walk_items rule value 0).items) n) e in
    (x.0, eqb-true _ _ x.1)

-- ---- how many items hold, from a place on and behind `count` of them
held_end : {A : Type 0} (rule : Rule A) (p : A → Bool) → Moves rule → (count : ℕ) (value : List ℕ) (at : ℕ) → step rule value at ≡ ok end
    → held_from rule p count value at ≡ Some count
unfolding held_from
held_end rule p m count value at e =
    let z : count + 0 ≡ count = omega arith in
    rw (list_end rule p m value at e, walk_steps_lem rule m value at, e, z)

held_item : {A : Type 0} (rule : Rule A) (p : A → Bool) → Moves rule → (count : ℕ) (value : List ℕ) (at : ℕ) (a : A) (next : ℕ)
    → step rule value at ≡ ok (item a next) → held_from rule p count value at ≡ cond (p a) (held_from rule p (count + 1) value next) None
unfolding held_from
held_item {A} rule p m count value at a next e =
    let k : count + suc (length (walk_items rule value next).items) ≡ count + 1 + length (walk_items rule value next).items =
    omega arith in
    rw (list_item rule p m value at a next e, walk_steps_lem rule m value at, e, k)
    (both (p a) (list_holds rule p value next) (Some (count + 1 + length (walk_items rule value next).items)))
  where
    both : (b c : Bool) (x : Option ℕ) → cond (b && c) x None ≡ cond b (cond c x None) None
    both true c x = refl
    both false c x = refl

held_broken : {A : Type 0} (rule : Rule A) (p : A → Bool) → Moves rule → (count : ℕ) (value : List ℕ) (at : ℕ) (w : Refusal)
    → step rule value at ≡ refused w
    → held_from rule p count value at ≡ None
unfolding held_from
held_broken rule p m count value at w e = rw (list_broken rule p m value at w e)

-- a loop that met `count` of them: what is to come from here is what was to come from the start, by any test that its calls compute
pub record HeldSoFar {A : Type 0} (rule : Rule A) (post : A → Bool → Type 0) (value : List ℕ) (at count : ℕ) : Type 0 where
  pub few : count ≤ at
  pub to_come : (p : A → Bool) → Computes post p → held_from rule p count value at ≡ items_held rule p value

pub none_held : {A : Type 0} {rule : Rule A} {post : A → Bool → Type 0} {value : List ℕ} → HeldSoFar rule post value 0 0
none_held = record { few = omega arith; to_come = λ p f. refl }

pub one_held : {A : Type 0} {rule : Rule A} {post : A → Bool → Type 0} {value : List ℕ} {at count : ℕ} {a : A} {next : ℕ}
    → Moves rule → HeldSoFar rule post value at count → step rule value at ≡ ok (item a next) → post a true
    → HeldSoFar rule post value next (count + 1)
one_held {A} {rule} {post} {value} {at} {count} {a} {next} m x e h =
    let w = item_moves rule m value at a next e in
    record {
      few = omega (arith, x.few, w.0);
      to_come = λ p f. rw (← x.to_come p f, held_item rule p m count value at a next e, ← f a true h);
    }

pub all_held : {A : Type 0} {rule : Rule A} {post : A → Bool → Type 0} {value : List ℕ} {at count : ℕ}
    → Moves rule → HeldSoFar rule post value at count → step rule value at ≡ ok end
    → (p : A → Bool) → Computes post p → Some count ≡ items_held rule p value
all_held {A} {rule} {post} {value} {at} {count} m x e p f = sym (held_end rule p m count value at e) ∙ x.to_come p f

pub one_not_held : {A : Type 0} {rule : Rule A} {post : A → Bool → Type 0} {value : List ℕ} {at count : ℕ} {a : A} {next : ℕ}
    → Moves rule → HeldSoFar rule post value at count → step rule value at ≡ ok (item a next) → post a false
    → (p : A → Bool) → Computes post p → None ≡ items_held rule p value
one_not_held {A} {rule} {post} {value} {at} {count} {a} {next} m x e h p f =
    rw (← x.to_come p f, held_item rule p m count value at a next e, ← f a false h)

pub none_to_read : {A : Type 0} {rule : Rule A} {post : A → Bool → Type 0} {value : List ℕ} {at count : ℕ} {w : Refusal}
    → Moves rule → HeldSoFar rule post value at count → step rule value at ≡ refused w
    → (p : A → Bool) → Computes post p → None ≡ items_held rule p value
none_to_read {A} {rule} {post} {value} {at} {count} {w} m x e p f = sym (held_broken rule p m count value at w e) ∙ x.to_come p f

-- so many that hold are exactly so many
pub held_exactly : {A : Type 0} (rule : Rule A) (p : A → Bool) (n : ℕ) (value : List ℕ)
    → option_eq eqb (items_held rule p value) (Some n) ≡ exactly rule p n value
unfolding held_from exactly
held_exactly rule p n value =
    let z : 0 + length (walk_items rule value 0).items ≡ length (walk_items rule value 0).items = omega arith in
    rw z (both (list_holds rule p value 0) (length (walk_items rule value 0).items))
  where
    both : (b : Bool) (k : ℕ) → option_eq eqb (cond b (Some k) None) (Some n) ≡ (b && eqb k n)
    both true k = refl
    both false k = refl

-- ---- the rest of such a value, from a place on, where `before` items were met
pub tally : {A : Type 0} → Rule A → (A → Bool) → ℕ → ℕ → List ℕ → ℕ → Bool
tally rule p n before value at = list_holds rule p value at && eqb (before + length (walk_items rule value at).items) n

-- from the start, it is the whole value
pub tally_all : {A : Type 0} (rule : Rule A) (p : A → Bool) (n : ℕ) (value : List ℕ) → tally rule p n 0 value 0 ≡ exactly rule p n value
unfolding tally exactly
tally_all rule p n value =
    let z : 0 + length (walk_items rule value 0).items ≡ length (walk_items rule value 0).items = omega arith in
    rw z

pub tally_end : {A : Type 0} (rule : Rule A) (p : A → Bool) → Moves rule → (n before : ℕ) (value : List ℕ) (at : ℕ)
    → step rule value at ≡ ok end
    → tally rule p n before value at ≡ eqb before n
unfolding tally
tally_end rule p m n before value at e =
    let z : before + 0 ≡ before = omega arith in
    rw (list_end rule p m value at e, walk_steps_lem rule m value at, e, z)

pub tally_item : {A : Type 0} (rule : Rule A) (p : A → Bool) → Moves rule → (n before : ℕ) (value : List ℕ) (at : ℕ) (a : A) (next : ℕ)
    → step rule value at ≡ ok (item a next) → tally rule p n before value at ≡ (p a && tally rule p n (before + 1) value next)
unfolding tally
tally_item rule p m n before value at a next e =
    let k : before + suc (length (walk_items rule value next).items) ≡ before + 1 + length (walk_items rule value next).items =
    omega arith in
    rw (list_item rule p m value at a next e, walk_steps_lem rule m value at, e, k) (and_assoc (p a) (list_holds rule p value next) _)

pub tally_broken : {A : Type 0} (rule : Rule A) (p : A → Bool) → Moves rule → (n before : ℕ) (value : List ℕ) (at : ℕ) (w : Refusal)
    → step rule value at ≡ refused w → tally rule p n before value at ≡ false
unfolding tally
tally_broken rule p m n before value at w e = rw (list_broken rule p m value at w e)

-- ---- a loop over such a value, which met `count` items: what is to come from here is what was to come from the start
pub record Met {A : Type 0} (rule : Rule A) (p : A → Bool) (n : ℕ) (value : List ℕ) (at count : ℕ) : Type 0 where
  pub few : count ≤ at
  pub to_come : tally rule p n count value at ≡ exactly rule p n value

pub none_met : {A : Type 0} {rule : Rule A} {p : A → Bool} {n : ℕ} {value : List ℕ} → Met rule p n value 0 0
none_met {A} {rule} {p} {n} {value} = record { few = omega arith; to_come = tally_all rule p n value }

pub more_met : {A : Type 0} {rule : Rule A} {p : A → Bool} {n : ℕ} {value : List ℕ} {at count : ℕ} {a : A} {next : ℕ}
    → Moves rule → Met rule p n value at count → step rule value at ≡ ok (item a next) → p a ≡ true → Met rule p n value next (count + 1)
more_met {A} {rule} {p} {n} {value} {at} {count} {a} {next} m x e h =
    let w = item_moves rule m value at a next e in
    record {
      few = omega (arith, x.few, w.0);
      to_come = rw (← x.to_come, tally_item rule p m n count value at a next e, h);
    }

pub no_more : {A : Type 0} {rule : Rule A} {p : A → Bool} {n : ℕ} {value : List ℕ} {at count : ℕ}
    → Moves rule → Met rule p n value at count → step rule value at ≡ ok end → eqb count n ≡ exactly rule p n value
no_more {A} {rule} {p} {n} {value} {at} {count} m x e = sym (tally_end rule p m n count value at e) ∙ x.to_come

pub one_fails : {A : Type 0} {rule : Rule A} {p : A → Bool} {n : ℕ} {value : List ℕ} {at count : ℕ} {a : A} {next : ℕ}
    → Moves rule → Met rule p n value at count → step rule value at ≡ ok (item a next) → p a ≡ false → false ≡ exactly rule p n value
one_fails {A} {rule} {p} {n} {value} {at} {count} {a} {next} m x e h = rw (← x.to_come, tally_item rule p m n count value at a next e, h)

pub none_read : {A : Type 0} {rule : Rule A} {p : A → Bool} {n : ℕ} {value : List ℕ} {at count : ℕ} {w : Refusal}
    → Moves rule → Met rule p n value at count → step rule value at ≡ refused w → false ≡ exactly rule p n value
none_read {A} {rule} {p} {n} {value} {at} {count} {w} m x e = sym (tally_broken rule p m n count value at w e) ∙ x.to_come

-- ---- pairs (rank, charset)
pub pairs_end : (size low : ℕ) (value : List ℕ) (at : ℕ) → step pair_item value at ≡ ok end → pairs_whole size low value at ≡ true
unfolding pairs_whole pairs_hold
pairs_end size low value at e = rw (walk_steps_lem pair_item pair_moves value at, e)

pub pairs_item : (size low : ℕ) (value : List ℕ) (at r c next : ℕ) → step pair_item value at ≡ ok (item (r, c) next)
    → pairs_whole size low value at ≡ (leb low r && (ltb r size && (is_charset c && pairs_whole size (r + 1) value next)))
unfolding pairs_whole pairs_hold
pairs_item size low value at r c next e =
    let k : r + 1 ≡ suc r = omega arith in
    let w = is_whole (walk_items pair_item value next).how in
    let h = pairs_hold size (suc r) (walk_items pair_item value next).items in
    rw (walk_steps_lem pair_item pair_moves value at, e, k)
    (and_swap w (leb low r) (ltb r size && (is_charset c && h))
    ∙ ap (λ (x : Bool). leb low r && x)
    (and_swap w (ltb r size) (is_charset c && h) ∙ ap (λ (x : Bool). ltb r size && x) (and_swap w (is_charset c) h)))

pub pairs_broken : (size low : ℕ) (value : List ℕ) (at : ℕ) (w : Refusal) → step pair_item value at ≡ refused w
    → pairs_whole size low value at ≡ false
unfolding pairs_whole
pairs_broken size low value at w e = rw (walk_steps_lem pair_item pair_moves value at, e)

pub pair_steps : (s : List ℕ) (at : ℕ) (x : ℕ × ℕ) (next : ℕ) → step pair_item s at ≡ ok (item x next) → (at < next) × (next ≤ length s)
pair_steps = item_moves pair_item pair_moves

-- what the loop over them turns on
pub ruleset pair_turns = (pairs_end, pairs_item, pairs_broken, pair_steps)

-- and pairs that hold
pub pairs_true : (size low : ℕ) (value : List ℕ) (at : ℕ) → pairs_whole size low value at ≡ true
    → (is_whole (walk_items pair_item value at).how ≡ true) × (pairs_hold size low (walk_items pair_item value at).items ≡ true)
unfolding pairs_whole
pairs_true size low value at e =
    both_true (is_whole (walk_items pair_item value at).how) (pairs_hold size low (walk_items pair_item value at).items) e
