-- The keys of a value, and the search for one that stands twice: what its two loops turn on. Assumes nothing.
use Prim.Native.Nat.{ℕ, ◌+◌, ◌≤◌, ◌<◌}
use mathlib.Core.Path.{◌≡◌, refl, sym, ap, subst, ◌∙◌}
use mathlib.Core.Bool.{Bool, true, false, ◌||◌}
use mathlib.Core.Logic.{⊎_elim}
use mathlib.Core.List.{List, [], ◌∷◌, ◌++◌}
use native.Mathlib.Omega.{arith}
use borrow.Author.Tests.{eq-eqb, ne_eqb}
use lib.ListN.{length}
use lib.Dec.{eqb}
use Rattle.wire.specs.declared.refusal.Refusal.{Refusal}
use Rattle.wire.specs.Outcome.{ok, refused, refuse}
use Rattle.wire.proofs.Outcomes.{after_is_ok, ok_not_refused, same_ok}
use Rattle.table_map.specs.Lists.{Rule}
use Rattle.table_map.proofs.Items.{Moves}
use Rattle.map_check.specs.Contents.{key_item}
use Rattle.map_check.specs.Fields.{stood}
use Rattle.map_check.specs.Keys.{with_place, keys_from, keys_once}
use Rattle.map_check.proofs.KeyLaws.KeyItems.{key_moves, key_moved}
use Rattle.map_check.specs.Passes.{Between, none}
use Rattle.map_check.proofs.ContentsLaws.Between.{one_more, rises, parted, items_next, items_past, items_stop}

-- items with their places move as they do without
pub placed_moves : {A : Type 0} (rule : Rule A) → Moves rule → Moves (with_place rule)
unfolding with_place
placed_moves {A} rule m = record {
  moves = λ s at a next e.
      let x = after_is_ok (rule s at) (λ y. ok ((at, y.0), y.1)) (a, next) e in
      let z : x.0.1 ≡ next = ap (λ (w : (ℕ × A) × ℕ). w.1) (same_ok x.2) in
      subst (λ (n : ℕ). (at < n) × (n ≤ length s)) z (m.moves s at x.0.0 x.0.1 x.1);
}

-- ---- the keys from a place on
pub keys_next : (paired : Bool) (value : List ℕ) (at k next : ℕ) → key_item paired value at ≡ ok (k, next)
    → keys_from paired value at ≡ (at, k) ∷ keys_from paired value next
unfolding with_place
keys_next paired value at k next e =
    let r : with_place (key_item paired) value at ≡ ok ((at, k), next) = rw e in
    items_next (with_place (key_item paired)) (placed_moves (key_item paired) (key_moves paired)) value at (at, k) next r

pub keys_past : (paired : Bool) (value : List ℕ) (at : ℕ) → length value ≤ at → keys_from paired value at ≡ []
keys_past paired value at h = items_past (with_place (key_item paired)) (placed_moves (key_item paired) (key_moves paired)) value at h

pub keys_stop : (paired : Bool) (value : List ℕ) (at : ℕ) (w : Refusal) → key_item paired value at ≡ refused w
    → keys_from paired value at ≡ []
unfolding with_place
keys_stop paired value at w e =
    let r : with_place (key_item paired) value at ≡ refused w = rw e in
    items_stop (with_place (key_item paired)) (placed_moves (key_item paired) (key_moves paired)) value at w r

-- ---- the outer loop: the keys before `later` repeat none, so those from there on decide
pub record Reached (paired : Bool) (value : List ℕ) (start later : ℕ) : Type 0 where
  pub before : List ℕ
  pub passed : Between (key_item paired) value 0 later before
  pub left : keys_once start before (keys_from paired value later) ≡ keys_once start [] (keys_from paired value 0)

pub reached_first : (paired : Bool) (value : List ℕ) (start : ℕ) → Reached paired value start 0
reached_first paired value start = record { before = []; passed = none; left = refl }

-- none is left
ends : {paired : Bool} {value : List ℕ} {start later : ℕ} → Reached paired value start later → keys_from paired value later ≡ []
    → ok tt ≡ keys_once start [] (keys_from paired value 0)
unfolding keys_once
ends {paired} {value} {start} {later} r e = rw (← r.left, e)

pub ends_past : {paired : Bool} {value : List ℕ} {start later : ℕ} → Reached paired value start later → length value ≤ later
    → ok tt ≡ keys_once start [] (keys_from paired value 0)
ends_past {paired} {value} {start} {later} r h = ends r (keys_past paired value later h)

pub ends_stop : {paired : Bool} {value : List ℕ} {start later : ℕ} {w : Refusal} → Reached paired value start later
    → key_item paired value later ≡ refused w
    → ok tt ≡ keys_once start [] (keys_from paired value 0)
ends_stop {paired} {value} {start} {later} {w} r e = ends r (keys_stop paired value later w e)

-- ---- the inner loop: no key before `earlier` is this one, so those from there up to `later` decide whether it stood
pub record Compared (paired : Bool) (value : List ℕ) (start later key earlier : ℕ) : Type 0 where
  pub reached : Reached paired value start later
  pub rest : List ℕ
  pub passed : Between (key_item paired) value earlier later rest
  pub same : stood key rest ≡ stood key reached.before

pub compared_none : {paired : Bool} {value : List ℕ} {start later : ℕ} (key : ℕ) → Reached paired value start later
    → Compared paired value start later key 0
compared_none key r = record { reached = r; rest = r.before; passed = r.passed; same = refl }

-- an item before `later` was read already
pub reads_again : {paired : Bool} {value : List ℕ} {start later key earlier : ℕ} {w : Refusal}
    → Compared paired value start later key earlier
    → earlier < later → key_item paired value earlier ≡ refused w → ⊥
reads_again c h e = ok_not_refused (sym (parted c.passed h).read ∙ e)

-- its key, and those behind it
meets : {paired : Bool} {value : List ℕ} {start later key earlier other behind : ℕ} (c : Compared paired value start later key earlier)
    → earlier < later → key_item paired value earlier ≡ ok (other, behind)
    → (rest : List ℕ) × Between (key_item paired) value behind later rest
    × ((eqb other key || stood key rest) ≡ stood key c.reached.before)
unfolding stood
meets {paired} {value} {start} {later} {key} {earlier} {other} {behind} c h e =
    let p = parted c.passed h in
    subst
    (λ (w : ℕ × ℕ). (rest : List ℕ) × Between (key_item paired) value w.1 later rest
    × ((eqb w.0 key || stood key rest) ≡ stood key c.reached.before))
    (same_ok (sym p.read ∙ e))
    (p.rest, p.behind, sym (ap (stood key) p.all) ∙ c.same)

-- another key: on to the next
pub compared_more : {paired : Bool} {value : List ℕ} {start later key earlier other behind : ℕ}
    → Compared paired value start later key earlier
    → earlier < later → key_item paired value earlier ≡ ok (other, behind) → (other ≡ key → ⊥) → Compared paired value start later key behind
compared_more {paired} {value} {start} {later} {key} {earlier} {other} {behind} c h e n =
    let m = meets c h e in
    record {
      reached = c.reached;
      rest = m.0;
      passed = m.1;
      same = ap (λ (t : Bool). t || stood key m.0) (sym (ne_eqb other key n)) ∙ m.2;
    }

-- the same key: the later item is told
pub repeats : {paired : Bool} {value : List ℕ} {start later key earlier other behind next : ℕ}
    → Compared paired value start later key earlier
    → earlier < later → key_item paired value earlier ≡ ok (other, behind) → other ≡ key → key_item paired value later ≡ ok (key, next)
    → refuse 7 (start + later) ≡ keys_once start [] (keys_from paired value 0)
unfolding keys_once
repeats {paired} {value} {start} {later} {key} {earlier} {other} {behind} {next} c h e q l =
    let m = meets c h e in
    let t : stood key c.reached.before ≡ true = sym m.2 ∙ ap (λ (t : Bool). t || stood key m.0) (eq-eqb other key q) in
    rw (← c.reached.left, keys_next paired value later key next l, t)

-- no more of them: on to the next later one
pub reached_next : {paired : Bool} {value : List ℕ} {start later key earlier next : ℕ} → Compared paired value start later key earlier
    → later ≤ earlier → key_item paired value later ≡ ok (key, next) → Reached paired value start next
unfolding keys_once stood
reached_next {paired} {value} {start} {later} {key} {earlier} {next} c h l =
    let none_left : c.rest ≡ [] = ⊎_elim (λ g. absurd (omega (arith, g))) (λ e. e.1) (rises (key_moves paired) c.passed) in
    let t : stood key c.reached.before ≡ false = sym c.same ∙ ap (stood key) none_left in
    record {
      before = c.reached.before ++ (key ∷ []);
      passed = one_more c.reached.passed l;
      left = rw (← c.reached.left, keys_next paired value later key next l, t);
    }

-- what the two loops turn on
pub ruleset key_turns = (reached_first, compared_none, repeats, compared_more, reached_next, ends_stop, key_moved)
