-- Walks, by any rule whose items move: a walk is its first step and the walk from where that leads, and it ends.
-- Assumes nothing.
use Rattle.std.specs.Prelude.{Some}
use Prim.Native.Nat.{ℕ, zero, suc, ◌-◌, ◌≤◌, ◌<◌}
use mathlib.Core.Path.{◌≡◌, refl}
use mathlib.Core.List.{List}
use native.Mathlib.Omega.{arith}
use lib.ListN.{length}
use Rattle.wire.specs.declared.refusal.Refusal.{Refusal}
use Rattle.wire.specs.Outcome.{Outcome, ok, refused}
use Rattle.table_map.specs.Lists.{Rule, Stepped, end, item, step, whole, broken, items_onward, walk_steps, walk_items}
use Rattle.table_map.proofs.Steps.{item_read}
use Rattle.table_map.proofs.Items.{Moves}

-- where a step that answers an item leads
pub item_moves : {A : Type 0} (rule : Rule A) → Moves rule → (s : List ℕ) (at : ℕ) (a : A) (next : ℕ) → step rule s at ≡ ok (item a next)
    → (at < next) × (next ≤ length s)
item_moves rule m s at a next e = m.moves s at a next (item_read rule s at a next e).1

-- ---- more steps than bytes are enough
enough : {A : Type 0} (rule : Rule A) → Moves rule → (m k : ℕ) (s : List ℕ) (at : ℕ) → length s - at < m → length s - at < k
    → walk_steps m rule s at ≡ walk_steps k rule s at
unfolding walk_steps
enough rule v zero k s at h l = absurd (omega arith)
enough rule v (suc m) zero s at h l = absurd (omega arith)
enough {A} rule v (suc m) (suc k) s at h l = go (λ next. enough rule v m k s next) (step rule s at) refl
  where
    go : ((next : ℕ) → length s - next < m → length s - next < k → walk_steps m rule s next ≡ walk_steps k rule s next)
        → (o : Outcome (Stepped A ℕ)) → step rule s at ≡ o → items_onward (walk_steps m rule s) o ≡ items_onward (walk_steps k rule s) o
    go again (ok end) e = refl
    go again (ok (Some (a, next))) e =
        let w = item_moves rule v s at a next e in
        rw (again next (omega arith) (omega arith))
    go again (refused r) e = refl

-- a walk is its first step, and the walk from where that leads
pub walk_steps_lem : {A : Type 0} (rule : Rule A) → Moves rule → (s : List ℕ) (at : ℕ)
    → walk_items rule s at ≡ items_onward (walk_items rule s) (step rule s at)
unfolding walk_steps
walk_steps_lem {A} rule v s at = go (step rule s at) refl
  where
    go : (o : Outcome (Stepped A ℕ)) → step rule s at ≡ o
        → items_onward (walk_steps (length s - at) rule s) o ≡ items_onward (walk_items rule s) o
    go (ok end) e = refl
    go (ok (Some (a, next))) e =
        let w = item_moves rule v s at a next e in
        let x = enough rule v (length s - at) (suc (length s - next)) s next (omega arith) (omega arith) in
        rw x
    go (refused r) e = refl

-- ---- a walk ends: it has no more items than bytes are left
few : {A : Type 0} (rule : Rule A) → Moves rule → (m : ℕ) (s : List ℕ) (at : ℕ) → length (walk_steps m rule s at).items ≤ length s - at
unfolding walk_steps
few rule v zero s at = omega arith
few {A} rule v (suc m) s at = go (λ next. few rule v m s next) (step rule s at) refl
  where
    go : ((next : ℕ) → length (walk_steps m rule s next).items ≤ length s - next)
        → (o : Outcome (Stepped A ℕ)) → step rule s at ≡ o → length (items_onward (walk_steps m rule s) o).items ≤ length s - at
    go again (ok end) e = omega arith
    go again (ok (Some (a, next))) e =
        let w = item_moves rule v s at a next e in
        omega (arith, again next)
    go again (refused r) e = omega arith

pub walk_ends : {A : Type 0} (rule : Rule A) → Moves rule → (s : List ℕ) (at : ℕ) → length (walk_items rule s at).items ≤ length s - at
walk_ends rule v s at = few rule v (suc (length s - at)) s at

-- ---- a walk that comes to the end is not broken
pub whole_not_broken : {w : Refusal} → whole ≡ broken w → ⊥
whole_not_broken e = let z : ◌≡◌ {A = ℕ} 0 1 = cc in omega arith
