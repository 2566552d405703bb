-- A step of a walk, whatever the rule of its items: what it answers, and what its answer says of the rule. Assumes nothing.
use Rattle.std.specs.Prelude.{Some}
use Prim.Native.Nat.{ℕ, ◌≤◌, ◌<◌}
use mathlib.Core.Path.{◌≡◌, sym, ap}
use mathlib.Core.Logic.{dite, ◌⊎◌, inl, inr}
use mathlib.Core.List.{List}
use native.Mathlib.Decide.{dec_le}
use native.Mathlib.Omega.{arith}
use borrow.Author.Tests.{lt-ltb, le-ltb, eq-eqb, ne_eqb, ltb-true, ltb-false, eqb-false}
use lib.ListN.{length}
use lib.Dec.{ltb, eqb}
use Rattle.wire.specs.declared.refusal.Refusal.{Refusal}
use Rattle.wire.specs.Outcome.{Outcome, ok, refused, refuse, why, after}
use Rattle.wire.proofs.Outcomes.{by_test, ok_not_refused, same_ok, same_refused}
use Rattle.table_map.specs.Lists.{Rule, Stepped, end, item, step}

-- at the length it has ended
pub step_end : {A : Type 0} (rule : Rule A) (s : List ℕ) (at : ℕ) → at ≡ length s → step rule s at ≡ ok end
unfolding step
step_end rule s at h = simp (eq-eqb at (length s) h)

-- past it, refusal 1 there
pub step_past : {A : Type 0} (rule : Rule A) (s : List ℕ) (at : ℕ) → length s < at → step rule s at ≡ refuse 1 at
unfolding step
step_past rule s at h =
    let n : at ≡ length s → ⊥ = λ (e : at ≡ length s). omega arith in
    simp (ne_eqb at (length s) n, lt-ltb (length s) at h)

-- before it, what the rule says
pub step_before : {A : Type 0} (rule : Rule A) (s : List ℕ) (at : ℕ) → at < length s
    → step rule s at ≡ after (rule s at) (λ x. ok (item x.0 x.1))
unfolding step
step_before rule s at h =
    let n : at ≡ length s → ⊥ = λ (e : at ≡ length s). omega arith in
    let l : at ≤ length s = omega arith in
    simp (ne_eqb at (length s) n, le-ltb (length s) at l)

-- a rule that itself refuses so past the bytes need not be told that it stands there
pub record Early {A : Type 0} (rule : Rule A) : Type 0 where
  pub early : (s : List ℕ) (at : ℕ) → length s ≤ at → rule s at ≡ refuse 1 at

pub step_else : {A : Type 0} (rule : Rule A) → Early rule → (s : List ℕ) (at : ℕ) → (at ≡ length s → ⊥)
    → step rule s at ≡ after (rule s at) (λ x. ok (item x.0 x.1))
step_else rule r s at n =
    dite (dec_le (length s) at)
    (λ h.
    let l : length s < at = omega arith in
    rw (step_past rule s at l, r.early s at h))
    (λ h. step_before rule s at (omega arith))

-- ---- the other way
item_or : {A C : Type 0} → A × C → Outcome (Stepped A C) → A × C
item_or x (ok (Some y)) = y
item_or x _ = x

-- the same answer has the same item, and leads to the same place
pub same_item : {A C : Type 0} {a b : A} {n m : C} → ◌≡◌ {A = Outcome (Stepped A C)} (ok (item a n)) (ok (item b m))
    → (a ≡ b) × (n ≡ m)
unfolding item_or
same_item {A} {C} {a} {b} {n} {m} e =
    let q : ◌≡◌ {A = A × C} (a, n) (b, m) = ap (item_or (a, n)) e in
    (ap (λ (x : A × C). x.0) q, ap (λ (x : A × C). x.1) q)

end_not_item : {A : Type 0} {a : A} {n : ℕ} → ◌≡◌ {A = Stepped A ℕ} end (item a n) → ⊥
end_not_item e = let z : ◌≡◌ {A = ℕ} 0 1 = cc in omega arith

handed_item : {A : Type 0} {a : A} {next : ℕ} (o : Outcome (A × ℕ)) → after o (λ x. ok (item x.0 x.1)) ≡ ok (item a next)
    → o ≡ ok (a, next)
handed_item {A} {a} {next} (ok x) e =
    let p : ◌≡◌ {A = A × ℕ} (x.0, x.1) (a, next) = cc in
    ap (λ (z : A × ℕ). ok z) p
handed_item (refused v) e = absurd (ok_not_refused (sym e))

handed_refusal : {A : Type 0} {w : Refusal} (o : Outcome (A × ℕ)) → after o (λ x. ok (item x.0 x.1)) ≡ refused w → o ≡ refused w
handed_refusal (ok x) e = absurd (ok_not_refused e)
handed_refusal {A} {w} (refused v) e = let x : v ≡ w = same_refused e in rw x

-- an item was read by the rule, before the end
pub item_read : {A : Type 0} (rule : Rule A) (s : List ℕ) (at : ℕ) (a : A) (next : ℕ) → step rule s at ≡ ok (item a next)
    → (at < length s) × (rule s at ≡ ok (a, next))
unfolding step
item_read rule s at a next e =
    by_test (eqb at (length s)) _ _ _ e
    (λ t e₁. absurd (end_not_item (same_ok e₁)))
    (λ t e₁. by_test (ltb (length s) at) _ _ _ e₁
    (λ u e₂. absurd (ok_not_refused (sym e₂)))
    (λ u e₂.
    let n : at ≡ length s → ⊥ = eqb-false at (length s) t in
    let l : at ≤ length s = ltb-false (length s) at u in
    (omega arith, handed_item (rule s at) e₂)))

-- a refusal is the rule's, before the end, or that of a place past it
pub refusal_told : {A : Type 0} (rule : Rule A) (s : List ℕ) (at : ℕ) (w : Refusal) → step rule s at ≡ refused w
    → ((length s < at) × (w ≡ why 1 at)) ⊎ ((at < length s) × (rule s at ≡ refused w))
unfolding step
refusal_told rule s at w e =
    by_test (eqb at (length s)) _ _ _ e
    (λ t e₁. absurd (ok_not_refused e₁))
    (λ t e₁. by_test (ltb (length s) at) _ _ _ e₁
    (λ u e₂. inl (ltb-true (length s) at u, sym (same_refused e₂)))
    (λ u e₂.
    let n : at ≡ length s → ⊥ = eqb-false at (length s) t in
    let l : at ≤ length s = ltb-false (length s) at u in
    inr (omega arith, handed_refusal (rule s at) e₂)))
