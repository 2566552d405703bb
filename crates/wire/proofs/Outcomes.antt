-- Laws of answers and of chains of them. Assumes nothing.
use Prim.Native.Nat.{ℕ}
use mathlib.Core.Path.{◌≡◌, refl, sym, ap, ◌∙◌}
use mathlib.Core.Bool.{Bool, true, false, cond, ◌&&◌, and-eq-true_iff}
use mathlib.Core.Logic.{◌⊎◌, inl, inr}
use native.Mathlib.Omega.{arith}
use Rattle.wire.specs.declared.refusal.Refusal.{Refusal}
use Rattle.wire.specs.Outcome.{Outcome, ok, refused, after}

-- no answer is both
pub ok_not_refused : {A : Type 0} {a : A} {w : Refusal} → ok a ≡ refused w → ⊥
ok_not_refused e = let z : ◌≡◌ {A = ℕ} 0 1 = cc in omega arith

-- equal answers hold equal things
pub same_ok : {A : Type 0} {a b : A} → ◌≡◌ {A = Outcome A} (ok a) (ok b) → a ≡ b
same_ok e = cc

-- and equal refusals
pub same_refused : {A : Type 0} {v w : Refusal} → ◌≡◌ {A = Outcome A} (refused v) (refused w) → v ≡ w
same_refused e = cc

-- chains may be regrouped
pub after_after : {A B C : Type 0} (o : Outcome A) (f : A → Outcome B) (g : B → Outcome C)
    → after (after o f) g ≡ after o (λ a. after (f a) g)
after_after (ok a) f g = refl
after_after (refused w) f g = refl

-- where a chain went well, each part did
pub after_is_ok : {A B : Type 0} (o : Outcome A) (f : A → Outcome B) (b : B) → after o f ≡ ok b → (a : A) × (o ≡ ok a) × (f a ≡ ok b)
after_is_ok (ok a) f b e = (a, refl, e)
after_is_ok (refused w) f b e = absurd (ok_not_refused (sym e))

-- a chain's refusal is that of one of its parts
pub after_refuses : {A B : Type 0} (o : Outcome A) (f : A → Outcome B) (w : Refusal) → after o f ≡ refused w
    → (o ≡ refused w) ⊎ ((a : A) × (o ≡ ok a) × (f a ≡ refused w))
after_refuses (ok a) f w e = inr (a, refl, e)
after_refuses (refused v) f w e = inl (ap refused (same_refused e))

-- a test that a chain passed
pub test_is_ok : {A : Type 0} (t : Bool) (a : A) (w : Refusal) (b : A) → cond t (ok a) (refused w) ≡ ok b → (t ≡ true) × (a ≡ b)
test_is_ok true a w b e = (refl, same_ok e)
test_is_ok false a w b e = absurd (ok_not_refused (sym e))

-- and one that it failed
pub test_refuses : {A : Type 0} (t : Bool) (a : A) (w v : Refusal) → cond t (ok a) (refused w) ≡ refused v → (t ≡ false) × (w ≡ v)
test_refuses true a w v e = absurd (ok_not_refused e)
test_refuses false a w v e = (refl, same_refused e)

-- a test in a definition, either way: what an answer of the whole says of its arms
pub by_test : {A P : Type 0} (t : Bool) (x y z : A) → cond t x y ≡ z → (t ≡ true → x ≡ z → P) → (t ≡ false → y ≡ z → P) → P
by_test true x y z e f g = f refl e
by_test false x y z e f g = g refl e

-- two tests that hold, each of them
pub both_true : (a b : Bool) → (a && b) ≡ true → (a ≡ true) × (b ≡ true)
both_true a b = (and-eq-true_iff a b).0

-- the way back from what a reader says, given those from what it read and from its refusal
abbrev pub back_read : {A S : Type 0} → (A → S) → (Refusal → S) → Outcome A → S
back_read it refuse (ok a) = it a
back_read it refuse (refused w) = refuse w

-- a view with a way back gives no two values the same look
pub same_by_back : {A B : Type 0} (view : A → B) (back : B → A) → ((a : A) → back (view a) ≡ a) → (a b : A) → view a ≡ view b → a ≡ b
same_by_back view back way a b e = sym (way a) ∙ ap back e ∙ way b
