-- Bytes put behind those that were read: of a packed integer, a number of a width, a part, only a refusal 1 may change. Assumes nothing.
use Prim.Native.Nat.{ℕ, ◌+◌, ◌≤◌}
use mathlib.Core.Path.{◌≡◌, refl, sym, ap, subst, ◌∙◌}
use mathlib.Core.Bool.{Bool, true, false, cond}
use mathlib.Core.Logic.{dite, ◌⊎◌, inl, inr}
use mathlib.Core.List.{List, ◌++◌}
use native.Mathlib.Decide.{dec_le}
use native.Mathlib.Omega.{arith}
use borrow.Author.Tests.{le-leb, lt-leb}
use lib.ListN.{length, get_or, take, drop, length-append, length-drop, get_or-append}
use lib.Seq.{take-append-le, drop-append-le}
use lib.Dec.{leb, eqb}
use Rattle.wire.specs.declared.refusal.Refusal.{Refusal}
use Rattle.wire.specs.Outcome.{Outcome, ok, refused, why, after, Stays, same, ended}
use Rattle.wire.specs.Parts.{within}
use Rattle.wire.specs.Packed.{read_fixed, long_form, packed_form, read_packed}
use Rattle.wire.proofs.Outcomes.{same_refused, ok_not_refused}
use Rattle.wire.proofs.Parts.{within_fits, within_short, within_ok}

-- ---- what stays
pub stays_eq : {A : Type 0} {n : ℕ} (a b : Outcome A) → b ≡ a → Stays n a b
stays_eq {n} a b e = subst (λ (x : Outcome _). Stays n a x) (sym e) (same a)

-- a test that is the same for both
pub stays_test : {A : Type 0} {n : ℕ} (b : Bool) {x x' y y' : Outcome A} → Stays n x x' → Stays n y y'
    → Stays n (cond b x y) (cond b x' y')
stays_test true u v = u
stays_test false u v = v

-- chains: what goes on behind an answer need only stay where that answer was given
pub stays_chain : {A B : Type 0} {n : ℕ} {x y : Outcome A} (f g : A → Outcome B) → Stays n x y
    → ((a : A) → x ≡ ok a → Stays n (f a) (g a)) → Stays n (after x f) (after y g)
stays_chain f g (same (ok a)) h = h a refl
stays_chain f g (same (refused w)) h = same (refused w)
stays_chain f g (ended w o e) h = ended w _ e

pub stays_after : {A B : Type 0} {n : ℕ} (f : A → B) {x y : Outcome A} → Stays n x y
    → Stays n (after x (λ a. ok (f a))) (after y (λ a. ok (f a)))
stays_after f u = stays_chain _ _ u (λ a e. same _)

-- an answer, and a refusal
pub stays_ok : {A : Type 0} {n : ℕ} {a : A} {x y : Outcome A} → Stays n x y → x ≡ ok a → y ≡ ok a
stays_ok (same o) e = e
stays_ok (ended w o h) e = absurd (ok_not_refused (sym e))

pub stays_no : {A : Type 0} {n : ℕ} {w : Refusal} {x y : Outcome A} → Stays n x y → x ≡ refused w → (y ≡ refused w) ⊎ (w.number ≡ n)
stays_no (same o) e = inl e
stays_no {n} {w} (ended v o h) e = inr (subst (λ (z : Refusal). z.number ≡ n) (same_refused e) h)

-- ---- parts
-- n bytes at a place that are there stay there
pub part_more : (s t : List ℕ) (at n : ℕ) → at + n ≤ length s → take n (drop at (s ++ t)) ≡ take n (drop at s)
part_more s t at n h =
    let l : n ≤ length (drop at s) = rw length-drop (omega arith) in
    ap (take n) (drop-append-le at s t (omega arith)) ∙ take-append-le n (drop at s) t l

pub within_more : (s t : List ℕ) (at n place : ℕ) → Stays 1 (within s at n place) (within (s ++ t) at n place)
within_more s t at n place =
    let m = length-append s t in
    dite (dec_le (at + n) (length s))
    (λ (h : at + n ≤ length s). stays_eq _ _ (within_fits (s ++ t) at n place (omega arith) ∙ sym (within_fits s at n place h)))
    (λ h. rw (within_short s at n place (omega arith)) (ended (why 1 place) _ refl))

-- ---- numbers
pub fixed_more : (k : ℕ) (s t : List ℕ) (at : ℕ) → Stays 1 (read_fixed k s at) (read_fixed k (s ++ t) at)
unfolding read_fixed
fixed_more k s t at =
    stays_chain _ _ (within_more s t at k at) (λ n e.
    let w = within_ok s at k at n e in
    stays_eq _ _ (rw (part_more s t at k (omega (arith, w.0, w.1)))))

long_more : (s t : List ℕ) (at k : ℕ) → Stays 1 (long_form s at k) (long_form (s ++ t) at k)
unfolding long_form
long_more s t at k =
    let m = length-append s t in
    dite (dec_le (at + 1 + k) (length s))
    (λ (h : at + 1 + k ≤ length s).
    stays_eq _ _ (rw (
      le-leb (at + 1 + k) (length s) h,
      le-leb (at + 1 + k) (length (s ++ t)) (omega arith),
      part_more s t (at + 1) k h,
    )))
    (λ h. rw (lt-leb (at + 1 + k) (length s) (omega arith)) (ended (why 1 at) _ refl))

form_more : (s t : List ℕ) (at b : ℕ) → Stays 1 (packed_form s at b) (packed_form (s ++ t) at b)
unfolding packed_form
form_more s t at b =
    stays_test (leb b 250) (same _)
    (stays_test (eqb b 252) (long_more s t at 2)
    (stays_test (eqb b 253) (long_more s t at 3)
    (stays_test (eqb b 254) (long_more s t at 8) (same _))))

pub packed_more : (s t : List ℕ) (at : ℕ) → Stays 1 (read_packed s at) (read_packed (s ++ t) at)
unfolding read_packed
packed_more s t at =
    let m = length-append s t in
    dite (dec_le (length s) at)
    (λ (h : length s ≤ at). rw (le-leb (length s) at h) (ended (why 1 at) _ refl))
    (λ h.
    rw (lt-leb (length s) at (omega arith), lt-leb (length (s ++ t)) at (omega arith), get_or-append s t 0 at (omega arith))
    (form_more s t at (get_or s at 0)))
