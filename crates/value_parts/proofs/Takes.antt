-- The parts that a sort takes. Assumes nothing.
use Prim.Native.Nat.{ℕ, zero, suc, ◌+◌, ◌≤◌, ◌<◌}
use mathlib.Core.Path.{◌≡◌, refl, sym, ap, ◌∙◌}
use mathlib.Core.Bool.{Bool, true, false, cond, ◌&&◌, true≢false}
use mathlib.Core.Logic.{dite}
use mathlib.Core.List.{List, [], ◌∷◌, ◌++◌}
use native.Mathlib.Nat.{not-suc-le-zero}
use native.Mathlib.Numerals.{add-one}
use native.Mathlib.Decide.{dec_lt}
use native.Mathlib.Omega.{arith}
use borrow.Author.Tests.{le-leb, lt-leb, leb-true}
use lib.ListN.{length, get_or, drop, drop_of_length-le}
use lib.Seq.{drop-cons}
use lib.Dec.{leb, leb-suc-zero, leb-suc-suc}
use mir.Val.{bool_byte}
use Rattle.std.specs.Prelude.{Some, None}
use Rattle.std.specs.Option.{ok_or}
use Rattle.wire.specs.declared.refusal.Refusal.{Refusal}
use Rattle.wire.specs.Outcome.{Outcome, ok, refused}
use Rattle.wire.proofs.Outcomes.{both_true}
use Rattle.value_parts.specs.Parts.{tops_of, fit, makes_value}

-- ---- parts that fit
-- none of them is too great
pub fit_at : (ts ps : List ℕ) (i : ℕ) → fit ts ps ≡ true → i < length ts → get_or ps i 0 ≤ get_or ts i 0
unfolding fit
fit_at [] ps i h l = absurd (not-suc-le-zero l)
fit_at (t ∷ ts) [] i h l = omega arith
fit_at (t ∷ ts) (p ∷ ps) zero h l = leb-true p t (both_true (leb p t) (fit ts ps) h).0
fit_at (t ∷ ts) (p ∷ ps) (suc i) h l = fit_at ts ps i (both_true (leb p t) (fit ts ps) h).1 (omega arith)

-- what stands behind them does not matter
pub fit_more : (ts ps rest : List ℕ) → fit ts ps ≡ true → fit ts (ps ++ rest) ≡ true
unfolding fit
fit_more [] ps rest h = refl
fit_more (t ∷ ts) [] rest h = absurd (true≢false (sym h))
fit_more (t ∷ ts) (p ∷ ps) rest h = let w = both_true (leb p t) (fit ts ps) h in
    rw (w.0, fit_more ts ps rest w.1)

-- ---- a turn of a loop over them
pub fit_short : (ts ps : List ℕ) (i : ℕ) → i < length ts → length ps ≤ i → fit (drop i ts) (drop i ps) ≡ false
unfolding fit
fit_short ts ps i h l = rw (drop-cons ts i 0 h, drop_of_length-le ps {i = i} l)

pub fit_great : (ts ps : List ℕ) (i : ℕ) → i < length ts → i < length ps → get_or ts i 0 < get_or ps i 0 → fit (drop i ts) (drop i ps) ≡ false
unfolding fit
fit_great ts ps i h l g = rw (drop-cons ts i 0 h, drop-cons ps i 0 l, lt-leb _ _ g)

pub fit_on : (ts ps : List ℕ) (i : ℕ) → i < length ts → i < length ps → get_or ps i 0 ≤ get_or ts i 0
    → fit (drop i ts) (drop i ps) ≡ fit (drop (i + 1) ts) (drop (i + 1) ps)
unfolding fit
fit_on ts ps i h l g = rw (drop-cons ts i 0 h, drop-cons ps i 0 l, le-leb _ _ g, add-one i)

pub fit_end : (ts ps : List ℕ) (i : ℕ) → length ts ≤ i → fit (drop i ts) (drop i ps) ≡ true
unfolding fit
fit_end ts ps i h = rw (drop_of_length-le ts {i = i} h)

-- ---- all at once
swapped : (a b c : Bool) → (a && (b && c)) ≡ (b && (a && c))
swapped true b c = refl
swapped false true c = refl
swapped false false c = refl

-- they are as many as there are tops, and each is judged where it stands
abbrev pub fits_from : ℕ → List ℕ → List ℕ → Bool
fits_from i [] ps = true
fits_from i (t ∷ ts) ps = leb (get_or ps i 0) t && fits_from (suc i) ts ps

fits_behind : (i : ℕ) (ts : List ℕ) (p : ℕ) (ps : List ℕ) → fits_from (suc i) ts (p ∷ ps) ≡ fits_from i ts ps
fits_behind i [] p ps = refl
fits_behind i (t ∷ ts) p ps = ap (λ (b : Bool). leb (get_or ps i 0) t && b) (fits_behind (suc i) ts p ps)

pub fit_is : (ts ps : List ℕ) → fit ts ps ≡ (leb (length ts) (length ps) && fits_from 0 ts ps)
unfolding fit
fit_is [] ps = rw (le-leb 0 (length ps) (omega arith))
fit_is (t ∷ ts) [] = rw (leb-suc-zero (length ts))
fit_is (t ∷ ts) (p ∷ ps) =
    rw (fit_is ts ps, leb-suc-suc (length ts) (length ps), fits_behind 0 ts p ps)
    (swapped (leb p t) (leb (length ts) (length ps)) (fits_from 0 ts ps))

-- ---- a sign is 1 where it is negative, as the machine makes a number of a bool
pub as_number : (b : Bool) → bool_byte b ≡ cond b 1 0
as_number true = refl
as_number false = refl

-- ---- sorts
pub taken_fit : (sort k : ℕ) (ps : List ℕ) → makes_value sort ps ≡ true → sort ≡ k → fit (tops_of k) ps ≡ true
unfolding makes_value
taken_fit sort k ps h e = let w = both_true (leb 1 sort) (leb sort 11 && fit (tops_of sort) ps) h in
    ap (λ (n : ℕ). fit (tops_of n) ps) (sym e) ∙ (both_true (leb sort 11) (fit (tops_of sort) ps) w.1).1

pub taken_is : (sort : ℕ) (ps : List ℕ) → 1 ≤ sort → sort ≤ 11 → makes_value sort ps ≡ fit (tops_of sort) ps
unfolding makes_value
taken_is sort ps a b = rw (le-leb 1 sort a, le-leb sort 11 b)

-- a number that is no sort: neither the least, nor the one behind it, and so on
pub beyond : (k sort : ℕ) → k ≤ sort → (sort ≡ k → ⊥) → suc k ≤ sort
beyond k sort h n = omega arith

pub not_taken : (sort : ℕ) (ps : List ℕ) → (1 ≤ sort → 12 ≤ sort) → makes_value sort ps ≡ false
unfolding makes_value
not_taken sort ps h =
    dite (dec_lt sort 1)
    (λ a. rw (lt-leb 1 sort a))
    (λ a. rw (le-leb 1 sort (omega arith), lt-leb sort 11 (h (omega arith))))

-- ---- a value or a refusal, from a value or none
pub ok_or_cond : {A : Type 0} (b : Bool) (x : A) (w : Refusal) → ok_or (cond b (Some x) None) w ≡ cond {A = Outcome A} b (ok x) (refused w)
ok_or_cond true x w = refl
ok_or_cond false x w = refl
