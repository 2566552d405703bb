-- Entries one by one: all may be there if each may; the first of them, and then the rest. Assumes nothing.
use Prim.Native.Nat.{ℕ, zero, suc, ◌+◌, ◌-◌, ◌<◌}
use mathlib.Core.Path.{◌≡◌, refl, sym, ap, subst, ◌∙◌}
use mathlib.Core.Bool.{Bool, true, false}
use mathlib.Core.List.{List}
use native.Mathlib.Omega.{arith}
use lib.ListN.{length}
use Rattle.std.specs.Bool.{MatchBool}
use Rattle.std.specs.List.{range_with_len, AllWithin, HoldsAt}
use Rattle.std.proofs.lemmas.List.FromFn.{length-range_with_len, get_or-range_with_len}
use Rattle.wire.proofs.Outcomes.{both_true}
use Rattle.record.specs.Entries.{entry_holds}
use Rattle.record.specs.Records.{entry_in, entries_hold}

-- each of the entries from j on may be there
pub holds_at : (m : ℕ) (r : List ℕ) (j i : ℕ) → entries_hold m r j ≡ true → i < m → entry_holds (entry_in r (j + i)) ≡ true
unfolding entries_hold
holds_at zero r j i e h = absurd (omega arith)
holds_at (suc m) r j zero e h =
    let z : j ≡ j + 0 = omega arith in
    subst (λ (k : ℕ). entry_holds (entry_in r k) ≡ true) z (both_true (entry_holds (entry_in r j)) _ e).0
holds_at (suc m) r j (suc i) e h =
    let z : suc j + i ≡ j + suc i = omega arith in
    subst (λ (k : ℕ). entry_holds (entry_in r k) ≡ true) z
    (holds_at m r (suc j) i (both_true (entry_holds (entry_in r j)) _ e).1 (omega arith))

-- entries that each may be there all are
pub all_hold : (m : ℕ) (r : List ℕ) (j : ℕ) → ((i : ℕ) → i < m → entry_holds (entry_in r (j + i)) ≡ true) → entries_hold m r j ≡ true
unfolding entries_hold
all_hold zero r j h = refl
all_hold (suc m) r j h =
    let z : j + 0 ≡ j = omega arith in
    let a : entry_holds (entry_in r j) ≡ true = ap (λ (k : ℕ). entry_holds (entry_in r k)) (sym z) ∙ h 0 (omega arith) in
    rw a (all_hold m r (suc j)
    (λ i l. let e : suc j + i ≡ j + suc i = omega arith in ap (λ (k : ℕ). entry_holds (entry_in r k)) e ∙ h (suc i) (omega arith)))

one_stops : (n k : ℕ) (r : List ℕ) → k < n → entry_holds (entry_in r (0 + k)) ≡ false → (b : Bool) → entries_hold n r 0 ≡ b → false ≡ b
one_stops n k r h e true u = let t = holds_at n r 0 k u h in cc
one_stops n k r h e false u = refl

-- what a look at each of the columns below n tells, one after the other
pub told_by_each : (n : ℕ) (r : List ℕ) (b : Bool) → let js = range_with_len 0 n in
    MatchBool b (AllWithin (λ j. entry_holds (entry_in r j) ≡ true) js 0 (length js))
    ((k : ℕ) × (k < length js) × HoldsAt (λ j. entry_holds (entry_in r j) ≡ false) js k)
    → b ≡ entries_hold n r 0
told_by_each n r true h =
    let l = length-range_with_len 0 n in
    let P : ℕ → Type 0 = λ j. entry_holds (entry_in r j) ≡ true in
    sym (all_hold n r 0 (λ i b. subst P (get_or-range_with_len 0 n i 0 b) (h i 0 (omega arith) (omega arith))))
told_by_each n r false (k, b, h) =
    let l = length-range_with_len 0 n in
    let i : k < n = omega arith in
    let P : ℕ → Type 0 = λ j. entry_holds (entry_in r j) ≡ false in
    one_stops n k r i (subst P (get_or-range_with_len 0 n k 0 i) (h 0)) (entries_hold n r 0) refl

-- the entry of a column that may not be there ends it
pub stops : (n : ℕ) (r : List ℕ) (j : ℕ) → j < n → entry_holds (entry_in r j) ≡ false → entries_hold (n - j) r j ≡ false
unfolding entries_hold
stops n r j h e =
    let k : n - j ≡ suc (n - (j + 1)) = omega arith in
    rw (k, e)

-- else the rest decides
pub goes_on_lem : (n : ℕ) (r : List ℕ) (j : ℕ) → j < n → entry_holds (entry_in r j) ≡ true
    → entries_hold (n - j) r j ≡ entries_hold (n - (j + 1)) r (j + 1)
unfolding entries_hold
goes_on_lem n r j h e =
    let k : n - j ≡ suc (n - (j + 1)) = omega arith in
    let i : j + 1 ≡ suc j = omega arith in
    rw (k, e, i)

pub none_left : (r : List ℕ) (j : ℕ) → entries_hold 0 r j ≡ true
unfolding entries_hold
none_left r j = refl
