-- Binary digits of a number: the one that is written is read back, and all others are kept. Assumes nothing.
use Prim.Native.Nat.{ℕ, zero, suc, ◌+◌, ◌-◌, ◌*◌, ◌/◌, ◌%◌, ◌^◌, ◌≤◌, ◌<◌}
use mathlib.Core.Path.{◌≡◌, refl, sym, ap, ◌∙◌}
use mathlib.Core.Bool.{Bool, true, false, cond}
use mathlib.Core.List.{List, [], ◌∷◌}
use mathlib.Core.Logic.{dite}
use native.Mathlib.Nat.{pow-suc, pow-le-pow_right, mul_comm, div-div-eq-div-mul, le-div_iff_mul-le, zero-lt-suc}
use native.Mathlib.Decide.{ℕ_discrete}
use native.Mathlib.Omega.{arith}
use borrow.Author.Tests.{eqb-true, eqb-false}
use lib.ListN.{length, get_or}
use lib.Seq.{get_or-set_same, get_or-set_other}
use lib.Dec.{eqb}
use lib.Pow.{pow_pos}
use Rattle.wire.specs.Bits.{digit, lsb0, bit_lsb0}
use Rattle.wire.specs.Stored.{stored}
use Rattle.wire.proofs.Stores.{stored_one}

-- digit j + 1 of x is digit j of its half
half_digit : (x j : ℕ) → digit x (suc j) ≡ digit (x / 2) j
unfolding digit
half_digit x j =
    let e : x / 2 ^ suc j ≡ x / 2 / 2 ^ j = rw (pow-suc 2 j, mul_comm (2 ^ j) 2) (sym (div-div-eq-div-mul x 2 (2 ^ j))) in
    ap (λ (q : ℕ). eqb (q % 2) 1) e

-- digit 0 is what is left over of halving
low_digit : (x : ℕ) → digit x 0 ≡ eqb (x % 2) 1
unfolding digit
low_digit x =
    let e : x / 1 ≡ x = omega arith in
    ap (λ (q : ℕ). eqb (q % 2) 1) e

-- zero has no digit that is 1
pub digit_none : (j : ℕ) → digit 0 j ≡ false
digit_none zero = low_digit 0
digit_none (suc j) = half_digit 0 j ∙ digit_none j

-- what a digit of a byte weighs
pub weight_is : (j : ℕ) → j < 8 → 1 * 2 ^ j % 256 ≡ 2 ^ j
weight_is j h =
    let i : j ≤ 7 = omega arith in
    let p : 2 ^ j ≤ 2 ^ 7 = pow-le-pow_right {n = 2} (zero-lt-suc 1) i in
    omega arith

-- a number with digit j is at least 2 ^ j
pub digit_least : (x j : ℕ) → digit x j ≡ true → 2 ^ j ≤ x
unfolding digit
digit_least x j e =
    let d : x / 2 ^ j % 2 ≡ 1 = eqb-true (x / 2 ^ j % 2) 1 e in
    let q : 1 * 2 ^ j ≤ x = (le-div_iff_mul-le (pow_pos j)).0 (omega arith) in
    omega arith

-- ---- the number with one digit written: its lowest digit, and its half
-- x with its binary digit j made 1 or 0
unfoldable pub with_digit : ℕ → ℕ → Bool → ℕ
unfolding digit
with_digit x j on = cond (digit x j) (cond on x (x - 2 ^ j)) (cond on (x + 2 ^ j) x)

abbrev number : Bool → ℕ
number on = cond on 1 0

low_with : (x : ℕ) (on d : Bool) → digit x 0 ≡ d → with_digit x 0 on ≡ x / 2 * 2 + number on
unfolding with_digit
low_with x true true e =
    let o : x % 2 ≡ 1 = eqb-true (x % 2) 1 (sym (low_digit x) ∙ e) in
    rw e (omega arith)
low_with x false true e =
    let o : x % 2 ≡ 1 = eqb-true (x % 2) 1 (sym (low_digit x) ∙ e) in
    rw e (omega arith)
low_with x true false e =
    let o : x % 2 ≡ 1 → ⊥ = eqb-false (x % 2) 1 (sym (low_digit x) ∙ e) in
    rw e (omega arith)
low_with x false false e =
    let o : x % 2 ≡ 1 → ⊥ = eqb-false (x % 2) 1 (sym (low_digit x) ∙ e) in
    rw e (omega arith)

half_with : (x j : ℕ) (on d : Bool) → digit (x / 2) j ≡ d → with_digit x (suc j) on ≡ with_digit (x / 2) j on * 2 + x % 2
unfolding with_digit
half_with x j true true e = rw (half_digit x j, e) (omega arith)
half_with x j false true e =
    let q : 2 ^ suc j ≡ 2 ^ j * 2 = pow-suc 2 j in
    let l = digit_least (x / 2) j e in
    rw (half_digit x j, e) (omega arith)
half_with x j true false e =
    let q : 2 ^ suc j ≡ 2 ^ j * 2 = pow-suc 2 j in
    rw (half_digit x j, e) (omega arith)
half_with x j false false e = rw (half_digit x j, e) (omega arith)

low_of : (x : ℕ) (on : Bool) → eqb ((x * 2 + number on) % 2) 1 ≡ on
low_of x true = let e : (x * 2 + 1) % 2 ≡ 1 = omega arith in rw e
low_of x false = let e : (x * 2 + 0) % 2 ≡ 0 = omega arith in rw e

half_of : (x : ℕ) (on : Bool) → (x * 2 + number on) / 2 ≡ x
half_of x true = omega arith
half_of x false = omega arith

-- a number of n digits stays one
few_number : (on : Bool) → number on ≤ 1
few_number true = omega arith
few_number false = omega arith

pub with_below : (x j n : ℕ) (on : Bool) → x < 2 ^ n → j < n → with_digit x j on < 2 ^ n
with_below x j zero on h l = absurd (omega arith)
with_below x zero (suc n) on h l = omega (arith, pow-suc 2 n, low_with x on (digit x 0) refl, few_number on)
with_below x (suc j) (suc n) on h l =
    let q = pow-suc 2 n in
    let i = with_below (x / 2) j n on (omega arith) (omega arith) in
    omega (arith, half_with x j on (digit (x / 2) j) refl)

-- the digit that was written
pub digit_written : (x j : ℕ) (on : Bool) → digit (with_digit x j on) j ≡ on
digit_written x zero on = rw (low_with x on (digit x 0) refl) (low_digit _ ∙ low_of (x / 2) on)
digit_written x (suc j) on =
    let h : (with_digit (x / 2) j on * 2 + x % 2) / 2 ≡ with_digit (x / 2) j on = omega arith in
    rw (half_with x j on (digit (x / 2) j) refl) (half_digit _ j ∙ rw h (digit_written (x / 2) j on))

-- and every other
pub digit_kept : (x j k : ℕ) (on : Bool) → (k ≡ j → ⊥) → digit (with_digit x j on) k ≡ digit x k
digit_kept x zero zero on n = absurd (n refl)
digit_kept x zero (suc k) on n = rw (low_with x on (digit x 0) refl) (half_digit _ k ∙ rw (half_of (x / 2) on) (sym (half_digit x k)))
digit_kept x (suc j) zero on n =
    let e : (with_digit (x / 2) j on * 2 + x % 2) % 2 ≡ x % 2 = omega arith in
    rw (half_with x j on (digit (x / 2) j) refl) (low_digit _ ∙ rw e (sym (low_digit x)))
digit_kept x (suc j) (suc k) on n =
    let h : (with_digit (x / 2) j on * 2 + x % 2) / 2 ≡ with_digit (x / 2) j on = omega arith in
    rw (half_with x j on (digit (x / 2) j) refl)
    (half_digit _ k ∙ rw h (digit_kept (x / 2) j k on (λ e. n (ap suc e))) ∙ sym (half_digit x k))

-- ---- bits of a list of bytes: digit q of the byte p, after digit j of the byte `at` was written
module _ (d : List ℕ) (at j : ℕ) (on : Bool) (h : at < length d) where
  abbrev written : List ℕ
  written = stored (with_digit (get_or d at 0) j on ∷ []) d at

  same_byte : get_or written at 0 ≡ with_digit (get_or d at 0) j on
  same_byte = rw (← stored_one d at (with_digit (get_or d at 0) j on)) (get_or-set_same d at (with_digit (get_or d at 0) j on) 0 h)

  other_byte : (p : ℕ) → (p ≡ at → ⊥) → get_or written p 0 ≡ get_or d p 0
  other_byte p n = rw (← stored_one d at (with_digit (get_or d at 0) j on)) (get_or-set_other d at p (with_digit (get_or d at 0) j on) 0 n)

  kept : (p q : ℕ) → (p ≡ at → q ≡ j → ⊥) → digit (get_or written p 0) q ≡ digit (get_or d p 0) q
  kept p q n =
      dite (ℕ_discrete p at)
      (λ e. rw (e, same_byte) (digit_kept (get_or d at 0) j q on (n e)))
      (λ e. rw (other_byte p e))

-- the bit that was written is read back
pub lsb0_written : (d : List ℕ) (i : ℕ) (on : Bool) → i / 8 < length d
    → bit_lsb0 (stored (with_digit (get_or d (i / 8) 0) (lsb0 i) on ∷ []) d (i / 8)) i ≡ on
unfolding bit_lsb0
lsb0_written d i on h = rw (same_byte d (i / 8) (lsb0 i) on h) (digit_written (get_or d (i / 8) 0) (lsb0 i) on)

-- and every other bit is what it was
pub lsb0_kept : (d : List ℕ) (i k : ℕ) (on : Bool) → i / 8 < length d → (k ≡ i → ⊥)
    → bit_lsb0 (stored (with_digit (get_or d (i / 8) 0) (lsb0 i) on ∷ []) d (i / 8)) k ≡ bit_lsb0 d k
unfolding bit_lsb0
lsb0_kept d i k on h n = kept d (i / 8) (lsb0 i) on h (k / 8) (lsb0 k) (λ e f. n (omega arith))
