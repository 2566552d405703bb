-- Two's complement, both ways, among any even number m of numbers; and signed machine numbers, a negative one of which is made as -1 - n,
-- with n below 2^63, and taken apart the same way. Assumes nothing.
use Prim.Native.Nat.{ℕ, zero, suc, ◌+◌, ◌-◌, ◌*◌, ◌/◌, ◌^◌, ◌≤◌, ◌<◌}
use mathlib.Core.Path.{◌≡◌, refl, sym, ap, subst, ◌∙◌}
use mathlib.Core.Bool.{true, false, true≢false}
use mathlib.Core.List.{List, [], ◌∷◌}
use mathlib.Core.Logic.{dite}
use native.Mathlib.Nat.{zero-add, not-suc-le-zero, lt_trans, pow-suc}
use native.Mathlib.Decide.{dec_lt}
use native.Mathlib.Omega.{arith}
use borrow.Author.Tests.{lt-ltb, le-ltb, ltb-true}
use lib.Signed.{lt_z, non_neg}
use lib.Dec.{T, ltb, eqb, eqb→eq, lit<}
use lib.IntN.{ℤ, pos, negsuc, ◌-ℤ◌, nat_abs}
use lib.ListN.{get_or}
use mir.Syntax.{w64}
use mir.Val.{SFits, Fits, to_z, of_z}
use mir.ValLaws.{to_z-of_z}
use Rattle.wire.specs.Signed.{signed_of, twos_of, in_halves}
use Rattle.wire.specs.Inner.Signed.{magnitude_of}
use Rattle.wire.proofs.Each.{below}

-- the number that a signed number is stored as, read
pub signs_back : (m : ℕ) (z : ℤ) → in_halves m z ≡ true → (twos_of m z < m) × (signed_of m (twos_of m z) ≡ z)
unfolding in_halves twos_of signed_of
signs_back m (pos n) h =
    let a : n < m / 2 = ltb-true n (m / 2) h in
    (omega arith, simp h)
signs_back m (negsuc n) h =
    let a : n < m / 2 = ltb-true n (m / 2) h in
    let b : m / 2 ≤ m - 1 - n = omega arith in
    let e : m - 1 - (m - 1 - n) ≡ n = omega arith in
    (omega arith, rw (le-ltb (m - 1 - n) (m / 2) b, e))

-- what is read is in range, and is stored as it was
pub signs_sound : (m x : ℕ) → m / 2 + m / 2 ≡ m → x < m → (in_halves m (signed_of m x) ≡ true) × (twos_of m (signed_of m x) ≡ x)
unfolding in_halves twos_of signed_of
signs_sound m x e h =
    dite (dec_lt x (m / 2))
    (λ a. simp (lt-ltb x (m / 2) a) (refl, refl))
    (λ a.
    let b : m / 2 ≤ x = omega arith in
    let l : m - 1 - x < m / 2 = omega arith in
    let f : m - 1 - (m - 1 - x) ≡ x = omega arith in
    simp (le-ltb x (m / 2) b) (lt-ltb (m - 1 - x) (m / 2) l, f))

-- the numbers of k bytes are even in number
pub bytes_even : (k : ℕ) → 0 < k → 256 ^ k / 2 + 256 ^ k / 2 ≡ 256 ^ k
bytes_even zero h = absurd (omega arith)
bytes_even (suc k) h =
    let e : 256 ^ suc k ≡ 256 ^ k * 256 = pow-suc 256 k in
    omega arith

-- ---- the table of the greatest numbers
abbrev pub tops : List ℕ
tops =
    0 ∷ 255 ∷ 65535 ∷ 16777215 ∷ 4294967295 ∷ 1099511627775 ∷ 281474976710655 ∷ 72057594037927935 ∷
    18446744073709551615 ∷ []

pub top_is : (k : ℕ) → k < 9 → get_or tops k 0 + 1 ≡ 256 ^ k
top_is k h = eqb→eq (get_or tops k 0 + 1) (256 ^ k) (below (λ (i : ℕ). eqb (get_or tops i 0 + 1) (256 ^ i)) 9 tt k h)

-- ---- `-1 - (n as i64)`
down : (n : ℕ) → negsuc 0 -ℤ pos n ≡ negsuc n
down zero = refl
down (suc n) = ap (λ (k : ℕ). negsuc (suc k)) (zero-add n)

pub neg_fits : (n : ℕ) → n < 2 ^ 63 → SFits w64 (negsuc 0 -ℤ to_z w64 n)
neg_fits n h = simp (lt-ltb n (2 ^ 63) h, down) (record { sfits = h })

pub neg_is : (n : ℕ) → n < 2 ^ 63 → to_z w64 (of_z w64 (negsuc 0 -ℤ to_z w64 n)) ≡ negsuc n
neg_is n h = to_z-of_z w64 _ (neg_fits n h) ∙ simp (lt-ltb n (2 ^ 63) h, down)

-- ---- `-1 - z` of a negative z, as the machine makes it
up : (n : ℕ) → negsuc 0 -ℤ negsuc n ≡ pos n
up n =
    let e : suc n - 1 ≡ n = omega arith in
    simp (le-ltb (suc n) 1 (omega arith)) (ap pos e)

flip : (z : ℤ) → SFits w64 z → lt_z z (pos 0) ≡ true
    → (n : ℕ) × (z ≡ negsuc n) × (negsuc 0 -ℤ z ≡ pos n) × (n < 2 ^ 63) × SFits w64 (negsuc 0 -ℤ z)
flip (pos n) f t = absurd (not-suc-le-zero (ltb-true n 0 t))
flip (negsuc n) f t = (n, refl, up n, f.sfits, rw up (record { sfits = f.sfits }))

pub turned : (z : ℤ) → SFits w64 z → lt_z (to_z w64 (of_z w64 z)) (pos 0) ≡ true
    → (n : ℕ) × (z ≡ negsuc n) × (to_z w64 (of_z w64 (negsuc 0 -ℤ to_z w64 (of_z w64 z))) ≡ pos n) × (n < 2 ^ 63)
    × SFits w64 (negsuc 0 -ℤ to_z w64 (of_z w64 z))
turned z f t =
    let b = to_z-of_z w64 z f in
    let w = flip z f (subst (λ (y : ℤ). lt_z y (pos 0) ≡ true) b t) in
    let g : SFits w64 (negsuc 0 -ℤ to_z w64 (of_z w64 z)) = subst (λ (y : ℤ). SFits w64 (negsuc 0 -ℤ y)) (sym b) w.4 in
    (w.0, w.1, to_z-of_z w64 _ g ∙ ap (λ (y : ℤ). negsuc 0 -ℤ y) b ∙ w.2, w.3, g)

-- ---- `z as u64` of one that is not negative
keeps : (z : ℤ) → SFits w64 z → lt_z z (pos 0) ≡ false → T (non_neg z) × Fits w64 (nat_abs z) × (z ≡ pos (nat_abs z))
keeps (pos n) f t = (tt, record { fits = lt_trans f.sfits (lit< tt) }, refl)
keeps (negsuc n) f t = absurd (true≢false t)

pub same : (z : ℤ) → SFits w64 z → lt_z (to_z w64 (of_z w64 z)) (pos 0) ≡ false
    → (T (non_neg (to_z w64 (of_z w64 z))) × Fits w64 (nat_abs (to_z w64 (of_z w64 z)))) × (z ≡ pos (nat_abs (to_z w64 (of_z w64 z))))
same z f t =
    let b = to_z-of_z w64 z f in
    let k = keeps z f (subst (λ (y : ℤ). lt_z y (pos 0) ≡ false) b t) in
    (subst (λ (y : ℤ). T (non_neg y) × Fits w64 (nat_abs y)) (sym b) (k.0, k.1), k.2 ∙ ap (λ (y : ℤ). pos (nat_abs y)) (sym b))

-- ---- by the magnitude alone
pub halves_is : (m : ℕ) (z : ℤ) → in_halves m z ≡ ltb (magnitude_of z) (m / 2)
unfolding in_halves magnitude_of
halves_is m (pos n) = refl
halves_is m (negsuc n) = refl

pub magnitude_neg : (z : ℤ) (n : ℕ) → z ≡ negsuc n → magnitude_of z ≡ n
unfolding magnitude_of
magnitude_neg z n e = ap magnitude_of e

pub magnitude_pos : (z : ℤ) (n : ℕ) → z ≡ pos n → magnitude_of z ≡ n
unfolding magnitude_of
magnitude_pos z n e = ap magnitude_of e

pub twos_neg : (m : ℕ) (z : ℤ) (n : ℕ) → z ≡ negsuc n → twos_of m z ≡ m - 1 - n
unfolding twos_of
twos_neg m z n e = ap (twos_of m) e

pub twos_pos : (m : ℕ) (z : ℤ) (n : ℕ) → z ≡ pos n → twos_of m z ≡ n
unfolding twos_of
twos_pos m z n e = ap (twos_of m) e
