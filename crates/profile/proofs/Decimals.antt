-- A number's digits: those that `io` tells, and how many there are. Assumes nothing.
use Prim.Native.Nat.{ℕ, zero, suc, ◌+◌, ◌-◌, ◌/◌, ◌%◌, ◌^◌, ◌≤◌, ◌<◌}
use mathlib.Core.Path.{◌≡◌, sym, ap, subst, ◌∙◌}
use mathlib.Core.Logic.{dite}
use mathlib.Core.List.{List, [], ◌∷◌, ◌++◌}
use native.Mathlib.Nat.{pow-suc, one-le-pow, div-lt_iff_lt-mul, le-div_iff_mul-le}
use native.Mathlib.Decide.{dec_lt}
use native.Mathlib.Omega.{arith}
use borrow.Author.Tests.{lt-ltb, le-ltb}
use lib.ListN.{length, take, length-append}
use Rattle.io.specs.Digits.{last_digits, IsDigitCount}
use Rattle.profile.specs.Text.{decimal_in, decimal}

-- the last digit and those before it
last : (k n : ℕ) → last_digits 10 (suc k) n ≡ last_digits 10 k (n / 10) ++ ((48 + n % 10) ∷ [])
last k n = rw (lt-ltb (n % 10) 10 (omega arith))

-- one digit, and more than one
one_digit : (k n : ℕ) → n < 10 → decimal_in (suc k) n ≡ (48 + n % 10) ∷ []
unfolding decimal_in
one_digit k n h = rw (lt-ltb n 10 h)

more_digits : (k n : ℕ) → 10 ≤ n → decimal_in (suc k) n ≡ decimal_in k (n / 10) ++ ((48 + n % 10) ∷ [])
unfolding decimal_in
more_digits k n h = rw (le-ltb n 10 h)

-- the bounds of powers of ten
below : (k n : ℕ) → n < 10 ^ suc k → n / 10 < 10 ^ k
below k n h = (div-lt_iff_lt-mul {k = 10} {x = n} {y = 10 ^ k} (omega arith)).1 (rw pow-suc at h)

above : (k n : ℕ) → 10 ^ suc k ≤ n → 10 ^ k ≤ n / 10
above k n h = (le-div_iff_mul-le {k = 10} {x = 10 ^ k} {y = n} (omega arith)).1 (rw pow-suc at h)

-- a number of two digits or more is not below ten, and without its last digit it has one fewer
least : (k n : ℕ) → IsDigitCount 10 1 n (suc (suc k)) → 10 ^ suc k ≤ n
least k n f =
    let e : suc (suc k) - 1 ≡ suc k = omega arith in
    subst (λ (j : ℕ). 10 ^ j ≤ n) e (f.2 (omega arith))

ten : (k n : ℕ) → IsDigitCount 10 1 n (suc (suc k)) → 10 ≤ n
ten k n f = omega (arith, least k n f, one-le-pow k 10 (omega arith), pow-suc 10 k)

fewer : (k n : ℕ) → IsDigitCount 10 1 n (suc (suc k)) → IsDigitCount 10 1 (n / 10) (suc k)
fewer zero n f = (omega arith, below 1 n f.1, λ l. absurd (omega arith))
fewer (suc k) n f =
    let e : suc k ≡ suc (suc k) - 1 = omega arith in
    (omega arith, below (suc (suc k)) n f.1, λ l. subst (λ (j : ℕ). 10 ^ j ≤ n / 10) e (above (suc k) n (least (suc k) n f)))

-- the digits of a number of up to m + 1 of them
pub spelt : (m k n : ℕ) → n < 10 ^ suc m → IsDigitCount 10 1 n k → last_digits 10 k n ≡ decimal_in (suc m) n
spelt m zero n h f = absurd (omega (arith, f.0))
spelt m (suc zero) n h f = last 0 n ∙ sym (one_digit m n (omega (arith, f.1)))
spelt zero (suc (suc k)) n h f = absurd (omega (arith, h, ten k n f))
spelt (suc m) (suc (suc k)) n h f =
    last (suc k) n
    ∙ ap (λ (l : List ℕ). l ++ ((48 + n % 10) ∷ [])) (spelt m (suc k) (n / 10) (below (suc m) n h) (fewer k n f))
    ∙ sym (more_digits (suc m) n (ten k n f))

-- and no more than its bound has
few : (m k n : ℕ) → n < 10 → length (decimal_in (suc m) n) ≤ suc k
few m k n h = rw (one_digit m n h) (omega arith)

pub short : (m k n : ℕ) → n < 10 ^ suc k → length (decimal_in (suc m) n) ≤ suc k
unfolding decimal_in
short zero k n h = dite (dec_lt n 10) (few 0 k n) (λ g. rw (more_digits 0 n (omega arith)) (omega arith))
short (suc m) zero n h = few (suc m) 0 n (omega arith)
short (suc m) (suc k) n h =
    dite (dec_lt n 10) (few (suc m) (suc k) n)
    (λ g. rw (more_digits (suc m) n (omega arith), length-append) (omega (arith, short m k (n / 10) (below (suc k) n h))))

-- so what `io` puts into an array are the digits of a number of a machine
pub told : (n k : ℕ) (d : List ℕ) → n < 2 ^ 64 → IsDigitCount 10 1 n k × (take k d ≡ last_digits 10 k n) → take k d ≡ decimal n
told n k d h p = p.1 ∙ spelt 19 k n (omega arith) p.0
