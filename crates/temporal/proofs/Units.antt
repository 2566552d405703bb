-- The fraction of a second, once over its width w and its unit. Assumes nothing.
use Prim.Native.Nat.{ℕ, zero, suc, ◌+◌, ◌*◌, ◌/◌, ◌%◌, ◌^◌, ◌≤◌, ◌<◌}
use mathlib.Core.Path.{◌≡◌, sym, ap, ◌∙◌}
use mathlib.Core.Logic.{dite}
use native.Mathlib.Nat.{mul-div_cancel, mul-mod_left, div-add-mod', add-zero, mul-pos}
use native.Mathlib.Decide.{dec_le}
use native.Mathlib.Omega.{arith}
use borrow.Author.Tests.{le-leb, lt-leb, eq-eqb, ne_eqb}
use Rattle.temporal.specs.Fraction.{fraction_bytes, unit_of}

-- what holds of each width holds of all
pub widths : (P : ℕ → Type 0) → P 0 → P 1 → P 2 → P 3 → (w : ℕ) → w ≤ 3 → P w
widths P a b c d zero h = a
widths P a b c d (suc zero) h = b
widths P a b c d (suc (suc zero)) h = c
widths P a b c d (suc (suc (suc zero))) h = d
widths P a b c d (suc (suc (suc (suc w)))) h = absurd (omega arith)

-- a fraction takes at most three bytes
pub fraction_small : (m : ℕ) → fraction_bytes m ≤ 3
unfolding fraction_bytes
fraction_small m =
    dite (dec_le m 0)
    (λ h. rw (eq-eqb m 0 (omega arith)) (omega arith))
    (λ h. rw (ne_eqb m 0 (λ e. omega arith)) (dite (dec_le m 2)
    (λ h. rw (le-leb m 2 h) (omega arith))
    (λ h. rw (lt-leb m 2 (omega arith)) (dite (dec_le m 4)
    (λ h. rw (le-leb m 4 h) (omega arith))
    (λ h. rw (lt-leb m 4 (omega arith)) (omega arith))))))

-- no unit is nothing: units can be divided by
pub unit_positive : (w : ℕ) → w ≤ 3 → 0 < unit_of w
unfolding unit_of
unit_positive = widths (λ w. 0 < unit_of w) (omega arith) (omega arith) (omega arith) (omega arith)

-- what is read is whole units
pub unit_div : (w f : ℕ) → w ≤ 3 → f * unit_of w / unit_of w ≡ f
unit_div w f h = mul-div_cancel f (unit_positive w h)

-- and nothing is left over
pub unit_mod : (w f : ℕ) → f * unit_of w % unit_of w ≡ 0
unit_mod w f = mul-mod_left f (unit_of w)

-- some units are some microseconds
pub unit_some : (f w : ℕ) → 0 < f → w ≤ 3 → 0 < f * unit_of w
unit_some f w h l = mul-pos h (unit_positive w l)

-- whole units are kept
pub unit_whole : (w m : ℕ) → m % unit_of w ≡ 0 → m / unit_of w * unit_of w ≡ m
unit_whole w m e = sym (add-zero _) ∙ ap (λ (r : ℕ). m / unit_of w * unit_of w + r) (sym e) ∙ div-add-mod' m (unit_of w)

-- less than a second takes w bytes
pub unit_fits : (m w : ℕ) → m ≤ 999999 → w ≤ 3 → m / unit_of w < 256 ^ w
unfolding unit_of
unit_fits m w l = widths (λ w. m / unit_of w < 256 ^ w) (omega arith) (omega arith) (omega arith) (omega arith) w

-- less than a second in no bytes is none
pub unit_zero : (m : ℕ) → m ≤ 999999 → m % unit_of 0 ≡ 0 → m ≡ 0
unfolding unit_of
unit_zero m h e = omega arith

-- w bytes of units are a machine number
pub unit_room : (f w : ℕ) → w ≤ 3 → f ≤ 256 ^ w → f * unit_of w < 2 ^ 64
unfolding unit_of
unit_room f = widths (λ w. f ≤ 256 ^ w → f * unit_of w < 2 ^ 64) (λ h. omega arith) (λ h. omega arith) (λ h. omega arith) (λ h. omega arith)
