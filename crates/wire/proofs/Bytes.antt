-- The bytes of a number one by one, at every width k. Assumes nothing.
use Prim.Native.Nat.{ℕ, zero, suc, ◌+◌, ◌*◌, ◌/◌, ◌^◌, ◌≤◌, ◌<◌}
use mathlib.Core.Path.{◌≡◌, refl, ap, ◌∙◌}
use mathlib.Core.List.{List, [], ◌∷◌, ◌++◌, reverse-append}
use native.Mathlib.Nat.{lt_of_lt_of_le, pow-suc, pow-le-pow_right, mul-le-mul_right, zero-lt-suc}
use native.Mathlib.Omega.{arith}
use native.Mathlib.Numerals.{add-one}
use lib.ListN.{length, take, drop, get_or, length-reverse}
use lib.Seq.{drop-cons, take-suc}
use Rattle.wire.specs.Number.{le_value, be_value, le_bytes, be_bytes}

-- one more byte after n bytes
pub more : (n acc b : ℕ) → acc < 256 ^ n → b < 256 → acc * 256 + b < 256 ^ suc n
more n acc b h l =
    let p : suc acc * 256 ≤ 256 ^ n * 256 = mul-le-mul_right 256 h in
    rw pow-suc (omega arith)

-- a narrower number is below the bound of a wider one
pub wider : (j k x : ℕ) → j ≤ k → x < 256 ^ j → x < 256 ^ k
wider j k x h l = lt_of_lt_of_le l (pow-le-pow_right {n = 256} (zero-lt-suc 255) h)

-- ---- one byte more in front, the least significant first
pub le_step : (s : List ℕ) (p n : ℕ) → p < length s → le_value (take (suc n) (drop p s)) ≡ get_or s p 0 + 256 * le_value (take n (drop (suc p) s))
unfolding le_value
le_step s p n h = rw (drop-cons s p 0)

-- ---- one byte more behind, the most significant first
pub be_snoc : (l : List ℕ) (b : ℕ) → be_value (l ++ (b ∷ [])) ≡ be_value l * 256 + b
unfolding be_value le_value
be_snoc l b = ap le_value (reverse-append l (b ∷ [])) ∙ omega arith

pub be_step : (s : List ℕ) (i : ℕ) → i < length s → be_value (take (i + 1) s) ≡ be_value (take i s) * 256 + get_or s i 0
be_step s i h = rw (add-one, take-suc s i 0 h, be_snoc)

-- ---- the lengths
pub le_bytes_length : (k v : ℕ) → length (le_bytes k v) ≡ k
unfolding le_bytes
le_bytes_length zero v = refl
le_bytes_length (suc k) v = ap suc (le_bytes_length k (v / 256))

-- the most significant first
pub be_bytes_length : (k v : ℕ) → length (be_bytes k v) ≡ k
unfolding be_bytes
be_bytes_length k v = length-reverse (le_bytes k v) ∙ le_bytes_length k v
