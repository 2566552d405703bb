-- Two's complement at any width: among m numbers the lower half are themselves, and the upper half, x, are x - m. m is 256 ^ k for
-- k bytes. Assumes nothing.
use Rattle.std.specs.Prelude.{ℕ, ◌-◌, ◌/◌, Bool, cond, ltb, ℤ, pos, negsuc}

-- the signed number that is stored as x; negsuc n is -1 - n
unfoldable pub signed_of : ℕ → ℕ → ℤ
signed_of m x = cond (ltb x (m / 2)) (pos x) (negsuc (m - 1 - x))

-- what a signed number is stored as
unfoldable pub twos_of : ℕ → ℤ → ℕ
twos_of m (pos n) = n
twos_of m (negsuc n) = m - 1 - n

-- a number from -m/2 to m/2 - 1
unfoldable pub in_halves : ℕ → ℤ → Bool
in_halves m (pos n) = ltb n (m / 2)
in_halves m (negsuc n) = ltb n (m / 2)
