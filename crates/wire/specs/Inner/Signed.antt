-- The magnitude of a signed number. Assumes nothing.
use Rattle.std.specs.Prelude.{ℕ, ℤ, pos, negsuc}

-- the n of a number that is n or -1 - n
unfoldable pub magnitude_of : ℤ → ℕ
magnitude_of (pos n) = n
magnitude_of (negsuc n) = n
