-- What number a list of bytes is, and what bytes a number is, at any width. Assumes nothing.
use Rattle.std.specs.Prelude.{ℕ, zero, suc, ◌+◌, ◌*◌, ◌/◌, ◌%◌, ◌<◌, Bool, true, false, ◌&&◌, ◌||◌, List, [], ◌∷◌, reverse, get_or, ltb, eqb}

-- every element is a byte
abbrev pub Bytes : List ℕ → Type 0
Bytes l = (i : ℕ) → get_or l i 0 < 256

-- the same as a test
unfoldable pub are_bytes : List ℕ → Bool
are_bytes [] = true
are_bytes (b ∷ l) = ltb b 256 && are_bytes l

-- whether a number stands in a list
unfoldable pub is_among : ℕ → List ℕ → Bool
is_among n [] = false
is_among n (m ∷ ms) = eqb n m || is_among n ms

-- the number of bytes, the least significant first
unfoldable pub le_value : List ℕ → ℕ
le_value [] = 0
le_value (b ∷ l) = b + 256 * le_value l

-- the k low bytes of v, the least significant first
unfoldable pub le_bytes : ℕ → ℕ → List ℕ
le_bytes zero v = []
le_bytes (suc k) v = v % 256 ∷ le_bytes k (v / 256)

-- the same, the most significant first
unfoldable pub be_value : List ℕ → ℕ
unfolding le_value
be_value l = le_value (reverse l)

unfoldable pub be_bytes : ℕ → ℕ → List ℕ
unfolding le_bytes
be_bytes k v = reverse (le_bytes k v)
