-- Packed integers (document 01, port order 1): a first byte 0..250 is the value; 252, 253, 254 precede 2, 3, 8 little-endian bytes; 251 and
-- 255 are refused. Longer forms than needed are read; the shortest is written. Beside them the integers of a width, which are read alike.
-- Assumes nothing.
use Rattle.std.specs.Prelude.{ℕ, ◌+◌, List, [], ◌∷◌, cond, length, get_or, take, drop, ltb, leb, eqb}
use Rattle.wire.specs.Outcome.{Outcome, ok, refuse, after}
use Rattle.wire.specs.Number.{le_value, le_bytes}
use Rattle.wire.specs.Parts.{within}

-- the number of the k bytes at `at` of s, the least significant first, and the place after them
unfoldable pub read_fixed : ℕ → List ℕ → ℕ → Outcome (ℕ × ℕ)
unfolding within le_value
read_fixed k s at = after (within s at k at) (λ next. ok (le_value (take k (drop at s)), next))

-- the k bytes after the first, which is at `at`, are the value: the value, and the place after it
unfoldable pub long_form : List ℕ → ℕ → ℕ → Outcome (ℕ × ℕ)
unfolding le_value
long_form s at k = cond (leb (at + 1 + k) (length s)) (ok (le_value (take k (drop (at + 1) s)), at + 1 + k)) (refuse 1 at)

-- what the first byte b, at `at`, says
unfoldable pub packed_form : List ℕ → ℕ → ℕ → Outcome (ℕ × ℕ)
unfolding long_form
packed_form s at b =
    cond (leb b 250) (ok (b, at + 1))
    (cond (eqb b 252) (long_form s at 2)
    (cond (eqb b 253) (long_form s at 3)
    (cond (eqb b 254) (long_form s at 8)
    (refuse 2 at))))

-- the packed integer at `at` of s and the place after it
unfoldable pub read_packed : List ℕ → ℕ → Outcome (ℕ × ℕ)
unfolding packed_form
read_packed s at = cond (leb (length s) at) (refuse 1 at) (packed_form s at (get_or s at 0))

-- the shortest form of v
unfoldable pub packed_bytes : ℕ → List ℕ
unfolding le_bytes
packed_bytes v =
    cond (leb v 250) (v ∷ [])
    (cond (ltb v 65536) (252 ∷ le_bytes 2 v)
    (cond (ltb v 16777216) (253 ∷ le_bytes 3 v)
    (254 ∷ le_bytes 8 v)))
