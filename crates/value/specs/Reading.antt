-- A stored value read: the shape first (4, 5), then its bytes cut out (9), then the ranges judged (10). Assumes nothing.
use Rattle.std.specs.Prelude.{ℕ, ◌+◌, ◌-◌, ◌≤◌, ◌<◌, ◌≡◌, cond, List, length, take, drop, leb, eqb}
use Rattle.wire.specs.Parts.{part, part_of}
use Rattle.wire.specs.declared.refusal.Refusal.{Refusal}
use Rattle.wire.specs.Outcome.{Outcome, ok, refused, refuse, after, why, out_of}
use Rattle.value.specs.declared.shape.Shape.{Shape}
use Rattle.value.specs.declared.datum.Value.{Value}
use Rattle.value.specs.declared.datum.Value.TheVariants.{Null, Int, Uint, Float, Double, Year, Bytes}
use Rattle.value.specs.Columns.{is_taken, refusal_of}
use Rattle.value.specs.Data.{Datum, null, int, uint, float, double, year, temporal, bytes}
use Rattle.value.specs.Shapes.{need, decode, fault}

-- a shape that there is, or its refusal
unfoldable pub taken : Shape → ℕ → Outcome Shape
unfolding is_taken refusal_of
taken sh place = cond (is_taken sh) (ok sh) (refuse (refusal_of sh) place)

-- the stored bytes at the head of s
unfoldable pub cut : Shape → ℕ → List ℕ → Outcome (List ℕ)
unfolding need
cut sh place s = cond (leb (need sh s) (length s)) (ok (take (need sh s) s)) (refuse 9 place)

-- what they say, if no part is out of range
unfoldable pub judged : Shape → ℕ → List ℕ → Outcome Datum
unfolding fault decode
judged sh place b = cond (eqb (fault sh b) 0) (ok (decode sh b)) (refused (out_of place (fault sh b)))

-- the value at the head of s, and how many bytes it takes; `place` is what a refusal tells
unfoldable pub read_datum : Shape → ℕ → List ℕ → Outcome (Datum × ℕ)
unfolding taken cut judged
read_datum sh place s = after (taken sh place) (λ sh. after (cut sh place s) (λ b. after (judged sh place b) (λ d. ok (d, length b))))

-- ---- the same at a place, with bytes as a start and a length
-- the value that ends at e: bytes are the last of a stored value
unfoldable pub placed : ℕ → Datum → Value
placed e null = Null
placed e (int z) = Int z
placed e (uint n) = Uint n
placed e (float n) = Float n
placed e (double n) = Double n
placed e (year n) = Year n
placed e (temporal t) = Value.Temporal t
placed e (bytes b) = Bytes (part (e - length b) (length b))

-- the value of s at a place, and the place after it
unfoldable pub read_value : Shape → ℕ → List ℕ → ℕ → Outcome (Value × ℕ)
unfolding read_datum placed
read_value sh place s at = after (read_datum sh place (drop at s)) (λ x. ok (placed (at + x.1) x.0, at + x.1))

-- what a value says, its bytes being in s
unfoldable pub datum_of : List ℕ → Value → Datum
datum_of s Null = null
datum_of s (Int z) = int z
datum_of s (Uint n) = uint n
datum_of s (Float n) = float n
datum_of s (Double n) = double n
datum_of s (Year n) = year n
datum_of s (Value.Temporal t) = temporal t
datum_of s (Bytes p) = bytes (part_of s p)

-- ---- why the bytes at the head of s are no value, and how it is told at a place p: they end early, or a part is out of range, the first
-- of which is named
pub data Fails (sh : Shape) (s : List ℕ) (p : ℕ) : Refusal → Type 0 where
  short : length s < need sh s → Fails sh s p (why 9 p)
  range : need sh s ≤ length s → (fault sh (take (need sh s) s) ≡ 0 → ⊥) → Fails sh s p (out_of p (fault sh (take (need sh s) s)))
