-- A value stored: the shape first (4, 5), then the domain (13), then room (8). Its bytes are in the list s lent beside it. Assumes nothing.
use Rattle.std.specs.Prelude.{ℕ, ◌+◌, Bool, cond, ◌&&◌, List, length, leb}
use Rattle.wire.specs.Outcome.{Outcome, ok, refuse, after}
use Rattle.wire.specs.declared.part.Part.{Part}
use Rattle.wire.specs.Parts.{part}
use Rattle.wire.specs.Stored.{store}
use Rattle.value.specs.declared.shape.Shape.{Shape}
use Rattle.value.specs.declared.datum.Value.{Value}
use Rattle.value.specs.declared.datum.Value.TheVariants.{Null, Int, Uint, Float, Double, Year, Bytes}
use Rattle.value.specs.Domains.{domain}
use Rattle.value.specs.Shapes.{bytes_of}
use Rattle.value.specs.Reading.{taken, datum_of}

-- where a value's bytes stand; a value that is no bytes has none
unfoldable pub bytes_at : Value → Part
bytes_at Null = part 0 0
bytes_at (Int z) = part 0 0
bytes_at (Uint n) = part 0 0
bytes_at (Float n) = part 0 0
bytes_at (Double n) = part 0 0
bytes_at (Year n) = part 0 0
bytes_at (Value.Temporal t) = part 0 0
bytes_at (Bytes p) = p

-- whether they are all there
unfoldable pub is_lent : List ℕ → Value → Bool
unfolding bytes_at
is_lent s v = leb ((bytes_at v).start + (bytes_at v).len) (length s)

-- whether a column of the shape takes the value
unfoldable pub is_in : Shape → List ℕ → Value → Bool
unfolding is_lent domain datum_of
is_in sh s v = is_lent s v && domain sh (datum_of s v)

-- the stored bytes of a value that a column of the shape takes
unfoldable pub stored_bytes : Shape → ℕ → List ℕ → Value → Outcome (List ℕ)
unfolding taken is_in bytes_of datum_of
stored_bytes sh place s v = after (taken sh place) (λ sh. cond (is_in sh s v) (ok (bytes_of sh (datum_of s v))) (refuse 13 place))

-- how many they are
unfoldable pub size_of : Shape → ℕ → List ℕ → Value → Outcome ℕ
unfolding stored_bytes
size_of sh place s v = after (stored_bytes sh place s v) (λ b. ok (length b))

-- stored in a buffer from `at` on: the place after them, and the buffer
unfoldable pub write_value : Shape → ℕ → List ℕ → Value → List ℕ → ℕ → Outcome (ℕ × List ℕ)
unfolding stored_bytes store
write_value sh place s v buf at = after (stored_bytes sh place s v) (λ b. store b buf at)
