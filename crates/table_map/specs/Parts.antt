-- Parts of the lent bytes behind their lengths. Assumes nothing.
use Rattle.std.specs.Prelude.{ℕ, List, get_or}
use Rattle.wire.specs.Outcome.{Outcome, ok, after}
use Rattle.wire.specs.Packed.{read_packed}
use Rattle.wire.specs.declared.part.Part.{Part}
use Rattle.wire.specs.Parts.{part, within}

-- a part behind its length in a byte, and the place after it; cut short, it is placed at the length
unfoldable pub short_part : List ℕ → ℕ → Outcome (Part × ℕ)
unfolding within
short_part s at = after (within s at 1 at) (λ a. after (within s a (get_or s at 0) at) (λ b. ok (part a (get_or s at 0), b)))

-- the same behind a packed length
unfoldable pub long_part : List ℕ → ℕ → Outcome (Part × ℕ)
unfolding within read_packed
long_part s at = after (read_packed s at) (λ n. after (within s n.1 n.0 at) (λ b. ok (part n.1 n.0, b)))
