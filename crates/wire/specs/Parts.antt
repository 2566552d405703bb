-- Parts of the lent bytes. Assumes nothing.
use Rattle.std.specs.Prelude.{ℕ, ◌+◌, ◌≤◌, ◌≡◌, List, [], cond, length, take, drop, leb}
use Rattle.wire.specs.Outcome.{Outcome, ok, refuse}
use Rattle.wire.specs.declared.part.Part.{Part}

abbrev pub part : ℕ → ℕ → Part
part start len = record { start = start; len = len }

-- the bytes of a part
abbrev pub part_of : List ℕ → Part → List ℕ
part_of s p = take p.len (drop p.start s)

-- the same, and none where it runs past the bytes
abbrev pub lent_part : List ℕ → Part → List ℕ
lent_part s p = cond (leb (p.start + p.len) (length s)) (part_of s p) []

-- the n bytes at `at` of s stand at `to` of t as well
pub record Moved (n : ℕ) (s : List ℕ) (at : ℕ) (t : List ℕ) (to : ℕ) : Type 0 where
  pub whole : to + n ≤ length t
  pub same : take n (drop to t) ≡ take n (drop at s)

-- n bytes from `at` on: the place after them, or refusal 1 at `place` where they end early
unfoldable pub within : List ℕ → ℕ → ℕ → ℕ → Outcome ℕ
within s at n place = cond (leb (at + n) (length s)) (ok (at + n)) (refuse 1 place)
