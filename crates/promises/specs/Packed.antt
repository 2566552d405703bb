-- Packed integers, at any value: what is written is read back, wherever it stands and whatever stands behind it; and no bytes that are read
-- as a value are fewer than those that are written for it. `packed` in proofs/Demand2/Packed.antt proves it. Assumes nothing.
use Rattle.std.specs.Prelude.{ℕ, ◌+◌, ◌≤◌, ◌<◌, ◌^◌, ◌≡◌, List, ◌++◌, length}
use Rattle.wire.specs.Outcome.{ok}
use Rattle.wire.specs.Number.{Bytes}
use Rattle.wire.specs.Packed.{read_packed, packed_bytes}

pub record Packed : Type 0 where
  pub read_back : (pre rest : List ℕ) (v : ℕ) → v < 2 ^ 64
      → read_packed (pre ++ (packed_bytes v ++ rest)) (length pre) ≡ ok (v, length pre + length (packed_bytes v))
  -- "Longer forms than needed are read; the shortest is written"
  pub shortest : (s : List ℕ) (at v next : ℕ) → Bytes s → read_packed s at ≡ ok (v, next) → at + length (packed_bytes v) ≤ next
  -- a value that is read is one that a machine holds, and its bytes are there
  pub read_fits : (s : List ℕ) (at v next : ℕ) → Bytes s → read_packed s at ≡ ok (v, next) → v < 2 ^ 64
  pub read_moves : (s : List ℕ) (at v next : ℕ) → read_packed s at ≡ ok (v, next) → (at < next) × (next ≤ length s)
