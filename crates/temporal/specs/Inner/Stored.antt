-- The two numbers of a stored form, the most significant byte first, as the code cuts them out. Assumes nothing.
use Rattle.std.specs.Prelude.{ℕ, ◌≡◌, ◌+◌, ◌^◌, ◌≤◌, ◌<◌, List, length, take, drop}
use Rattle.wire.specs.Number.{be_value}
use Rattle.temporal.specs.declared.stored.Stored.{Stored}

-- those of k bytes at `at` of s and of w bytes behind them, and the place after both
pub record StoredAt (k w : ℕ) (s : List ℕ) (at : ℕ) (n : Stored) (next : ℕ) : Type 0 where
  pub there : at + (k + w) ≤ length s
  pub behind : next ≡ at + (k + w)
  pub whole : n.whole ≡ be_value (take k (drop at s))
  pub fits : n.whole < 256 ^ k
  pub units : n.units ≡ be_value (take w (drop (at + k) s))
  pub width : n.width.bytes ≡ w
