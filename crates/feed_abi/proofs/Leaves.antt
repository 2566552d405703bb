-- What a call leaves that has room for its numbers, or not: for the calls, which all look first whether it has. Assumes nothing.
use Prim.Native.Nat.{ℕ, ◌≤◌, ◌<◌}
use mathlib.Core.Path.{◌≡◌}
use mathlib.Core.List.{List}
use borrow.Author.Tests.{le-leb, lt-leb}
use lib.ListN.{length}
use Rattle.wire.specs.Outcome.{Outcome}
use Rattle.wire.specs.Stored.{left_of}
use Rattle.feed_abi.specs.Answers.{status_of, numbers_left, bytes_left}

-- without room for them
pub status_short : (k : ℕ) (o : Outcome (List ℕ)) (out : List ℕ) → length out < k → status_of k o out ≡ 8
unfolding status_of
status_short k o out h = rw (lt-leb k (length out) h)

pub numbers_short : (k : ℕ) (o : Outcome (List ℕ)) (out : List ℕ) → length out < k → numbers_left k o out ≡ out
unfolding numbers_left
numbers_short k o out h = rw (lt-leb k (length out) h)

pub bytes_short : (k : ℕ) (o : Outcome (List ℕ × List ℕ)) (out buf : List ℕ) → length out < k → bytes_left k o out buf ≡ buf
unfolding bytes_left
bytes_short k o out buf h = rw (lt-leb k (length out) h)

-- with room
pub bytes_there : (k : ℕ) (o : Outcome (List ℕ × List ℕ)) (out buf : List ℕ) → k ≤ length out → bytes_left k o out buf ≡ left_of o buf
unfolding bytes_left
bytes_there k o out buf h = rw (le-leb k (length out) h)

pub ruleset leaves = (status_short, numbers_short, bytes_short, bytes_there)
