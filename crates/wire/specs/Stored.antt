-- What any writer of bytes answers, and what it leaves of the buffer: all of the bytes, or nothing. Assumes nothing.
use Rattle.std.specs.Prelude.{ℕ, ◌+◌, List, ◌++◌, cond, length, take, drop, leb}
use Rattle.wire.specs.Outcome.{Outcome, ok, refused, refuse}

-- the buffer with bs in it from `at` on
unfoldable pub stored : List ℕ → List ℕ → ℕ → List ℕ
stored bs buf at = take at buf ++ (bs ++ drop (at + length bs) buf)

-- bs written from `at` on: the place after them and the buffer, or refusal 8 at 0
unfoldable pub store : List ℕ → List ℕ → ℕ → Outcome (ℕ × List ℕ)
unfolding stored
store bs buf at = cond (leb (at + length bs) (length buf)) (ok (at + length bs, stored bs buf at)) (refuse 8 0)

-- the two parts of what a writer does: its answer, and the buffer, which a refusal leaves as it was
abbrev pub answer_of : {A : Type 0} → Outcome (A × List ℕ) → Outcome A
answer_of (ok x) = ok x.0
answer_of (refused w) = refused w

abbrev pub left_of : {A : Type 0} → Outcome (A × List ℕ) → List ℕ → List ℕ
left_of (ok x) buf = x.1
left_of (refused w) buf = buf
