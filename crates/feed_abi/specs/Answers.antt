-- What every call leaves: a status, and numbers at the start of the buffer that was lent for them. Assumes nothing.
use Rattle.std.specs.Prelude.{ℕ, cond, List, [], ◌∷◌, length, leb}
use Rattle.wire.specs.Outcome.{Outcome, ok, refused}
use Rattle.wire.specs.Stored.{stored, left_of}

-- 0 for an answer, else the number of the refusal
abbrev pub answer_number : Outcome (List ℕ) → ℕ
answer_number (ok ns) = 0
answer_number (refused r) = r.number

-- the numbers that are told: those of the answer, or the place and the part of the refusal
abbrev pub answer_numbers : Outcome (List ℕ) → List ℕ
answer_numbers (ok ns) = ns
answer_numbers (refused r) = r.place ∷ r.part ∷ []

-- ---- out is the buffer of numbers, and k how many the call's answer has: without room for them the status is 8 and nothing is changed
unfoldable pub status_of : ℕ → Outcome (List ℕ) → List ℕ → ℕ
status_of k o out = cond (leb k (length out)) (answer_number o) 8

-- the numbers told stand at its start, and all behind them is as it was
unfoldable pub numbers_left : ℕ → Outcome (List ℕ) → List ℕ → List ℕ
numbers_left k o out = cond (leb k (length out)) (stored (answer_numbers o) out 0) out

-- what a writer leaves of the bytes lent to it, or of the numbers of values, which a refusal leaves as they were
unfoldable pub bytes_left : ℕ → Outcome (List ℕ × List ℕ) → List ℕ → List ℕ → List ℕ
bytes_left k o out buf = cond (leb k (length out)) (left_of o buf) buf
