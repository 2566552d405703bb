-- Stored bytes read and written: the bytes are cut out first, then the ranges judged. Assumes nothing.
use Rattle.std.specs.Prelude.{ℕ, ◌+◌, cond, List, ◌++◌, length, take, drop, leb, eqb}
use Rattle.wire.specs.Outcome.{Outcome, ok, refused, refuse, out_of}
use Rattle.wire.specs.Number.{le_value, be_value, le_bytes, be_bytes}
use Rattle.wire.specs.Stored.{store}
use Rattle.temporal.specs.declared.storage.Storage.{Storage}
use Rattle.temporal.specs.declared.parts.Temporal.{Temporal}
use Rattle.temporal.specs.Storage.{whole_bytes, fraction_size, is_big, temporal_of, fault_of, whole_of, units_of}
use Rattle.temporal.specs.Domains.{temporal_domain}

-- how many bytes
unfoldable pub temporal_size : Storage → ℕ
unfolding whole_bytes fraction_size
temporal_size k = whole_bytes k + fraction_size k

-- the two numbers of a stored form b: its whole part and its fraction
unfoldable pub whole_in : Storage → List ℕ → ℕ
unfolding is_big whole_bytes le_value be_value
whole_in k b = cond (is_big k) (be_value (take (whole_bytes k) b)) (le_value b)

unfoldable pub units_in : Storage → List ℕ → ℕ
unfolding is_big whole_bytes be_value
units_in k b = cond (is_big k) (be_value (drop (whole_bytes k) b)) 0

-- what a stored form says, and which part of it is out of range
unfoldable pub temporal_decode : Storage → List ℕ → Temporal
unfolding temporal_of whole_in units_in
temporal_decode k b = temporal_of k (whole_in k b) (units_in k b)

unfoldable pub temporal_fault : Storage → List ℕ → ℕ
unfolding fault_of whole_in units_in
temporal_fault k b = fault_of k (whole_in k b) (units_in k b)

-- the stored form of a temporal
unfoldable pub temporal_bytes : Storage → Temporal → List ℕ
unfolding is_big whole_bytes fraction_size whole_of units_of le_bytes be_bytes
temporal_bytes k t =
    cond (is_big k) (be_bytes (whole_bytes k) (whole_of k t) ++ be_bytes (fraction_size k) (units_of k t))
    (le_bytes (whole_bytes k) (whole_of k t))

-- a temporal and the place after it, if no part is out of range; else refusal 10 names the first that is
abbrev pub if_in_range : ℕ → ℕ → Temporal → ℕ → Outcome (Temporal × ℕ)
if_in_range place part t next = cond (eqb part 0) (ok (t, next)) (refused (out_of place part))

-- the temporal at `at` of s and the place after it; `place` is what a refusal tells
unfoldable pub read_temporal : Storage → ℕ → List ℕ → ℕ → Outcome (Temporal × ℕ)
unfolding temporal_size temporal_decode temporal_fault
read_temporal k place s at =
    cond (leb (at + temporal_size k) (length s))
    (if_in_range place (temporal_fault k (take (temporal_size k) (drop at s))) (temporal_decode k (take (temporal_size k) (drop at s)))
    (at + temporal_size k))
    (refuse 9 place)

-- a writer takes what is in the domain, and then needs room
unfoldable pub write_temporal : Storage → ℕ → Temporal → List ℕ → ℕ → Outcome (ℕ × List ℕ)
unfolding temporal_domain temporal_bytes store
write_temporal k place t buf at = cond (temporal_domain k t) (store (temporal_bytes k t) buf at) (refuse 13 place)
