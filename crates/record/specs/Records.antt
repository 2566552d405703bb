-- The record: "Length of the whole record (2 bytes), kind 1 (2), both little-endian, n (1), zero (1), then 6 bytes a column"; "a record
-- with nothing after it is valid if it obeys this". Kind 2, of more columns than a byte counts: "length (2), kind 2 (2), count (2),
-- entries as before". Both are one layout, as kind 1's count and zero are a number of two bytes: length, kind, count, entries. The count
-- tells the kind, so each map has one record. Assumes nothing.
use Rattle.std.specs.Prelude.{ℕ, zero, suc, ◌+◌, ◌-◌, ◌*◌, ◌^◌, Bool, true, cond, ◌&&◌, List, [], ◌∷◌, ◌++◌, length, take, drop, leb, ltb, eqb}
use Rattle.wire.specs.Outcome.{Outcome, ok, refuse}
use Rattle.wire.specs.Number.{le_value, le_bytes}
use Rattle.record.specs.declared.entry.Entry.{Entry}
use Rattle.record.specs.Entries.{entry_holds, entry_of, entry_bytes}

-- how many columns it may have: as many as a table of MySQL
abbrev pub most_columns : ℕ
most_columns = 4096

-- the kind of a record of n columns: 1 up to what a byte counts
unfoldable pub kind_for : ℕ → ℕ
kind_for n = cond (leb n 255) 1 2

-- how many it says it has, and where the entry of column j stands
unfoldable pub count_of : List ℕ → ℕ
unfolding le_value
count_of profile = le_value (take 2 (drop 4 profile))

abbrev pub entry_at : ℕ → ℕ
entry_at j = 6 + 6 * j

-- the same place as a machine has it: the greatest of its numbers, where no slice has a byte, for one that is no number of it
unfoldable pub entry_place : ℕ → ℕ
entry_place j = cond (ltb (entry_at j) (2 ^ 64)) (entry_at j) (2 ^ 64 - 1)

-- what it says of column j
unfoldable pub entry_in : List ℕ → ℕ → Entry
unfolding entry_of
entry_in profile j = entry_of (drop (entry_at j) profile)

-- what it says of the m columns from j on
unfoldable pub entries_in : ℕ → List ℕ → ℕ → List Entry
unfolding entry_in
entries_in zero profile j = []
entries_in (suc m) profile j = entry_in profile j ∷ entries_in m profile (suc j)

-- whether each of them may be there
unfoldable pub entries_hold : ℕ → List ℕ → ℕ → Bool
unfolding entry_holds entry_in
entries_hold zero profile j = true
entries_hold (suc m) profile j = entry_holds (entry_in profile j) && entries_hold m profile (suc j)

unfoldable pub head_holds : List ℕ → Bool
unfolding le_value kind_for count_of
head_holds profile =
    leb 6 (length profile)
    && (eqb (le_value (take 2 profile)) (length profile)
    && (eqb (le_value (take 2 (drop 2 profile))) (kind_for (count_of profile))
    && (leb (count_of profile) most_columns && eqb (length profile) (entry_at (count_of profile)))))

unfoldable pub record_valid : List ℕ → Bool
unfolding count_of head_holds entries_hold
record_valid profile = head_holds profile && entries_hold (count_of profile) profile 0

-- the call: how many columns, or refusal 11
unfoldable pub read_record : List ℕ → Outcome ℕ
unfolding count_of record_valid
read_record profile = cond (record_valid profile) (ok (count_of profile)) (refuse 11 0)

-- the six bytes before the entries of n columns
unfoldable pub head_bytes : ℕ → List ℕ
unfolding le_bytes kind_for
head_bytes n = le_bytes 2 (entry_at n) ++ (le_bytes 2 (kind_for n) ++ le_bytes 2 n)

-- the record of columns: the head, and their entries one behind the other
unfoldable pub entries_bytes : List Entry → List ℕ
unfolding entry_bytes
entries_bytes [] = []
entries_bytes (e ∷ es) = entry_bytes e ++ entries_bytes es

unfoldable pub record_bytes : List Entry → List ℕ
unfolding head_bytes entries_bytes
record_bytes es = head_bytes (length es) ++ entries_bytes es
