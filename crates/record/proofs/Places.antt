-- Where an entry stands, as a machine has it: at its place, if there is such a place in any slice. Assumes nothing.
use Prim.Native.Nat.{ℕ, ◌-◌, ◌≤◌, ◌<◌, ◌^◌}
use mathlib.Core.Path.{◌≡◌, sym, ap, ◌∙◌}
use mathlib.Core.Logic.{dite}
use mathlib.Core.List.{List}
use native.Mathlib.Decide.{dec_le}
use native.Mathlib.Omega.{arith}
use borrow.Author.Tests.{lt-ltb, le-ltb}
use lib.ListN.{length, drop, drop_of_length-le}
use Rattle.record.specs.Records.{most_columns, entry_at, entry_place}

pub place_is : (j : ℕ) → entry_at j < 2 ^ 64 → entry_place j ≡ entry_at j
unfolding entry_place
place_is j h = rw (lt-ltb (entry_at j) (2 ^ 64) h)

pub place_far : (j : ℕ) → 2 ^ 64 ≤ entry_at j → entry_place j ≡ 2 ^ 64 - 1
unfolding entry_place
place_far j h = rw (le-ltb (entry_at j) (2 ^ 64) h)

-- of every column that a record may have
pub place_few : (j : ℕ) → j ≤ most_columns → entry_place j ≡ entry_at j
place_few j h = place_is j (omega arith)

-- n being the length of a slice: within it the place is the entry's
pub place_within : (j n : ℕ) → n < 2 ^ 64 → entry_place j < n → entry_place j ≡ entry_at j
place_within j n l h = dite (dec_le (2 ^ 64) (entry_at j)) (λ g. absurd (omega (arith, place_far j g))) (λ g. place_is j (omega arith))

-- and behind it there is no byte of the entry
pub place_past : (j n : ℕ) → n < 2 ^ 64 → n ≤ entry_place j → n ≤ entry_at j
place_past j n l h = dite (dec_le (2 ^ 64) (entry_at j)) (λ g. omega arith) (λ g. omega (arith, place_is j (omega arith)))

-- what stands from there on is the same: nothing, where there is no such place
pub place_drop : (j : ℕ) (r : List ℕ) → length r < 2 ^ 64 → drop (entry_place j) r ≡ drop (entry_at j) r
place_drop j r l =
    dite (dec_le (2 ^ 64) (entry_at j))
    (λ (h : 2 ^ 64 ≤ entry_at j). drop_of_length-le r (omega (arith, place_far j h)) ∙ sym (drop_of_length-le r (omega arith)))
    (λ h. ap (λ (k : ℕ). drop k r) (place_is j (omega arith)))
