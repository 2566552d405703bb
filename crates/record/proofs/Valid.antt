-- What a valid record says: as many columns as its length has room for, each accepted. Assumes nothing.
use Prim.Native.Nat.{ℕ, ◌+◌, ◌≤◌, ◌<◌}
use mathlib.Core.Path.{◌≡◌, sym, subst}
use mathlib.Core.Bool.{true}
use mathlib.Core.List.{List}
use native.Mathlib.Omega.{arith}
use borrow.Author.Tests.{leb-true, eqb-true}
use lib.ListN.{length, take, drop}
use lib.Dec.{leb, eqb}
use Rattle.wire.specs.Outcome.{ok, why}
use Rattle.wire.specs.Number.{le_value}
use Rattle.wire.proofs.Outcomes.{test_is_ok, both_true}
use Rattle.value.specs.Columns.{shape_of, is_taken}
use Rattle.record.specs.Entries.{column_of, entry_holds}
use Rattle.record.proofs.Turns.{holds_at}
use Rattle.record.specs.Records.{most_columns, kind_for, count_of, entry_at, entry_in, head_holds, record_valid, read_record}

-- ---- what its head says
pub record Head (r : List ℕ) : Type 0 where
  pub announced : le_value (take 2 r) ≡ length r
  pub kind : le_value (take 2 (drop 2 r)) ≡ kind_for (count_of r)
  pub few : count_of r ≤ most_columns
  pub whole : length r ≡ entry_at (count_of r)

pub valid_head : (r : List ℕ) → record_valid r ≡ true → Head r
unfolding record_valid head_holds
valid_head r v =
    let a = both_true (leb 6 (length r)) _ (both_true (head_holds r) _ v).0 in
    let b = both_true (eqb (le_value (take 2 r)) (length r)) _ a.1 in
    let c = both_true (eqb (le_value (take 2 (drop 2 r))) (kind_for (count_of r))) _ b.1 in
    let d = both_true (leb (count_of r) most_columns) _ c.1 in
    record {
      announced = eqb-true (le_value (take 2 r)) (length r) b.0;
      kind = eqb-true (le_value (take 2 (drop 2 r))) (kind_for (count_of r)) c.0;
      few = leb-true (count_of r) most_columns d.0;
      whole = eqb-true (length r) (entry_at (count_of r)) d.1;
    }

-- ---- and its entries
-- every entry of a valid record may be there
pub valid_entry : (r : List ℕ) (j : ℕ) → record_valid r ≡ true → j < count_of r → entry_holds (entry_in r j) ≡ true
unfolding record_valid
valid_entry r j v h =
    let z : 0 + j ≡ j = omega arith in
    subst (λ (k : ℕ). entry_holds (entry_in r k) ≡ true) z (holds_at (count_of r) r 0 j (both_true (head_holds r) _ v).1 h)

-- so its column is accepted, by the one table
pub valid_column : (r : List ℕ) (j : ℕ) → record_valid r ≡ true → j < count_of r → is_taken (shape_of (column_of (entry_in r j))) ≡ true
unfolding entry_holds
valid_column r j v h = (both_true (is_taken (shape_of (column_of (entry_in r j)))) _ (valid_entry r j v h)).0

-- a valid record has no more columns than it may have
pub valid_few : (r : List ℕ) → record_valid r ≡ true → count_of r ≤ most_columns
valid_few r v = (valid_head r v).few

-- a record that is read is valid, and its columns are counted
pub read_valid : (r : List ℕ) (n : ℕ) → read_record r ≡ ok n → (record_valid r ≡ true) × (n ≡ count_of r)
unfolding read_record
read_valid r n e =
    let t = test_is_ok (record_valid r) (count_of r) (why 11 0) n e in
    (t.0, sym t.1)
