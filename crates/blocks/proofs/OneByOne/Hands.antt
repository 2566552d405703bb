-- What the laws of OneByOne count on. Assumes nothing.
use Prim.Native.Nat.{ℕ, ◌+◌, ◌≤◌, ◌<◌}
use mathlib.Core.Path.{◌≡◌}
use mathlib.Core.Bool.{true}
use mathlib.Core.List.{List}
use lib.ListN.{length, drop}
use Rattle.wire.specs.Bits.{bytes_for}
use Rattle.value.specs.declared.shape.Shape.{Shape}
use Rattle.value.specs.declared.column.Column.{Column}
use Rattle.value.specs.Columns.{shape_of, is_taken}
use Rattle.value.specs.Shapes.{need}
use Rattle.record.specs.Records.{most_columns, count_of, record_valid}
use Rattle.image.specs.Present.{count_bits}
use Rattle.blocks.specs.declared.state.Arriving.{Arriving}
use Rattle.blocks.specs.Gives.{at_hand}

-- the numbers of a state are within their bounds
pub record Numbered (carry columns : ℕ) (at : Arriving) : Type 0 where
  pub among : at.column ≤ columns
  pub fits : at.held ≤ carry

-- ---- the tests for 11, 12, 20 and 21 were passed
pub record Sits (r p : List ℕ) (carry block columns nulls : ℕ) (at : Arriving) : Type 0 where
  pub valid : record_valid r ≡ true
  pub count : columns ≡ count_of r
  pub bits : nulls ≡ bytes_for (count_bits p columns)
  pub few : columns ≤ most_columns
  pub room : nulls + 64 ≤ carry
  pub among : at.column ≤ columns
  pub fits : at.held ≤ carry
  pub small : at.used + block < 18446744073709551616
  pub sum : at.held + block < 18446744073709551616

-- and, the null bits being there, the column found is one that is not NULL
pub record Holds (carry block nulls : ℕ) (at : Arriving) (found : ℕ) (kind : Column) : Type 0 where
  pub room : nulls + 64 ≤ carry
  pub narrow : nulls < 65536
  pub there : nulls ≤ at.held + block
  pub fits : at.held ≤ carry
  pub small : at.used + block < 18446744073709551616
  pub sum : at.held + block < 18446744073709551616
  pub column : found < 65536
  pub taken : is_taken (shape_of kind) ≡ true

-- a value that is whole: its n bytes are at hand, and there is room for them
pub record Wholes (sh : Shape) (carry block : List ℕ) (nulls : ℕ) (at : Arriving) (found n : ℕ) : Type 0 where
  pub fits : at.held ≤ length carry
  pub there : nulls ≤ at.held + length block
  pub upto : nulls + n ≤ length carry
  pub high : nulls + n ≤ at.held + length block
  pub small : at.used + length block < 18446744073709551616
  pub column : found < 65536
  pub taken : is_taken sh ≡ true
  pub size : need sh (drop nulls (at_hand at carry block)) ≡ n
