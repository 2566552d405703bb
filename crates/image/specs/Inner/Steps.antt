-- The inner step, on a record that is known to be valid: its cursor knows its rank. Assumes nothing.
use Rattle.std.specs.Prelude.{ℕ, ◌≤◌, ◌≡◌, List}
use Rattle.wire.specs.Outcome.{Outcome, ok, refused}
use Rattle.wire.specs.Stored.{answer_of, left_of}
use Rattle.record.specs.Records.{most_columns, count_of}
use Rattle.image.specs.declared.cursor.Cursor.{Cursor}
use Rattle.image.specs.declared.step.InnerCursor.{InnerCursor}
use Rattle.image.specs.declared.step.Step.{Step}
use Rattle.image.specs.Present.{count_bits}
use Rattle.image.specs.Split.{ColumnStepped, null, value, end}

-- what was told with cursors that know their rank, without it
abbrev pub without_rank : Step InnerCursor → ColumnStepped
without_rank (null column next) = null column next.cursor
without_rank (value column v next) = value column v next.cursor
without_rank (end used) = end used

abbrev pub inner_told : Outcome (Step InnerCursor) → Outcome ColumnStepped
inner_told (ok t) = ok (without_rank t)
inner_told (refused r) = refused r

-- the next cursor's rank is again how many present columns stand before its own
abbrev pub Ranked : List ℕ → Outcome (Step InnerCursor) → Type 0
Ranked presence (ok (null column next)) = next.rank ≡ count_bits presence next.cursor.column
Ranked presence (ok (value column v next)) = next.rank ≡ count_bits presence next.cursor.column
Ranked presence (ok (end used)) = Unit {0}
Ranked presence (refused r) = Unit {0}

-- what an inner step counts on: the cursor stands at one of the record's columns or behind them, and knows its rank
pub record Placed (profile presence : List ℕ) (columns : ℕ) (at : InnerCursor) : Type 0 where
  pub count : columns ≡ count_of profile
  pub few : columns ≤ most_columns
  pub column : at.cursor.column ≤ columns
  pub rank : at.rank ≡ count_bits presence at.cursor.column

-- what a call that writes answered, and the buffer that it left: those of w
abbrev pub Puts : List ℕ → Outcome (Cursor × List ℕ) → Outcome Cursor → List ℕ → Type 0
Puts buf w a x = (a ≡ answer_of w) × (x ≡ left_of w buf)
