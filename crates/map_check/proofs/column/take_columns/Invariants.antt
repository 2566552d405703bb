-- `map_check::column::take_columns` meets its contract. The loop's invariant: what is to come from this column on, by the ranks reached, is
-- what was to come from the first. Assumes nothing.
use mathlib.Core.Path.{◌≡◌}
use lib.ListN.{drop}
use Rattle.map_check.specs.Ranks.{no_ranks}
use Rattle.map_check.specs.Inner.Ranks.{AtMost}
use Rattle.map_check.proofs.ColumnLaws.Declares.{sizes_to_come}
use Rattle.map_check.proofs.column.take_columns.Given as goal

abbrev pub invariant-loop-j : goal.invariant-loop-j
invariant-loop-j l = AtMost l.j l.ranks
    × (sizes_to_come l.dialect l.ranks (drop l.j l.types) l.rest l.j ≡ sizes_to_come l.dialect no_ranks l.types l.metadata 0)
