-- `map_check::contents::pairs_hold` meets its contract. The loop's invariant: what is to come from here, above the last rank, is what was
-- to come from the start. Assumes nothing.
use Prim.Native.Nat.{◌-◌}
use mathlib.Core.Path.{◌≡◌}
use lib.ListN.{length}
use Rattle.map_check.specs.Contents.{pairs_whole}
use Rattle.map_check.proofs.contents.pairs_hold.Given as goal

abbrev pub invariant-loop-rank : goal.invariant-loop-rank
invariant-loop-rank l = pairs_whole l.above l.low l.value l.at ≡ pairs_whole l.above 0 l.value l.start

abbrev pub decreases-loop-rank : goal.decreases-loop-rank
decreases-loop-rank l = length l.value - l.at
