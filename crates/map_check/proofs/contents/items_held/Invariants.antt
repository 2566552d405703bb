use Prim.Native.Nat.{◌-◌}
use lib.ListN.{length}
use Rattle.map_check.proofs.ContentsLaws.Tallies.{HeldSoFar}
use Rattle.map_check.proofs.contents.items_held.Given as goal

abbrev pub invariant-loop-item : goal.invariant-loop-item
invariant-loop-item g l = HeldSoFar g.I.ListItem.rule (goal.F-post g l.holds) l.value l.at l.count

abbrev pub decreases-loop-item : goal.decreases-loop-item
decreases-loop-item g l = length l.value - l.at
