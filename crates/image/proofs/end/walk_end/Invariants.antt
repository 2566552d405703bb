-- `image::end::walk_end` meets its contract. The loop's invariant: the walk ends as it does from the cursor. Assumes nothing.
use Prim.Native.Nat.{◌-◌}
use Rattle.image.proofs.EndLaws.Ends.{Going}
use Rattle.image.proofs.end.walk_end.Given as goal

abbrev pub invariant-loop-next : goal.invariant-loop-next
invariant-loop-next l = Going l.profile l.presence l.image l.head.columns l.at

abbrev pub decreases-loop-next : goal.decreases-loop-next
decreases-loop-next l = l.head.columns - l.at.cursor.column
