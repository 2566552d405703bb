use Prim.Native.Nat.{◌-◌}
use Rattle.row_plan.proofs.ReadLaws.{Reading}
use Rattle.row_plan.proofs.row.RowCursor.read.Given as goal

abbrev pub invariant-loop-values : goal.invariant-loop-values
invariant-loop-values l = Reading l.plan l.images l.room l.initial.out l.initial.at l.out l.at l.values

abbrev pub decreases-loop-values : goal.decreases-loop-values
decreases-loop-values l = l.room - l.values
