use Rattle.row_plan.proofs.Puts.{Going}
use Rattle.row_plan.proofs.make.put_plan.Given as goal

abbrev pub invariant-loop-column : goal.invariant-loop-column
invariant-loop-column l = Going l.profile l.presence l.columns l.initial.plan l.plan l.at l.column
