use Prim.Native.Nat.{◌-◌}
use Rattle.row_plan.proofs.RunLaws.{Along}
use Rattle.row_plan.proofs.run.run_image.Given as goal

-- `row_plan::run::run_image` meets its contract. Assumes nothing.
abbrev pub invariant-loop-values : goal.invariant-loop-values
invariant-loop-values l = Along l.plan l.images l.items l.room l.had l.initial.out l.initial.at l.out l.at l.values

abbrev pub decreases-loop-values : goal.decreases-loop-values
decreases-loop-values l = l.room - l.values
