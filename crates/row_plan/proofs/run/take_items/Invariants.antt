use Prim.Native.Nat.{◌-◌}
use Rattle.row_plan.proofs.RunLaws.{Taking}
use Rattle.row_plan.proofs.run.take_items.Given as goal

-- `row_plan::run::take_items` meets its contract. Assumes nothing.
abbrev pub invariant-loop-item : goal.invariant-loop-item
invariant-loop-item l = Taking l.plan l.images l.items l.room l.had l.initial.out l.fn.here l.out l.item l.offset l.values l.limit

abbrev pub decreases-loop-item : goal.decreases-loop-item
decreases-loop-item l = l.limit - l.item
