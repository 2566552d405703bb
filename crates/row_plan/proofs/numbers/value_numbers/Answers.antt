-- `row_plan::numbers::value_numbers` meets its contract. Assumes nothing.
use Rattle.row_plan.proofs.numbers.value_numbers.Goals as goal

pub returns-in-Temporal : goal.returns-in-Temporal
returns-in-Temporal c = rw c.in-Temporal.is (c.temporal_numbers.ensures c.args.by)
