-- `blocks::turn::counted_need` meets its contract. Assumes nothing.
use native.Mathlib.Omega.{arith}
use Rattle.blocks.proofs.Hands.{count_small}
use Rattle.blocks.proofs.turn.counted_need.Goals as goal

pub overflow_add-result : goal.overflow_add-result
overflow_add-result c = omega (arith, count_small c.args.k c.read_le.result c.requires c.read_le.ensures.upper_bound)
