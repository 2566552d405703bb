-- `row_plan::fast::take_unsigned` meets its contract. Assumes nothing.
use Rattle.row_plan.proofs.FastLaws.{took_unsigned}
use Rattle.row_plan.proofs.fast.take_unsigned.Goals as goal

pub returns : goal.returns
returns c = took_unsigned c.args.width.bytes _ c.args.width.few c.low.ensures.0 c.one.ensures
