-- `row_plan::fast::take_date` meets its contract. Assumes nothing.
use mathlib.Core.Path.{refl}
use native.Mathlib.Omega.{arith}
use Rattle.row_plan.proofs.FastLaws.{took_date}
use Rattle.row_plan.proofs.fast.take_date.Goals as goal

pub returns : goal.returns
returns c = took_date _ c.low-n.ensures.0 (omega (arith, c.if-year-gt9999.false)) (omega (arith, c.if-month-gt12.false)) refl
