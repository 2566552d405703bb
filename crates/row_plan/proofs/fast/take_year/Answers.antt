-- `row_plan::fast::take_year` meets its contract. Assumes nothing.
use mathlib.Core.Path.{refl}
use Rattle.row_plan.proofs.FastLaws.{took_year}
use Rattle.row_plan.proofs.fast.take_year.Goals as goal

pub returns : goal.returns
returns c = took_year _ _ refl c.year_of.ensures c.one.ensures
