-- `value::shape::Layout::most` meets its contract. Assumes nothing.
use mathlib.Core.Path.{subst}
use native.Mathlib.Omega.{arith}
use Rattle.value.specs.Inner.Shapes.{Sized}
use Rattle.value.proofs.Most.{top_small}
use Rattle.value.proofs.shape.Layout.most.Goals as goal

pub overflow_add-result : goal.overflow_add-result
overflow_add-result c = omega (arith, top_small c.in-Counted.k _ (subst Sized c.in-Counted.is c.args.self.sized) c.top_of.ensures)
