-- `row_plan::numbers::number_value` meets its contract. Assumes nothing.
use mathlib.Core.Path.{sym}
use native.Mathlib.Omega.{arith}
use Rattle.value.specs.Ops.{shape_for}
use Rattle.row_plan.proofs.NumberLaws.{value_inside}
use Rattle.row_plan.proofs.numbers.number_value.Goals as goal

pub value_numbers-requires : goal.value_numbers-requires
value_numbers-requires c =
    let a = c.args in
    let i = value_inside (shape_for a.op) a.place a.s.now a.at _ (omega arith) (sym c.in_ok-value.ensures) in
    omega (arith, i.start)
