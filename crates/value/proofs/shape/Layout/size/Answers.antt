-- `value::shape::Layout::size` meets its contract. A value of a counted shape that passed is bytes, which are lent. Assumes nothing.
use Prim.Native.Nat.{◌≤◌}
use mathlib.Core.Path.{sym, subst}
use native.Mathlib.Omega.{arith}
use Rattle.value.specs.Inner.Shapes.{Sized}
use Rattle.value.proofs.Writers.{never, not_counted, size_fits}
use Rattle.value.proofs.shape.Layout.size.Goals as goal

pub unreachable-requires : goal.unreachable-requires
unreachable-requires c =
    never _ _ _ _ (sym c.in_ok-judge.ensures) (rw c.in-Counted.is (not_counted _ _ _ c.in_default-value.not-Bytes))

pub overflow_add-result : goal.overflow_add-result
overflow_add-result c =
    let l = size_fits _ _ _ _ (rw (c.in-Counted.is, c.in-Bytes.is) at (sym c.in_ok-judge.ensures)) in
    let h : c.in-Counted.k ≤ 4 = subst Sized c.in-Counted.is c.args.self.sized in
    omega arith
