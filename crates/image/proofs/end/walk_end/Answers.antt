-- `image::end::walk_end` meets its contract. The loop's invariant: the walk ends as it does from the cursor. Assumes nothing.
use mathlib.Core.Path.{refl, sym, ap}
use native.Mathlib.Omega.{arith}
use Rattle.std.proofs.lemmas.Result.{err_from_is_err_and}
use Rattle.wire.specs.Outcome.{ok}
use Rattle.image.proofs.EndLaws.Ends.{going_first, going_further, going_end, going_refused}
use Rattle.image.proofs.end.walk_end.Goals as goal

pub loop-next-init : goal.loop-next-init
loop-next-init c =
    let e = sym c.in_ok-head.ensures in
    going_first _ _ _ e c.if-image-head.false

pub loop-next-preserved-in-Null : goal.loop-next-preserved-in-Null
loop-next-preserved-in-Null c =
    (going_further _ _ _ (sym c.in_ok-head.ensures) c.if-image-head.false c.loop-next.invariant _ c.in_ok-next.ensures.result_value refl c.in-Null.is
    c.in_ok-next.ensures.ranked).1

pub loop-next-smaller : goal.loop-next-smaller
loop-next-smaller c =
    let w = going_further _ _ _ (sym c.in_ok-head.ensures) c.if-image-head.false c.loop-next.invariant _ c.in_ok-next.ensures.result_value refl c.in-Null.is
    c.in_ok-next.ensures.ranked in
    omega (arith, w.0, w.1.placed.column)

pub loop-next-preserved : goal.loop-next-preserved
loop-next-preserved c =
    (going_further _ _ _ (sym c.in_ok-head.ensures) c.if-image-head.false c.loop-next.invariant _ c.in_ok-next.ensures.result_value refl c.in-Null.is
    c.in_ok-next.ensures.ranked).1

pub returns-in-End : goal.returns-in-End
returns-in-End c =
    going_end _ _ _ (sym c.in_ok-head.ensures) c.if-image-head.false c.loop-next.invariant _ c.in_ok-next.ensures.result_value _ (ap ok c.in-End.is)

pub returns-in_err-next : goal.returns-in_err-next
returns-in_err-next c =
    let p = err_from_is_err_and c.from_residual-in_err-next.result c.from_residual-in_err-next.ensures.1 in
    rw (p.1, p.2)
    (going_refused _ _ _ (sym c.in_ok-head.ensures) c.if-image-head.false c.loop-next.invariant _ c.in_err-next.ensures.result_value _ refl)
