use mathlib.Core.Path.{refl, sym, ◌∙◌}
use native.Mathlib.Omega.{arith}
use Rattle.wire.proofs.Outcomes.{ok_not_refused}
use Rattle.row_plan.proofs.Goes.{rest_is}
use Rattle.row_plan.proofs.RunLaws.{along_join, run_turn, run_stop, slot_put}
use Rattle.row_plan.proofs.run.run_image.Goals as goal

pub returns-in-Err : goal.returns-in-Err
returns-in-Err c = let a = c.args in
    let t = c.requires.stands in
    let j = along_join a.plan.now a.images.now a.items a.room a.had a.out.now a.here c.loop-values.out c.loop-values.at c.loop-values.values
    c.loop-values.invariant _ _ _ _ c.take_items-far.ensures in
    let is = rest_is a.images.now a.here.start a.here.start (omega (arith, t.nulls, t.item)) in
    let e = sym c.numbers.ensures ∙ c.in-Err.is in record {
      result_after = run_stop a.plan.now a.images.now a.items a.room a.had a.out.now a.here t _ _ _ _ j.run (omega (
        arith,
        j.run.most,
        c.if-far-room.false,
      )) (omega (
        arith,
        j.run.counted,
        c.if-far-items.false,
      )) is _ e;
      further = record { most = j.run.most; more = λ e. absurd (ok_not_refused (sym e)) };
    }

pub loop-values-preserved : goal.loop-values-preserved
loop-values-preserved c = let a = c.args in
    let t = c.requires.stands in
    let j = along_join a.plan.now a.images.now a.items a.room a.had a.out.now a.here c.loop-values.out c.loop-values.at c.loop-values.values
    c.loop-values.invariant _ _ _ _ c.take_items-far.ensures in
    let is = rest_is a.images.now a.here.start a.here.start (omega (arith, t.nulls, t.item)) in
    let e = sym c.numbers.ensures ∙ c.in-Ok.is in
    let u = slot_put c.take_items-far.new.out _ c.put.ensures c.put.auto.room (omega (
      arith,
      j.run.same,
      c.requires.had_lt_room.1,
      c.take_items-far.ensures.most,
      c.if-far-room.false,
    )) in
    record {
      run = run_turn a.plan.now a.images.now a.items a.room a.had a.out.now a.here t _ _ _ _ j.run (omega
          (arith, j.run.most, c.if-far-room.false)) (omega (
            arith,
            j.run.counted,
            c.if-far-items.false,
          )) is _ _ _ e u.0 u.1;
      start = refl;
    }
