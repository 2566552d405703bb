use mathlib.Core.Path.{refl}
use native.Mathlib.Omega.{arith}
use Rattle.wire.proofs.Inverse.{bytes_take, bytes_drop}
use Rattle.row_plan.proofs.Goes.{rest_is}
use Rattle.row_plan.proofs.RunLaws.{take_turn, slot_put}
use Rattle.row_plan.proofs.run.take_items.Goals as goal

pub loop-item-preserved : goal.loop-item-preserved
loop-item-preserved c = let a = c.args in
    let t = c.requires.stands in
    let r = c.loop-item.invariant in
    let u = slot_put c.loop-item.out _ refl c.take.auto.room
    (omega (arith, r.space, r.run.same, c.requires.had_lt_room.1, c.loop-item-test.true)) in
    take_turn a.plan.now a.images.now a.items a.room a.had a.out.now a.here t c.loop-item.out c.loop-item.item c.loop-item.offset
    c.loop-item.values _ r c.loop-item-test.true (rest_is a.images.now a.here.start a.here.start (omega (arith, t.nulls, t.item))) c.in-Some.n
    _ _ (bytes_take _ _ (bytes_drop a.here.start a.images.now (λ i. omega (arith, c.type_inv.images i)))) c.in-Some.ensures u.0 u.1
