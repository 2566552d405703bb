-- `blocks::give::give_block` meets its contract. Assumes nothing.
use mathlib.Core.Path.{sym}
use native.Mathlib.Omega.{arith}
use Rattle.blocks.proofs.Fitting.{carry_tested, sits, used_fits, held_fits, given_long}
use Rattle.blocks.proofs.give.give_block.Goals as goal

pub invariant_of-lent : goal.invariant_of-lent
invariant_of-lent c =
    let a = c.args in
    let t = carry_tested a.profile.now a.presence.now a.carry.now (sym c.in_ok-head.ensures) in
    record { valid = t.valid; bits = t.presence; columns = t.count; nulls = t.bits }

pub invariant_of-call : goal.invariant_of-call
invariant_of-call c =
    let a = c.args in
    let t = carry_tested a.profile.now a.presence.now a.carry.now (sym c.in_ok-head.ensures) in
    record {
      used_fits = used_fits a.profile.now a.presence.now a.carry.now _ _ a.at t c.is_fit.ensures c.if-not-is_fit.false _
          (omega (arith, c.well_formed));
      held_fits = held_fits a.profile.now a.presence.now a.carry.now _ _ a.at t c.is_fit.ensures c.if-not-is_fit.false _
          (omega (arith, c.well_formed)) (omega (arith, c.well_formed));
    }

pub invariant_of-call-in-Long : goal.invariant_of-call-in-Long
invariant_of-call-in-Long c =
    let a = c.args in
    let t = carry_tested a.profile.now a.presence.now a.carry.now (sym c.in_ok-head.ensures) in
    record {
      used_fits = used_fits a.profile.now a.presence.now a.carry.now _ _ a.at t c.is_fit.ensures c.if-not-is_fit.false _
          (omega (arith, c.well_formed));
      held_fits = held_fits a.profile.now a.presence.now a.carry.now _ _ a.at t c.is_fit.ensures c.if-not-is_fit.false _
          (omega (arith, c.well_formed)) (omega (arith, c.well_formed));
    }

pub give_open-requires : goal.give_open-requires
give_open-requires c =
    let a = c.args in
    let t = carry_tested a.profile.now a.presence.now a.carry.now (sym c.in_ok-head.ensures) in
    sits a.profile.now a.presence.now a.carry.now _ _ a.at t c.is_fit.ensures c.if-not-is_fit.false

pub give_long-requires : goal.give_long-requires
give_long-requires c =
    let a = c.args in
    let t = carry_tested a.profile.now a.presence.now a.carry.now (sym c.in_ok-head.ensures) in
    omega (arith, t.few, (sits a.profile.now a.presence.now a.carry.now _ _ a.at t c.is_fit.ensures c.if-not-is_fit.false).among)

pub returns-in-Long : goal.returns-in-Long
returns-in-Long c =
    let a = c.args in
    let p = given_long a.profile.now a.presence.now a.carry.now a.block.now a.at (sym c.in_ok-head.ensures) c.is_fit.ensures
    c.if-not-is_fit.false c.in-Long.is c.give_long.ensures in
    record { value = p.0; carry_after = p.1 }
