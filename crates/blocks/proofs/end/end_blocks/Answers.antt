-- `blocks::end::end_blocks` meets its contract. Assumes nothing.
use mathlib.Core.Path.{sym}
use Rattle.blocks.proofs.Fitting.{carry_tested, ended_open}
use Rattle.blocks.proofs.end.end_blocks.Goals as goal

pub invariant_of-lent : goal.invariant_of-lent
invariant_of-lent c =
    let a = c.args in
    let t = carry_tested a.profile.now a.presence.now a.carry.now (sym c.in_ok-head.ensures) in
    record { valid = t.valid; bits = t.presence; columns = t.count; nulls = t.bits }

pub returns-in-Open : goal.returns-in-Open
returns-in-Open c =
    let a = c.args in
    let t = carry_tested a.profile.now a.presence.now a.carry.now (sym c.in_ok-head.ensures) in
    ended_open a.profile.now a.presence.now a.carry.now a.carry.now a.at (sym c.in_ok-head.ensures) c.is_fit.ensures c.if-not-is_fit.false
    t.count c.in-Open.is c.end_open.ensures
