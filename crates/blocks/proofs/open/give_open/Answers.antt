-- `blocks::open::give_open` meets its contract. Assumes nothing.
use native.Mathlib.Omega.{arith}
use Rattle.blocks.proofs.Sitting.{found_low, value_holds, value_taken}
use Rattle.blocks.proofs.open.give_open.Goals as goal

pub overflow_add-found : goal.overflow_add-found
overflow_add-found c =
    let a = c.args in
    omega (arith, found_low a.lent a.carry.now a.call.block.now c.requires c.if-len-nulls.false c.first_set-found.ensures c.if-found-columns.false)

pub invariant_of-due : goal.invariant_of-due
invariant_of-due c =
    let a = c.args in
    record {
      low = found_low a.lent a.carry.now a.call.block.now c.requires c.if-len-nulls.false c.first_set-found.ensures c.if-found-columns.false;
      taken = value_taken a.lent a.carry.now a.call.block.now c.requires c.if-len-nulls.false c.first_set-found.ensures
          c.if-found-columns.false c.entry_in.ensures c.column_of.ensures;
    }

pub give_value-requires : goal.give_value-requires
give_value-requires c =
    let a = c.args in
    value_holds a.lent a.carry.now a.call.block.now c.requires c.if-len-nulls.false c.first_set-found.ensures c.if-found-columns.false
