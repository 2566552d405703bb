-- `blocks::call::Call::commit` meets its contract: there is room for what is taken. Assumes nothing.
use Rattle.std.proofs.Common.{◌≡◌, ◌-◌, ◌∙◌, arith, length, take}
use lib.Seq.{length-take-le}
use Rattle.wire.proofs.Stores.{store_fits}
use Rattle.blocks.proofs.call.Call.commit.Goals as goal

pub returns-clause-carry_after : goal.returns-clause-carry_after
returns-clause-carry_after c =
    let a = c.args in
    let k = a.upto - a.self.at.held in
    let r = c.requires in
    let n : length (take k a.self.block.now) ≡ k = length-take-le k a.self.block.now (omega (arith, r.2)) in
    (rw c.saturating_sub-taken.ensures at c.write_bytes.ensures.buf_after)
    ∙ rw (store_fits a.carry.now (take k a.self.block.now) a.self.at.held (omega (arith, n, r.0, r.1)))
