-- `wire::bits::bit_lsb0` meets its contract. Assumes nothing.
use Rattle.wire.specs.Bits.{bit_lsb0}
use Rattle.wire.proofs.bits.bit_lsb0.Goals as goal

pub returns : goal.returns
unfolding bit_lsb0
returns c = c.digit_at.ensures
