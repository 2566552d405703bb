-- `wire::bits::bit_msb0` meets its contract. Assumes nothing.
use Rattle.wire.specs.Bits.{bit_msb0}
use Rattle.wire.proofs.bits.bit_msb0.Goals as goal

pub returns : goal.returns
unfolding bit_msb0
returns c = c.digit_at.ensures
