-- `wire::bits::digit_of` meets its contract. Assumes nothing.
use mathlib.Core.Path.{refl}
use Rattle.wire.specs.Bits.{digit}
use Rattle.wire.proofs.bits.digit_of.Goals as goal

pub returns : goal.returns
unfolding digit
returns c = refl
