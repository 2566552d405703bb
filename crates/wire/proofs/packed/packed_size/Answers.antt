-- `wire::packed::packed_size` meets its contract. Assumes nothing.
use Rattle.wire.specs.Packed.{packed_bytes}
use Rattle.wire.specs.Number.{le_bytes}
use Rattle.wire.proofs.Rules.{tests}
use Rattle.wire.proofs.packed.packed_size.Goals as goal

pub returns-then-v-le250 : goal.returns-then-v-le250
unfolding packed_bytes le_bytes
returns-then-v-le250 c = search tests

pub returns-then-v-lt65536 : goal.returns-then-v-lt65536
unfolding packed_bytes le_bytes
returns-then-v-lt65536 c = search tests

pub returns-then-v-lt16777216 : goal.returns-then-v-lt16777216
unfolding packed_bytes le_bytes
returns-then-v-lt16777216 c = search tests

pub returns : goal.returns
unfolding packed_bytes le_bytes
returns c = search tests
