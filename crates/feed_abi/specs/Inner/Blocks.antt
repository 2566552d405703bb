-- What the answer of a call over blocks says. Assumes nothing.
use Rattle.std.specs.Prelude.{ℕ}
use Rattle.wire.specs.Outcome.{Outcome, ok, after}
use Rattle.blocks.specs.declared.state.Arriving.{Arriving}
use Rattle.blocks.specs.declared.state.BlockGiven.{BlockGiven}
use Rattle.blocks.specs.declared.state.Given.{Given}
use Rattle.blocks.specs.States.{Arrived}

abbrev pub block_given : Arrived → ℕ → Arriving → BlockGiven
block_given arrival taken next = record { arrival = arrival; taken = taken; next = next }

abbrev pub arrival_told : Outcome Arrived → ℕ → Arriving → Outcome BlockGiven
arrival_told arrival taken next = after arrival (λ a. ok (block_given a taken next))

abbrev pub given_told : Given → Outcome BlockGiven
given_told g = arrival_told g.arrival g.taken g.next
