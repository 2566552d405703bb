-- What a call leaves for the next, and what it answers. Assumes nothing.
use Rattle.std.specs.Prelude.{ℕ}
use Rattle.wire.specs.Outcome.{Outcome, ok, refused}
use Rattle.blocks.specs.declared.state.Phase.TheVariants.{Open, Long, Closed}
use Rattle.blocks.specs.declared.state.Arriving.{Arriving}
use Rattle.blocks.specs.declared.state.Arrival.{Arrival}
use Rattle.blocks.specs.declared.state.Given.{Given}
pub use Rattle.blocks.specs.declared.state.BlockGiven.{BlockGiven}
pub use Rattle.blocks.specs.declared.state.Arrival.TheVariants.{More as more, Null as null, Value as value, Long as long, Part as part, End as end}

-- ---- states
-- `held` bytes stand at the front of the carry: null bits, then the value in progress, which is that of `column`. `used` counts all bytes
-- that were taken
abbrev pub opened : ℕ → ℕ → ℕ → Arriving
opened column held used = record { phase = Open; column = column; held = held; left = 0; used = used }

-- `left` bytes of a long value are still to come
abbrev pub longed : ℕ → ℕ → ℕ → ℕ → Arriving
longed column held left used = record { phase = Long; column = column; held = held; left = left; used = used }

abbrev pub begun : Arriving
begun = opened 0 0 0

-- behind a refusal and behind the end
abbrev pub closed : Arriving
closed = record { phase = Closed; column = 0; held = 0; left = 0; used = 0 }

-- ---- answers
-- one answer. The bytes of a value stand in the carry, those of a part at the front of the block. A `BlockGiven` is one with the bytes taken
-- from the front of the block, and the next state
abbrev pub Arrived : Type 0
Arrived = Arrival

-- a refusal takes nothing, and closes
abbrev pub shut_with : Outcome Arrived → Given
shut_with arrival = record { arrival = arrival; taken = 0; next = closed }

abbrev pub given_of : Outcome BlockGiven → Given
given_of (ok g) = record { arrival = ok g.arrival; taken = g.taken; next = g.next }
given_of (refused w) = shut_with (refused w)

-- the end takes nothing too, and closes
abbrev pub ended_of : Outcome ℕ → Given
ended_of (ok used) = shut_with (ok (end used))
ended_of (refused w) = shut_with (refused w)
