-- What each call over an image that arrives in blocks answers: the rule of the library's call, its answer in numbers. Assumes nothing.
use Rattle.std.specs.Prelude.{ℕ, cond, List, [], ◌∷◌, ◌++◌, eqb}
use Rattle.wire.specs.Outcome.{Outcome}
use Rattle.value.specs.declared.datum.Value.TheVariants.{Null}
use Rattle.value_parts.specs.Parts.{sort_of, parts_of, padded}
use Rattle.blocks.specs.declared.state.Phase.{Phase}
use Rattle.blocks.specs.declared.state.Phase.TheVariants.{Open, Long, Closed}
use Rattle.blocks.specs.declared.state.Arriving.{Arriving}
use Rattle.blocks.specs.declared.state.Arrival.TheVariants.{More as more, Null as null, Value as value, Long as long, Part as part, End as end}
use Rattle.blocks.specs.declared.state.BlockGiven.{BlockGiven}
use Rattle.blocks.specs.States.{Arrived, closed}
use Rattle.blocks.specs.Gives.{give_block, begin_blocks}
use Rattle.blocks.specs.Ends.{end_blocks}
use Rattle.feed_abi.specs.Calls.{said, said_with}

-- ---- a state in numbers, and the state that numbers ask for
abbrev pub phase_number : Phase → ℕ
phase_number Open = 0
phase_number Long = 1
phase_number Closed = 2

-- any other number is the closed phase too
abbrev pub phase_asked : ℕ → Phase
phase_asked phase = cond (eqb phase 0) Open (cond (eqb phase 1) Long Closed)

abbrev pub state_numbers : Arriving → List ℕ
state_numbers st = phase_number st.phase ∷ (st.column ∷ (st.held ∷ (st.left ∷ (st.used ∷ []))))

abbrev pub state_asked : ℕ → ℕ → ℕ → ℕ → ℕ → Arriving
state_asked phase column held left used =
    record { phase = phase_asked phase; column = column; held = held; left = left; used = used }

-- ---- an answer in numbers
-- the next state, sort, column, bytes taken, and seven parts
abbrev pub arrival_head : Arriving → ℕ → ℕ → ℕ → List ℕ
arrival_head next sort column taken = state_numbers next ++ (sort ∷ (column ∷ (taken ∷ [])))

abbrev pub arrival_numbers : Arriving → ℕ → ℕ → ℕ → List ℕ → List ℕ
arrival_numbers next sort column taken ps = arrival_head next sort column taken ++ padded 7 ps

-- behind the sorts of values: 12 asks for more, 13 is a long value with its length, 14 a part of one with its own; 0 is the end, with the
-- bytes used
unfoldable pub told_block : Arriving → ℕ → Arrived → List ℕ
unfolding padded sort_of parts_of
told_block next taken more = arrival_numbers next 12 0 taken (0 ∷ [])
told_block next taken (null column) = arrival_numbers next (sort_of Null) column taken (parts_of Null)
told_block next taken (value column v) = arrival_numbers next (sort_of v) column taken (parts_of v)
told_block next taken (long column len) = arrival_numbers next 13 column taken (len ∷ [])
told_block next taken (part column len) = arrival_numbers next 14 column taken (len ∷ [])
told_block next taken (end used) = arrival_numbers next 0 0 taken (used ∷ [])

abbrev pub arrived_numbers : BlockGiven → List ℕ
arrived_numbers g = told_block g.next g.taken g.arrival

-- the end of input takes nothing, and closes
abbrev pub ended : ℕ → BlockGiven
ended used = record { arrival = end used; taken = 0; next = closed }

-- ---- the calls
-- the first state
unfoldable pub feed_begin : List ℕ → List ℕ → List ℕ → Outcome (List ℕ)
unfolding begin_blocks
feed_begin profile presence carry = said state_numbers (begin_blocks profile presence carry)

-- a block given to any state
unfoldable pub feed_give : List ℕ → List ℕ → List ℕ → List ℕ → ℕ → ℕ → ℕ → ℕ → ℕ → Outcome (List ℕ × List ℕ)
unfolding give_block told_block
feed_give profile presence carry block phase column held left used =
    said_with arrived_numbers (give_block profile presence (state_asked phase column held left used) carry block)

-- the end of input, told to any state
unfoldable pub feed_end : List ℕ → List ℕ → List ℕ → ℕ → ℕ → ℕ → ℕ → ℕ → Outcome (List ℕ)
unfolding end_blocks told_block
feed_end profile presence carry phase column held left used =
    said (λ n. arrived_numbers (ended n)) (end_blocks profile presence (state_asked phase column held left used) carry)
