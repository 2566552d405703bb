-- What the functions over the bytes at hand answer, and what they count on. Assumes nothing.
use Rattle.std.specs.Prelude.{ℕ, zero, suc, ◌+◌, ◌-◌, ◌≤◌, ◌<◌, ◌≡◌, cond, ◌&&◌, List, length, get_or, take, drop, leb, ltb, eqb}
use Rattle.wire.specs.Bits.{bit_lsb0}
use Rattle.wire.specs.Outcome.{Outcome, ok, refuse}
use Rattle.value.specs.declared.shape.Shape.{Shape}
use Rattle.value.specs.declared.shape.Shape.TheVariants.{NotTaken}
use Rattle.value.specs.Shapes.{need}
use Rattle.image.specs.Present.{count_bits, shape_at}
use Rattle.blocks.specs.declared.state.Phase.TheVariants.{Open, Long}
use Rattle.blocks.specs.declared.state.Arriving.{Arriving}
use Rattle.blocks.specs.declared.state.Arrival.{Arrival}
use Rattle.blocks.specs.States.{BlockGiven}
use Rattle.blocks.specs.Turns.{TurnSaid, wait, long, whole, turn_of}
use Rattle.blocks.specs.Gives.{Handed, by_turn, at_hand}

-- the first n of the eight are those of y from a place on, with zeros past its end
pub record Heads (y : List ℕ) (from : ℕ) (head : List ℕ) (n : ℕ) : Type 0 where
  pub size : length head ≡ 8
  pub each : (i : ℕ) → i < n → get_or head i 0 ≡ get_or y (from + i) 0

-- a turn by how many bytes tell the length, how many are at hand, and how many are needed
unfoldable pub turn_by : ℕ → ℕ → ℕ → ℕ → TurnSaid
turn_by room told len size = cond (leb told len && ltb room size) (long (size - told)) (cond (ltb len size) wait (whole size))

-- the answer for a value that is not NULL
unfoldable pub value_over : ℕ → Shape → ℕ → Arriving → List ℕ → List ℕ → Outcome Handed
unfolding turn_of by_turn
value_over nb sh j st carry block =
    let x = drop nb (at_hand st carry block) in
    by_turn nb sh j x st carry block (turn_of (length carry - nb) sh x)

-- ---- what a call answers that takes so many bytes: `next` is the state behind it, but for the bytes used
abbrev pub took_by : Arriving → ℕ → Arrival → Arriving → BlockGiven
took_by at n arrival next = record {
  arrival = arrival;
  taken = n;
  next = record { phase = next.phase; column = next.column; held = next.held; left = next.left; used = at.used + n };
}

abbrev pub standing : ℕ → ℕ → Arriving
standing column held = record { phase = Open; column = column; held = held; left = 0; used = 0 }

abbrev pub longing : ℕ → ℕ → ℕ → Arriving
longing column held left = record { phase = Long; column = column; held = held; left = left; used = 0 }

-- ---- the state is fit, and the carry is large enough
pub record Sits (carry columns nulls : ℕ) (at : Arriving) : Type 0 where
  pub room : nulls + 64 ≤ carry
  pub among : at.column ≤ columns
  pub fits : at.held ≤ carry

-- and, the null bits being there, a value is due
pub record Holds (carry block nulls : ℕ) (at : Arriving) : Type 0 where
  pub room : nulls + 64 ≤ carry
  pub narrow : nulls < 65536
  pub there : nulls ≤ at.held + block
  pub fits : at.held ≤ carry

-- a value that is whole: its n bytes are at hand, and there is room for them
pub record Wholes (sh : Shape) (carry block : List ℕ) (nulls : ℕ) (at : Arriving) (n : ℕ) : Type 0 where
  pub fits : at.held ≤ length carry
  pub there : nulls ≤ at.held + length block
  pub upto : nulls + n ≤ length carry
  pub high : nulls + n ≤ at.held + length block
  pub size : need sh (drop nulls (at_hand at carry block)) ≡ n

-- ---- fit states
-- how the value in progress is stored: that of column j, if this is a present one of the n and not NULL
unfoldable pub held_shape : List ℕ → List ℕ → List ℕ → ℕ → ℕ → Shape
unfolding bit_lsb0 count_bits shape_at
held_shape r p y n j =
    cond (eqb j n) (NotTaken 0) (cond (bit_lsb0 p j) (cond (bit_lsb0 y (count_bits p j)) (NotTaken 0) (shape_at r j)) (NotTaken 0))

-- the first present column that is not NULL of the m from j on, or where they end
unfoldable pub due_from : ℕ → List ℕ → List ℕ → ℕ → ℕ
unfolding bit_lsb0 count_bits
due_from zero p y j = j
due_from (suc m) p y j = cond (bit_lsb0 p j) (cond (bit_lsb0 y (count_bits p j)) (due_from m p y (suc j)) j) (due_from m p y (suc j))

-- the end in the Open phase
unfoldable pub end_open : List ℕ → ℕ → ℕ → Arriving → List ℕ → Outcome ℕ
unfolding due_from
end_open p n nb st carry =
    let due = due_from (n - st.column) p (take st.held carry) st.column in
    cond (ltb st.held nb) (refuse 9 0) (cond (eqb due n) (ok st.used) (refuse 9 due))
