-- What the bytes at hand say of the first column that is not NULL: they are not enough, or its value is whole, or too long for the room.
-- Assumes nothing.
use Rattle.std.specs.Prelude.{ℕ, ◌-◌, Bool, cond, ◌&&◌, List, length, leb, ltb}
use Rattle.value.specs.declared.shape.Shape.{Shape}
use Rattle.value.specs.Shapes.{need, prefix}
use Rattle.blocks.specs.declared.turn.Turn.{Turn}
pub use Rattle.blocks.specs.declared.turn.Turn.TheVariants.{Wait as wait, Long as long, Whole as whole}

-- a long value has so many bytes behind its length, a whole one so many with it
abbrev pub TurnSaid : Type 0
TurnSaid = Turn

-- its length is told, and it has no room
unfoldable pub too_long : ℕ → Shape → List ℕ → Bool
unfolding prefix need
too_long room sh x = leb (prefix sh) (length x) && ltb room (need sh x)

unfoldable pub turn_of : ℕ → Shape → List ℕ → TurnSaid
unfolding prefix need too_long
turn_of room sh x =
    cond (too_long room sh x) (long (need sh x - prefix sh)) (cond (ltb (length x) (need sh x)) wait (whole (need sh x)))
