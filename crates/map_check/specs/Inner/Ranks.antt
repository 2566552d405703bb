-- Ranks that are no more than a number of columns can have made them. Assumes nothing.
use Rattle.std.specs.Prelude.{ℕ, ◌≤◌}
use Rattle.map_check.specs.declared.rank.Ranks.{Ranks}

-- no rank is above n
pub record AtMost (n : ℕ) (k : Ranks) : Type 0 where
  pub sign : k.sign.0 ≤ n
  pub character : k.character.0 ≤ n
  pub choice : k.choice.0 ≤ n
  pub set : k.set.0 ≤ n
  pub enumeration : k.enumeration.0 ≤ n
  pub geometry : k.geometry.0 ≤ n
  pub vector : k.vector.0 ≤ n
