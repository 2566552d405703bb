-- `map_check::names::string_at` meets its contract. The loop's invariant: the string asked stands as many strings
-- behind this place as are left. The measure is the bytes left, so that a number asked costs no more than the list is long. Assumes
-- nothing.
use Prim.Native.Nat.{◌-◌}
use mathlib.Core.Path.{◌≡◌}
use lib.ListN.{length}
use Rattle.map_check.specs.Names.{string_at}
use Rattle.map_check.proofs.names.string_at.Given as goal

abbrev pub invariant-loop-value : goal.invariant-loop-value
invariant-loop-value l = string_at l.left l.asked l.list l.at ≡ string_at l.asked l.asked l.list 0

abbrev pub decreases-loop-value : goal.decreases-loop-value
decreases-loop-value l = length l.list - l.at
