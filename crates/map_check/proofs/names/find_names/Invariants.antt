-- `map_check::names::find_names` meets its contract. The loop's invariant: the names among the fields from here on are those among the
-- fields from the start. Assumes nothing.
use Prim.Native.Nat.{◌-◌}
use mathlib.Core.Path.{◌≡◌}
use lib.ListN.{length}
use Rattle.map_check.specs.Fields.{walk_fields}
use Rattle.map_check.specs.Names.{names_in}
use Rattle.map_check.proofs.names.find_names.Given as goal

abbrev pub invariant-loop-kind : goal.invariant-loop-kind
invariant-loop-kind l = names_in (walk_fields l.cursor l.event) ≡ names_in (walk_fields l.initial.cursor l.event)

abbrev pub decreases-loop-kind : goal.decreases-loop-kind
decreases-loop-kind l = length l.event - l.cursor.at
