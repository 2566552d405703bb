-- `map_check::field::keep_fields` meets its contract. The loop's invariant: what it has noted are the fields before this one, and what is
-- to come decides the rest. Assumes nothing.
use Prim.Native.Nat.{◌-◌}
use lib.ListN.{length}
use Rattle.map_check.proofs.FieldLaws.FieldTurns.{KeptTo}
use Rattle.map_check.proofs.field.keep_fields.Given as goal

abbrev pub invariant-loop-kind : goal.invariant-loop-kind
invariant-loop-kind l = KeptTo l.sizes l.initial.cursor l.event l.cursor l.places

abbrev pub decreases-loop-kind : goal.decreases-loop-kind
decreases-loop-kind l = length l.event - l.cursor.at
