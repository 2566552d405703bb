-- `map_check::keys::keys_below` meets its contract. Assumes nothing.
use Prim.Native.Nat.{◌-◌, ◌≤◌}
use mathlib.Core.Path.{◌≡◌}
use lib.Dec.{ltb}
use lib.ListN.{length}
use Rattle.map_check.specs.Contents.{list_holds, key_item}
use Rattle.map_check.proofs.keys.keys_below.Given as goal

abbrev pub invariant-loop-at : goal.invariant-loop-at
invariant-loop-at l = (l.at ≤ length l.value) × (list_holds (key_item l.paired) (λ k. ltb k l.above) l.value l.at ≡ list_holds (key_item l.paired) (λ k. ltb k l.above) l.value 0)

abbrev pub decreases-loop-at : goal.decreases-loop-at
decreases-loop-at l = length l.value - l.at
