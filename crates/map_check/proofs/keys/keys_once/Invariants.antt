-- `map_check::keys::keys_once` meets its contract. The outer loop's invariant: the keys before `later` repeat none, so those from there on
-- decide. The inner loop's: no key before `earlier` is the one at `later`. Assumes nothing.
use Prim.Native.Nat.{◌-◌}
use mathlib.Core.Path.{◌≡◌}
use lib.ListN.{length}
use Rattle.wire.specs.Outcome.{ok}
use Rattle.map_check.proofs.KeyLaws.Repeats.{Reached, Compared}
use Rattle.map_check.proofs.keys.keys_once.Given as goal

abbrev pub invariant-later : goal.invariant-later
invariant-later l = (l.answer ≡ ok tt) × Reached l.paired l.value l.start l.later

abbrev pub decreases-later : goal.decreases-later
decreases-later l = length l.value - l.later

abbrev pub invariant-loop-earlier : goal.invariant-loop-earlier
invariant-loop-earlier l = (l.answer ≡ ok tt) × Compared l.paired l.value l.start l.later l.key l.earlier

abbrev pub decreases-loop-earlier : goal.decreases-loop-earlier
decreases-loop-earlier l = l.later - l.earlier
