-- `map_check::keys::keys_once` meets its contract. Assumes nothing.
use mathlib.Core.Path.{sym}
use Rattle.map_check.proofs.KeyLaws.Repeats.{reached_next}
use Rattle.map_check.proofs.keys.keys_once.Goals as goal

pub later-preserved : goal.later-preserved
later-preserved c =
    (c.loop-earlier.invariant.0, reached_next c.loop-earlier.invariant.1 c.loop-earlier-test.false (sym c.in-Ok.ensures))
