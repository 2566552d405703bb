-- `map_check::map::check` meets its contract. Assumes nothing.
use mathlib.Core.Path.{refl, sym}
use Rattle.map_check.specs.Check.{check_map, check}
use Rattle.map_check.proofs.Handed.{handed_on}
use Rattle.map_check.proofs.map.check.Goals as goal

pub returns-in_err-e : goal.returns-in_err-e
unfolding check check_map
returns-in_err-e c = rw (sym c.in_err-e.ensures, handed_on c.from_residual.ensures.1) (record { result_value = refl; buf_after = refl })

pub returns : goal.returns
unfolding check check_map
returns c =
    rw (sym c.in_ok-e.ensures) (record { result_value = c.check_event.ensures.result_value; buf_after = c.check_event.ensures.buf_after })
