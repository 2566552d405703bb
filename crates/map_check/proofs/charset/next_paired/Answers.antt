-- `map_check::charset::next_paired` meets its contract. Assumes nothing.
use mathlib.Core.Path.{sym}
use native.Mathlib.Omega.{arith}
use Rattle.table_map.specs.Lists.{pair_item}
use Rattle.table_map.proofs.Steps.{item_read}
use Rattle.map_check.proofs.charset.next_paired.Goals as goal

pub overflow_cast-result : goal.overflow_cast-result
overflow_cast-result c =
    let x = item_read pair_item _ _ _ _ (sym (rw c.in-Ok-Some.field-0-is at c.in-Ok-Some.ensures)) in
    omega (arith, c.requires _ _ _ x.1)
