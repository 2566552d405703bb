-- `table_map::list::skip_strings` meets its contract. The loop's invariant: what is left leads from here to where all lead from the start.
-- Assumes nothing.
use Rattle.std.proofs.Common.{◌≡◌, ◌-◌}
use Rattle.table_map.specs.Lists.{strings}
use Rattle.table_map.proofs.list.skip_strings.Given as goal

abbrev pub invariant-loop : goal.invariant-loop
invariant-loop l = strings (l.n - l.counter) l.s l.place ≡ strings l.n l.s l.at
