-- `map_check::contents::integers_hold` meets its contract. Assumes nothing.
use Rattle.std.proofs.Common.{◌∙◌, rules}
use Rattle.table_map.specs.Lists.{integer_item}
use Rattle.table_map.proofs.Items.{integer_moves}
use Rattle.map_check.specs.Contents.{integer_holds}
use Rattle.map_check.proofs.ContentsLaws.Tallies.{held_exactly}
use Rattle.map_check.proofs.contents.integers_hold.Goals as goal

pub items_held-requires-clause-moves : goal.items_held-requires-clause-moves
items_held-requires-clause-moves c = integer_moves

pub returns : goal.returns
returns c = c.eq.ensures ∙ rw (c.items_held.ensures (integer_holds c.args.meaning) (λ a r h. search rules)) (held_exactly integer_item (integer_holds c.args.meaning) _ _)
