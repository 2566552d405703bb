-- `map_check::contents::strings_hold` meets its contract. Assumes nothing.
use Rattle.std.proofs.Common.{◌∙◌, rules}
use Rattle.table_map.specs.Lists.{string_item}
use Rattle.table_map.proofs.Items.{string_moves}
use Rattle.map_check.specs.Contents.{whatever}
use Rattle.map_check.proofs.ContentsLaws.Tallies.{held_exactly}
use Rattle.map_check.proofs.contents.strings_hold.Goals as goal

pub items_held-requires-clause-moves : goal.items_held-requires-clause-moves
items_held-requires-clause-moves c = string_moves

pub returns : goal.returns
returns c = c.eq.ensures ∙ rw (c.items_held.ensures whatever (λ a r h. search rules)) (held_exactly string_item whatever _ _)
