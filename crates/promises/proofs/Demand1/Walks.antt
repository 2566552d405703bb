-- A walk is its steps: the law of walks, for each rule whose items take a byte. Assumes nothing.
use Rattle.table_map.specs.Lists.{integer_item, pair_item, string_item, group_item}
use Rattle.table_map.specs.Fields.{field_item}
use Rattle.table_map.proofs.Items.{integer_moves, pair_moves, string_moves, group_moves}
use Rattle.table_map.proofs.Walks.{walk_steps_lem}
use Rattle.table_map.proofs.Optional.{field_moves}
use Rattle.map_check.specs.Contents.{key_item}
use Rattle.map_check.specs.Keys.{with_place}
use Rattle.map_check.proofs.FieldLaws.FieldTurns.{keep_turn}
use Rattle.map_check.proofs.KeyLaws.KeyItems.{key_moves}
use Rattle.map_check.proofs.KeyLaws.Repeats.{placed_moves}
use Rattle.promises.specs.Walks.{Walks}

pub walks : Walks
walks = record {
  integers = walk_steps_lem integer_item integer_moves;
  pairs = walk_steps_lem pair_item pair_moves;
  strings = walk_steps_lem string_item string_moves;
  groups = walk_steps_lem group_item group_moves;
  fields = λ numeric columns. walk_steps_lem (field_item numeric columns) (field_moves numeric columns);
  keys = λ paired. walk_steps_lem (key_item paired) (key_moves paired);
  placed = λ paired. walk_steps_lem (with_place (key_item paired)) (placed_moves (key_item paired) (key_moves paired));
  kept = keep_turn;
}
