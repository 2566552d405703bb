-- `map_check::names::names_field` meets its contract. Assumes nothing.
use mathlib.Core.Path.{sym}
use Rattle.map_check.proofs.NameLaws.NameLooks.{names_of_map}
use Rattle.map_check.proofs.names.names_field.Goals as goal

pub returns : goal.returns
returns c = names_of_map _ _ _ _ _ _ _ (sym c.in_ok-e.ensures) c.part_of.ensures c.new-fields.ensures c.find_names.ensures
