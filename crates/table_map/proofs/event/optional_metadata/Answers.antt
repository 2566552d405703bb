-- `table_map::event::optional_metadata` meets its contract. Assumes nothing.
use mathlib.Core.Path.{refl, ◌∙◌}
use Rattle.table_map.specs.declared.event.Event.{Event}
use Rattle.table_map.proofs.Chains.{lent_is_part}
use Rattle.table_map.proofs.event.optional_metadata.Goals as goal

pub returns : goal.returns
returns c = let a = c.args in
    c.part_of.ensures ∙ rw c.event_or_none.ensures
    (lent_is_part (λ (e : Event). e.optional) refl a.event.now a.post_header (λ e w. w.optional))
