-- `wire::packed::write_form` meets its contract. Assumes nothing.
use Rattle.std.proofs.Common.{◌∙◌}
use Rattle.wire.proofs.Eight.{to_le_eight, form_taken}
use Rattle.wire.proofs.packed.write_form.Goals as goal

pub returns : goal.returns
returns c =
    let a = c.args in
    rw (form_taken a.first a.k a.v _ c.requires (c.copy_from_slice.ensures.after ∙ c.to_le_bytes.ensures ∙ to_le_eight a.v)) at c.write_some.ensures
