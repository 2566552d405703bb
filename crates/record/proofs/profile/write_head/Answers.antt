-- `record::profile::write_head` meets its contract. Assumes nothing.
use mathlib.Core.Path.{ap, ◌∙◌}
use native.Mathlib.Omega.{arith}
use Rattle.record.specs.Records.{kind_for, entry_place}
use Rattle.record.proofs.Heads.{head_is}
use Rattle.record.proofs.Places.{place_is}
use Rattle.record.proofs.profile.write_head.Goals as goal

pub returns : goal.returns
returns c =
    let size = c.entry_at.ensures ∙ ap entry_place c.from-columns.ensures ∙ place_is c.args.n (omega arith) in
    let kind = c.kind_for.ensures ∙ ap kind_for c.from-columns.ensures in
    rw (head_is c.args.n _ _ size kind) (rw (c.to_le_bytes.ensures, c.to_le_bytes-2.ensures) at c.write_bytes.ensures)
