-- `map_check::entries::Passed::next_entry` meets its contract. Assumes nothing.
use mathlib.Core.Path.{refl, ◌∙◌}
use native.Mathlib.Omega.{arith}
use lib.ListN.{get_or}
use Rattle.value.specs.Types.{family_of}
use Rattle.map_check.proofs.ColumnLaws.Declares.{cut_capped}
use Rattle.map_check.proofs.ColumnLaws.Counts.{at_most_wider}
use Rattle.map_check.proofs.EntryLaws.Making.{few_metadata, came}
use Rattle.map_check.proofs.entries.Passed.next_entry.Goals as goal

pub overflow_add-result : goal.overflow_add-result
overflow_add-result c =
    omega (
      arith,
      c.requires.0,
      c.requires.1,
      c.requires.2.metadata,
      c.metadata_bytes.ensures,
      few_metadata (family_of (get_or c.args.self.now.types.now c.args.place.0 0)),
    )

pub ranks_after-requires : goal.ranks_after-requires
ranks_after-requires c =
    at_most_wider (omega (
      arith,
      c.requires.0,
      c.requires.1,
    ))
    c.requires.2.ranks

pub returns : goal.returns
returns c =
    let a =
    c.args in
    came a.self.now.dialect a.self.now.event.now a.self.now.facts a.self.now.types.now a.self.now.metadata.now a.place.0 a.progress
    c.declare-column.result
    c.charset_if-character.result
    c.charset_if-choice.result _
    c.requires.0
    c.requires.2
    (record {
      column = c.declare-column.ensures ∙ rw (cut_capped c.args.progress.metadata c.min.result c.args.self.now.metadata.now c.min.ensures);
      character =
          rw (← c.has_charset-counted.ensures)
          c.charset_if-character.ensures;
      choice =
          rw (← c.is_enum_or_set-chosen.ensures)
          c.charset_if-choice.ensures;
      entry =
          c.entry_with.ensures
          ∙ rw c.pick_charset-charset.ensures;
      metadata = rw c.metadata_bytes.ensures;
      ranks = c.ranks_after.ensures;
      characters = refl;
      choices = refl;
    })
