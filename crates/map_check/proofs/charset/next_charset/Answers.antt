-- `map_check::charset::next_charset` meets its contract. Assumes nothing.
use mathlib.Core.Path.{◌∙◌}
use Rattle.map_check.proofs.EntryLaws.Cursors.{fits_in_list, fits_in_pairs, taken_in_list, taken_in_pairs}
use Rattle.map_check.proofs.charset.next_charset.Goals as goal

pub next_listed-requires : goal.next_listed-requires
next_listed-requires c =
    rw c.value_in.ensures
    (fits_in_list _ c.args.class.default c.args.class.list _
    c.args.rank.0 c.args.cursor c.in-Some.is
    c.requires)

pub next_paired-requires : goal.next_paired-requires
next_paired-requires c =
    rw c.value_in-in-None.ensures
    (fits_in_pairs _ c.args.class.default c.args.class.list
    c.args.rank.0 c.args.cursor c.in-None.is
    c.requires)

pub returns-in-Some : goal.returns-in-Some
returns-in-Some c =
    taken_in_list _ c.args.class _ _ c.args.cursor _
    c.in-Some.is c.requires
    (c.next_listed.ensures ∙ rw c.value_in.ensures)

pub returns-in-None : goal.returns-in-None
returns-in-None c =
    taken_in_pairs _ c.args.class _ c.args.cursor _
    c.in-None.is c.requires
    (c.next_paired.ensures ∙ rw c.value_in-in-None.ensures)
