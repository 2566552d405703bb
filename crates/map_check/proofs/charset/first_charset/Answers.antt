-- `map_check::charset::first_charset` meets its contract. Assumes nothing.
use mathlib.Core.Path.{◌∙◌}
use Rattle.map_check.proofs.EntryLaws.Cursors.{first_in_list, first_in_pairs, first_fits}
use Rattle.map_check.proofs.charset.first_charset.Goals as goal

pub behind_default-requires : goal.behind_default-requires
behind_default-requires c =
    rw c.value_in.ensures
    (first_fits _ c.args.class.default c.requires.size
    c.requires.default)

pub returns-in-Some : goal.returns-in-Some
returns-in-Some c = first_in_list _ c.args.class _ c.in-Some.is c.requires

pub returns-in-None : goal.returns-in-None
returns-in-None c =
    first_in_pairs _ c.args.class _ c.in-None.is
    c.requires (c.behind_default.ensures ∙ rw c.value_in.ensures)
