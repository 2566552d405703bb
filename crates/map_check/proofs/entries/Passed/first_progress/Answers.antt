-- `map_check::entries::Passed::first_progress` meets its contract. Assumes nothing.
use Rattle.std.proofs.Common.{rules}
use mathlib.Core.Path.{◌≡◌, refl}
use Rattle.map_check.specs.Ranks.{no_ranks}
use native.Mathlib.Omega.{arith}
use Rattle.map_check.proofs.ColumnLaws.Counts.{at_most_none}
use Rattle.map_check.proofs.entries.Passed.first_progress.Goals as goal

pub returns : goal.returns
returns c =
    let e : c.default.result ≡ no_ranks = search rules in
    rw e
    (record {
      metadata =
          refl;
      ranks =
          refl;
      ready =
          record {
            ranks =
                at_most_none;
            metadata = omega arith;
            characters = c.first_charset.ensures;
            choices = c.first_charset-2.ensures;
          };
    })
