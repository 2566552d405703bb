-- `temporal::read::judge` meets its contract. Assumes nothing.
use mathlib.Core.Path.{◌∙◌}
use Rattle.temporal.proofs.DirectLaws.{seconds_judged}
use Rattle.temporal.proofs.read.judge.Goals as goal

pub returns-in-Timestamp : goal.returns-in-Timestamp
returns-in-Timestamp c =
    let a = c.args in
    c.my_timestamp_from_binary.ensures
    ∙ seconds_judged a.storage a.stored.width.bytes a.stored.whole a.stored.units c.in-Timestamp.is c.requires.width a.stored.told
