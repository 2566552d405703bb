-- `temporal::domain::in_day` meets its contract. Assumes nothing.
use mathlib.Core.Path.{sym, ◌∙◌}
use Rattle.temporal.proofs.Ranges.{day_same, judged_ok}
use Rattle.temporal.proofs.domain.in_day.Goals as goal

pub returns : goal.returns
returns c =
    let x = c.check_day.ensures in
    c.is_ok.ensures.value
    ∙ rw (c.from.ensures, c.from-2.ensures, c.from-3.ensures) at (judged_ok _ _ x.clear x.first)
    ∙ sym (day_same c.args.y c.args.mo c.args.d)
