-- `temporal::domain::in_clock` meets its contract. Assumes nothing.
use mathlib.Core.Path.{sym, ◌∙◌}
use Rattle.temporal.proofs.Ranges.{clock_same, judged_ok}
use Rattle.temporal.proofs.domain.in_clock.Goals as goal

pub returns : goal.returns
returns c =
    let x = c.check_clock.ensures in
    c.is_ok.ensures.value
    ∙ rw (c.from.ensures, c.from-2.ensures, c.from-3.ensures, c.from-4.ensures) at (judged_ok _ _ x.clear x.first)
    ∙ sym (clock_same c.args.top c.args.h c.args.m c.args.s c.args.u)
