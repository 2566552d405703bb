-- `row_plan::fast::take_datetime` meets its contract. Assumes nothing.
use mathlib.Core.Path.{refl, sym, ◌∙◌}
use borrow.Author.Rules.{rules}
use native.Mathlib.Omega.{arith}
use Rattle.wire.proofs.Eight.{be_eight}
use Rattle.row_plan.proofs.FastLaws.{took_datetime}
use Rattle.row_plan.proofs.fast.take_datetime.Goals as goal

pub returns : goal.returns
returns c = let w = c.of_digits-width in
    took_datetime c.args.digits w.result.bytes (w.ensures, w.result.few) _ (c.from_be_bytes-x.ensures ∙ be_eight _ (search rules)) _ _
    (omega (arith, c.if-whole-lt-DATETIME_OFS.false)) refl c.micros-usec.ensures (omega (arith, c.if-year-gt9999.false))
    (sym c.is_clock.ensures ∙ c.if-not-is_clock.false) refl
