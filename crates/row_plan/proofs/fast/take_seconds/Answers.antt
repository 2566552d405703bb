-- `row_plan::fast::take_seconds` meets its contract. Assumes nothing.
use mathlib.Core.Path.{refl, ◌∙◌}
use borrow.Author.Rules.{rules}
use native.Mathlib.Omega.{arith}
use Rattle.wire.proofs.Eight.{be_eight}
use Rattle.row_plan.proofs.FastLaws.{took_seconds}
use Rattle.row_plan.proofs.fast.take_seconds.Goals as goal

pub returns : goal.returns
returns c = let w = c.of_digits-width in
    took_seconds c.args.digits w.result.bytes (w.ensures, w.result.few) _ (c.from_be_bytes-x.ensures ∙ be_eight _ (search rules)) _ c.micros-usec.ensures
    (omega (arith, c.if-usec-gt999999.false)) refl
