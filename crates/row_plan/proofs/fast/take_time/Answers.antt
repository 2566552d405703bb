-- `row_plan::fast::take_time` meets its contract. Assumes nothing.
use Prim.Native.Nat.{◌^◌}
use mathlib.Core.Path.{refl, sym, ◌∙◌}
use borrow.Author.Rules.{rules}
use lib.Dec.{ltb}
use Rattle.value_parts.proofs.Takes.{as_number}
use Rattle.wire.proofs.Eight.{be_eight}
use Rattle.row_plan.proofs.FastLaws.{took_time}
use Rattle.row_plan.proofs.fast.take_time.Goals as goal

pub returns : goal.returns
returns c = let w = c.of_digits-width in
    took_time c.args.digits w.result.bytes (w.ensures, w.result.few) _ (c.from_be_bytes.ensures ∙ be_eight _ (search rules)) _ _ _ _ _ c.kept-packed.ensures
    c.abs_diff-off.ensures refl c.micros-usec.ensures (sym c.is_clock.ensures ∙ c.if-not-is_clock.false)
    (c.from.ensures ∙ as_number (ltb c.kept-packed.result (2 ^ 47))) refl
