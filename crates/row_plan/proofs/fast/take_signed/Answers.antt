-- `row_plan::fast::take_signed` meets its contract. Assumes nothing.
use Prim.Native.Nat.{ℕ, ◌^◌}
use mathlib.Core.Path.{ap, ◌∙◌}
use Rattle.wire.specs.Signed.{signed_of, twos_of}
use Rattle.row_plan.proofs.FastLaws.{took_signed}
use Rattle.row_plan.proofs.fast.take_signed.Goals as goal

pub returns : goal.returns
returns c =
    took_signed c.args.width.bytes _ c.args.width.few (c.widened.ensures ∙ ap (λ (n : ℕ). twos_of (2 ^ 64) (signed_of (256 ^ c.args.width.bytes) n)) c.low.ensures.0)
    c.one.ensures
