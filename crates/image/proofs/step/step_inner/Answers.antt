-- `image::step::step_inner` meets its contract. Assumes nothing.
use Prim.Native.Nat.{◌+◌}
use mathlib.Core.Path.{◌≡◌, sym, ◌∙◌}
use Rattle.std.proofs.Common.{rules}
use Rattle.image.specs.Split.{cursor}
use Rattle.std.proofs.lemmas.Result.{err_from_is_err_and}
use Rattle.wire.specs.Outcome.{ok, refused}
use Rattle.image.proofs.StepLaws.Steps.{step_read}
use Rattle.image.proofs.step.step_inner.Goals as goal

pub returns-in_err-value-clause-result_value : goal.returns-in_err-value-clause-result_value
returns-in_err-value-clause-result_value c =
    let p = err_from_is_err_and c.from_residual.result c.from_residual.ensures.1 in
    rw (p.1, p.2)
    (sym (step_read c.requires c.first_set-column.ensures _ _ c.if-column-columns.false (sym c.bit_lsb0.ensures ∙ c.if-bit_lsb0.false)
    c.column_in.ensures (refused c.in_err-value.field-0.0) c.in_err-value.ensures))

pub returns-clause-result_value : goal.returns-clause-result_value
returns-clause-result_value c =
    let q : c.next-2.result.cursor ≡ cursor (c.first_set-column.result + 1) c.in_ok-value.offset = search rules in
    rw q
    (sym (step_read c.requires c.first_set-column.ensures _ _ c.if-column-columns.false (sym c.bit_lsb0.ensures ∙ c.if-bit_lsb0.false)
    c.column_in.ensures (ok (c.in_ok-value.value, c.in_ok-value.offset)) c.in_ok-value.ensures))
