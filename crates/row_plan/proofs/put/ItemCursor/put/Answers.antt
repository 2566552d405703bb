use mathlib.Core.Path.{sym, ap, ◌∙◌}
use native.Mathlib.Omega.{arith}
use Rattle.std.proofs.lemmas.Result.{err_from_is_err_and}
use Rattle.wire.specs.Outcome.{refused}
use Rattle.row_plan.proofs.Writes.{other_is, wrote_none, put_marked}
use Rattle.row_plan.proofs.Writes.{put_written}
use Rattle.row_plan.proofs.put.ItemCursor.put.Goals as goal

pub returns-then-is_marked : goal.returns-then-is_marked
returns-then-is_marked c = let a = c.args in
    let p = wrote_none a.buf.now
    (put_marked a.plan.now a.nulls.now a.self a.lent.now a.value a.buf.now
    (omega (
      arith,
      c.bytes_for.ensures,
      c.if-nulls-bytes_for.false,
    )) (omega arith) c.column_at-column.ensures
    (other_is a.lent.now a.value c.in_default.not-Null)
    (sym c.bit_lsb0-is_marked.ensures ∙ c.if-is_marked.true) ∙ ap refused (sym c.refuse-then-is_marked.ensures)) in record { result_value = p.0; buf_after = p.1 }

pub returns-in_err-next : goal.returns-in_err-next
returns-in_err-next c = let a = c.args in
    let w = put_written a.plan.now a.nulls.now a.self a.lent.now a.value a.buf.now
    (omega (
      arith,
      c.bytes_for.ensures,
      c.if-nulls-bytes_for.false,
    )) (omega arith) c.column_at-column.ensures
    (other_is a.lent.now a.value c.in_default.not-Null)
    (sym c.bit_lsb0-is_marked.ensures ∙ c.if-is_marked.false)
    c.in_err-next.ensures.result_value c.in_err-next.ensures.buf_after in
    let p = err_from_is_err_and c.from_residual.result c.from_residual.ensures.1 in
    rw (p.1, p.2) (record { result_value = w.0; buf_after = w.1 })

pub returns : goal.returns
returns c = let a = c.args in
    let p = put_written a.plan.now a.nulls.now a.self a.lent.now a.value a.buf.now
    (omega (
      arith,
      c.bytes_for.ensures,
      c.if-nulls-bytes_for.false,
    )) (omega arith) c.column_at-column.ensures
    (other_is a.lent.now a.value c.in_default.not-Null)
    (sym c.bit_lsb0-is_marked.ensures ∙ c.if-is_marked.false)
    c.in_ok-next.ensures.result_value c.in_ok-next.ensures.buf_after in record { result_value = p.0; buf_after = p.1 }
