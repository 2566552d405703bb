-- `image::put::put_inner` meets its contract. Assumes nothing.
use Rattle.std.proofs.lemmas.Result.{err_from_is_err_and}
use Rattle.wire.specs.Outcome.{ok, refused}
use Rattle.image.proofs.PutLaws.Puts.{put_null, put_value}
use Rattle.image.proofs.put.put_inner.Goals as goal

pub returns-in_err-offset : goal.returns-in_err-offset
returns-in_err-offset c =
    let p = err_from_is_err_and c.from_residual.result c.from_residual.ensures.1 in
    let e = c.in_err-offset.ensures in
    rw (p.1, p.2)
    (put_null _ _ _ _ c.requires c.first_set-column.ensures c.if-column-columns.false c.is_null-null.ensures c.bit_lsb0.ensures
    c.if-null-bit_lsb0.false c.if-null.true (refused c.in_err-offset.field-0.0) _ e.result_value e.buf_after)

pub returns-then-null : goal.returns-then-null
returns-then-null c =
    let e = c.in_ok-offset.ensures in
    put_null _ _ _ _ c.requires c.first_set-column.ensures c.if-column-columns.false c.is_null-null.ensures c.bit_lsb0.ensures
    c.if-null-bit_lsb0.false c.if-null.true (ok c.in_ok-offset.offset) _ e.result_value e.buf_after

pub returns-in_err-offset-2 : goal.returns-in_err-offset-2
returns-in_err-offset-2 c =
    let p = err_from_is_err_and c.from_residual-in_err-offset-2.result c.from_residual-in_err-offset-2.ensures.1 in
    let e = c.in_err-offset-2.ensures in
    rw (p.1, p.2)
    (put_value _ _ _ _ c.requires c.first_set-column.ensures c.if-column-columns.false c.is_null-null.ensures c.bit_lsb0.ensures
    c.if-null-bit_lsb0.false c.if-null.false c.column_in-stored.ensures (refused c.in_err-offset-2.field-0.0) _ e.result_value e.buf_after)

pub returns : goal.returns
returns c =
    let e = c.in_ok-offset-2.ensures in
    put_value _ _ _ _ c.requires c.first_set-column.ensures c.if-column-columns.false c.is_null-null.ensures c.bit_lsb0.ensures
    c.if-null-bit_lsb0.false c.if-null.false c.column_in-stored.ensures (ok c.in_ok-offset-2.offset) _ e.result_value e.buf_after
