-- `table_map::write::Parts::write` meets its contract. Assumes nothing.
use Rattle.std.proofs.Common.{arith, sym, refl}
use Rattle.std.proofs.lemmas.Result.{err_from_is_err_and}
use Rattle.table_map.specs.Inner.Writes.{lent}
use Rattle.table_map.proofs.Puts.{taken, sized, not_sized, no_room_for, event_put, event_length, column_length, head_length, after_put, then}
use Rattle.table_map.proofs.write.Parts.write.Goals as goal

pub returns-in_err-size : goal.returns-in_err-size
returns-in_err-size c =
    let r = err_from_is_err_and c.from_residual.result c.from_residual.ensures.1 in
    rw (not_sized (lent c.args.self) c.args.buf.now _ (omega arith) (sym c.in_err-size.ensures), r.1, r.2)
    (record { result_value = refl; buf_after = refl })

pub returns-then-buf-size : goal.returns-then-buf-size
returns-then-buf-size c =
    rw (no_room_for (lent c.args.self) c.args.buf.now _ (omega arith) (sym c.in_ok-size.ensures), c.refuse.ensures)
    (record { result_value = refl; buf_after = refl })

pub put_head-behind-requires : goal.put_head-behind-requires
put_head-behind-requires c =
    let p = lent c.args.self in
    let y = sized p _ (sym c.in_ok-size.ensures) in
    let k = taken p y.0 in
    (k.database, k.table, omega (arith, y.1, event_length p))

pub put_columns-requires : goal.put_columns-requires
put_columns-requires c =
    let p = lent c.args.self in
    let y = sized p _ (sym c.in_ok-size.ensures) in
    omega (arith, y.1, event_length p, column_length p.types p.metadata p.bits p.optional, head_length p.id p.flags p.database p.table, after_put c.put_head-behind.ensures)

pub returns : goal.returns
returns c =
    rw (event_put (lent c.args.self) c.args.buf.now _ _ _ (sym c.in_ok-size.ensures)
    (then c.put_head-behind.ensures c.put_columns.ensures))
    (record { result_value = refl; buf_after = refl })
