use mathlib.Core.Path.{sym, ap, ◌∙◌}
use native.Mathlib.Omega.{arith}
use lib.ListN.{length, length-drop}
use Rattle.std.proofs.lemmas.Result.{err_from_is_err_and}
use Rattle.row_plan.proofs.Goes.{row_end, row_null, row_read, rest_is}
use Rattle.row_plan.proofs.RunLaws.{gate_refused, gate_open}
use Rattle.row_plan.proofs.row.RowCursor.step.Goals as goal

pub returns-in_err-test_image : goal.returns-in_err-test_image
returns-in_err-test_image c = let a = c.args in let s = a.self in
    let i = rest_is a.images.now s.start _ c.min.ensures in
    let n = ap length i ∙ length-drop s.start a.images.now in
    let p = err_from_is_err_and c.from_residual.result c.from_residual.ensures.1 in
    rw (p.1, p.2) (sym (gate_refused a.plan.now a.images.now s _ (rw n at (sym c.in_err-test_image.ensures))))

pub returns-then-item-items : goal.returns-then-item-items
returns-then-item-items c = let a = c.args in let s = a.self in
    let i = rest_is a.images.now s.start _ c.min.ensures in
    let n = ap length i ∙ length-drop s.start a.images.now in
    let t = gate_open _ _ s (sym c.in_ok-test_image.ensures) in
    sym (row_end a.plan.now a.images.now s i t.0 (omega (arith, t.1, n)) (omega (arith, t.2, n)) c.if-item-items.true)

pub returns-then-bit_lsb0 : goal.returns-then-bit_lsb0
returns-then-bit_lsb0 c = let a = c.args in let s = a.self in
    let i = rest_is a.images.now s.start _ c.min.ensures in
    let n = ap length i ∙ length-drop s.start a.images.now in
    let t = gate_open _ _ s (sym c.in_ok-test_image.ensures) in
    sym (row_null a.plan.now a.images.now s i t.0 (omega (arith, t.1, n)) (omega (arith, t.2, n)) (omega (arith, t.0, c.if-item-items.false))
    c.column_at-column.ensures (sym c.bit_lsb0.ensures ∙ c.if-bit_lsb0.true))

pub returns-in_err-value : goal.returns-in_err-value
returns-in_err-value c = let a = c.args in let s = a.self in
    let i = rest_is a.images.now s.start _ c.min.ensures in
    let n = ap length i ∙ length-drop s.start a.images.now in
    let t = gate_open _ _ s (sym c.in_ok-test_image.ensures) in
    let p = err_from_is_err_and c.from_residual-in_err-value.result c.from_residual-in_err-value.ensures.1 in
    rw (p.1, p.2) (sym (row_read a.plan.now a.images.now s i t.0 (omega (arith, t.1, n)) (omega (arith, t.2, n))
    (omega (arith, t.0, c.if-item-items.false)) c.column_at-column.ensures (sym c.bit_lsb0.ensures ∙ c.if-bit_lsb0.false)
    c.in_err-value.ensures))

pub returns : goal.returns
returns c = let a = c.args in let s = a.self in
    let i = rest_is a.images.now s.start _ c.min.ensures in
    let n = ap length i ∙ length-drop s.start a.images.now in
    let t = gate_open _ _ s (sym c.in_ok-test_image.ensures) in
    sym (row_read a.plan.now a.images.now s i t.0 (omega (arith, t.1, n)) (omega (arith, t.2, n))
    (omega (arith, t.0, c.if-item-items.false)) c.column_at-column.ensures (sym c.bit_lsb0.ensures ∙ c.if-bit_lsb0.false)
    c.in_ok-value.ensures)
