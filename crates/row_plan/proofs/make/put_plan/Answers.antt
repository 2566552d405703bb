use mathlib.Core.Path.{sym, ap, ◌∙◌}
use Rattle.value.specs.Columns.{shape_of}
use Rattle.value.specs.Ops.{op_of}
use Rattle.record.specs.Entries.{column_of}
use Rattle.image.specs.Present.{shape_at}
use Rattle.row_plan.proofs.Puts.{skip, put}
use Rattle.row_plan.proofs.make.put_plan.Goals as goal

pub loop-column-preserved-then-not-bit_lsb0 : goal.loop-column-preserved-then-not-bit_lsb0
loop-column-preserved-then-not-bit_lsb0 c = let a = c.args in
    skip a.profile.now a.presence.now a.columns _ _ c.loop-column.at c.loop-column.column c.loop-column.invariant c.loop-column-test.true
    (sym c.bit_lsb0.ensures ∙ c.if-not-bit_lsb0.true)

pub loop-column-preserved : goal.loop-column-preserved
unfolding shape_at
loop-column-preserved c = let a = c.args in
    put a.profile.now a.presence.now a.columns _ _ c.loop-column.at c.loop-column.column _ _ c.loop-column.invariant c.loop-column-test.true
    (sym c.bit_lsb0.ensures ∙ c.if-not-bit_lsb0.false)
    (c.op_of.ensures ∙ ap op_of (c.shape_of.ensures ∙ ap shape_of (c.column_of-stored.ensures ∙ ap column_of c.entry_in.ensures)))
    c.put_item.ensures
