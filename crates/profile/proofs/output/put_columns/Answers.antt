-- `output::put_columns`: to put a column's line is to put the first of those that are left. Assumes nothing.
use Prim.Native.Nat.{ℕ, ◌+◌, ◌-◌}
use mathlib.Core.Path.{ap, ◌∙◌, sym}
use mathlib.Core.List.{List}
use native.Mathlib.Omega.{arith}
use lib.ListN.{length}
use Rattle.wire.specs.Stored.{stored}
use Rattle.record.specs.Records.{entry_in, entries_in}
use Rattle.profile.specs.Text.{column_line, column_lines}
use Rattle.profile.proofs.Lines.{behind_it, none_left, columns_step, columns_end}
use Rattle.profile.proofs.output.put_columns.Goals as goal

pub loop-j-preserved : goal.loop-j-preserved
loop-j-preserved c =
    let l = c.loop-j in
    let r = c.args.profile.now in
    let n = c.args.n in
    let s = columns_step r n l.j (omega arith) in
    let w = column_lines (l.j + 1) (entries_in (n - (l.j + 1)) r (l.j + 1)) in
    let q = c.put_column-len.ensures in
    let len = rw c.entry_in.ensures at q.value in
    let b = behind_it (column_line l.j (entry_in r l.j)) w l.out _ l.len _ (omega (arith, len, q.upper_bound))
    (len, rw c.entry_in.ensures at q.out_after) in (
      omega arith,
      omega (arith, c.put_column-len.auto.out),
      omega (arith, q.upper_bound),
      (
        b.0 ∙ ap (λ (t : List ℕ). l.len + length t) (sym s) ∙ l.invariant.3.0,
        b.1 ∙ ap (λ (t : List ℕ). stored t l.out l.len) (sym s) ∙ l.invariant.3.1,
      ),
    )

pub returns-clause-out_after : goal.returns-clause-out_after
returns-clause-out_after c =
    let l = c.loop-j in
    let e = columns_end c.args.profile.now c.args.n l.j (omega arith) in
    let p = none_left _ _ _ _ (rw e at l.invariant.3) in
    p.1
