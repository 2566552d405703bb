-- `output::put_line`: to put a number is to put the first of those that are left. Assumes nothing.
use Prim.Native.Nat.{◌+◌, ◌-◌}
use mathlib.Core.List.{List}
use mathlib.Core.Path.{ap, ◌∙◌, sym}
use Prim.Native.Nat.{ℕ}
use native.Mathlib.Omega.{arith}
use lib.ListN.{length, drop, get_or, length-append}
use Rattle.wire.specs.Stored.{stored}
use Rattle.profile.specs.Text.{behind, line}
use Rattle.profile.proofs.Lines.{number, behind_it, none_left, line_step, line_end}
use Rattle.profile.proofs.output.put_line.Goals as goal

pub put_number-next-requires : goal.put_number-next-requires
put_number-next-requires c =
    let l = c.loop-i in
    let ns = c.args.numbers.now in
    let v = number (get_or ns l.i 0) (behind (length ns - l.i - 1)) in
    let e = ap length (line_step ns l.i (omega arith)) ∙ length-append v (line (drop (l.i + 1) ns)) in
    rw c.end_of-end.ensures (omega (arith, e, l.invariant.2.0))

pub loop-i-preserved : goal.loop-i-preserved
loop-i-preserved c =
    let l = c.loop-i in
    let ns = c.args.numbers.now in
    let s = line_step ns l.i (omega arith) in
    let v = number (get_or ns l.i 0) (behind (length ns - l.i - 1)) in
    let w = line (drop (l.i + 1) ns) in
    let e = ap length s ∙ length-append v w in
    let q = c.put_number-next.ensures in
    let b = behind_it v w l.out _ l.next _ (omega (arith, e, l.invariant.2.0))
    (rw c.end_of-end.ensures at q.value, rw c.end_of-end.ensures at q.out_after) in (
      omega arith,
      omega (arith, c.put_number-next.auto.out),
      (
        b.0 ∙ ap (λ (t : List ℕ). l.next + length t) (sym s) ∙ l.invariant.2.0,
        b.1 ∙ ap (λ (t : List ℕ). stored t l.out l.next) (sym s) ∙ l.invariant.2.1,
      ),
    )

pub returns-clause-out_after : goal.returns-clause-out_after
returns-clause-out_after c =
    let e = line_end c.args.numbers.now c.loop-i.i (omega arith) in
    let p = none_left _ _ _ _ (rw e at c.loop-i.invariant.2) in
    p.1
