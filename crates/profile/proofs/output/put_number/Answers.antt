-- `output::put_number`: the digits are put, and the byte behind them. Assumes nothing.
use mathlib.Core.Path.{ap}
use mathlib.Core.List.{◌∷◌, []}
use native.Mathlib.Omega.{arith}
use lib.ListN.{length, length-append}
use Rattle.profile.specs.Text.{decimal}
use Rattle.profile.proofs.Decimals.{told}
use Rattle.profile.proofs.Lines.{both}
use Rattle.profile.proofs.output.put_number.Goals as goal

pub put_text-next-requires : goal.put_text-next-requires
put_text-next-requires c =
    let d = c.decimal-count in
    let e = told c.args.n d.result _ (omega arith) (d.ensures.len, d.ensures.digits) in
    omega (arith, ap length e, length-append (decimal c.args.n) (c.args.end ∷ []))

pub put_text-requires : goal.put_text-requires
put_text-requires c =
    let d = c.decimal-count in
    let e = told c.args.n d.result _ (omega arith) (d.ensures.len, d.ensures.digits) in
    let l = length-append (decimal c.args.n) (c.args.end ∷ []) in
    omega (arith, c.put_text-next.auto.out, c.put_text-next.ensures.value, ap length e, l)

pub returns-clause-value : goal.returns-clause-value
returns-clause-value c =
    let d = c.decimal-count in
    let e = told c.args.n d.result _ (omega arith) (d.ensures.len, d.ensures.digits) in
    let l = length-append (decimal c.args.n) (c.args.end ∷ []) in
    omega (arith, ap length e, l, c.put_text-next.ensures.value, c.put_text.ensures.value)

pub returns-clause-out_after : goal.returns-clause-out_after
returns-clause-out_after c =
    let a = c.args in
    let d = c.decimal-count in
    let e = told a.n d.result _ (omega arith) (d.ensures.len, d.ensures.digits) in
    let l = length-append (decimal a.n) (a.end ∷ []) in
    let first = c.put_text-next.ensures in
    let p = both (decimal a.n) (a.end ∷ []) a.out.now _ _ a.at _ _ (omega (arith, l)) (rw e at first.value, rw e at first.out_after)
    (c.put_text.ensures.value, c.put_text.ensures.out_after) in
    p.1
