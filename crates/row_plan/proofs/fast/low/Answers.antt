-- `row_plan::fast::low` meets its contract. Assumes nothing.
use mathlib.Core.Path.{sym, ap, ◌∙◌}
use native.Mathlib.Omega.{arith}
use lib.Seq.{take_all}
use Rattle.wire.specs.Number.{le_value}
use Rattle.wire.proofs.Eight.{le_eight}
use Rattle.row_plan.proofs.EightLaws.{low1, low2, low3, low4}
use Rattle.row_plan.proofs.fast.low.Goals as goal

pub returns-in-1 : goal.returns-in-1
returns-in-1 c = let a = c.args in
    let e = c.from_le_bytes-x.ensures ∙ le_eight a.bytes.now c.told-bytes ∙ ap le_value (sym (take_all 8 a.bytes.now (omega (arith, c.told-bytes)))) in
    rw c.in-1.is (low1 a.bytes.now c.fits-bytes 0 _ (omega (arith, c.told-bytes)) e, omega arith)

pub returns-in-2 : goal.returns-in-2
returns-in-2 c = let a = c.args in
    let e = c.from_le_bytes-x.ensures ∙ le_eight a.bytes.now c.told-bytes ∙ ap le_value (sym (take_all 8 a.bytes.now (omega (arith, c.told-bytes)))) in
    rw c.in-2.is (low2 a.bytes.now c.fits-bytes 0 _ (omega (arith, c.told-bytes)) e, omega arith)

pub returns-in-3 : goal.returns-in-3
returns-in-3 c = let a = c.args in
    let e = c.from_le_bytes-x.ensures ∙ le_eight a.bytes.now c.told-bytes ∙ ap le_value (sym (take_all 8 a.bytes.now (omega (arith, c.told-bytes)))) in
    rw c.in-3.is (low3 a.bytes.now c.fits-bytes 0 _ (omega (arith, c.told-bytes)) e, omega arith)

pub returns-in-4 : goal.returns-in-4
returns-in-4 c = let a = c.args in
    let e = c.from_le_bytes-x.ensures ∙ le_eight a.bytes.now c.told-bytes ∙ ap le_value (sym (take_all 8 a.bytes.now (omega (arith, c.told-bytes)))) in
    rw c.in-4.is (low4 a.bytes.now c.fits-bytes 0 _ (omega (arith, c.told-bytes)) e, omega arith)

pub returns-in-8 : goal.returns-in-8
returns-in-8 c = let a = c.args in
    let e = c.from_le_bytes-x.ensures ∙ le_eight a.bytes.now c.told-bytes ∙ ap le_value (sym (take_all 8 a.bytes.now (omega (arith, c.told-bytes)))) in
    rw c.in-8.is (e, c.from_le_bytes-x.type_inv)
