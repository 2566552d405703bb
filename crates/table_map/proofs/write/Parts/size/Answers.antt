-- `table_map::write::Parts::size` meets its contract. The loop's invariant: the sum so far. Assumes nothing.
use Rattle.std.proofs.Common.{arith, sym, refl, ap, ◌∙◌, ◌≡◌, ◌^◌, ◌≤◌, length, take, true}
use Rattle.std.proofs.lemmas.List.{take_all}
use Rattle.std.proofs.lemmas.Result.{err_from_is_err_and}
use Rattle.wire.specs.Outcome.{refused}
use Rattle.table_map.specs.Writes.{is_event, event_bytes}
use Rattle.table_map.specs.Inner.Writes.{lent}
use Rattle.table_map.proofs.Puts.{lengths, lengths_total, total_more, size_over, size_is}
use Rattle.table_map.proofs.write.Parts.size.Goals as goal

pub loop-n-init : goal.loop-n-init
loop-n-init c = (rw (c.packed_size.ensures, c.packed_size-2.ensures), omega arith, refl)

pub loop-n-preserved : goal.loop-n-preserved
loop-n-preserved c =
    let k = rw c.in_ok-size.ensures.ok_part at c.checked_add.ensures in
    let m = total_more c.loop-n.n-index c.loop-n.invariant.0 c.loop-n-test.true in
    (c.loop-n.invariant.0, omega (arith, k), omega (arith, k.1, m.0, c.loop-n.invariant.2))

pub returns-in_err-size : goal.returns-in_err-size
returns-in_err-size c =
    let p = lent c.args.self in
    let k = rw c.in_err-size.ensures.ok_part at c.checked_add.ensures in
    let m = total_more c.loop-n.n-index c.loop-n.invariant.0 c.loop-n-test.true in
    let t : is_event p ≡ true = sym c.are_taken.ensures ∙ c.if-not-are_taken.false in
    let h : 2 ^ 64 ≤ length (event_bytes p) = omega (arith, k, m.1, c.loop-n.invariant.2, lengths_total p) in
    let r = err_from_is_err_and c.from_residual.result c.from_residual.ensures.1 in
    rw (size_over p t h, r.1, r.2)
    ((rw c.in_err-size.ensures.ok_part at c.in_err-size.ensures.value) ∙ ap refused c.refuse-in-loop-n.ensures)

pub returns : goal.returns
returns c =
    let p = lent c.args.self in
    let t : is_event p ≡ true = sym c.are_taken.ensures ∙ c.if-not-are_taken.false in
    let i : take c.loop-n.n-index (lengths p) ≡ lengths p = take_all _ (lengths p) c.loop-n-test.false in
    sym (size_is p _ t (sym (lengths_total p) ∙ sym (rw i at c.loop-n.invariant.2)) c.loop-n.invariant.1)
