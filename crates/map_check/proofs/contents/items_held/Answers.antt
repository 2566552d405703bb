-- `map_check::contents::items_held` meets its contract. Assumes nothing.
use Rattle.std.proofs.Common.{sym, arith}
use Rattle.table_map.proofs.Walks.{item_moves}
use Rattle.map_check.proofs.ContentsLaws.Tallies.{one_held, all_held, one_not_held, none_to_read}
use Rattle.map_check.proofs.contents.items_held.Goals as goal

pub returns-then-not-holds : goal.returns-then-not-holds
returns-then-not-holds g c p f =
    let e = rw c.in-Ok-Some.field-0-is at c.in-Ok-Some.ensures in
    one_not_held c.requires.moves c.loop-item.invariant (sym e) c.if-not-holds.ensures p f

pub overflow_add-count : goal.overflow_add-count
overflow_add-count g c =
    let e = rw c.in-Ok-Some.field-0-is at c.in-Ok-Some.ensures in
    let w = item_moves g.I.ListItem.rule c.requires.moves _ _ _ _ (sym e) in
    omega (arith, c.loop-item.invariant.few, w.0, w.1)

pub loop-item-smaller : goal.loop-item-smaller
loop-item-smaller g c =
    let e = rw c.in-Ok-Some.field-0-is at c.in-Ok-Some.ensures in
    let w = item_moves g.I.ListItem.rule c.requires.moves _ _ _ _ (sym e) in
    omega (arith, w.0, w.1)

pub loop-item-preserved : goal.loop-item-preserved
loop-item-preserved g c =
    let e = rw c.in-Ok-Some.field-0-is at c.in-Ok-Some.ensures in
    one_held c.requires.moves c.loop-item.invariant (sym e) c.if-not-holds.ensures

pub returns-in-Ok-None : goal.returns-in-Ok-None
returns-in-Ok-None g c p f =
    let e = rw c.in-Ok-None.field-0-is at c.in-Ok-None.ensures in
    all_held c.requires.moves c.loop-item.invariant (sym e) p f

pub returns-in-Err : goal.returns-in-Err
returns-in-Err g c p f = none_to_read c.requires.moves c.loop-item.invariant (sym c.in-Err.ensures) p f
