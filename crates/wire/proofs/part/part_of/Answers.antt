-- `wire::part::part_of` meets its contract. Assumes nothing.
use Prim.Native.Nat.{◌+◌, ◌-◌, ◌≤◌}
use mathlib.Core.Path.{◌≡◌, sym, ◌∙◌}
use native.Mathlib.Omega.{arith}
use lib.ListN.{length}
use Rattle.wire.proofs.Stores.{room}
use Rattle.wire.proofs.part.part_of.Goals as goal

pub overflow_add-end : goal.overflow_add-end
overflow_add-end c =
    let a = c.args in
    let r : a.part.start + a.part.len ≤ length a.s.now =
    room _ _ _ _ c.has_room.ensures c.if-has_room.true in
    omega arith

pub slice_bounds-result-end : goal.slice_bounds-result-end
slice_bounds-result-end c =
    let a = c.args in
    let r : a.part.start + a.part.len ≤ length a.s.now =
    room _ _ _ _ c.has_room.ensures c.if-has_room.true in
    omega arith

pub returns-then-has_room : goal.returns-then-has_room
returns-then-has_room c =
    let p = c.args.part in
    let e : p.start + p.len - p.start ≡ p.len = omega arith in
    rw (sym c.has_room.ensures ∙ c.if-has_room.true, e)

pub returns : goal.returns
returns c = rw (sym c.has_room.ensures ∙ c.if-has_room.false)
