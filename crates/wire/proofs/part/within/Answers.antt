-- `wire::part::within` meets its contract. Assumes nothing.
use Prim.Native.Nat.{◌+◌, ◌≤◌}
use mathlib.Core.Path.{sym, ◌∙◌}
use native.Mathlib.Omega.{arith}
use lib.ListN.{length}
use Rattle.wire.specs.Parts.{within}
use Rattle.wire.proofs.Stores.{room}
use Rattle.wire.proofs.part.within.Goals as goal

pub overflow_add-next : goal.overflow_add-next
overflow_add-next c =
    let a = c.args in
    let r : a.at + a.n ≤ length a.s.now = room _ _ _ _ c.has_room.ensures c.if-has_room.true in
    omega arith

pub returns-then-has_room : goal.returns-then-has_room
unfolding within
returns-then-has_room c = rw (sym c.has_room.ensures ∙ c.if-has_room.true)

pub returns : goal.returns
unfolding within
returns c = rw (sym c.has_room.ensures ∙ c.if-has_room.false, c.refuse.ensures)
