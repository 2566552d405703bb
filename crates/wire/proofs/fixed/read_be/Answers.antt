-- `wire::fixed::read_be` meets its contract. Where bytes are missing the number is narrower. Assumes nothing.
use Rattle.std.proofs.Common.{◌≤◌, ◌<◌, ◌+◌, arith, min, length, drop, length-drop}
use Rattle.wire.proofs.Bytes.{wider}
use Rattle.wire.proofs.Stores.{no_room}
use Rattle.wire.proofs.fixed.read_be.Goals as goal

pub returns-then-not-has_room-clause-upper_bound : goal.returns-then-not-has_room-clause-upper_bound
returns-then-not-has_room-clause-upper_bound c =
    let a = c.args in
    let h : length a.s.now < a.at + min a.k 8 = rw (c.min-width.ensures) at (no_room _ _ _ _ c.has_room.ensures c.if-not-has_room.true) in
    let n = length-drop a.at a.s.now in
    wider _ _ _ (rw c.rest.ensures (omega (arith, h, n))) c.be.ensures.1
