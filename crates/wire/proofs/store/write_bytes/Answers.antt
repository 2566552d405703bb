-- `wire::store::write_bytes` meets its contract. Assumes nothing.
use Rattle.std.proofs.Common.{◌≡◌, ◌∙◌, arith, refl, rules, length, add-one}
use lib.ListN.{length-set}
use lib.Seq.{paste-zero, paste-suc}
use Rattle.wire.specs.Stored.{stored}
use Rattle.wire.proofs.Stores.{wrote, not_wrote, room, no_room, paste_stored}
use Rattle.wire.proofs.store.write_bytes.Goals as goal

pub returns-then-not-has_room : goal.returns-then-not-has_room
returns-then-not-has_room c =
    let a = c.args in
    let p = not_wrote a.buf.now a.bytes.now a.at _ _ refl (no_room _ _ _ _ c.has_room.ensures c.if-not-has_room.true) c.refuse.ensures in
    record { result_value = p.0; buf_after = p.1 }

pub loop-i-init : goal.loop-i-init
loop-i-init c = let a = c.args in
    (omega arith, refl, paste-zero a.buf.now a.at a.bytes.now)

pub loop-i-preserved : goal.loop-i-preserved
loop-i-preserved c =
    let a = c.args in
    let l = c.loop-i in
    let r = room _ _ _ _ c.has_room.ensures c.if-not-has_room.false in (
      search rules,
      simp length-set l.invariant.1,
      rw (add-one, l.invariant.2) (paste-suc a.buf.now a.at a.bytes.now l.i 0 (search rules) (omega (arith, r, c.loop-i-test.true))),
    )

pub returns : goal.returns
returns c =
    let a = c.args in
    let l = c.loop-i in
    let n : l.i ≡ length a.bytes.now = search rules in
    let s : l.buf ≡ stored a.bytes.now a.buf.now a.at = l.invariant.2 ∙ rw n (paste_stored a.buf.now a.at a.bytes.now) in
    let p = wrote a.buf.now a.bytes.now _ a.at _ _ refl (room _ _ _ _ c.has_room.ensures c.if-not-has_room.false) refl s in
    record { result_value = p.0; buf_after = p.1 }
