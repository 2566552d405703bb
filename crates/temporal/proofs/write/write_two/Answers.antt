-- `temporal::write::write_two` meets its contract. There is room for both runs of bytes, so both are written, and two writes in a row are
-- one. Assumes nothing.
use native.Mathlib.Omega.{arith}
use mathlib.Core.Path.{◌≡◌, sym}
use Prim.Native.Nat.{ℕ, ◌+◌, ◌≤◌, min}
use lib.ListN.{length, length-append}
use mathlib.Core.List.{List, ◌++◌}
use native.Mathlib.Nat.{min-eq_left}
use Rattle.wire.specs.Number.{be_bytes}
use Rattle.wire.proofs.Bytes.{be_bytes_length}
use Rattle.wire.specs.Outcome.{ok}
use Rattle.wire.specs.Stored.{store, stored}
use Rattle.wire.proofs.Outcomes.{ok_not_refused, same_ok}
use Rattle.wire.proofs.Stores.{room, no_room, store_fits, not_wrote, wrote_two}
use Rattle.temporal.proofs.write.write_two.Goals as goal

-- the whole part is written, since both fit
first : (d : List ℕ) (at k w v : ℕ) → k ≤ 8 → at + (k + w) ≤ length d
    → store (be_bytes (min k 8) v) d at ≡ ok (at + k, stored (be_bytes k v) d at)
first d at k w v h l =
    let n = be_bytes_length k v in
    let e = store_fits d (be_bytes k v) at (omega arith) in
    rw (min-eq_left h) (rw n at e)

pub returns-then-not-has_room : goal.returns-then-not-has_room
returns-then-not-has_room c = let a = c.args in
    let x = be_bytes a.k a.whole in
    let y = be_bytes a.width.bytes a.units in
    let n : length (x ++ y) ≡ a.k + a.width.bytes = rw (length-append, be_bytes_length a.k a.whole, be_bytes_length a.width.bytes a.units) in
    let l =
    no_room _ _ _ _ c.has_room.ensures (c.if-not-has_room.true) in
    let p = not_wrote a.buf.now (x ++ y) a.at (a.k + a.width.bytes) _ n l c.refuse.ensures in record { result_value = p.0; buf_after = p.1 }

pub returns-in_err-middle : goal.returns-in_err-middle
returns-in_err-middle c =
    let a = c.args in
    let l = room _ _ _ _ c.has_room.ensures (c.if-not-has_room.false) in
    let e = first a.buf.now a.at a.k a.width.bytes a.whole c.requires l in
    absurd (ok_not_refused (sym (rw e at c.in_err-middle.ensures.result_value)))

pub returns : goal.returns
returns c = let a = c.args in
    let x = be_bytes a.k a.whole in
    let y = be_bytes a.width.bytes a.units in
    let n = be_bytes_length a.k a.whole in
    let m = be_bytes_length a.width.bytes a.units in
    let l : a.at + (a.k + a.width.bytes) ≤ length a.buf.now =
    room _ _ _ _ c.has_room.ensures
    (c.if-not-has_room.false) in
    let e = first a.buf.now a.at a.k a.width.bytes a.whole c.requires l in
    let i : c.in_ok-middle.middle ≡ a.at + a.k = same_ok (rw e at c.in_ok-middle.ensures.result_value) in
    let few = a.width.few in
    let k : min a.k 8 ≡ a.k = omega arith in
    let w : min a.width.bytes 8 ≡ a.width.bytes = omega arith in
    let p = wrote_two a.buf.now x y _ _ a.at a.k c.write_be-2.result n (omega arith)
    (rw k at c.in_ok-middle.ensures.buf_after)
    (rw (w, i) at c.write_be-2.ensures.result_value, rw (w, i) at c.write_be-2.ensures.buf_after) in record { result_value = p.0; buf_after = p.1 }
