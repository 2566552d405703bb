-- `value::storing::write_counted` meets its contract. There is room for the length and the bytes, so both are written, and two writes in a
-- row are one. Assumes nothing.
use Prim.Native.Nat.{ℕ, ◌+◌, ◌≤◌, min}
use mathlib.Core.Path.{◌≡◌, sym}
use mathlib.Core.List.{List, ◌++◌}
use native.Mathlib.Nat.{min-eq_left}
use native.Mathlib.Omega.{arith}
use lib.ListN.{length, length-append}
use Rattle.wire.specs.Number.{le_bytes}
use Rattle.wire.specs.Outcome.{ok}
use Rattle.wire.specs.Stored.{store, stored}
use Rattle.wire.proofs.Bytes.{le_bytes_length}
use Rattle.wire.proofs.Outcomes.{ok_not_refused, same_ok}
use Rattle.wire.proofs.Stores.{room, no_room, store_fits, not_wrote, wrote_two}
use Rattle.value.proofs.storing.write_counted.Goals as goal

-- the length is written, since both fit
first : (d : List ℕ) (at k n v : ℕ) → k ≤ 8 → at + (k + n) ≤ length d
    → store (le_bytes (min k 8) v) d at ≡ ok (at + k, stored (le_bytes k v) d at)
first d at k n v h l =
    let z = le_bytes_length k v in
    let e = store_fits d (le_bytes k v) at (omega arith) in
    rw (min-eq_left h) (rw z at e)

pub returns-then-not-has_room : goal.returns-then-not-has_room
returns-then-not-has_room c = let a = c.args in
    let x = le_bytes a.k (length a.bytes.now) in
    let n : length (x ++ a.bytes.now) ≡ a.k + length a.bytes.now = rw (length-append, le_bytes_length a.k (length a.bytes.now)) in
    let l = no_room _ _ _ _ c.has_room.ensures c.if-not-has_room.true in
    let p = not_wrote a.buf.now (x ++ a.bytes.now) a.at _ _ n l c.refuse.ensures in record { result_value = p.0; buf_after = p.1 }

pub returns-in_err-behind : goal.returns-in_err-behind
returns-in_err-behind c =
    let a = c.args in
    let l = room _ _ _ _ c.has_room.ensures c.if-not-has_room.false in
    let e = first a.buf.now a.at a.k (length a.bytes.now) (length a.bytes.now) (omega arith) l in
    absurd (ok_not_refused (sym (rw e at c.in_err-behind.ensures.result_value)))

pub returns : goal.returns
returns c = let a = c.args in
    let b = a.bytes.now in
    let l : a.at + (a.k + length b) ≤ length a.buf.now = room _ _ _ _ c.has_room.ensures c.if-not-has_room.false in
    let e = first a.buf.now a.at a.k (length b) (length b) (omega arith) l in
    let i : c.in_ok-behind.behind ≡ a.at + a.k = same_ok (rw e at c.in_ok-behind.ensures.result_value) in
    let k : min a.k 8 ≡ a.k = omega arith in
    let p = wrote_two a.buf.now (le_bytes a.k (length b)) b _ _ a.at a.k c.write_bytes.result (le_bytes_length a.k (length b)) l
    (rw k at c.in_ok-behind.ensures.buf_after)
    (rw i at c.write_bytes.ensures.result_value, rw i at c.write_bytes.ensures.buf_after) in record { result_value = p.0; buf_after = p.1 }
