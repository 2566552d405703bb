-- `wire::store::write_bytes` meets its contract. The loop's invariant: the first i bytes are copied. Assumes nothing.
use Rattle.std.proofs.Common.{◌≡◌, ◌≤◌, length}
use lib.Seq.{paste}
use Rattle.wire.proofs.store.write_bytes.Given as goal

abbrev pub invariant-loop-i : goal.invariant-loop-i
invariant-loop-i l = (l.i ≤ length l.bytes) × (length l.buf ≡ length l.initial.buf) × (l.buf ≡ paste l.initial.buf l.at l.bytes l.i)
