-- The event's two round trips. Assumes nothing.
use Prim.Native.Nat.{ℕ, ◌+◌, ◌≤◌, ◌<◌, ◌^◌}
use mathlib.Core.Path.{◌≡◌, sym, ap, ◌∙◌}
use mathlib.Core.List.{List}
use native.Mathlib.Omega.{arith}
use lib.ListN.{length, take}
use Rattle.wire.specs.Outcome.{ok}
use Rattle.wire.specs.Number.{Bytes}
use Rattle.wire.specs.Stored.{stored, store}
use Rattle.wire.proofs.Stores.{store_fits}
use Rattle.table_map.specs.declared.event.Event.{Event}
use Rattle.table_map.specs.Events.{read_event}
use Rattle.table_map.specs.Writes.{EventParts, event_size, write_event}
use Rattle.table_map.specs.Canonical.{event_parts_of, Canonical}
use Rattle.table_map.proofs.Trips.{buffer_read, size_written, wrote_event}
use Rattle.table_map.proofs.Canon.{canonical_same, same_canonical, read_taken}
use Rattle.promises.specs.Events.{Events}

written_read : (p : EventParts) (d x : List ℕ) (n : ℕ) → length d < 2 ^ 64 → write_event p d ≡ ok (n, x)
    → p.flags < 2 ^ 16 → length p.types < 2 ^ 64 → length p.metadata < 2 ^ 64
    → (event_size p ≡ ok n) × (e : Event) × (read_event (take n x) 8 ≡ ok e) × (event_parts_of (take n x) e ≡ p)
written_read p d x n l w g h k =
    let r = buffer_read p d x n w g h k in
    (size_written p d x n l w, r.0, r.1, r.2)

read_written : (s d : List ℕ) (post_header : ℕ) (e : Event) → Bytes s → read_event s post_header ≡ ok e → Canonical s post_header e
    → length s ≤ length d → write_event (event_parts_of s e) d ≡ ok (length s, stored s d 0)
unfolding write_event
read_written s d post_header e h r c l =
    let z : 0 + length s ≡ length s = omega arith in
    let t : store s d 0 ≡ ok (length s, stored s d 0) = store_fits d s 0 (omega arith) ∙ ap (λ (n : ℕ). ok (n, stored s d 0)) z in
    rw (read_taken s post_header e h r) (ap (λ (b : List ℕ). store b d 0) (canonical_same s post_header e h r c) ∙ t)

pub events : Events
events = record {
  write_read = written_read;
  read_write = read_written;
  only_canonical = λ s d x post_header n e h r w q.
      same_canonical s post_header e h r (sym (wrote_event (event_parts_of s e) d x n w).3 ∙ q);
}
