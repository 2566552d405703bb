-- The event's two round trips through the writer: what was written is read back, part by part; and what was read is written again as it was
-- exactly if the id had 6 bytes, skipped bytes were zero and both packed integers shortest. `events` in proofs/Demand2/Events.antt proves
-- it. Assumes nothing.
use Rattle.std.specs.Prelude.{ℕ, ◌≤◌, ◌<◌, ◌^◌, ◌≡◌, List, length, take}
use Rattle.wire.specs.Outcome.{ok}
use Rattle.wire.specs.Number.{Bytes}
use Rattle.wire.specs.Stored.{stored}
use Rattle.table_map.specs.declared.event.Event.{Event}
use Rattle.table_map.specs.Events.{read_event}
use Rattle.table_map.specs.Writes.{EventParts, event_size, write_event}
use Rattle.table_map.specs.Canonical.{event_parts_of, Canonical}

pub record Events : Type 0 where
  -- what was written is read back with post-header length 8, part by part, and its size was told rightly; numbers and lengths are such as a
  -- machine holds
  pub write_read : (parts : EventParts) (d x : List ℕ) (n : ℕ) → length d < 2 ^ 64 → write_event parts d ≡ ok (n, x)
      → parts.flags < 2 ^ 16 → length parts.types < 2 ^ 64 → length parts.metadata < 2 ^ 64
      → (event_size parts ≡ ok n) × (e : Event) × (read_event (take n x) 8 ≡ ok e) × (event_parts_of (take n x) e ≡ parts)
  -- an event that is as a writer writes it is written again as it was, into any buffer that holds it
  pub read_write : (s d : List ℕ) (post_header : ℕ) (e : Event) → Bytes s → read_event s post_header ≡ ok e → Canonical s post_header e
      → length s ≤ length d → write_event (event_parts_of s e) d ≡ ok (length s, stored s d 0)
  -- and none else is
  pub only_canonical : (s d x : List ℕ) (post_header n : ℕ) (e : Event) → Bytes s → read_event s post_header ≡ ok e
      → write_event (event_parts_of s e) d ≡ ok (n, x) → take n x ≡ s → Canonical s post_header e
