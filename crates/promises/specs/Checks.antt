-- The check of a map, in every dialect: it accepts exactly the maps that pass, as `Passes` in map_check lists document 01's rules, and what
-- it writes is the record of their columns, which is valid. `checks` in proofs/Demand3/Checks.antt proves it. Assumes nothing.
use Rattle.std.specs.Prelude.{ℕ, ◌≤◌, ◌<◌, ◌≡◌, true, List, length, take}
use Rattle.wire.specs.declared.refusal.Refusal.{Refusal}
use Rattle.wire.specs.Outcome.{ok, refused, refuse}
use Rattle.wire.specs.Stored.{stored}
use Rattle.value.specs.declared.classes.Dialect.{Dialect}
use Rattle.table_map.specs.declared.event.Event.{Event}
use Rattle.table_map.specs.Events.{read_event}
use Rattle.record.specs.declared.entry.Entry.{Entry}
use Rattle.record.specs.Records.{entry_at, record_bytes, record_valid}
use Rattle.map_check.specs.Check.{check_map, check}
use Rattle.map_check.specs.Passes.{Passes}

pub record Checks : Type 0 where
  -- a map that the check accepts passes, and its entries are those that its columns and fields say
  pub accepted_passes : (d : Dialect) (s : List ℕ) (post_header : ℕ) (es : List Entry) → check_map d s post_header ≡ ok es
      → (e : Event) × (read_event s post_header ≡ ok e) × Passes d s e es
  -- and a map that passes is accepted
  pub passes_accepted : (d : Dialect) (s : List ℕ) (post_header : ℕ) (e : Event) (es : List Entry) → read_event s post_header ≡ ok e
      → Passes d s e es
      → check_map d s post_header ≡ ok es
  -- the record of an accepted map is valid
  pub accepted_valid : (d : Dialect) (s : List ℕ) (post_header : ℕ) (es : List Entry) → check_map d s post_header ≡ ok es
      → record_valid (record_bytes es) ≡ true
  -- it is written whole, at the buffer's start, given room
  pub accepted_written : (d : Dialect) (s : List ℕ) (post_header : ℕ) (buf : List ℕ) (es : List Entry) → check_map d s post_header ≡ ok es
      → entry_at (length es) ≤ length buf → check d s post_header buf ≡ ok (entry_at (length es), stored (record_bytes es) buf 0)
  -- without room, an accepted map is refused with 8 at 0
  pub no_room : (d : Dialect) (s : List ℕ) (post_header : ℕ) (buf : List ℕ) (es : List Entry) → check_map d s post_header ≡ ok es
      → length buf < entry_at (length es) → check d s post_header buf ≡ refuse 8 0
  -- any other map is refused as it is, whatever the room
  pub refused_so : (d : Dialect) (s : List ℕ) (post_header : ℕ) (buf : List ℕ) (w : Refusal) → check_map d s post_header ≡ refused w
      → check d s post_header buf ≡ refused w
  -- and where the call goes well, the map was accepted, and what it left is the record of its entries
  pub checked : (d : Dialect) (s : List ℕ) (post_header : ℕ) (buf : List ℕ) (n : ℕ) (left : List ℕ) → check d s post_header buf ≡ ok (n, left)
      → (es : List Entry) × (check_map d s post_header ≡ ok es) × (n ≡ entry_at (length es)) × (left ≡ stored (record_bytes es) buf 0)
  -- so what the call leaves at the buffer's start is a valid record
  pub checked_valid : (d : Dialect) (s : List ℕ) (post_header : ℕ) (buf : List ℕ) (n : ℕ) (left : List ℕ)
      → check d s post_header buf ≡ ok (n, left)
      → record_valid (take n left) ≡ true
