-- Which events a writer could have written: "exactly if the id had 6 bytes, skipped bytes were zero and both packed integers shortest".
-- Assumes nothing.
use Rattle.std.specs.Prelude.{ℕ, ◌+◌, ◌≡◌, List, length, get_or}
use Rattle.wire.specs.Packed.{packed_bytes}
use Rattle.wire.specs.Parts.{part_of}
use Rattle.table_map.specs.declared.event.Event.{Event}
use Rattle.table_map.specs.Events.{id_bytes}
use Rattle.table_map.specs.Writes.{EventParts, event_parts}

-- an event's parts, cut out of the bytes that it was read from
abbrev pub event_parts_of : List ℕ → Event → EventParts
event_parts_of s e =
    event_parts e.id e.flags (part_of s e.database) (part_of s e.table) (part_of s e.types) (part_of s e.metadata)
    (part_of s e.bits) (part_of s e.optional)

pub record Canonical (s : List ℕ) (post_header : ℕ) (e : Event) : Type 0 where
  pub id : id_bytes post_header ≡ 6
  -- the skipped bytes stand right behind the names
  pub database : get_or s (e.database.start + e.database.len) 0 ≡ 0
  pub table : get_or s (e.table.start + e.table.len) 0 ≡ 0
  -- the count stands behind the second skipped byte, the metadata's length behind the types
  pub count : e.types.start ≡ e.table.start + e.table.len + 1 + length (packed_bytes e.types.len)
  pub metadata : e.metadata.start ≡ e.types.start + e.types.len + length (packed_bytes e.metadata.len)
