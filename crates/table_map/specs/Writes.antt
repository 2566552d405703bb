-- The event written: "The writer uses a 6-byte id, zero skipped bytes, and takes ids below 2^48, names to 255 bytes, exactly ceil(n/8)
-- bytes of bits." Assumes nothing.
use Rattle.std.specs.Prelude.{ℕ, ◌^◌, List, [], ◌∷◌, ◌++◌, Bool, cond, ◌&&◌, length, leb, ltb, eqb}
use Rattle.wire.specs.Bits.{bytes_for}
use Rattle.wire.specs.Outcome.{Outcome, ok, refuse}
use Rattle.wire.specs.Number.{le_bytes}
use Rattle.wire.specs.Packed.{packed_bytes}
use Rattle.wire.specs.Stored.{store}

-- the parts of an event, on paper
pub record EventParts : Type 0 where
  pub id : ℕ
  pub flags : ℕ
  pub database : List ℕ
  pub table : List ℕ
  pub types : List ℕ
  pub metadata : List ℕ
  pub bits : List ℕ
  pub optional : List ℕ

-- the same, from its fields one by one
abbrev pub event_parts : ℕ → ℕ → List ℕ → List ℕ → List ℕ → List ℕ → List ℕ → List ℕ → EventParts
event_parts id flags database table types metadata bits optional =
    record {
      id = id;
      flags = flags;
      database = database;
      table = table;
      types = types;
      metadata = metadata;
      bits = bits;
      optional = optional;
    }

-- a name behind its length, and the zero byte behind it
unfoldable pub name_bytes : List ℕ → List ℕ
name_bytes name = length name ∷ (name ++ (0 ∷ []))

-- the bytes of an event
unfoldable pub event_bytes : EventParts → List ℕ
unfolding le_bytes name_bytes packed_bytes
event_bytes parts =
    le_bytes 6 parts.id
    ++ (le_bytes 2 parts.flags
    ++ (name_bytes parts.database
    ++ (name_bytes parts.table
    ++ (packed_bytes (length parts.types)
    ++ (parts.types
    ++ (packed_bytes (length parts.metadata)
    ++ (parts.metadata
    ++ (parts.bits
    ++ parts.optional))))))))

-- what the writer takes
unfoldable pub is_event : EventParts → Bool
is_event parts =
    ltb parts.id (2 ^ 48)
    && (leb (length parts.database) 255
    && (leb (length parts.table) 255
    && eqb (length parts.bits) (bytes_for (length parts.types))))

unfoldable pub write_event : EventParts → List ℕ → Outcome (ℕ × List ℕ)
unfolding is_event event_bytes store
write_event parts buf = cond (is_event parts) (store (event_bytes parts) buf 0) (refuse 13 0)

-- how many bytes it writes; a size that no machine number holds is refused as the writer refuses it, for no buffer has so many
unfoldable pub event_size : EventParts → Outcome ℕ
unfolding is_event event_bytes
event_size parts =
    cond (is_event parts)
    (cond (ltb (length (event_bytes parts)) (2 ^ 64)) (ok (length (event_bytes parts))) (refuse 8 0))
    (refuse 13 0)
