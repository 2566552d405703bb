-- What the code's own writers of an event write, and where. Assumes nothing.
use Rattle.std.specs.Prelude.{ℕ, ◌+◌, ◌≤◌, ◌≡◌, List, ◌++◌, length}
use Rattle.wire.specs.Number.{le_bytes}
use Rattle.wire.specs.Packed.{packed_bytes}
use Rattle.wire.specs.Stored.{stored}
use Rattle.table_map.specs.declared.write.Parts.{Parts}
use Rattle.table_map.specs.Writes.{EventParts, event_parts, name_bytes}

-- the parts that the code was lent
abbrev pub lent : Parts → EventParts
lent p =
    event_parts p.id p.flags p.database.now p.table.now p.types.now p.metadata.now p.bits.now p.optional.now

-- what the inner writers write: the head, and the columns with what is behind them
abbrev pub event_head : ℕ → ℕ → List ℕ → List ℕ → List ℕ
event_head id flags database table = le_bytes 6 id ++ (le_bytes 2 flags ++ (name_bytes database ++ name_bytes table))

abbrev pub column_bytes : List ℕ → List ℕ → List ℕ → List ℕ → List ℕ
column_bytes types metadata bits optional =
    packed_bytes (length types) ++ (types ++ (packed_bytes (length metadata) ++ (metadata ++ (bits ++ optional))))

-- the same of an event's parts
abbrev pub head_of : EventParts → List ℕ
head_of p = event_head p.id p.flags p.database p.table

abbrev pub columns_of : EventParts → List ℕ
columns_of p = column_bytes p.types p.metadata p.bits p.optional

-- x is d with bs in it from `at` on, and `next` the place after them
pub record PutAt (d : List ℕ) (at : ℕ) (bs x : List ℕ) (next : ℕ) : Type 0 where
  pub room : at + length bs ≤ length d
  pub left : x ≡ stored bs d at
  pub next_is : next ≡ at + length bs
