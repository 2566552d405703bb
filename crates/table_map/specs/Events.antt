-- The event, in document 01's order: "Table id: 4 bytes if the post-header length is 6, else 6 bytes. Flags 2. Database name: length byte,
-- bytes, one skipped byte. Table name likewise. Packed column count n; n type bytes; packed length and the metadata; ceil(n/8) bytes of
-- nullable bits, lowest first; the rest is optional metadata. Integers are little-endian." Assumes nothing.
use Rattle.std.specs.Prelude.{ℕ, ◌-◌, List, [], cond, length, take, drop, eqb}
use Rattle.wire.specs.Bits.{bytes_for}
use Rattle.wire.specs.Outcome.{Outcome, ok, refused, after}
use Rattle.wire.specs.Number.{le_value}
use Rattle.wire.specs.Packed.{read_packed}
use Rattle.wire.specs.declared.part.Part.{Part}
use Rattle.wire.specs.Parts.{part, part_of, within}
use Rattle.table_map.specs.declared.event.Event.{Event}
use Rattle.table_map.specs.Parts.{short_part, long_part}

abbrev pub id_bytes : ℕ → ℕ
id_bytes post_header = cond (eqb post_header 6) 4 6

-- the two names, and the place after the byte behind the second
unfoldable pub read_names : List ℕ → ℕ → Outcome (Part × Part × ℕ)
unfolding within short_part
read_names s at =
    after (short_part s at) (λ d.
    after (within s d.1 1 d.1) (λ a.
    after (short_part s a) (λ t.
    after (within s t.1 1 t.1) (λ b.
    ok (d.0, t.0, b)))))

-- types, metadata and nullable bits, and the place after them
unfoldable pub read_columns : List ℕ → ℕ → Outcome (Part × Part × Part × ℕ)
unfolding within long_part read_packed
read_columns s at =
    after (read_packed s at) (λ n.
    after (within s n.1 n.0 n.1) (λ a.
    after (long_part s a) (λ m.
    after (within s m.1 (bytes_for n.0) m.1) (λ b.
    ok (part n.1 n.0, m.0, part m.1 (bytes_for n.0), b)))))

unfoldable pub read_event : List ℕ → ℕ → Outcome Event
unfolding within read_names read_columns le_value
read_event s post_header =
    after (within s 0 (id_bytes post_header) 0) (λ a.
    after (within s a 2 a) (λ b.
    after (read_names s b) (λ x.
    after (read_columns s x.2) (λ y.
    ok (record {
      id = le_value (take a s);
      flags = le_value (take 2 (drop a s));
      database = x.0;
      table = x.1;
      types = y.0;
      metadata = y.1;
      bits = y.2;
      optional = part y.3 (length s - y.3);
    })))))

-- one part of an event, as its bytes: empty where the event is refused
abbrev pub part_in : (Event → Part) → List ℕ → Outcome Event → List ℕ
part_in f s (ok e) = part_of s (f e)
part_in f s (refused r) = []
