-- One stored value of any column, through its reader and its writer. c is the column, `place` what a refusal tells, s the bytes that a
-- value is read from at `at`; lent are the bytes beside the value v that is written into buf from `at` on. `values` in
-- proofs/Demand2/Values.antt proves all of it. Assumes nothing.
use Rattle.std.specs.Prelude.{ℕ, ◌+◌, ◌-◌, ◌≤◌, ◌<◌, ◌≡◌, true, List, ◌++◌, length, take, drop}
use Rattle.wire.specs.declared.refusal.Refusal.{Refusal}
use Rattle.wire.specs.declared.part.Part.{Part}
use Rattle.wire.specs.Outcome.{ok, refused, refuse, why, out_of}
use Rattle.wire.specs.Number.{Bytes}
use Rattle.wire.specs.Stored.{stored}
use Rattle.temporal.specs.declared.storage.Storage.{Storage}
use Rattle.temporal.specs.declared.parts.Temporal.{Temporal}
use Rattle.temporal.specs.Domains.{temporal_domain}
use Rattle.temporal.specs.Reading.{temporal_size, temporal_bytes, write_temporal}
use Rattle.value.specs.declared.column.Column.{Column}
use Rattle.value.specs.declared.datum.Value.{Value}
use Rattle.value.specs.declared.datum.Value.TheVariants.{Bytes as BytesAt}
use Rattle.value.specs.Columns.{shape_of, is_taken}
use Rattle.value.specs.Data.{Datum}
use Rattle.value.specs.Domains.{domain}
use Rattle.value.specs.Shapes.{bytes_of, need}
use Rattle.value.specs.Reading.{read_value, placed, datum_of, Fails}
use Rattle.value.specs.Storing.{is_lent, size_of, write_value}
use Rattle.value_parts.specs.Parts.{top_of_bits, is_held}

-- all bytes of a value stand at the head of t, and no value of the column's domain has these
abbrev pub NoValue : Column → List ℕ → Type 0
NoValue c t =
    (need (shape_of c) t ≤ length t) × ((d : Datum) → domain (shape_of c) d ≡ true → bytes_of (shape_of c) d ≡ take (need (shape_of c) t) t → ⊥)

-- a value told of the bytes of s from `at` to `next`: if it is bytes, they are the last of these, and all of them are in s
abbrev pub Within : List ℕ → ℕ → ℕ → Value → Type 0
Within s at next v = (is_lent s v ≡ true) × ((q : Part) → v ≡ BytesAt q → (at ≤ q.start) × (q.start + q.len ≡ next))

-- a value is in the column's domain, and all of its bytes are lent
abbrev pub Takes : Column → List ℕ → Value → Type 0
Takes c lent v = (is_lent lent v ≡ true) × (domain (shape_of c) (datum_of lent v) ≡ true)

-- the bytes that it is stored in
abbrev pub stored_as : Column → List ℕ → Value → List ℕ
stored_as c lent v = bytes_of (shape_of c) (datum_of lent v)

pub record Values : Type 0 where
  -- ---- the reader
  -- every value of a column's domain is read back from its bytes, wherever they stand and whatever stands behind them
  pub read_back : (c : Column) (d : Datum) (place : ℕ) (pre rest : List ℕ) → domain (shape_of c) d ≡ true
      → read_value (shape_of c) place (pre ++ (bytes_of (shape_of c) d ++ rest)) (length pre)
      ≡ ok (placed (length pre + length (bytes_of (shape_of c) d)) d, length pre + length (bytes_of (shape_of c) d))
  -- whatever is read is in the column's domain, and the bytes that it was read from, which are there, are its stored form
  pub read_sound : (c : Column) (place : ℕ) (s : List ℕ) (at : ℕ) (v : Value) (next : ℕ) → Bytes s
      → read_value (shape_of c) place s at ≡ ok (v, next)
      → (domain (shape_of c) (datum_of s v) ≡ true) × (at ≤ next) × (next ≤ length s)
      × (bytes_of (shape_of c) (datum_of s v) ≡ take (next - at) (drop at s))
  -- and a value that is bytes tells where they are: within those that were read, and up to their end
  pub read_lent : (c : Column) (place : ℕ) (s : List ℕ) (at : ℕ) (v : Value) (next : ℕ) → Bytes s
      → read_value (shape_of c) place s at ≡ ok (v, next)
      → Within s at next v
  -- an accepted column's value is refused only where its bytes end early or a part is out of range, and at the place asked for
  pub read_refuses : (c : Column) (place : ℕ) (s : List ℕ) (at : ℕ) (w : Refusal) → is_taken (shape_of c) ≡ true
      → read_value (shape_of c) place s at ≡ refused w → Fails (shape_of c) (drop at s) place w
  -- 9 exactly where its bytes end early
  pub ends_early : (c : Column) (place : ℕ) (s : List ℕ) (at : ℕ) → is_taken (shape_of c) ≡ true
      → (read_value (shape_of c) place s at ≡ refuse 9 place → length (drop at s) < need (shape_of c) (drop at s))
      × (length (drop at s) < need (shape_of c) (drop at s) → read_value (shape_of c) place s at ≡ refuse 9 place)
  -- 10 exactly where they are all there and no value of the domain has them
  pub out_of_range : (c : Column) (place : ℕ) (s : List ℕ) (at : ℕ) → is_taken (shape_of c) ≡ true → Bytes s
      → ((part : ℕ) → read_value (shape_of c) place s at ≡ refused (out_of place part) → NoValue c (drop at s))
      × (NoValue c (drop at s) → (part : ℕ) × (read_value (shape_of c) place s at ≡ refused (out_of place part)))
  -- ---- the writer
  -- every value of the domain is written, given room: its bytes from the place on, and the buffer else as it was
  pub written : (c : Column) (place : ℕ) (lent : List ℕ) (v : Value) (buf : List ℕ) (at : ℕ) → Takes c lent v
      → at + length (stored_as c lent v) ≤ length buf
      → write_value (shape_of c) place lent v buf at ≡ ok (at + length (stored_as c lent v), stored (stored_as c lent v) buf at)
  -- an accepted column refuses 13 for exactly the others
  pub not_taken : (c : Column) (place : ℕ) (lent : List ℕ) (v : Value) (buf : List ℕ) (at : ℕ) → is_taken (shape_of c) ≡ true
      → (write_value (shape_of c) place lent v buf at ≡ refuse 13 place → Takes c lent v → ⊥)
      × ((Takes c lent v → ⊥) → write_value (shape_of c) place lent v buf at ≡ refuse 13 place)
  -- and 8 for room alone
  pub no_room : (c : Column) (place : ℕ) (lent : List ℕ) (v : Value) (buf : List ℕ) (at : ℕ) → is_taken (shape_of c) ≡ true
      → (write_value (shape_of c) place lent v buf at ≡ refuse 8 0 → Takes c lent v × (length buf < at + length (stored_as c lent v)))
      × (Takes c lent v → length buf < at + length (stored_as c lent v) → write_value (shape_of c) place lent v buf at ≡ refuse 8 0)
  -- what was written is read back from there
  pub write_read : (c : Column) (place place' : ℕ) (lent : List ℕ) (v : Value) (buf : List ℕ) (at next : ℕ) (left : List ℕ)
      → write_value (shape_of c) place lent v buf at ≡ ok (next, left)
      → read_value (shape_of c) place' left at ≡ ok (placed next (datum_of lent v), next)
  -- ---- the size
  -- what the writer stores is as long as the size told
  pub size_told : (c : Column) (place : ℕ) (lent : List ℕ) (v : Value) (buf : List ℕ) (at next : ℕ) (left : List ℕ)
      → write_value (shape_of c) place lent v buf at ≡ ok (next, left) → (n : ℕ) × (size_of (shape_of c) place lent v ≡ ok n) × (next ≡ at + n)
  -- a value that has a size is written where there is room for so many bytes, and up to their end; and nowhere else
  pub size_room : (c : Column) (place : ℕ) (lent : List ℕ) (v : Value) (buf : List ℕ) (at n : ℕ) → size_of (shape_of c) place lent v ≡ ok n
      → (at + n ≤ length buf → (left : List ℕ) × (write_value (shape_of c) place lent v buf at ≡ ok (at + n, left)))
      × (length buf < at + n → write_value (shape_of c) place lent v buf at ≡ refuse 8 0)
  -- and a size is refused exactly as the writer refuses, but for room
  pub size_refused : (c : Column) (place : ℕ) (lent : List ℕ) (v : Value) (buf : List ℕ) (at : ℕ) (w : Refusal)
      → (size_of (shape_of c) place lent v ≡ refused w → write_value (shape_of c) place lent v buf at ≡ refused w)
      × (write_value (shape_of c) place lent v buf at ≡ refused w → (w ≡ why 8 0 → ⊥) → size_of (shape_of c) place lent v ≡ refused w)
  -- the size of a storage of temporals is that of each in its domain: it is written where there is room for so many bytes, and nowhere else
  pub temporal_size_lem : (k : Storage) (place : ℕ) (t : Temporal) (buf : List ℕ) (at : ℕ) → temporal_domain k t ≡ true
      → (length (temporal_bytes k t) ≡ temporal_size k)
      × (at + temporal_size k ≤ length buf → write_temporal k place t buf at ≡ ok (at + temporal_size k, stored (temporal_bytes k t) buf at))
      × (length buf < at + temporal_size k → write_temporal k place t buf at ≡ refuse 8 0)
  -- ---- the machine
  -- a value in a column's domain fits the machine's value, at any place that it can tell
  pub held : (c : Column) (d : Datum) (at : ℕ) → domain (shape_of c) d ≡ true → at ≤ top_of_bits 64 → is_held (placed at d) ≡ true
  -- and so does whatever is read
  pub read_held : (c : Column) (place : ℕ) (s : List ℕ) (at : ℕ) (v : Value) (next : ℕ) → Bytes s → length s ≤ top_of_bits 64
      → read_value (shape_of c) place s at ≡ ok (v, next) → is_held v ≡ true
