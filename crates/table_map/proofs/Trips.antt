-- The event both ways: what is written is read back, part by part, also from the buffer that it was written into. Assumes nothing.
use Prim.Native.Nat.{ℕ, ◌+◌, ◌-◌, ◌^◌, ◌≤◌, ◌<◌}
use mathlib.Core.Path.{◌≡◌, refl, sym, ap, subst, ◌∙◌}
use mathlib.Core.List.{List, [], ◌∷◌, ◌++◌, append_assoc}
use mathlib.Core.Bool.{true}
use native.Mathlib.Nat.{add-zero}
use native.Mathlib.Omega.{arith}
use borrow.Author.Tests.{le-leb, leb-true}
use lib.ListN.{length, get_or, take, drop, length-append, take-append-drop}
use lib.Seq.{length-take-le, take-length, get_or-drop, drop-drop, take_at, drop_at}
use lib.Dec.{leb}
use Rattle.wire.specs.Bits.{bytes_for}
use Rattle.wire.specs.Outcome.{ok, why}
use Rattle.wire.specs.Number.{le_value, le_bytes}
use Rattle.wire.specs.Packed.{read_packed, packed_bytes}
use Rattle.wire.specs.Stored.{store, stored}
use Rattle.wire.specs.Parts.{part, part_of, within}
use Rattle.wire.proofs.Outcomes.{by_test, test_is_ok, ok_not_refused}
use Rattle.wire.proofs.Stores.{stored_part}
use Rattle.wire.proofs.Bytes.{le_bytes_length}
use Rattle.wire.proofs.Inverse.{le_back}
use Rattle.wire.proofs.Forms.{read_back}
use Rattle.table_map.specs.declared.event.Event.{Event}
use Rattle.table_map.specs.Parts.{short_part, long_part}
use Rattle.table_map.specs.Events.{read_names, read_columns, read_event}
use Rattle.table_map.specs.Writes.{EventParts, name_bytes, event_bytes, is_event, write_event, event_size}
use Rattle.table_map.specs.Inner.Writes.{column_bytes}
use Rattle.table_map.specs.Canonical.{event_parts_of}
use Rattle.table_map.proofs.Puts.{taken, size_is}

-- from `at` on, s is rest
pub record From (s : List ℕ) (at : ℕ) (rest : List ℕ) : Type 0 where
  pub is : drop at s ≡ rest
  pub ends : at + length rest ≡ length s

-- ---- what stands at the start of the rest, and what stands behind it
pub from_more : (a b : List ℕ) (n : ℕ) {s : List ℕ} {at : ℕ} → length a ≡ n → From s at (a ++ b) → From s (at + n) b
from_more a b n {s} {at} l f =
    record { is = sym (drop-drop n at s) ∙ ap (drop n) f.is ∙ drop_at a b n l; ends = omega (arith, length-append a b) }

pub from_part : (a b : List ℕ) (n : ℕ) {s : List ℕ} {at : ℕ} → length a ≡ n → From s at (a ++ b) → take n (drop at s) ≡ a
from_part a b n {s} {at} l f = ap (take n) f.is ∙ take_at a b n l

from_within : (a b : List ℕ) (n place : ℕ) {s : List ℕ} {at : ℕ} → length a ≡ n → From s at (a ++ b) → within s at n place ≡ ok (at + n)
unfolding within
from_within a b n place {s} {at} l f =
    let h : at + n ≤ length s = omega (arith, length-append a b) in
    rw (le-leb _ _ h)

pub from_first : (x : ℕ) (b : List ℕ) {s : List ℕ} {at : ℕ} → From s at (x ∷ b) → get_or s at 0 ≡ x
from_first x b {s} {at} f =
    ap (λ (k : ℕ). get_or s k 0) (sym (add-zero at)) ∙ sym (get_or-drop at s 0 0) ∙ ap (λ (l : List ℕ). get_or l 0 0) f.is

from_packed : (v : ℕ) (b : List ℕ) {s : List ℕ} {at : ℕ} → v < 2 ^ 64 → From s at (packed_bytes v ++ b)
    → read_packed s at ≡ ok (v, at + length (packed_bytes v))
from_packed v b {s} {at} h f =
    let n : length (take at s) ≡ at = length-take-le at s (omega arith) in
    let w : take at s ++ (packed_bytes v ++ b) ≡ s = ap (λ (l : List ℕ). take at s ++ l) (sym f.is) ∙ take-append-drop at s in
    ap (λ (l : List ℕ). read_packed l at) (sym w)
    ∙ ap (read_packed (take at s ++ (packed_bytes v ++ b))) (sym n)
    ∙ read_back (take at s) b v h
    ∙ ap (λ (k : ℕ). ok (v, k + length (packed_bytes v))) n

-- ---- names
pub short_back : (name b : List ℕ) {s : List ℕ} {at : ℕ} → From s at (name_bytes name ++ b)
    → (get_or s at 0 ≡ length name)
    × (short_part s at ≡ ok (part (at + 1) (length name), at + 1 + length name))
    × From s (at + 1) (name ++ (0 ∷ b))
    × From s (at + 1 + length name) (0 ∷ b)
unfolding name_bytes short_part
short_back name b {s} {at} f =
    let f₁ : From s (at + 1) ((name ++ (0 ∷ [])) ++ b) = from_more (length name ∷ []) ((name ++ (0 ∷ [])) ++ b) 1 refl f in
    let f₂ : From s (at + 1) (name ++ (0 ∷ b)) = subst (From s (at + 1)) (append_assoc name (0 ∷ []) b) f₁ in
    let g : get_or s at 0 ≡ length name = from_first (length name) ((name ++ (0 ∷ [])) ++ b) f in
    let w₁ : within s at 1 at ≡ ok (at + 1) = from_within (length name ∷ []) ((name ++ (0 ∷ [])) ++ b) 1 at refl f in
    let w₂ : within s (at + 1) (length name) at ≡ ok (at + 1 + length name) = from_within name (0 ∷ b) (length name) at refl f₂ in
    (g, rw (w₁, g, w₂), f₂, from_more name (0 ∷ b) (length name) refl f₂)

pub names_back : (database table b : List ℕ) {s : List ℕ} {at : ℕ} → From s at (name_bytes database ++ (name_bytes table ++ b))
    → (read_names s at ≡ ok (
      part (at + 1) (length database),
      part (at + 1 + length database + 1 + 1) (length table),
      at + 1 + length database + 1 + 1 + length table + 1,
    ))
    × (part_of s (part (at + 1) (length database)) ≡ database)
    × (part_of s (part (at + 1 + length database + 1 + 1) (length table)) ≡ table)
    × From s (at + 1 + length database + 1) (name_bytes table ++ b)
    × From s (at + 1 + length database + 1 + 1 + length table) (0 ∷ b)
unfolding read_names
names_back database table b {s} {at} f =
    let x = short_back database (name_bytes table ++ b) f in
    let m = at + 1 + length database in
    let w₁ : within s m 1 m ≡ ok (m + 1) = from_within (0 ∷ []) (name_bytes table ++ b) 1 m refl x.3 in
    let f₁ : From s (m + 1) (name_bytes table ++ b) = from_more (0 ∷ []) (name_bytes table ++ b) 1 refl x.3 in
    let y = short_back table b f₁ in
    let n = m + 1 + 1 + length table in
    let w₂ : within s n 1 n ≡ ok (n + 1) = from_within (0 ∷ []) b 1 n refl y.3 in (
      rw (x.1, w₁, y.1, w₂),
      from_part database (0 ∷ (name_bytes table ++ b)) (length database) refl x.2,
      from_part table (0 ∷ b) (length table) refl y.2,
      f₁,
      y.3,
    )

-- ---- columns
long_back : (bytes b : List ℕ) {s : List ℕ} {at : ℕ} → length bytes < 2 ^ 64 → From s at (packed_bytes (length bytes) ++ (bytes ++ b))
    → (long_part s at ≡ ok (
      part (at + length (packed_bytes (length bytes))) (length bytes),
      at + length (packed_bytes (length bytes)) + length bytes,
    ))
    × From s (at + length (packed_bytes (length bytes))) (bytes ++ b)
unfolding long_part
long_back bytes b {s} {at} h f =
    let n = at + length (packed_bytes (length bytes)) in
    let r : read_packed s at ≡ ok (length bytes, n) = from_packed (length bytes) (bytes ++ b) h f in
    let g : From s n (bytes ++ b) = from_more (packed_bytes (length bytes)) (bytes ++ b) (length (packed_bytes (length bytes))) refl f in
    let w : within s n (length bytes) at ≡ ok (n + length bytes) = from_within bytes b (length bytes) at refl g in
    (rw (r, w), g)

-- where types, metadata, bits and the rest stand behind `at`
abbrev types_at : ℕ → EventParts → ℕ
types_at at p = at + length (packed_bytes (length p.types))

abbrev metadata_at : ℕ → EventParts → ℕ
metadata_at at p = types_at at p + length p.types + length (packed_bytes (length p.metadata))

abbrev bits_at : ℕ → EventParts → ℕ
bits_at at p = metadata_at at p + length p.metadata

abbrev rest_at : ℕ → EventParts → ℕ
rest_at at p = bits_at at p + bytes_for (length p.types)

columns_back : (p : EventParts) {s : List ℕ} {at : ℕ} → length p.types < 2 ^ 64 → length p.metadata < 2 ^ 64
    → length p.bits ≡ bytes_for (length p.types)
    → From s at (column_bytes p.types p.metadata p.bits p.optional)
    → (read_columns s at
    ≡ ok (
      part (types_at at p) (length p.types),
      part (metadata_at at p) (length p.metadata),
      part (bits_at at p) (bytes_for (length p.types)),
      rest_at at p,
    ))
    × (part_of s (part (types_at at p) (length p.types)) ≡ p.types)
    × (part_of s (part (metadata_at at p) (length p.metadata)) ≡ p.metadata)
    × (part_of s (part (bits_at at p) (bytes_for (length p.types))) ≡ p.bits)
    × From s (rest_at at p) p.optional
unfolding read_columns
columns_back p {s} {at} h k l f =
    let r₂ = p.bits ++ p.optional in
    let r₁ = packed_bytes (length p.metadata) ++ (p.metadata ++ r₂) in
    let a = types_at at p in
    let n : read_packed s at ≡ ok (length p.types, a) = from_packed (length p.types) (p.types ++ r₁) h f in
    let f₁ : From s a (p.types ++ r₁) =
    from_more (packed_bytes (length p.types)) (p.types ++ r₁) (length (packed_bytes (length p.types))) refl f in
    let w₁ : within s a (length p.types) a ≡ ok (a + length p.types) = from_within p.types r₁ (length p.types) a refl f₁ in
    let f₂ : From s (a + length p.types) r₁ = from_more p.types r₁ (length p.types) refl f₁ in
    let m = long_back p.metadata r₂ k f₂ in
    let b = bits_at at p in
    let f₃ : From s b r₂ = from_more p.metadata r₂ (length p.metadata) refl m.1 in
    let w₂ : within s b (bytes_for (length p.types)) b ≡ ok (b + bytes_for (length p.types)) =
    from_within p.bits p.optional (bytes_for (length p.types)) b l f₃ in (
      rw (n, w₁, m.0, w₂),
      from_part p.types r₁ (length p.types) refl f₁,
      from_part p.metadata r₂ (length p.metadata) refl m.1,
      from_part p.bits p.optional (bytes_for (length p.types)) l f₃,
      from_more p.bits p.optional (bytes_for (length p.types)) l f₃,
    )

-- ---- the event
abbrev pub behind_flags : EventParts → List ℕ
behind_flags p = name_bytes p.database ++ (name_bytes p.table ++ column_bytes p.types p.metadata p.bits p.optional)

pub from_id : (p : EventParts) → From (event_bytes p) 0 (le_bytes 6 p.id ++ (le_bytes 2 p.flags ++ behind_flags p))
unfolding event_bytes
from_id p = record { is = refl; ends = omega arith }

pub from_flags : (p : EventParts) → From (event_bytes p) 6 (le_bytes 2 p.flags ++ behind_flags p)
from_flags p = from_more (le_bytes 6 p.id) (le_bytes 2 p.flags ++ behind_flags p) 6 (le_bytes_length 6 p.id) (from_id p)

pub from_names : (p : EventParts) → From (event_bytes p) 8 (behind_flags p)
from_names p = from_more (le_bytes 2 p.flags) (behind_flags p) 2 (le_bytes_length 2 p.flags) (from_flags p)

-- what is written is read back: every part, wherever it stands
pub write_read : (p : EventParts) → is_event p ≡ true → p.flags < 2 ^ 16 → length p.types < 2 ^ 64 → length p.metadata < 2 ^ 64
    → (e : Event) × (read_event (event_bytes p) 8 ≡ ok e) × (event_parts_of (event_bytes p) e ≡ p)
unfolding read_event
write_read p t g h k =
    let s = event_bytes p in
    let q = taken p t in
    let f₀ = from_id p in
    let f₁ = from_flags p in
    let w₁ : within s 0 6 0 ≡ ok 6 =
    from_within (le_bytes 6 p.id) (le_bytes 2 p.flags ++ behind_flags p) 6 0 (le_bytes_length 6 p.id) f₀ in
    let w₂ : within s 6 2 6 ≡ ok 8 = from_within (le_bytes 2 p.flags) (behind_flags p) 2 6 (le_bytes_length 2 p.flags) f₁ in
    let i : le_value (take 6 s) ≡ p.id =
    ap le_value (from_part (le_bytes 6 p.id) (le_bytes 2 p.flags ++ behind_flags p) 6 (le_bytes_length 6 p.id) f₀)
    ∙ le_back 6 p.id q.id in
    let j : le_value (take 2 (drop 6 s)) ≡ p.flags =
    ap le_value (from_part (le_bytes 2 p.flags) (behind_flags p) 2 (le_bytes_length 2 p.flags) f₁) ∙ le_back 2 p.flags g in
    let n = names_back p.database p.table (column_bytes p.types p.metadata p.bits p.optional) (from_names p) in
    let at = 8 + 1 + length p.database + 1 + 1 + length p.table + 1 in
    let f₂ : From s at (column_bytes p.types p.metadata p.bits p.optional) =
    from_more (0 ∷ []) (column_bytes p.types p.metadata p.bits p.optional) 1 refl n.4 in
    let m = columns_back p h k q.bits f₂ in
    let z : length s - rest_at at p ≡ length p.optional = omega arith in
    let y : take (length s - rest_at at p) (drop (rest_at at p) s) ≡ p.optional =
    ap (λ (b : ℕ). take b (drop (rest_at at p) s)) z ∙ ap (take (length p.optional)) m.4.is ∙ take-length p.optional in (
      record {
        id = le_value (take 6 s);
        flags = le_value (take 2 (drop 6 s));
        database = part (8 + 1) (length p.database);
        table = part (8 + 1 + length p.database + 1 + 1) (length p.table);
        types = part (types_at at p) (length p.types);
        metadata = part (metadata_at at p) (length p.metadata);
        bits = part (bits_at at p) (bytes_for (length p.types));
        optional = part (rest_at at p) (length s - rest_at at p);
      },
      rw (w₁, w₂, n.0, m.0),
      rw (i, j, n.1, n.2, m.1, m.2, m.3, y),
    )

-- ---- from a buffer
-- what a write that was done says: the parts are taken, the size is that of the event's bytes, and they stand at the buffer's start
pub wrote_event : (p : EventParts) (d x : List ℕ) (n : ℕ) → write_event p d ≡ ok (n, x)
    → (is_event p ≡ true) × (length (event_bytes p) ≡ n) × (n ≤ length d) × (take n x ≡ event_bytes p)
unfolding write_event store
wrote_event p d x n e =
    by_test (is_event p) _ _ _ e
    (λ t e₁.
    let s = event_bytes p in
    let y = test_is_ok (leb (0 + length s) (length d)) (0 + length s, stored s d 0) (why 8 0) (n, x) e₁ in
    let i : 0 + length s ≡ n = ap (λ (v : ℕ × List ℕ). v.0) y.1 in
    let j : stored s d 0 ≡ x = ap (λ (v : ℕ × List ℕ). v.1) y.1 in
    let r : 0 + length s ≤ length d = leb-true (0 + length s) (length d) y.0 in
    let l : length s ≡ n = omega arith in
    (t, l, omega arith, ap (take n) (sym j) ∙ ap (λ (k : ℕ). take k (stored s d 0)) (sym l) ∙ stored_part d 0 s (omega arith)))
    (λ t e₁. absurd (ok_not_refused (sym e₁)))

-- the size is exactly what is written, in any buffer that holds it
pub size_written : (p : EventParts) (d x : List ℕ) (n : ℕ) → length d < 2 ^ 64 → write_event p d ≡ ok (n, x) → event_size p ≡ ok n
size_written p d x n h e =
    let w = wrote_event p d x n e in
    size_is p n w.0 w.1 (omega arith)

-- what was written into a buffer is read back from it
pub buffer_read : (p : EventParts) (d x : List ℕ) (n : ℕ) → write_event p d ≡ ok (n, x) → p.flags < 2 ^ 16 → length p.types < 2 ^ 64
    → length p.metadata < 2 ^ 64
    → (e : Event) × (read_event (take n x) 8 ≡ ok e) × (event_parts_of (take n x) e ≡ p)
buffer_read p d x n w g h k =
    let y = wrote_event p d x n w in
    subst (λ (s : List ℕ). (e : Event) × (read_event s 8 ≡ ok e) × (event_parts_of s e ≡ p)) (sym y.3) (write_read p y.0 g h k)
