-- Writing parts one behind the other: a chain of writes is one write, and what the size says of it. Assumes nothing.
use Prim.Native.Nat.{ℕ, ◌+◌, ◌%◌, ◌^◌, ◌≤◌, ◌<◌, min}
use mathlib.Core.Path.{◌≡◌, sym, ap, subst, ◌∙◌, refl}
use mathlib.Core.List.{List, [], ◌∷◌, ◌++◌, append_assoc}
use mathlib.Core.Bool.{Bool, true, false}
use native.Mathlib.Omega.{arith}
use borrow.Author.Tests.{lt-ltb, le-ltb, ltb-true, ltb-false, leb-true, eqb-true}
use lib.ListN.{length, take, get_or, length-append}
use Rattle.std.specs.Prelude.{sum_by}
use Rattle.std.proofs.lemmas.List.Sums.{sum_by_more, sum_by_more_le}
use lib.Dec.{ltb, leb}
use Rattle.wire.specs.Bits.{bytes_for}
use Rattle.wire.specs.declared.refusal.Refusal.{Refusal}
use Rattle.wire.specs.Outcome.{Outcome, ok, refused, refuse, why}
use Rattle.wire.specs.Number.{le_bytes}
use Rattle.wire.specs.Packed.{packed_bytes}
use Rattle.std.proofs.Common.{rules}
use Rattle.std.specs.Result.{IsOk}
use Rattle.wire.specs.Stored.{stored, store, answer_of, left_of}
use Rattle.wire.proofs.Outcomes.{by_test, test_is_ok, ok_not_refused, same_ok, same_refused, both_true}
use Rattle.wire.proofs.Bytes.{le_bytes_length}
use Rattle.wire.proofs.Stores.{length_stored, stored_stored, store_fits, store_full}
use Rattle.wire.proofs.Forms.{tag_width, Shortest, itself, behind, shortest}
use Rattle.table_map.specs.Writes.{EventParts, event_parts, name_bytes, event_bytes, is_event, write_event, event_size}
use Rattle.table_map.specs.Inner.Writes.{event_head, column_bytes, PutAt}

-- ---- lengths
-- a packed integer has at most 9 bytes
pub packed_narrow : (v : ℕ) → length (packed_bytes v) ≤ 9
packed_narrow v = go (shortest v)
  where
    go : {bs : List ℕ} → Shortest v bs → length bs ≤ 9
    go (itself b) = omega arith
    go (behind first k least t g m) = omega (arith, le_bytes_length k v, (tag_width t).1)

pub name_length : (name : List ℕ) → length (name_bytes name) ≡ length name + 2
unfolding name_bytes
name_length name = simp length-append (omega arith)

pub head_length : (id flags : ℕ) (database table : List ℕ)
    → length (event_head id flags database table) ≡ 12 + length database + length table
head_length id flags database table =
    let a = length-append (le_bytes 6 id) (le_bytes 2 flags ++ (name_bytes database ++ name_bytes table)) in
    let b = length-append (le_bytes 2 flags) (name_bytes database ++ name_bytes table) in
    let d = length-append (name_bytes database) (name_bytes table) in
    omega (arith, le_bytes_length 6 id, le_bytes_length 2 flags, name_length database, name_length table)

pub column_length : (types metadata bits optional : List ℕ) → length (column_bytes types metadata bits optional)
    ≡ length (packed_bytes (length types))
    + (length types + (length (packed_bytes (length metadata)) + (length metadata + (length bits + length optional))))
column_length types metadata bits optional =
    let a = length-append (packed_bytes (length types)) (types ++ (packed_bytes (length metadata) ++ (metadata ++ (bits ++ optional)))) in
    let b = length-append types (packed_bytes (length metadata) ++ (metadata ++ (bits ++ optional))) in
    let d = length-append (packed_bytes (length metadata)) (metadata ++ (bits ++ optional)) in
    let e = length-append metadata (bits ++ optional) in
    let f = length-append bits optional in
    omega arith

-- the event is its head and its columns
pub event_split : (p : EventParts)
    → event_head p.id p.flags p.database p.table ++ column_bytes p.types p.metadata p.bits p.optional ≡ event_bytes p
unfolding event_bytes
event_split p =
    let i = le_bytes 6 p.id in
    let f = le_bytes 2 p.flags in
    let d = name_bytes p.database in
    let t = name_bytes p.table in
    let r = column_bytes p.types p.metadata p.bits p.optional in
    append_assoc i (f ++ (d ++ t)) r
    ∙ ap (λ (l : List ℕ). i ++ l) (append_assoc f (d ++ t) r ∙ ap (λ (l : List ℕ). f ++ l) (append_assoc d t r))

pub event_length : (p : EventParts) → length (event_bytes p)
    ≡ 12 + length p.database + length p.table
    + (length (packed_bytes (length p.types))
    + (length p.types + (length (packed_bytes (length p.metadata))
    + (length p.metadata + (length p.bits + length p.optional)))))
event_length p =
    let h = event_head p.id p.flags p.database p.table in
    let r = column_bytes p.types p.metadata p.bits p.optional in
    ap length (sym (event_split p)) ∙ length-append h r
    ∙ omega (arith, head_length p.id p.flags p.database p.table, column_length p.types p.metadata p.bits p.optional)

-- the lengths that the size is counted from: with id and flags, and for each name a length byte and a zero byte, they make the whole
abbrev pub lengths : EventParts → List ℕ
lengths p =
    length p.database
    ∷ length p.table
    ∷ length (packed_bytes (length p.types))
    ∷ length p.types
    ∷ length (packed_bytes (length p.metadata))
    ∷ length p.metadata
    ∷ length p.bits
    ∷ length p.optional
    ∷ []

abbrev pub total : List ℕ → ℕ
total ns = sum_by (λ (n : ℕ). n) ns

pub lengths_total : (p : EventParts) → 12 + total (lengths p) ≡ length (event_bytes p)
lengths_total p = omega (arith, event_length p)

-- one length more
pub total_more : {ms ns : List ℕ} (i : ℕ) → ms ≡ ns → i < length ns
    → (total (take (i + 1) ns) ≡ total (take i ns) + get_or ms i 0) × (total (take i ns) + get_or ms i 0 ≤ total ns)
total_more {ms} {ns} i e h = rw e (sum_by_more (λ (n : ℕ). n) ns i 0 h, sum_by_more_le (λ (n : ℕ). n) ns i 0 h)

-- ---- writes
pub put_stored : (d bs x : List ℕ) (at m next : ℕ) → length bs ≡ m → at + m ≤ length d → x ≡ left_of (store bs d at) d → next ≡ at + m
    → PutAt d at bs x next
put_stored d bs x at m next l h e n =
    let s = store_fits d bs at (omega arith) in
    record { room = omega arith; left = e ∙ rw s; next_is = omega arith }

-- a number of k bytes, by a writer that takes at most 8
pub put_number : (d x : List ℕ) (at k v next : ℕ) → k ≤ 8 → at + k ≤ length d → x ≡ left_of (store (le_bytes (min k 8) v) d at) d
    → next ≡ at + k → PutAt d at (le_bytes k v) x next
put_number d x at k v next w h e n =
    let m : min k 8 ≡ k = omega arith in
    put_stored d (le_bytes k v) x at k next (le_bytes_length k v) h (e ∙ ap (λ (j : ℕ). left_of (store (le_bytes j v) d at) d) m) n

-- where there is room, none is refused
pub put_fits : (d bs : List ℕ) (at : ℕ) {r : Outcome ℕ} → at + length bs ≤ length d → r ≡ answer_of (store bs d at) → IsOk r
put_fits d bs at h e = rw (e, store_fits d bs at h) (search rules)

pub put_done : {d bs x : List ℕ} {at next : ℕ} {r : Outcome ℕ} → at + length bs ≤ length d → r ≡ answer_of (store bs d at)
    → x ≡ left_of (store bs d at) d
    → r ≡ ok next → PutAt d at bs x next
put_done {d} {bs} {x} {at} {next} {r} h e l n =
    put_stored d bs x at (length bs) next refl h l (same_ok (sym n ∙ e ∙ rw (store_fits d bs at h)))

-- where a write ended, and that the buffer has its length
pub after_put : {d bs x : List ℕ} {at next : ℕ} → PutAt d at bs x next → (next ≡ at + length bs) × (length x ≡ length d)
after_put {d} {bs} {x} {at} {next} p = (p.next_is, ap length p.left ∙ length_stored d at bs p.room)

pub after_number : (k v : ℕ) {d x : List ℕ} {at next : ℕ} → PutAt d at (le_bytes k v) x next → (next ≡ at + k) × (length x ≡ length d)
after_number k v {d} {x} {at} {next} p = (omega (arith, after_put p, le_bytes_length k v), (after_put p).1)

pub after_name : (name : List ℕ) {d x : List ℕ} {at next : ℕ} → PutAt d at (name_bytes name) x next
    → (next ≡ at + (length name + 2)) × (length x ≡ length d)
after_name name {d} {x} {at} {next} p = (omega (arith, after_put p, name_length name), (after_put p).1)

-- a write behind a write is one write
pub then : {d v x w y : List ℕ} {at n m : ℕ} → PutAt d at v x n → PutAt x n w y m → PutAt d at (v ++ w) y m
then {d} {v} {x} {w} {y} {at} {n} {m} a b =
    let l : length x ≡ length d = (after_put a).1 in
    let k : length (v ++ w) ≡ length v + length w = length-append v w in
    record {
      room = omega arith;
      left =
          b.left ∙ ap (λ (z : ℕ). stored w x z) a.next_is ∙ ap (λ (z : List ℕ). stored w z (at + length v)) a.left
          ∙ stored_stored d at v w a.room;
      next_is = omega arith;
    }

-- a length in a byte, the name, and a zero byte
pub put_name : (name : List ℕ) {d x : List ℕ} {at n : ℕ} → length name ≤ 255
    → PutAt d at (le_bytes 1 (length name) ++ (name ++ le_bytes 1 0)) x n → PutAt d at (name_bytes name) x n
unfolding name_bytes le_bytes
put_name name {d} {x} {at} {n} h p =
    let e : length name % 256 ≡ length name = omega arith in
    subst (λ (b : ℕ). PutAt d at (b ∷ (name ++ (0 ∷ []))) x n) e p

-- ---- what the writer takes, and the size
pub record Taken (p : EventParts) : Type 0 where
  pub id : p.id < 2 ^ 48
  pub database : length p.database ≤ 255
  pub table : length p.table ≤ 255
  pub bits : length p.bits ≡ bytes_for (length p.types)

pub taken : (p : EventParts) → is_event p ≡ true → Taken p
unfolding is_event
taken p e =
    let a = both_true (ltb p.id (2 ^ 48)) _ e in
    let b = both_true (leb (length p.database) 255) _ a.1 in
    let d = both_true (leb (length p.table) 255) _ b.1 in
    record {
      id = ltb-true p.id (2 ^ 48) a.0;
      database = leb-true (length p.database) 255 b.0;
      table = leb-true (length p.table) 255 d.0;
      bits = eqb-true (length p.bits) (bytes_for (length p.types)) d.1;
    }

-- flags, metadata and optional bytes are taken whatever they are
pub any_rest : (id flags : ℕ) (database table types metadata bits optional : List ℕ) (b : Bool)
    → is_event (event_parts id 0 database table types [] bits []) ≡ b
    → is_event (event_parts id flags database table types metadata bits optional) ≡ b
unfolding is_event
any_rest id flags database table types metadata bits optional b e = e

pub size_not_taken : (p : EventParts) → is_event p ≡ false → event_size p ≡ refuse 13 0
unfolding event_size
size_not_taken p e = rw e

pub size_over : (p : EventParts) → is_event p ≡ true → 2 ^ 64 ≤ length (event_bytes p) → event_size p ≡ refuse 8 0
unfolding event_size
size_over p e h = rw (e, le-ltb (length (event_bytes p)) (2 ^ 64) h)

pub size_is : (p : EventParts) (n : ℕ) → is_event p ≡ true → length (event_bytes p) ≡ n → n < 2 ^ 64 → event_size p ≡ ok n
unfolding event_size
size_is p n e l h =
    let g : length (event_bytes p) < 2 ^ 64 = omega arith in
    rw (e, lt-ltb (length (event_bytes p)) (2 ^ 64) g, l)

-- a size is that of what is written
pub sized : (p : EventParts) (n : ℕ) → event_size p ≡ ok n → (is_event p ≡ true) × (length (event_bytes p) ≡ n)
unfolding event_size
sized p n e =
    by_test (is_event p) _ _ _ e
    (λ t e₁. (t, (test_is_ok (ltb (length (event_bytes p)) (2 ^ 64)) (length (event_bytes p)) (why 8 0) n e₁).1))
    (λ t e₁. absurd (ok_not_refused (sym e₁)))

-- what has no size is not written, for the same reason
pub not_sized : (p : EventParts) (d : List ℕ) (w : Refusal) → length d < 2 ^ 64 → event_size p ≡ refused w → write_event p d ≡ refused w
unfolding event_size write_event
not_sized p d w h e =
    by_test (is_event p) _ _ _ e
    (λ t e₁. by_test (ltb (length (event_bytes p)) (2 ^ 64)) _ _ _ e₁
    (λ u e₂. absurd (ok_not_refused e₂))
    (λ u e₂. rw t (store_full d (event_bytes p) 0 (omega (arith, ltb-false (length (event_bytes p)) (2 ^ 64) u))
    ∙ ap refused (same_refused e₂))))
    (λ t e₁. rw t (ap refused (same_refused e₁)))

pub no_room_for : (p : EventParts) (d : List ℕ) (n : ℕ) → length d < n → event_size p ≡ ok n → write_event p d ≡ refuse 8 0
unfolding write_event
no_room_for p d n h e =
    let s = sized p n e in
    rw s.0 (store_full d (event_bytes p) 0 (omega arith))

pub event_put : (p : EventParts) (d x : List ℕ) (n next : ℕ) → event_size p ≡ ok n
    → PutAt d 0 (event_head p.id p.flags p.database p.table ++ column_bytes p.types p.metadata p.bits p.optional) x
    next
    → write_event p d ≡ ok (next, x)
unfolding write_event
event_put p d x n next e q =
    let s = sized p n e in
    let q' = subst (λ (bs : List ℕ). PutAt d 0 bs x next) (event_split p) q in
    let l : x ≡ stored (event_bytes p) d 0 = q'.left in
    let i : next ≡ 0 + length (event_bytes p) = q'.next_is in
    rw s.0 (store_fits d (event_bytes p) 0 q'.room ∙ rw (l, i))

-- where writes end, one behind the other
pub ruleset puts = (after_put, after_number, after_name, column_length)
