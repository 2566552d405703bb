-- The event both ways: what was read and is written again has the same bytes exactly if it was as a writer writes it. Assumes nothing.
use Prim.Native.Nat.{ℕ, ◌+◌, ◌-◌, ◌*◌, ◌^◌, ◌≤◌, ◌<◌}
use mathlib.Core.Path.{◌≡◌, refl, sym, ap, subst, ◌∙◌}
use mathlib.Core.List.{List, [], ◌∷◌, ◌++◌, append_assoc}
use native.Mathlib.Numerals.{add-one}
use mathlib.Core.Bool.{Bool, true, false}
use native.Mathlib.Omega.{arith}
use borrow.Author.Tests.{lt-leb, le-leb, lt-ltb, eq-eqb}
use lib.ListN.{length, get_or, take, drop, length-drop, take-append-drop}
use lib.Seq.{length-take-le, take_all, drop-drop, drop-cons, take-add}
use lib.Dec.{eqb}
use Rattle.wire.specs.Bits.{bytes_for}
use Rattle.wire.specs.Outcome.{ok}
use Rattle.wire.specs.Number.{Bytes, le_value, le_bytes}
use Rattle.wire.specs.Packed.{read_packed, packed_form, packed_bytes}
use Rattle.wire.specs.Parts.{part_of}
use Rattle.wire.specs.declared.part.Part.{Part}
use Rattle.wire.proofs.Outcomes.{same_ok}
use Rattle.wire.proofs.Bytes.{le_bytes_length, wider}
use Rattle.wire.proofs.Inverse.{bytes_take, bytes_drop, le_sound, le_back, le_bound, le_join}
use Rattle.wire.proofs.Forms.{read_moves, read_only, read_shortest}
use Rattle.table_map.specs.declared.event.Event.{Event}
use Rattle.table_map.specs.Events.{id_bytes, read_event}
use Rattle.table_map.specs.Writes.{EventParts, name_bytes, event_bytes, is_event}
use Rattle.table_map.specs.Inner.Writes.{column_bytes}
use Rattle.table_map.specs.Canonical.{event_parts_of, Canonical}
use Rattle.table_map.proofs.Chains.{Named, Laid, laid, Within, each_within, Ordered, parts_within}
use Rattle.table_map.proofs.Puts.{event_length}
use Rattle.table_map.proofs.Trips.{From, from_part, from_first, from_id, from_flags, from_names, names_back, short_back, behind_flags}

-- ---- the bytes from a place on: what was read there, and what is behind it
part_length : (s : List ℕ) (p : Part) → p.start + p.len ≤ length s → length (part_of s p) ≡ p.len
part_length s p h = length-take-le p.len (drop p.start s) (rw length-drop (omega arith))

rest_split : (s : List ℕ) (at n : ℕ) → drop at s ≡ take n (drop at s) ++ drop (at + n) s
rest_split s at n = sym (take-append-drop n (drop at s)) ∙ ap (λ (l : List ℕ). take n (drop at s) ++ l) (drop-drop n at s)

first_split : (s : List ℕ) (at : ℕ) → at < length s → drop at s ≡ get_or s at 0 ∷ drop (at + 1) s
first_split s at h = drop-cons s at 0 h ∙ ap (λ (k : ℕ). get_or s at 0 ∷ drop k s) (sym (add-one at))

number_split : (s : List ℕ) (at k : ℕ) → Bytes s → at + k ≤ length s
    → drop at s ≡ le_bytes k (le_value (take k (drop at s))) ++ drop (at + k) s
number_split s at k h l =
    let n : length (take k (drop at s)) ≡ k = length-take-le k (drop at s) (rw length-drop (omega arith)) in
    let b : le_bytes k (le_value (take k (drop at s))) ≡ take k (drop at s) =
    rw n at (le_sound (take k (drop at s)) (bytes_take k (drop at s) (bytes_drop at s h))) in
    rest_split s at k ∙ ap (λ (l : List ℕ). l ++ drop (at + k) s) (sym b)

name_split : (s : List ℕ) (at : ℕ) (p : Part) → Named s at p (p.start + p.len) → p.start + p.len < length s
    → get_or s (p.start + p.len) 0 ≡ 0
    → drop at s ≡ name_bytes (part_of s p) ++ drop (p.start + p.len + 1) s
unfolding name_bytes
name_split s at p n h z =
    let i : p.start ≡ at + 1 = n.start in
    let l : length (part_of s p) ≡ get_or s at 0 = part_length s p (omega arith) ∙ n.len in
    let e = p.start + p.len in
    let q : drop e s ≡ 0 ∷ drop (e + 1) s = first_split s e h ∙ ap (λ (b : ℕ). b ∷ drop (e + 1) s) z in
    first_split s at (omega arith)
    ∙ ap (λ (b : ℕ). b ∷ drop (at + 1) s) (sym l)
    ∙ ap (λ (k : ℕ). length (part_of s p) ∷ drop k s) (sym i)
    ∙ ap (λ (r : List ℕ). length (part_of s p) ∷ r)
    (rest_split s p.start p.len ∙ ap (λ (r : List ℕ). part_of s p ++ r) q ∙ sym (append_assoc (part_of s p) (0 ∷ []) (drop (e + 1) s)))

packed_split : (s : List ℕ) (at v next : ℕ) → Bytes s → read_packed s at ≡ ok (v, next) → next ≡ at + length (packed_bytes v)
    → drop at s ≡ packed_bytes v ++ drop next s
packed_split s at v next h e n =
    let m : at + (next - at) ≡ next = omega arith in
    rest_split s at (next - at)
    ∙ ap (λ (l : List ℕ). l ++ drop (at + (next - at)) s) (read_only s at v next h e n)
    ∙ ap (λ (k : ℕ). packed_bytes v ++ drop k s) m

-- ---- an event as a writer writes it is written again as it was
pub canonical_same : (s : List ℕ) (post_header : ℕ) (e : Event) → Bytes s → read_event s post_header ≡ ok e → Canonical s post_header e
    → event_bytes (event_parts_of s e) ≡ s
unfolding event_bytes
canonical_same s post_header e h r c =
    let l : Laid s 6 e = subst (λ (w : ℕ). Laid s w e) c.id (laid s post_header e r) in
    let o : Ordered s 6 e = subst (λ (w : ℕ). Ordered s w e) c.id (parts_within s post_header e r) in
    let w : Within s e = each_within s post_header e r in
    let dn = e.database.start + e.database.len in
    let tn = e.table.start + e.table.len in
    let yn = e.types.start + e.types.len in
    let mn = e.metadata.start + e.metadata.len in
    let bn = e.bits.start + e.bits.len in
    let ly : length (part_of s e.types) ≡ e.types.len = part_length s e.types w.types in
    let lm : length (part_of s e.metadata) ≡ e.metadata.len = part_length s e.metadata w.metadata in
    let x₉ : part_of s e.optional ≡ drop bn s =
    take_all e.optional.len (drop e.optional.start s) (rw length-drop (omega arith)) ∙ ap (λ (k : ℕ). drop k s) o.optional in
    let x₈ : part_of s e.bits ++ part_of s e.optional ≡ drop mn s =
    ap (λ (z : List ℕ). part_of s e.bits ++ z) x₉ ∙ sym (rest_split s e.bits.start e.bits.len)
    ∙ ap (λ (k : ℕ). drop k s) o.bits in
    let x₇ : part_of s e.metadata ++ (part_of s e.bits ++ part_of s e.optional) ≡ drop e.metadata.start s =
    ap (λ (z : List ℕ). part_of s e.metadata ++ z) x₈ ∙ sym (rest_split s e.metadata.start e.metadata.len) in
    let x₆ : packed_bytes (length (part_of s e.metadata)) ++ (part_of s e.metadata ++ (part_of s e.bits ++ part_of s e.optional))
    ≡ drop yn s =
    ap (λ (z : List ℕ). packed_bytes (length (part_of s e.metadata)) ++ z) x₇
    ∙ ap (λ (k : ℕ). packed_bytes k ++ drop e.metadata.start s) lm
    ∙ sym (packed_split s yn e.metadata.len e.metadata.start h l.columns.announced c.metadata) in
    let x₅ : part_of s e.types
    ++ (packed_bytes (length (part_of s e.metadata)) ++ (part_of s e.metadata ++ (part_of s e.bits ++ part_of s e.optional)))
    ≡ drop e.types.start s =
    ap (λ (z : List ℕ). part_of s e.types ++ z) x₆ ∙ sym (rest_split s e.types.start e.types.len) in
    let x₄ : column_bytes (part_of s e.types) (part_of s e.metadata) (part_of s e.bits) (part_of s e.optional) ≡ drop (tn + 1) s =
    ap (λ (z : List ℕ). packed_bytes (length (part_of s e.types)) ++ z) x₅
    ∙ ap (λ (k : ℕ). packed_bytes k ++ drop e.types.start s) ly
    ∙ sym (packed_split s (tn + 1) e.types.len e.types.start h l.columns.count c.count) in
    let x₃ : name_bytes (part_of s e.table)
    ++ column_bytes (part_of s e.types) (part_of s e.metadata) (part_of s e.bits) (part_of s e.optional) ≡ drop (dn + 1) s =
    ap (λ (z : List ℕ). name_bytes (part_of s e.table) ++ z) x₄
    ∙ sym (name_split s (dn + 1) e.table l.names.two (omega arith) c.table) in
    let x₂ : behind_flags (event_parts_of s e) ≡ drop 8 s =
    ap (λ (z : List ℕ). name_bytes (part_of s e.database) ++ z) x₃
    ∙ sym (name_split s 8 e.database l.names.one (omega arith) c.database) in
    let x₁ : le_bytes 2 e.flags ++ behind_flags (event_parts_of s e) ≡ drop 6 s =
    ap (λ (z : List ℕ). le_bytes 2 e.flags ++ z) x₂
    ∙ ap (λ (k : ℕ). le_bytes 2 k ++ drop 8 s) l.flags
    ∙ sym (number_split s 6 2 h (omega arith)) in
    ap (λ (z : List ℕ). le_bytes 6 e.id ++ z) x₁
    ∙ ap (λ (k : ℕ). le_bytes 6 k ++ drop 6 s) l.id
    ∙ sym (number_split s 0 6 h (omega arith))

-- ---- the other way
-- the event's bytes, from the flags' end on, of bytes that are as written
names_from : (s : List ℕ) (p : EventParts) → event_bytes p ≡ s → From s 8 (behind_flags p)
names_from s p q = subst (λ (z : List ℕ). From z 8 (behind_flags p)) q (from_names p)

-- how long what is written again is
again_length : (s : List ℕ) (e : Event) → Within s e → length (event_bytes (event_parts_of s e))
    ≡ 12 + e.database.len + e.table.len
    + (length (packed_bytes e.types.len)
    + (e.types.len + (length (packed_bytes e.metadata.len) + (e.metadata.len + (e.bits.len + e.optional.len)))))
again_length s e w =
    event_length (event_parts_of s e)
    ∙ rw (
      part_length s e.database w.database,
      part_length s e.table w.table,
      part_length s e.types w.types,
      part_length s e.metadata w.metadata,
      part_length s e.bits w.bits,
      part_length s e.optional w.optional,
    )

same_six : (s : List ℕ) (post_header : ℕ) (e : Event) → Bytes s → read_event s post_header ≡ ok e → id_bytes post_header ≡ 6
    → event_bytes (event_parts_of s e) ≡ s → Canonical s post_header e
same_six s post_header e h r i q =
    let l : Laid s 6 e = subst (λ (w : ℕ). Laid s w e) i (laid s post_header e r) in
    let o : Ordered s 6 e = subst (λ (w : ℕ). Ordered s w e) i (parts_within s post_header e r) in
    let w : Within s e = each_within s post_header e r in
    let p = event_parts_of s e in
    let a : length s ≡ 12 + e.database.len + e.table.len
    + (length (packed_bytes e.types.len)
    + (e.types.len + (length (packed_bytes e.metadata.len) + (e.metadata.len + (e.bits.len + e.optional.len))))) =
    ap length (sym q) ∙ again_length s e w in
    let y = read_shortest s (e.table.start + e.table.len + 1) e.types.len e.types.start h l.columns.count in
    let m = read_shortest s (e.types.start + e.types.len) e.metadata.len e.metadata.start h l.columns.announced in
    let ld : length p.database ≡ e.database.len = part_length s e.database w.database in
    let lt : length p.table ≡ e.table.len = part_length s e.table w.table in
    let b = column_bytes p.types p.metadata p.bits p.optional in
    let x = short_back p.database (name_bytes p.table ++ b) (names_from s p q) in
    let n = names_back p.database p.table b (names_from s p q) in
    let zd : e.database.start + e.database.len ≡ 8 + 1 + length p.database = omega arith in
    let zt : e.table.start + e.table.len ≡ 8 + 1 + length p.database + 1 + 1 + length p.table = omega arith in
    record {
      id = i;
      database = ap (λ (k : ℕ). get_or s k 0) zd ∙ from_first 0 (name_bytes p.table ++ b) x.3;
      table = ap (λ (k : ℕ). get_or s k 0) zt ∙ from_first 0 b n.4;
      count = omega arith;
      metadata = omega arith;
    }

-- a packed integer whose first byte is 0
packed_zero : (s : List ℕ) (at : ℕ) → at < length s → get_or s at 0 ≡ 0 → read_packed s at ≡ ok (0, at + 1)
unfolding read_packed packed_form
packed_zero s at h z = rw (lt-leb (length s) at h, z)

one_byte_lem : length (packed_bytes 0) ≡ 1
unfolding packed_bytes
one_byte_lem = refl

zero_bytes : (b : List ℕ) {s : List ℕ} {at flags : ℕ} → flags ≡ 0 → From s at (le_bytes 2 flags ++ b) → get_or s at 0 ≡ 0
unfolding le_bytes
zero_bytes b {s} {at} {flags} z f =
    let g : From s at (0 ∷ (0 ∷ b)) = subst (λ (v : ℕ). From s at (le_bytes 2 v ++ b)) z f in
    from_first 0 (0 ∷ b) g

-- a number of so many bytes is below their power
first_bound : (s : List ℕ) (k : ℕ) → Bytes s → k ≤ length s → le_value (take k s) < 256 ^ k
first_bound s k h l =
    let n : length (take k s) ≡ k = length-take-le k s l in
    subst (λ (j : ℕ). le_value (take k s) < 256 ^ j) n (le_bound (take k s) (bytes_take k s h))

-- an id of 4 bytes and the flags, read again as one of 6: so the flags are 0
no_flags : (s : List ℕ) (e : Event) → Bytes s → 4 ≤ length s → e.id ≡ le_value (take 4 s) → e.flags ≡ le_value (take 2 (drop 4 s))
    → take 6 s ≡ le_bytes 6 e.id → e.flags ≡ 0
no_flags s e h l i f t =
    let n : length (take 4 s) ≡ 4 = length-take-le 4 s l in
    let b : le_value (take 4 s) < 256 ^ 4 = first_bound s 4 h l in
    let b₆ : e.id < 256 ^ 6 = wider 4 6 e.id (omega arith) (subst (λ (k : ℕ). k < 256 ^ 4) (sym i) b) in
    let v : le_value (take 6 s) ≡ e.id = ap le_value t ∙ le_back 6 e.id b₆ in
    let j : le_value (take 6 s) ≡ le_value (take 4 s) + 4294967296 * le_value (take 2 (drop 4 s)) =
    ap le_value (take-add 4 2 s) ∙ le_join (take 4 s) (take 2 (drop 4 s))
    ∙ ap (λ (k : ℕ). le_value (take 4 s) + 256 ^ k * le_value (take 2 (drop 4 s))) n in
    omega arith

-- what was read with an id of 4 bytes is never written again as it was: all of it would be zero up to the optional bytes, which would stand
-- 2 further on
never_four : (s : List ℕ) (e : Event) → Bytes s → Laid s 4 e → Ordered s 4 e → Within s e → event_bytes (event_parts_of s e) ≡ s → ⊥
never_four s e h l o w q =
    let p = event_parts_of s e in
    let b = column_bytes p.types p.metadata p.bits p.optional in
    let f₀ : From s 0 (le_bytes 6 e.id ++ (le_bytes 2 e.flags ++ behind_flags p)) =
    subst (λ (z : List ℕ). From z 0 (le_bytes 6 e.id ++ (le_bytes 2 e.flags ++ behind_flags p))) q (from_id p) in
    let f₁ : From s 6 (le_bytes 2 e.flags ++ behind_flags p) =
    subst (λ (z : List ℕ). From z 6 (le_bytes 2 e.flags ++ behind_flags p)) q (from_flags p) in
    let t₆ : take 6 s ≡ le_bytes 6 e.id =
    from_part (le_bytes 6 e.id) (le_bytes 2 e.flags ++ behind_flags p) 6 (le_bytes_length 6 e.id) f₀ in
    let z : e.flags ≡ 0 = no_flags s e h (omega arith) l.id l.flags t₆ in
    let ld : length p.database ≡ e.database.len = part_length s e.database w.database in
    let lt : length p.table ≡ e.table.len = part_length s e.table w.table in
    let d : e.database.len ≡ 0 = l.names.one.len ∙ zero_bytes (behind_flags p) z f₁ in
    let x = short_back p.database (name_bytes p.table ++ b) (names_from s p q) in
    let n = names_back p.database p.table b (names_from s p q) in
    let y = short_back p.table b n.3 in
    let a₈ : e.database.start + e.database.len + 1 ≡ 8 = omega arith in
    let t : e.table.len ≡ 0 = l.names.two.len ∙ ap (λ (k : ℕ). get_or s k 0) a₈ ∙ x.0 ∙ ld ∙ d in
    let a₁₀ : e.table.start + e.table.len + 1 ≡ 8 + 1 + length p.database + 1 = omega arith in
    let g₁₀ : get_or s (e.table.start + e.table.len + 1) 0 ≡ 0 = ap (λ (k : ℕ). get_or s k 0) a₁₀ ∙ y.0 ∙ lt ∙ t in
    let m₁ = read_moves s (e.table.start + e.table.len + 1) e.types.len e.types.start l.columns.count in
    let c : ◌≡◌ {A = ℕ × ℕ} (e.types.len, e.types.start) (0, e.table.start + e.table.len + 1 + 1) =
    same_ok (sym l.columns.count ∙ packed_zero s (e.table.start + e.table.len + 1) (omega arith) g₁₀) in
    let cl : e.types.len ≡ 0 = ap (λ (v : ℕ × ℕ). v.0) c in
    let cs : e.types.start ≡ e.table.start + e.table.len + 1 + 1 = ap (λ (v : ℕ × ℕ). v.1) c in
    let a₁₁ : e.types.start + e.types.len ≡ 8 + 1 + length p.database + 1 + 1 + length p.table = omega arith in
    let g₁₁ : get_or s (e.types.start + e.types.len) 0 ≡ 0 = ap (λ (k : ℕ). get_or s k 0) a₁₁ ∙ from_first 0 b n.4 in
    let m₂ = read_moves s (e.types.start + e.types.len) e.metadata.len e.metadata.start l.columns.announced in
    let u : ◌≡◌ {A = ℕ × ℕ} (e.metadata.len, e.metadata.start) (0, e.types.start + e.types.len + 1) =
    same_ok (sym l.columns.announced ∙ packed_zero s (e.types.start + e.types.len) (omega arith) g₁₁) in
    let ul : e.metadata.len ≡ 0 = ap (λ (v : ℕ × ℕ). v.0) u in
    let us : e.metadata.start ≡ e.types.start + e.types.len + 1 = ap (λ (v : ℕ × ℕ). v.1) u in
    let k₁ : length (packed_bytes e.types.len) ≡ 1 = ap (λ (v : ℕ). length (packed_bytes v)) cl ∙ one_byte_lem in
    let k₂ : length (packed_bytes e.metadata.len) ≡ 1 = ap (λ (v : ℕ). length (packed_bytes v)) ul ∙ one_byte_lem in
    let bl : e.bits.len ≡ 0 = l.columns.bits_len ∙ ap bytes_for cl in
    let a : length s ≡ 12 + e.database.len + e.table.len
    + (length (packed_bytes e.types.len)
    + (e.types.len + (length (packed_bytes e.metadata.len) + (e.metadata.len + (e.bits.len + e.optional.len))))) =
    ap length (sym q) ∙ again_length s e w in
    omega arith

-- what is written again as it was is as a writer writes it
pub same_canonical : (s : List ℕ) (post_header : ℕ) (e : Event) → Bytes s → read_event s post_header ≡ ok e → event_bytes (event_parts_of s e) ≡ s
    → Canonical s post_header e
same_canonical s post_header e h r q = go (eqb post_header 6) refl
  where
    go : (t : Bool) → eqb post_header 6 ≡ t → Canonical s post_header e
    go true t =
        let i : id_bytes post_header ≡ 4 = rw t in
        absurd
        (never_four s e h (subst (λ (w : ℕ). Laid s w e) i (laid s post_header e r))
        (subst (λ (w : ℕ). Ordered s w e) i (parts_within s post_header e r))
        (each_within s post_header e r) q)
    go false t =
        let i : id_bytes post_header ≡ 6 = rw t in
        same_six s post_header e h r i q

-- ---- whatever was read, the writer takes
id_fits : (s : List ℕ) (post_header : ℕ) → Bytes s → id_bytes post_header ≤ length s → le_value (take (id_bytes post_header) s) < 2 ^ 48
id_fits s post_header h l = go (eqb post_header 6) refl
  where
    go : (t : Bool) → eqb post_header 6 ≡ t → le_value (take (id_bytes post_header) s) < 2 ^ 48
    go true t =
        let i : id_bytes post_header ≡ 4 = rw t in
        rw i (omega (arith, first_bound s 4 h (omega arith)))
    go false t =
        let i : id_bytes post_header ≡ 6 = rw t in
        rw i (omega (arith, first_bound s 6 h (omega arith)))

pub read_taken : (s : List ℕ) (post_header : ℕ) (e : Event) → Bytes s → read_event s post_header ≡ ok e → is_event (event_parts_of s e) ≡ true
unfolding is_event
read_taken s post_header e h r =
    let l = laid s post_header e r in
    let o = parts_within s post_header e r in
    let w = each_within s post_header e r in
    let i : e.id < 2 ^ 48 = subst (λ (v : ℕ). v < 2 ^ 48) (sym l.id) (id_fits s post_header h (omega arith)) in
    let d : length (part_of s e.database) ≤ 255 = omega (arith, part_length s e.database w.database, h (id_bytes post_header + 2)) in
    let t : length (part_of s e.table) ≤ 255 =
    omega (arith, part_length s e.table w.table, h (e.database.start + e.database.len + 1)) in
    let b : length (part_of s e.bits) ≡ bytes_for (length (part_of s e.types)) =
    part_length s e.bits w.bits ∙ l.columns.bits_len ∙ ap bytes_for (sym (part_length s e.types w.types)) in
    rw (lt-ltb _ _ i, le-leb _ _ d, le-leb _ _ t, eq-eqb _ _ b)

-- both ways
pub read_write : (s : List ℕ) (post_header : ℕ) (e : Event) → Bytes s → read_event s post_header ≡ ok e
    → (Canonical s post_header e → event_bytes (event_parts_of s e) ≡ s) × (event_bytes (event_parts_of s e) ≡ s → Canonical s post_header e)
read_write s post_header e h r = (canonical_same s post_header e h r, same_canonical s post_header e h r)
