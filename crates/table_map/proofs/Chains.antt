-- What reading an event says of the places of its parts: they stand end to end, and within the bytes. Assumes nothing.
use Prim.Native.Nat.{ℕ, ◌+◌, ◌-◌, ◌≤◌, ◌<◌}
use mathlib.Core.Path.{◌≡◌, refl, sym, ap, subst, ◌∙◌}
use mathlib.Core.List.{List}
use mathlib.Core.Bool.{Bool, true, false, cond}
use native.Mathlib.Omega.{arith}
use borrow.Author.Tests.{le-leb}
use lib.ListN.{length, get_or, take, drop}
use lib.Dec.{eqb}
use Rattle.wire.specs.Bits.{bytes_for}
use Rattle.wire.specs.Outcome.{Outcome, ok, refused}
use Rattle.wire.specs.Number.{le_value}
use Rattle.wire.specs.Packed.{read_packed}
use Rattle.wire.specs.Parts.{part, lent_part, within}
use Rattle.wire.specs.declared.part.Part.{Part}
use Rattle.wire.proofs.Outcomes.{after_is_ok, same_ok}
use Rattle.wire.proofs.Parts.{within_ok}
use Rattle.wire.proofs.Forms.{read_moves}
use Rattle.table_map.specs.declared.event.Event.{Event}
use Rattle.table_map.specs.Parts.{short_part, long_part}
use Rattle.table_map.specs.Events.{id_bytes, read_names, read_columns, read_event, part_in}
use Rattle.table_map.specs.Inner.Events.{no_event, or_none}

-- a name, and the place after it
pub record Named (s : List ℕ) (at : ℕ) (p : Part) (next : ℕ) : Type 0 where
  pub start : p.start ≡ at + 1
  pub len : p.len ≡ get_or s at 0
  pub next_is : next ≡ p.start + p.len
  pub ends : next ≤ length s

pub named : (s : List ℕ) (at : ℕ) (x : Part × ℕ) → short_part s at ≡ ok x → Named s at x.0 x.1
unfolding short_part
named s at x e =
    let v = after_is_ok (within s at 1 at) _ _ e in
    let w = after_is_ok (within s v.0 (get_or s at 0) at) _ _ v.2 in
    let i = within_ok s at 1 at v.0 v.1 in
    let j = within_ok s v.0 (get_or s at 0) at w.0 w.1 in
    let q = same_ok w.2 in
    let a : v.0 ≡ x.0.start = ap (λ (y : Part × ℕ). y.0.start) q in
    let b : get_or s at 0 ≡ x.0.len = ap (λ (y : Part × ℕ). y.0.len) q in
    let d : w.0 ≡ x.1 = ap (λ (y : Part × ℕ). y.1) q in
    record { start = omega arith; len = sym b; next_is = omega arith; ends = omega arith }

-- both names, each with a byte behind it
pub record TwoNamed (s : List ℕ) (at : ℕ) (database table : Part) (next : ℕ) : Type 0 where
  pub one : Named s at database (database.start + database.len)
  pub two : Named s (database.start + database.len + 1) table (table.start + table.len)
  pub next_is : next ≡ table.start + table.len + 1
  pub ends : next ≤ length s

two_named : (s : List ℕ) (at : ℕ) (x : Part × Part × ℕ) → read_names s at ≡ ok x → TwoNamed s at x.0 x.1 x.2
unfolding read_names
two_named s at x e =
    let d = after_is_ok (short_part s at) _ _ e in
    let a = after_is_ok (within s d.0.1 1 d.0.1) _ _ d.2 in
    let t = after_is_ok (short_part s a.0) _ _ a.2 in
    let b = after_is_ok (within s t.0.1 1 t.0.1) _ _ t.2 in
    let i = named s at d.0 d.1 in
    let j = within_ok s d.0.1 1 d.0.1 a.0 a.1 in
    let k = named s a.0 t.0 t.1 in
    let l = within_ok s t.0.1 1 t.0.1 b.0 b.1 in
    let q = same_ok b.2 in
    let qd : d.0.0 ≡ x.0 = ap (λ (y : Part × Part × ℕ). y.0) q in
    let qt : t.0.0 ≡ x.1 = ap (λ (y : Part × Part × ℕ). y.1) q in
    let qn : b.0 ≡ x.2 = ap (λ (y : Part × Part × ℕ). y.2) q in
    let i' : Named s at x.0 d.0.1 = subst (λ (p : Part). Named s at p d.0.1) qd i in
    let k' : Named s a.0 x.1 t.0.1 = subst (λ (p : Part). Named s a.0 p t.0.1) qt k in
    let n : a.0 ≡ x.0.start + x.0.len + 1 = omega arith in
    record {
      one = record { start = i'.start; len = i'.len; next_is = refl; ends = omega arith };
      two = record { start = omega arith; len = k'.len ∙ ap (λ (p : ℕ). get_or s p 0) n; next_is = refl; ends = omega arith };
      next_is = omega arith;
      ends = omega arith;
    }

-- what there is of the columns
pub record Columned (s : List ℕ) (at : ℕ) (types metadata bits : Part) (next : ℕ) : Type 0 where
  pub count : read_packed s at ≡ ok (types.len, types.start)
  pub announced : read_packed s (types.start + types.len) ≡ ok (metadata.len, metadata.start)
  pub bits_start : bits.start ≡ metadata.start + metadata.len
  pub bits_len : bits.len ≡ bytes_for types.len
  pub next_is : next ≡ bits.start + bits.len
  pub ends : next ≤ length s

-- a part behind a packed length, and the place after it
pub long_named : (s : List ℕ) (at : ℕ) (x : Part × ℕ) → long_part s at ≡ ok x
    → (read_packed s at ≡ ok (x.0.len, x.0.start)) × (x.1 ≡ x.0.start + x.0.len) × (x.1 ≤ length s)
unfolding long_part
long_named s at x e =
    let v = after_is_ok (read_packed s at) _ _ e in
    let w = after_is_ok (within s v.0.1 v.0.0 at) _ _ v.2 in
    let j = within_ok s v.0.1 v.0.0 at w.0 w.1 in
    let q = same_ok w.2 in
    let a : v.0.1 ≡ x.0.start = ap (λ (y : Part × ℕ). y.0.start) q in
    let b : v.0.0 ≡ x.0.len = ap (λ (y : Part × ℕ). y.0.len) q in
    let d : w.0 ≡ x.1 = ap (λ (y : Part × ℕ). y.1) q in
    (v.1 ∙ ap (λ (y : Part × ℕ). ok (y.0.len, y.0.start)) q, omega arith, omega arith)

columned : (s : List ℕ) (at : ℕ) (x : Part × Part × Part × ℕ) → read_columns s at ≡ ok x → Columned s at x.0 x.1 x.2 x.3
unfolding read_columns
columned s at x e =
    let n = after_is_ok (read_packed s at) _ _ e in
    let a = after_is_ok (within s n.0.1 n.0.0 n.0.1) _ _ n.2 in
    let m = after_is_ok (long_part s a.0) _ _ a.2 in
    let b = after_is_ok (within s m.0.1 (bytes_for n.0.0) m.0.1) _ _ m.2 in
    let i = within_ok s n.0.1 n.0.0 n.0.1 a.0 a.1 in
    let j = long_named s a.0 m.0 m.1 in
    let k = within_ok s m.0.1 (bytes_for n.0.0) m.0.1 b.0 b.1 in
    let q = same_ok b.2 in
    let s0 : n.0.1 ≡ x.0.start = ap (λ (y : Part × Part × Part × ℕ). y.0.start) q in
    let l0 : n.0.0 ≡ x.0.len = ap (λ (y : Part × Part × Part × ℕ). y.0.len) q in
    let p1 : m.0.0 ≡ x.1 = ap (λ (y : Part × Part × Part × ℕ). y.1) q in
    let s2 : m.0.1 ≡ x.2.start = ap (λ (y : Part × Part × Part × ℕ). y.2.start) q in
    let l2 : bytes_for n.0.0 ≡ x.2.len = ap (λ (y : Part × Part × Part × ℕ). y.2.len) q in
    let n3 : b.0 ≡ x.3 = ap (λ (y : Part × Part × Part × ℕ). y.3) q in
    let at2 : a.0 ≡ x.0.start + x.0.len = omega arith in
    let s1 : m.0.0.start ≡ x.1.start = ap (λ (y : Part). y.start) p1 in
    let l1 : m.0.0.len ≡ x.1.len = ap (λ (y : Part). y.len) p1 in
    record {
      count = n.1 ∙ ap (λ (y : Part × Part × Part × ℕ). ok (y.0.len, y.0.start)) q;
      announced = ap (read_packed s) (sym at2) ∙ j.0 ∙ ap (λ (y : Part). ok (y.len, y.start)) p1;
      bits_start = omega arith;
      bits_len = sym l2 ∙ ap bytes_for l0;
      next_is = omega arith;
      ends = omega arith;
    }

-- an event of the bytes s whose id has w bytes
pub record Laid (s : List ℕ) (w : ℕ) (e : Event) : Type 0 where
  pub id : e.id ≡ le_value (take w s)
  pub flags : e.flags ≡ le_value (take 2 (drop w s))
  pub names : TwoNamed s (w + 2) e.database e.table (e.table.start + e.table.len + 1)
  pub columns : Columned s (e.table.start + e.table.len + 1) e.types e.metadata e.bits (e.bits.start + e.bits.len)
  pub rest_start : e.optional.start ≡ e.bits.start + e.bits.len
  pub rest_len : e.optional.start + e.optional.len ≡ length s

-- every event that is read
pub laid : (s : List ℕ) (post_header : ℕ) (e : Event) → read_event s post_header ≡ ok e → Laid s (id_bytes post_header) e
unfolding read_event
laid s post_header e r =
    let a = after_is_ok (within s 0 (id_bytes post_header) 0) _ _ r in
    let b = after_is_ok (within s a.0 2 a.0) _ _ a.2 in
    let x = after_is_ok (read_names s b.0) _ _ b.2 in
    let y = after_is_ok (read_columns s x.0.2) _ _ x.2 in
    let i = within_ok s 0 (id_bytes post_header) 0 a.0 a.1 in
    let j = within_ok s a.0 2 a.0 b.0 b.1 in
    let k = two_named s b.0 x.0 x.1 in
    let l = columned s x.0.2 y.0 y.1 in
    let q = same_ok y.2 in
    let w : a.0 ≡ id_bytes post_header = omega arith in
    let w2 : b.0 ≡ id_bytes post_header + 2 = omega arith in
    let q0 : le_value (take a.0 s) ≡ e.id = ap (λ (z : Event). z.id) q in
    let q1 : le_value (take 2 (drop a.0 s)) ≡ e.flags = ap (λ (z : Event). z.flags) q in
    let q2 : x.0.0 ≡ e.database = ap (λ (z : Event). z.database) q in
    let q3 : x.0.1 ≡ e.table = ap (λ (z : Event). z.table) q in
    let q4 : y.0.0 ≡ e.types = ap (λ (z : Event). z.types) q in
    let q5 : y.0.1 ≡ e.metadata = ap (λ (z : Event). z.metadata) q in
    let q6 : y.0.2 ≡ e.bits = ap (λ (z : Event). z.bits) q in
    let q7 : y.0.3 ≡ e.optional.start = ap (λ (z : Event). z.optional.start) q in
    let q8 : length s - y.0.3 ≡ e.optional.len = ap (λ (z : Event). z.optional.len) q in
    let k' : TwoNamed s (id_bytes post_header + 2) e.database e.table x.0.2 =
    subst (λ (v : ℕ). TwoNamed s v e.database e.table x.0.2) w2
    (subst (λ (p : Part). TwoNamed s b.0 e.database p x.0.2) q3
    (subst (λ (p : Part). TwoNamed s b.0 p x.0.1 x.0.2) q2 k)) in
    let l' : Columned s x.0.2 e.types e.metadata e.bits y.0.3 =
    subst (λ (p : Part). Columned s x.0.2 e.types e.metadata p y.0.3) q6
    (subst (λ (p : Part). Columned s x.0.2 e.types p y.0.2 y.0.3) q5
    (subst (λ (p : Part). Columned s x.0.2 p y.0.1 y.0.2 y.0.3) q4 l)) in
    let m : x.0.2 ≡ e.table.start + e.table.len + 1 = k'.next_is in
    let n : y.0.3 ≡ e.bits.start + e.bits.len = l'.next_is in
    record {
      id = sym q0 ∙ ap (λ (v : ℕ). le_value (take v s)) w;
      flags = sym q1 ∙ ap (λ (v : ℕ). le_value (take 2 (drop v s))) w;
      names = subst (λ (v : ℕ). TwoNamed s (id_bytes post_header + 2) e.database e.table v) m k';
      columns =
          subst (λ (v : ℕ). Columned s v e.types e.metadata e.bits (e.bits.start + e.bits.len)) m
          (subst (λ (v : ℕ). Columned s x.0.2 e.types e.metadata e.bits v) n l');
      rest_start = omega arith;
      rest_len = omega arith;
    }

-- where the columns that were read end
pub columns_end : (s : List ℕ) (at : ℕ) (x : Part × Part × Part × ℕ) → read_columns s at ≡ ok x → x.3 ≤ length s
columns_end s at x e = (columned s at x e).ends

-- the id has at most 6 bytes
pub id_narrow : (post_header : ℕ) → id_bytes post_header ≤ 6
id_narrow post_header = go (eqb post_header 6)
  where
    go : (t : Bool) → cond t 4 6 ≤ 6
    go true = omega arith
    go false = omega arith

-- ---- the parts in order, end to end, from the byte behind the database name's length to the last
pub record Ordered (s : List ℕ) (w : ℕ) (e : Event) : Type 0 where
  pub database : e.database.start ≡ w + 3
  -- a skipped byte and the length byte stand between the names
  pub table : e.table.start ≡ e.database.start + e.database.len + 2
  -- a skipped byte and the count stand before the types
  pub types : e.table.start + e.table.len + 1 < e.types.start
  -- the packed length stands before the metadata
  pub metadata : e.types.start + e.types.len < e.metadata.start
  pub bits : e.bits.start ≡ e.metadata.start + e.metadata.len
  pub optional : e.optional.start ≡ e.bits.start + e.bits.len
  pub ends : e.optional.start + e.optional.len ≡ length s

pub parts_within : (s : List ℕ) (post_header : ℕ) (e : Event) → read_event s post_header ≡ ok e → Ordered s (id_bytes post_header) e
parts_within s post_header e r =
    let l = laid s post_header e r in
    record {
      database = omega arith;
      table = omega arith;
      types = (read_moves s (e.table.start + e.table.len + 1) e.types.len e.types.start l.columns.count).0;
      metadata = (read_moves s (e.types.start + e.types.len) e.metadata.len e.metadata.start l.columns.announced).0;
      bits = l.columns.bits_start;
      optional = l.rest_start;
      ends = l.rest_len;
    }

-- so each ends within the bytes
pub record Within (s : List ℕ) (e : Event) : Type 0 where
  pub database : e.database.start + e.database.len ≤ length s
  pub table : e.table.start + e.table.len ≤ length s
  pub types : e.types.start + e.types.len ≤ length s
  pub metadata : e.metadata.start + e.metadata.len ≤ length s
  pub bits : e.bits.start + e.bits.len ≤ length s
  pub optional : e.optional.start + e.optional.len ≤ length s

pub each_within : (s : List ℕ) (post_header : ℕ) (e : Event) → read_event s post_header ≡ ok e → Within s e
each_within s post_header e r =
    let o = parts_within s post_header e r in
    record {
      database =
          omega arith;
      table = omega arith;
      types = omega arith;
      metadata = omega arith;
      bits = omega arith;
      optional = omega arith;
    }

-- so to lend a part of what was read is to say its bytes: none where the event is refused
pub lent_is_part : (f : Event → Part) → f no_event ≡ part 0 0 → (s : List ℕ) (post_header : ℕ)
    → ((e : Event) → Within s e → (f e).start + (f e).len ≤ length s)
    → lent_part s (f (or_none (read_event s post_header))) ≡ part_in f s (read_event s post_header)
lent_is_part f none s post_header ends = go (read_event s post_header) refl
  where
    go : (o : Outcome Event) → read_event s post_header ≡ o → lent_part s (f (or_none o)) ≡ part_in f s o
    go (ok e) r = rw (le-leb _ _ (ends e (each_within s post_header e r)))
    go (refused r) _ = rw (none, le-leb 0 (length s) (omega arith))
