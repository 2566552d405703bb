-- One stored value: what is read, written and refused of it; and how the refusals of temporals, of values, and of sorts and parts that make
-- none are listed. Assumes nothing.
use Prim.Native.Nat.{ℕ, ◌+◌, ◌-◌, ◌≤◌, ◌<◌}
use mathlib.Core.Path.{◌≡◌, refl, sym, ap, subst, ◌∙◌}
use mathlib.Core.Bool.{Bool, true, false, cond, false≢true}
use mathlib.Core.Logic.{dite, ⊎_elim}
use mathlib.Core.List.{List, [], ◌++◌}
use native.Mathlib.Decide.{dec_le}
use native.Mathlib.Omega.{arith}
use borrow.Author.Tests.{le-leb, leb-true}
use lib.ListN.{length, take, drop, length-drop}
use lib.Dec.{leb, ltb, eqb}
use lib.Seq.{length-take-le, drop-append_seam}
use Rattle.wire.specs.declared.refusal.Refusal.{Refusal}
use Rattle.wire.specs.declared.part.Part.{Part}
use Rattle.wire.specs.Outcome.{Outcome, ok, refused, refuse, why, after, out_of}
use Rattle.wire.specs.Number.{Bytes}
use Rattle.wire.specs.Parts.{part}
use Rattle.wire.specs.Stored.{stored, store}
use Rattle.wire.proofs.Outcomes.{after_is_ok, after_refuses, test_is_ok, test_refuses, same_ok, same_refused, ok_not_refused}
use Rattle.wire.proofs.Stores.{stored_from, store_fits, store_full}
use Rattle.wire.proofs.Inverse.{bytes_take, bytes_drop}
use Rattle.temporal.specs.declared.storage.Storage.{Storage}
use Rattle.temporal.specs.declared.parts.Temporal.{Temporal}
use Rattle.temporal.specs.Domains.{temporal_domain}
use Rattle.temporal.specs.Reading.{temporal_size, temporal_fault, temporal_bytes, read_temporal, write_temporal}
use Rattle.temporal.proofs.Forms.{sized as timed_sized}
use Rattle.value.specs.declared.column.Column.{Column}
use Rattle.value.specs.declared.datum.Value.{Value}
use Rattle.value.specs.declared.datum.Value.TheVariants.{Null, Int, Uint, Float, Double, Year}
use Rattle.value.specs.declared.shape.Shape.{Shape}
use Rattle.value.specs.declared.shape.Shape.TheVariants.{Unsigned, Signed, FloatBits, DoubleBits, YearByte, Timed, Fixed, Counted}
use Rattle.value.specs.declared.shape.Shape.TheVariants.{NotTaken}
use Rattle.value.specs.Columns.{shape_of, is_taken, refusal_of}
use Rattle.value.specs.Data.{Datum, null, int, uint, float, double, year, temporal, bytes, tag, is_bytes, bytes_in}
use Rattle.value.specs.Domains.{domain}
use Rattle.value.specs.Shapes.{bytes_of, need, decode, fault}
use Rattle.value.specs.Ops.{shape_for}
use Rattle.value.specs.Reading.{taken, cut, judged, read_datum, read_value, placed, datum_of, Fails, short, range}
use Rattle.value.specs.Storing.{bytes_at, is_lent, is_in, stored_bytes, size_of, write_value}
use Rattle.value.proofs.Facts.{fault_bytes, taken_domain, whole, need_take}
use Rattle.value.proofs.Laws.{back, sound, took, said_read, fails, fails_back, taken_at, taken_same, fault_most}
use Rattle.temporal.proofs.Firsts.{fault_most as timed_most}
use Rattle.value.proofs.Tables.{sized, some_bytes, refused_number}
use Rattle.value.proofs.Writers.{is_in_lem, writes_in, writes_out}
use Rattle.value_parts.specs.Parts.{top_of_bits, value_of, makes_value, is_held}
use Rattle.value_parts.proofs.Inside.{held_in}
use Rattle.promises.specs.Refusals.{Line, OneOf}
use Rattle.promises.specs.Values.{NoValue, Within, Takes, stored_as, Values}
use Rattle.promises.proofs.Demand1.Only.{Listed, done, stop, chain, test, room, Tens, stop_part}

-- ---- temporals
pub temporal_read : {ls : List Line} (k : Storage) (place : ℕ) (s : List ℕ) (o : ℕ) → OneOf ls (why 9 place) → Tens ls place
    → Listed ls (read_temporal k place s o)
unfolding read_temporal
temporal_read k place s o nine ten =
    test (leb (o + temporal_size k) (length s))
    (λ u. test (eqb (temporal_fault k (take (temporal_size k) (drop o s))) 0) (λ u. done _)
    (λ u. stop_part ten u (timed_most k (take (temporal_size k) (drop o s)))))
    (λ u. stop nine)

pub temporal_written : {ls : List Line} (k : Storage) (place : ℕ) (buf : List ℕ) (o : ℕ) (t : Temporal) → OneOf ls (why 13 place)
    → OneOf ls (why 8 0)
    → Listed ls (write_temporal k place t buf o)
unfolding write_temporal
temporal_written k place buf o t thirteen eight = test (temporal_domain k t) (λ u. room buf o (temporal_bytes k t) eight) (λ u. stop thirteen)

-- ---- values: 4 and 5 first
pub column_taken : {ls : List Line} (c : Column) (place : ℕ) → OneOf ls (why 4 place) → OneOf ls (why 5 place)
    → Listed ls (taken (shape_of c) place)
unfolding taken
column_taken {ls} c place four five =
    test (is_taken (shape_of c)) (λ u. done _)
    (λ u. stop (⊎_elim (λ e. subst (λ (m : ℕ). OneOf ls (why m place)) (sym e) four)
    (λ e. subst (λ (m : ℕ). OneOf ls (why m place)) (sym e) five) (refused_number c u)))

-- of an op: 11, and of 0 alone
abbrev OpTaken : List Line → ℕ → Shape → Type 1
OpTaken ls place sh = Listed ls (taken sh place)

either : (P : Shape → Type 1) (b : Bool) {x y : Shape} → P x → P y → P (cond b x y)
either P true p q = p
either P false p q = q

pub op_taken : {ls : List Line} (op place : ℕ) → OneOf ls (why 11 place) → Listed ls (taken (shape_for op) place)
unfolding shape_for taken is_taken refusal_of
op_taken {ls} op place eleven =
    let P : Shape → Type 1 = OpTaken ls place in
    either P (ltb op 1) (stop eleven)
    (either P (ltb op 10) (done _)
    (either P (ltb op 18) (done _)
    (either P (ltb op 19) (done _)
    (either P (ltb op 20) (done _)
    (either P (ltb op 21) (done _)
    (either P (ltb op 22) (done _)
    (either P (ltb op 23) (done _)
    (either P (ltb op 24) (done _)
    (either P (ltb op 25) (done _)
    (either P (ltb op 32) (done _)
    (either P (ltb op 39) (done _)
    (either P (ltb op 46) (done _)
    (either P (ltb op 51) (done _) (done _))))))))))))))

-- and not of a column that there is
pub there_taken : {ls : List Line} (sh : Shape) (place : ℕ) → is_taken sh ≡ true → Listed ls (taken sh place)
there_taken sh place h = rw (taken_at sh place h) (done sh)

-- ---- then bytes and ranges, or the domain and room
pub datum_read : {ls : List Line} (sh : Shape) (place : ℕ) (s : List ℕ) → Listed ls (taken sh place) → OneOf ls (why 9 place)
    → Tens ls place → Listed ls (read_datum sh place s)
unfolding read_datum cut judged
datum_read sh place s h nine ten =
    chain (taken sh place) _ h (λ sh e.
    chain (cut sh place s) _ (test (leb (need sh s) (length s)) (λ u. done _) (λ u. stop nine)) (λ b e.
    chain (judged sh place b) _ (test (eqb (fault sh b) 0) (λ u. done _) (λ u. stop_part ten u (fault_most sh b))) (λ d e. done _)))

pub value_read : {ls : List Line} (sh : Shape) (place : ℕ) (s : List ℕ) (o : ℕ) → Listed ls (taken sh place) → OneOf ls (why 9 place)
    → Tens ls place
    → Listed ls (read_value sh place s o)
unfolding read_value
value_read sh place s o h nine ten = chain (read_datum sh place (drop o s)) _ (datum_read sh place (drop o s) h nine ten) (λ x e. done _)

pub value_stored : {ls : List Line} (sh : Shape) (place : ℕ) (lent : List ℕ) (v : Value) → Listed ls (taken sh place)
    → OneOf ls (why 13 place)
    → Listed ls (stored_bytes sh place lent v)
unfolding stored_bytes
value_stored sh place lent v h thirteen = chain (taken sh place) _ h (λ sh e. test (is_in sh lent v) (λ u. done _) (λ u. stop thirteen))

pub value_sized : {ls : List Line} (sh : Shape) (place : ℕ) (lent : List ℕ) (v : Value) → Listed ls (taken sh place)
    → OneOf ls (why 13 place)
    → Listed ls (size_of sh place lent v)
unfolding size_of
value_sized sh place lent v h thirteen = chain (stored_bytes sh place lent v) _ (value_stored sh place lent v h thirteen) (λ b e. done _)

pub value_written : {ls : List Line} (sh : Shape) (place : ℕ) (lent : List ℕ) (v : Value) (buf : List ℕ) (o : ℕ)
    → Listed ls (taken sh place) → OneOf ls (why 13 place)
    → OneOf ls (why 8 0) → Listed ls (write_value sh place lent v buf o)
unfolding write_value
value_written sh place lent v buf o h thirteen eight =
    chain (stored_bytes sh place lent v) _ (value_stored sh place lent v h thirteen) (λ b e. room buf o b eight)

-- ---- a sort and parts
pub value_made : {ls : List Line} (sort : ℕ) (parts : List ℕ) → OneOf ls (why 13 0) → Listed ls (value_of sort parts)
unfolding value_of
value_made sort parts thirteen = test (makes_value sort parts) (λ u. done _) (λ u. stop thirteen)

-- ---- what one value's reader and writer do
read_back : (c : Column) (d : Datum) (p : ℕ) (pre rest : List ℕ) → domain (shape_of c) d ≡ true
    → read_value (shape_of c) p (pre ++ (bytes_of (shape_of c) d ++ rest)) (length pre)
    ≡ ok (placed (length pre + length (bytes_of (shape_of c) d)) d, length pre + length (bytes_of (shape_of c) d))
unfolding read_value
read_back c d p pre rest h = rw (drop-append_seam pre (bytes_of (shape_of c) d ++ rest), back (shape_of c) d p rest h)

pub read_sound : (c : Column) (p : ℕ) (s : List ℕ) (at : ℕ) (v : Value) (next : ℕ) → Bytes s → read_value (shape_of c) p s at ≡ ok (v, next)
    → (domain (shape_of c) (datum_of s v) ≡ true) × (at ≤ next) × (next ≤ length s)
    × (bytes_of (shape_of c) (datum_of s v) ≡ take (next - at) (drop at s))
unfolding read_value
read_sound c p s at v next h e =
    let x = after_is_ok (read_datum (shape_of c) p (drop at s)) _ _ e in
    let d = x.0.0 in
    let n = x.0.1 in
    let o = same_ok x.2 in
    let t = took (shape_of c) p (drop at s) d n x.1 in
    let w = sound (shape_of c) p (drop at s) d n (sized c) (bytes_drop at s h) x.1 in
    let vv : datum_of s v ≡ d = ap (λ (y : Value × ℕ). datum_of s y.0) (sym o) ∙ said_read (shape_of c) p s at d n x.1 in
    let m : at + n ≡ next = ap (λ (y : Value × ℕ). y.1) o in
    let k : next - at ≡ n = omega arith in (
      subst (λ (y : Datum). domain (shape_of c) y ≡ true) (sym vv) w.0,
      omega (arith, m),
      omega (arith, m, t.size, t.fits, length-drop at s, some_bytes c t.there (drop at s)),
      rw (vv, k) w.2,
    )

-- ---- where a value's bytes stand
-- bytes say no more of them than they are
said_few : (sh : Shape) (b : List ℕ) → length (bytes_in (decode sh b)) ≤ length b
unfolding decode bytes_in
said_few (Unsigned k) b = omega arith
said_few (Signed k) b = omega arith
said_few FloatBits b = omega arith
said_few DoubleBits b = omega arith
said_few YearByte b = omega arith
said_few (Timed k) b = omega arith
said_few (Fixed n) b = omega arith
said_few (Counted k) b = omega (arith, length-drop k b)
said_few (NotTaken n) b = omega arith

-- a value that is no bytes has none
no_bytes : (v : Value) (s : List ℕ) (at next : ℕ) → bytes_at v ≡ part 0 0 → is_bytes (datum_of [] v) ≡ false → Within s at next v
unfolding is_lent datum_of tag
no_bytes v s at next a b =
    (rw a (le-leb 0 (length s) (omega arith)), λ q e. absurd (false≢true (sym b ∙ ap (λ (x : Value). is_bytes (datum_of [] x)) e)))

-- and one that is bytes has the last
placed_within : (d : Datum) (s : List ℕ) (at next : ℕ) → at + length (bytes_in d) ≤ next → next ≤ length s → Within s at next (placed next d)
unfolding placed bytes_in is_lent bytes_at datum_of tag
placed_within null s at next l h = no_bytes Null s at next refl refl
placed_within (int z) s at next l h = no_bytes (Int z) s at next refl refl
placed_within (uint n) s at next l h = no_bytes (Uint n) s at next refl refl
placed_within (float n) s at next l h = no_bytes (Float n) s at next refl refl
placed_within (double n) s at next l h = no_bytes (Double n) s at next refl refl
placed_within (year n) s at next l h = no_bytes (Year n) s at next refl refl
placed_within (temporal t) s at next l h = no_bytes (Value.Temporal t) s at next refl refl
placed_within (bytes b) s at next l h =
    let k : at + length b ≤ next = l in
    let x : (at ≤ next - length b) × (next - length b + length b ≡ next) = (omega (arith, k), omega (arith, k)) in (
      le-leb (next - length b + length b) (length s) (omega (arith, k, h)),
      λ q e. subst (λ (y : Part). (at ≤ y.start) × (y.start + y.len ≡ next)) (ap bytes_at e) x,
    )

pub read_lent : (c : Column) (p : ℕ) (s : List ℕ) (at : ℕ) (v : Value) (next : ℕ) → Bytes s → read_value (shape_of c) p s at ≡ ok (v, next)
    → Within s at next v
unfolding read_value
read_lent c p s at v next h e =
    let x = after_is_ok (read_datum (shape_of c) p (drop at s)) _ _ e in
    let d = x.0.0 in
    let n = x.0.1 in
    let o = same_ok x.2 in
    let m : at + n ≡ next = ap (λ (y : Value × ℕ). y.1) o in
    let t = took (shape_of c) p (drop at s) d n x.1 in
    let f : length (bytes_in (decode (shape_of c) (take n (drop at s)))) ≤ n =
    omega (arith, said_few (shape_of c) (take n (drop at s)), length-take-le n (drop at s) t.fits) in
    let g : length (bytes_in d) ≤ n = subst (λ (y : Datum). length (bytes_in y) ≤ n) (sym t.says) f in
    let b = read_sound c p s at v next h e in
    subst (λ (y : Value × ℕ). Within s at y.1 y.0) o (placed_within d s at (at + n) (omega (arith, g)) (omega (arith, m, b.2)))

pub read_held : (c : Column) (p : ℕ) (s : List ℕ) (at : ℕ) (v : Value) (next : ℕ) → Bytes s → length s ≤ top_of_bits 64
    → read_value (shape_of c) p s at ≡ ok (v, next) → is_held v ≡ true
unfolding read_value
read_held c p s at v next h l e =
    let x = after_is_ok (read_datum (shape_of c) p (drop at s)) _ _ e in
    let d = x.0.0 in
    let n = x.0.1 in
    let o = same_ok x.2 in
    let m : at + n ≡ next = ap (λ (y : Value × ℕ). y.1) o in
    let b = read_sound c p s at v next h e in
    let w = sound (shape_of c) p (drop at s) d n (sized c) (bytes_drop at s h) x.1 in
    subst (λ (y : Value × ℕ). is_held y.0 ≡ true) o (held_in c d (at + n) w.0 (omega (arith, m, b.2, l)))

-- the refusals of a value are those of the datum
read_refuses : (c : Column) (p : ℕ) (s : List ℕ) (at : ℕ) (w : Refusal) → is_taken (shape_of c) ≡ true
    → read_value (shape_of c) p s at ≡ refused w → Fails (shape_of c) (drop at s) p w
unfolding read_value
read_refuses c p s at w t e =
    ⊎_elim
    (λ (x : read_datum (shape_of c) p (drop at s) ≡ refused w). fails (shape_of c) p (drop at s) w t x)
    (λ x. absurd (ok_not_refused x.2))
    (after_refuses (read_datum (shape_of c) p (drop at s)) _ w e)

read_fails : (c : Column) (p : ℕ) (s : List ℕ) (at : ℕ) (w : Refusal) → is_taken (shape_of c) ≡ true → Fails (shape_of c) (drop at s) p w
    → read_value (shape_of c) p s at ≡ refused w
unfolding read_value
read_fails c p s at w t f = rw (fails_back (shape_of c) p (drop at s) w t f)

-- which of the two it is
fails_short : {sh : Shape} {s : List ℕ} {p : ℕ} {w : Refusal} → Fails sh s p w → w.number ≡ 9 → length s < need sh s
fails_short (short l) e = l
fails_short (range l r) e = absurd (omega arith)

fails_range : {sh : Shape} {s : List ℕ} {p : ℕ} {w : Refusal} → Fails sh s p w → w.number ≡ 10
    → (need sh s ≤ length s) × (fault sh (take (need sh s) s) ≡ 0 → ⊥)
fails_range (short l) e = absurd (omega arith)
fails_range (range l r) e = (l, r)

-- bytes with a part out of range are those of no value in the domain, and the other way round
no_value : (c : Column) (t : List ℕ) → (need (shape_of c) t ≤ length t) × (fault (shape_of c) (take (need (shape_of c) t) t) ≡ 0 → ⊥)
    → NoValue c t
no_value c t (l, r) = (l, λ d h e. r (ap (fault (shape_of c)) (sym e) ∙ fault_bytes (shape_of c) d h))

value_not : (c : Column) (p : ℕ) (t : List ℕ) → is_taken (shape_of c) ≡ true → Bytes t → NoValue c t
    → Fails (shape_of c) t p (out_of p (fault (shape_of c) (take (need (shape_of c) t) t)))
value_not c p t u y (l, r) =
    let sh = shape_of c in
    let b = take (need sh t) t in
    let m : need sh b ≡ length b = need_take sh t l ∙ sym (length-take-le (need sh t) t l) in
    range l
    (λ z.
    let w = whole sh b (sized c) (bytes_take (need sh t) t y) m z (taken_at sh 0 u) in
    r (decode sh b) w.0 w.1)

-- ---- the writer
in_takes : (c : Column) (lent : List ℕ) (v : Value) → Takes c lent v → (is_taken (shape_of c) ≡ true) × (is_in (shape_of c) lent v ≡ true)
unfolding is_in
in_takes c lent v (l, h) = ((taken_same (shape_of c) (shape_of c) 0 (taken_domain (shape_of c) (datum_of lent v) 0 h)).1, rw (l, h))

value_put : (c : Column) (p : ℕ) (lent : List ℕ) (v : Value) (buf : List ℕ) (at : ℕ) → Takes c lent v
    → write_value (shape_of c) p lent v buf at ≡ store (stored_as c lent v) buf at
value_put c p lent v buf at h = let i = in_takes c lent v h in writes_in (shape_of c) p lent v buf at i.0 i.1

-- two refusals with different numbers are not the same
apart : {A : Type 0} (m n p q : ℕ) → (m ≡ n → ⊥) → ◌≡◌ {A = Outcome A} (refuse m p) (refuse n q) → ⊥
apart m n p q h e = h (ap (λ (w : Refusal). w.number) (same_refused e))

not_thirteen : (buf : List ℕ) (at p : ℕ) (bs : List ℕ) → store bs buf at ≡ refuse 13 p → ⊥
not_thirteen buf at p bs e =
    dite (dec_le (at + length bs) (length buf))
    (λ (h : at + length bs ≤ length buf). ok_not_refused (sym (store_fits buf bs at h) ∙ e))
    (λ h. apart 8 13 0 p (λ z. omega arith) (sym (store_full buf bs at (omega arith)) ∙ e))

full : (buf : List ℕ) (at : ℕ) (bs : List ℕ) → store bs buf at ≡ refuse 8 0 → length buf < at + length bs
full buf at bs e =
    dite (dec_le (at + length bs) (length buf))
    (λ (h : at + length bs ≤ length buf). absurd (ok_not_refused (sym (store_fits buf bs at h) ∙ e)))
    (λ h. omega arith)

others_out : (c : Column) (p : ℕ) (lent : List ℕ) (v : Value) (buf : List ℕ) (at : ℕ) → is_taken (shape_of c) ≡ true → (Takes c lent v → ⊥)
    → write_value (shape_of c) p lent v buf at ≡ refuse 13 p
others_out c p lent v buf at t n = go (is_in (shape_of c) lent v) refl
  where
    go : (b : Bool) → is_in (shape_of c) lent v ≡ b → write_value (shape_of c) p lent v buf at ≡ refuse 13 p
    go true i = absurd (n (is_in_lem (shape_of c) lent v i))
    go false i = writes_out (shape_of c) p lent v buf at t i

eight_takes : (c : Column) (p : ℕ) (lent : List ℕ) (v : Value) (buf : List ℕ) (at : ℕ) → is_taken (shape_of c) ≡ true
    → write_value (shape_of c) p lent v buf at ≡ refuse 8 0 → Takes c lent v × (length buf < at + length (stored_as c lent v))
eight_takes c p lent v buf at t e = go (is_in (shape_of c) lent v) refl
  where
    go : (b : Bool) → is_in (shape_of c) lent v ≡ b → Takes c lent v × (length buf < at + length (stored_as c lent v))
    go true i = (is_in_lem (shape_of c) lent v i, full buf at (stored_as c lent v) (sym (writes_in (shape_of c) p lent v buf at t i) ∙ e))
    go false i = absurd (apart 13 8 p 0 (λ z. omega arith) (sym (writes_out (shape_of c) p lent v buf at t i) ∙ e))

write_read : (c : Column) (p q : ℕ) (lent : List ℕ) (v : Value) (buf : List ℕ) (at next : ℕ) (left : List ℕ)
    → write_value (shape_of c) p lent v buf at ≡ ok (next, left) → read_value (shape_of c) q left at ≡ ok (placed next (datum_of lent v), next)
unfolding write_value stored_bytes store read_value is_in
write_read c p q lent v buf at next left e =
    let sh = shape_of c in
    let a = after_is_ok (stored_bytes sh p lent v) _ _ e in
    let b = after_is_ok (taken sh p) _ _ a.1 in
    let i : b.0 ≡ sh = (taken_same sh b.0 p b.1).0 in
    let t = test_is_ok (is_in b.0 lent v) (bytes_of b.0 (datum_of lent v)) (why 13 p) a.0 b.2 in
    let d : domain sh (datum_of lent v) ≡ true = subst (λ (x : Shape). domain x (datum_of lent v) ≡ true) i (is_in_lem b.0 lent v t.0).1 in
    let bs : bytes_of sh (datum_of lent v) ≡ a.0 = ap (λ (x : Shape). bytes_of x (datum_of lent v)) (sym i) ∙ t.1 in
    let w = test_is_ok (leb (at + length a.0) (length buf)) (at + length a.0, stored a.0 buf at) (why 8 0) (next, left) a.2 in
    let f = leb-true (at + length a.0) (length buf) w.0 in
    let n : at + length a.0 ≡ next = ap (λ (y : ℕ × List ℕ). y.0) w.1 in
    let l : stored a.0 buf at ≡ left = ap (λ (y : ℕ × List ℕ). y.1) w.1 in
    let r : drop at left ≡ bytes_of sh (datum_of lent v) ++ drop (at + length a.0) buf =
    ap (drop at) (sym l) ∙ stored_from buf at a.0 (omega arith) ∙ ap (λ (y : List ℕ). y ++ drop (at + length a.0) buf) (sym bs) in
    let m : at + length (bytes_of sh (datum_of lent v)) ≡ next = ap (λ (y : List ℕ). at + length y) bs ∙ n in
    rw (r, back sh (datum_of lent v) q (drop (at + length a.0) buf) d, m)

-- ---- the size
size_told_lem : (c : Column) (p : ℕ) (lent : List ℕ) (v : Value) (buf : List ℕ) (at next : ℕ) (left : List ℕ)
    → write_value (shape_of c) p lent v buf at ≡ ok (next, left) → (n : ℕ) × (size_of (shape_of c) p lent v ≡ ok n) × (next ≡ at + n)
unfolding write_value size_of store
size_told_lem c p lent v buf at next left e =
    let a = after_is_ok (stored_bytes (shape_of c) p lent v) _ _ e in
    let w = test_is_ok (leb (at + length a.0) (length buf)) (at + length a.0, stored a.0 buf at) (why 8 0) (next, left) a.2 in
    let n = ap (λ (o : Outcome (List ℕ)). after {B = ℕ} o (λ b. ok (length b))) a.1 in
    (length a.0, n, sym (ap (λ (y : ℕ × List ℕ). y.0) w.1))

-- the writer then stores as many bytes as the size tells
size_store : (c : Column) (p : ℕ) (lent : List ℕ) (v : Value) (buf : List ℕ) (at n : ℕ) → size_of (shape_of c) p lent v ≡ ok n
    → (b : List ℕ) × (write_value (shape_of c) p lent v buf at ≡ store b buf at) × (length b ≡ n)
unfolding write_value size_of
size_store c p lent v buf at n e =
    let a = after_is_ok (stored_bytes (shape_of c) p lent v) _ _ e in
    (a.0, ap (λ (o : Outcome (List ℕ)). after o (λ b. store b buf at)) a.1, same_ok a.2)

size_room : (c : Column) (p : ℕ) (lent : List ℕ) (v : Value) (buf : List ℕ) (at n : ℕ) → size_of (shape_of c) p lent v ≡ ok n
    → (at + n ≤ length buf → (left : List ℕ) × (write_value (shape_of c) p lent v buf at ≡ ok (at + n, left)))
    × (length buf < at + n → write_value (shape_of c) p lent v buf at ≡ refuse 8 0)
size_room c p lent v buf at n e =
    let a = size_store c p lent v buf at n e in
    let b = a.0 in
    let l = a.2 in (
      λ h. (stored b buf at, a.1 ∙ store_fits buf b at (omega (arith, h, l)) ∙ ap (λ (m : ℕ). ok (at + m, stored b buf at)) l),
      λ h. a.1 ∙ store_full buf b at (omega (arith, h, l)),
    )

size_refused : (c : Column) (p : ℕ) (lent : List ℕ) (v : Value) (buf : List ℕ) (at : ℕ) (w : Refusal)
    → (size_of (shape_of c) p lent v ≡ refused w → write_value (shape_of c) p lent v buf at ≡ refused w)
    × (write_value (shape_of c) p lent v buf at ≡ refused w → (w ≡ why 8 0 → ⊥) → size_of (shape_of c) p lent v ≡ refused w)
unfolding write_value size_of store
size_refused c p lent v buf at w = (
  λ e.
      ⊎_elim
      (λ (x : stored_bytes (shape_of c) p lent v ≡ refused w). rw x)
      (λ x. absurd (ok_not_refused x.2))
      (after_refuses (stored_bytes (shape_of c) p lent v) _ w e),
  λ e k.
      ⊎_elim
      (λ (x : stored_bytes (shape_of c) p lent v ≡ refused w). rw x)
      (λ x.
      let b = x.0 in
      absurd (k (sym (test_refuses (leb (at + length b) (length buf)) (at + length b, stored b buf at) (why 8 0) w x.2).1)))
      (after_refuses (stored_bytes (shape_of c) p lent v) _ w e),
)

temporal_size_lem : (k : Storage) (p : ℕ) (t : Temporal) (buf : List ℕ) (at : ℕ) → temporal_domain k t ≡ true
    → (length (temporal_bytes k t) ≡ temporal_size k)
    × (at + temporal_size k ≤ length buf → write_temporal k p t buf at ≡ ok (at + temporal_size k, stored (temporal_bytes k t) buf at))
    × (length buf < at + temporal_size k → write_temporal k p t buf at ≡ refuse 8 0)
unfolding write_temporal
temporal_size_lem k p t buf at d =
    let b = temporal_bytes k t in
    let l = timed_sized k t in (
      l,
      λ h. rw d (store_fits buf b at (omega (arith, h, l)) ∙ ap (λ (m : ℕ). ok (at + m, stored b buf at)) l),
      λ h. rw d (store_full buf b at (omega (arith, h, l))),
    )

pub values : Values
values = record {
  read_back = read_back;
  read_sound = read_sound;
  read_lent = read_lent;
  read_refuses = read_refuses;
  ends_early = λ c p s at t. (
    λ e. fails_short (read_refuses c p s at (why 9 p) t e) refl,
    λ l. read_fails c p s at (why 9 p) t (short l),
  );
  out_of_range = λ c p s at t y. (
    λ part e. no_value c (drop at s) (fails_range (read_refuses c p s at (out_of p part) t e) refl),
    λ n. (
      fault (shape_of c) (take (need (shape_of c) (drop at s)) (drop at s)),
      read_fails c p s at (out_of p (fault (shape_of c) (take (need (shape_of c) (drop at s)) (drop at s)))) t
          (value_not c p (drop at s) t (bytes_drop at s y) n),
    ),
  );
  written = λ c p lent v buf at h l. value_put c p lent v buf at h ∙ store_fits buf (stored_as c lent v) at l;
  not_taken = λ c p lent v buf at t. (
    λ e h. not_thirteen buf at p (stored_as c lent v) (sym (value_put c p lent v buf at h) ∙ e),
    others_out c p lent v buf at t,
  );
  no_room = λ c p lent v buf at t. (
    eight_takes c p lent v buf at t,
    λ h l. value_put c p lent v buf at h ∙ store_full buf (stored_as c lent v) at l,
  );
  write_read = write_read;
  size_told = size_told_lem;
  size_room = size_room;
  size_refused = size_refused;
  temporal_size_lem = temporal_size_lem;
  held = held_in;
  read_held = read_held;
}
