-- The shape of a shape's op is that shape, for every shape that a column has; every op's shape has a width that there is. Assumes nothing.
use Prim.Native.Nat.{ℕ, ◌+◌, ◌-◌, ◌*◌, ◌≤◌, ◌<◌}
use mathlib.Core.Bool.{Bool, true, false, cond, ◌&&◌, ◌||◌, true≢false}
use mathlib.Core.Path.{◌≡◌, refl, sym, ap, ◌∙◌}
use borrow.Author.Tests.{ltb-true, ltb-false, le-leb, lt-leb}
use native.Mathlib.Omega.{arith}
use lib.Dec.{T, leb, ltb, eqb, leb→le, eqb→eq}
use Rattle.temporal.specs.declared.storage.Storage.{Storage}
use Rattle.temporal.specs.declared.storage.Storage.TheVariants.{Timestamp as StoredTimestamp, OldTime, OldDatetime, Newdate}
use Rattle.temporal.specs.declared.storage.Storage.TheVariants.{Timestamp2 as StoredTimestamp2, Datetime2 as StoredDatetime2}
use Rattle.temporal.specs.declared.storage.Storage.TheVariants.{Time2 as StoredTime2}
use Rattle.value.specs.declared.shape.Shape.{Shape}
use Rattle.value.specs.declared.shape.Shape.TheVariants.{Unsigned, Signed, FloatBits, DoubleBits, YearByte, Timed, Fixed, Counted}
use Rattle.value.specs.declared.shape.Shape.TheVariants.{NotTaken}
use Rattle.value.specs.declared.column.Column.{Column}
use Rattle.value.specs.declared.types.Family.{Family}
use Rattle.value.specs.declared.types.Family.TheVariants.{Integer, Float, Double, Year, Timestamp, Date, Time, Datetime, Timestamp2}
use Rattle.value.specs.declared.types.Family.TheVariants.{Datetime2, Time2, Varchar, Char, Blob, Json, Bit, Decimal, Enum, Set}
use Rattle.value.specs.declared.types.Family.TheVariants.{Unknown}
use Rattle.value.specs.Types.{family_of, or30}
use Rattle.value.specs.Columns.{shape_in, shape_of, is_taken, leftover_bytes, decimal_bytes}
use Rattle.value.specs.Inner.Shapes.{Sized}
use Rattle.value.specs.Ops.{shape_for, within, storage_op, op_of, StorageOpped, Opped}
use Rattle.wire.proofs.Each.{left, right}
use Rattle.wire.proofs.Rules.{tests}
use Rattle.value.proofs.Tables.{pick, sized}

-- ---- an op of a range
pub above : (op k : ℕ) → k ≤ op → (op ≡ k → ⊥) → k + 1 ≤ op
above op k h n = omega (arith, n)

at_unsigned : (op : ℕ) → 1 ≤ op → op < 10 → shape_for op ≡ Unsigned (op - 1)
unfolding shape_for
at_unsigned op h l = search tests

at_signed : (op : ℕ) → 10 ≤ op → op < 18 → shape_for op ≡ Signed (op - 9)
unfolding shape_for
at_signed op h l = search tests

pub at_timestamp : (op : ℕ) → 25 ≤ op → op < 32 → shape_for op ≡ Timed (StoredTimestamp2 (op - 25))
unfolding shape_for
at_timestamp op h l = search tests

pub at_datetime : (op : ℕ) → 32 ≤ op → op < 39 → shape_for op ≡ Timed (StoredDatetime2 (op - 32))
unfolding shape_for
at_datetime op h l = search tests

pub at_time : (op : ℕ) → 39 ≤ op → op < 46 → shape_for op ≡ Timed (StoredTime2 (op - 39))
unfolding shape_for
at_time op h l = search tests

at_counted : (op : ℕ) → 46 ≤ op → op < 51 → shape_for op ≡ Counted (op - 46)
unfolding shape_for
at_counted op h l = search tests

at_fixed : (op : ℕ) → 51 ≤ op → shape_for op ≡ Fixed (op - 51)
unfolding shape_for
at_fixed op h = search tests

-- ---- there and back
back : (mk : ℕ → Shape) (base most k : ℕ) → k ≤ most → ((op : ℕ) → base ≤ op → op ≤ base + most → shape_for op ≡ mk (op - base))
    → shape_for (within most base k) ≡ mk k
back mk base most k h r =
    let e : base + k - base ≡ k = omega arith in
    rw (le-leb k most h) (r (base + k) (omega arith) (omega arith) ∙ ap mk e)

storage_back : (k : Storage) → StorageOpped k → shape_for (storage_op k) ≡ Timed k
unfolding shape_for storage_op
storage_back StoredTimestamp h = refl
storage_back OldTime h = refl
storage_back OldDatetime h = refl
storage_back Newdate h = refl
storage_back (StoredTimestamp2 m0) h = back (λ (x : ℕ). Timed (StoredTimestamp2 x)) 25 6 m0 h (λ op a b. at_timestamp op a (omega arith))
storage_back (StoredDatetime2 m0) h = back (λ (x : ℕ). Timed (StoredDatetime2 x)) 32 6 m0 h (λ op a b. at_datetime op a (omega arith))
storage_back (StoredTime2 m0) h = back (λ (x : ℕ). Timed (StoredTime2 x)) 39 6 m0 h (λ op a b. at_time op a (omega arith))

signed_back : (k : ℕ) → 0 < k → k ≤ 8 → shape_for (within 8 9 k) ≡ Signed k
signed_back k l h =
    let e : 9 + k - 9 ≡ k = omega arith in
    rw (le-leb k 8 h) (at_signed (9 + k) (omega arith) (omega arith) ∙ ap Signed e)

pub shape_of_op : (sh : Shape) → is_taken sh ≡ true → Opped sh → shape_for (op_of sh) ≡ sh
unfolding op_of is_taken shape_for
shape_of_op (Unsigned k) t h = back Unsigned 1 8 k h (λ op a b. at_unsigned op a (omega arith))
shape_of_op (Signed k) t h = rw (le-leb 1 k h.0) (signed_back k h.0 h.1)
shape_of_op FloatBits t h = refl
shape_of_op DoubleBits t h = refl
shape_of_op YearByte t h = refl
shape_of_op (Timed k) t h = storage_back k h
shape_of_op (Fixed n) t h = back Fixed 51 204 n h (λ op a b. at_fixed op a)
shape_of_op (Counted k) t h = back Counted 46 4 k h (λ op a b. at_counted op a (omega arith))
shape_of_op (NotTaken n) t h = absurd (true≢false (sym t))

-- ---- every op's shape has a width that there is
either : {A : Type 0} (P : A → Type 0) (b : Bool) {x y : A} → (b ≡ true → P x) → (b ≡ false → P y) → P (cond b x y)
either P true p q = p refl
either P false p q = q refl

pub sized_op : (op : ℕ) → Sized (shape_for op)
unfolding shape_for
sized_op op =
    either Sized (ltb op 1) (λ e. tt) (λ e0. let h0 = ltb-false op 1 e0 in
    either Sized (ltb op 10) (λ e. let h = ltb-true op 10 e in omega arith) (λ e1. let h1 = ltb-false op 10 e1 in
    either Sized (ltb op 18) (λ e. let h = ltb-true op 18 e in (omega arith, omega arith)) (λ e2.
    either Sized (ltb op 19) (λ e. tt) (λ e.
    either Sized (ltb op 20) (λ e. tt) (λ e.
    either Sized (ltb op 21) (λ e. tt) (λ e.
    either Sized (ltb op 22) (λ e. tt) (λ e.
    either Sized (ltb op 23) (λ e. tt) (λ e.
    either Sized (ltb op 24) (λ e. tt) (λ e.
    either Sized (ltb op 25) (λ e. tt) (λ e.
    either Sized (ltb op 32) (λ e. tt) (λ e.
    either Sized (ltb op 39) (λ e. tt) (λ e.
    either Sized (ltb op 46) (λ e. tt) (λ e.
    either Sized (ltb op 51) (λ e. let h = ltb-true op 51 e in omega arith) (λ e. tt))))))))))))))

-- ---- every accepted column's shape has an op: widths are `sized`; digits and sizes are these
abbrev Told : Shape → Type 0
Told (Unsigned k) = Unit {0}
Told (Signed k) = Unit {0}
Told FloatBits = Unit {0}
Told DoubleBits = Unit {0}
Told YearByte = Unit {0}
Told (Timed k) = StorageOpped k
Told (Fixed n) = n ≤ 204
Told (Counted k) = Unit {0}
Told (NotTaken n) = Unit {0}

decimal_most : (m0 m1 : ℕ) → m0 ≤ 65 → m1 ≤ 30 → decimal_bytes m0 m1 ≤ 204
unfolding decimal_bytes leftover_bytes
decimal_most m0 m1 h l = omega arith

set_most : (m1 : ℕ) (a b : Bool) → (T a → m1 ≤ 4) → (T b → m1 ≡ 8) → T (a || b) → m1 ≤ 204
set_most m1 true b p q t = let h = p tt in omega arith
set_most m1 false b p q t = let h = q t in omega arith

told_in : (f : Family) (m0 m1 : ℕ) (u : Bool) → Told (shape_in f m0 m1 u)
unfolding shape_in
told_in (Integer k) m0 m1 u = pick Told (eqb m0 0 && eqb m1 0) (λ e. pick Told u (λ e. tt) tt) tt
told_in Float m0 m1 u = pick Told (eqb m0 4 && eqb m1 0) (λ e. tt) tt
told_in Double m0 m1 u = pick Told (eqb m0 8 && eqb m1 0) (λ e. tt) tt
told_in Year m0 m1 u = pick Told (eqb m0 0 && eqb m1 0) (λ e. tt) tt
told_in Timestamp m0 m1 u = pick Told (eqb m0 0 && eqb m1 0) (λ e. tt) tt
told_in Date m0 m1 u = pick Told (eqb m0 0 && eqb m1 0) (λ e. tt) tt
told_in Time m0 m1 u = pick Told (eqb m0 0 && eqb m1 0) (λ e. tt) tt
told_in Datetime m0 m1 u = pick Told (eqb m0 0 && eqb m1 0) (λ e. tt) tt
told_in Timestamp2 m0 m1 u = pick Told (leb m0 6 && eqb m1 0) (λ e. leb→le m0 6 (left (leb m0 6) _ e)) tt
told_in Datetime2 m0 m1 u = pick Told (leb m0 6 && eqb m1 0) (λ e. leb→le m0 6 (left (leb m0 6) _ e)) tt
told_in Time2 m0 m1 u = pick Told (leb m0 6 && eqb m1 0) (λ e. leb→le m0 6 (left (leb m0 6) _ e)) tt
told_in Varchar m0 m1 u = tt
told_in Char m0 m1 u = pick Told (eqb (or30 m0) 254) (λ e. tt) tt
told_in Blob m0 m1 u = pick Told (leb 1 m0 && (leb m0 4 && eqb m1 0)) (λ e. tt) tt
told_in Json m0 m1 u = pick Told (eqb m0 4 && eqb m1 0) (λ e. tt) tt
told_in Bit m0 m1 u =
    pick Told (leb m0 7 && (leb 1 (8 * m1 + m0) && leb (8 * m1 + m0) 64))
    (λ e. let h : 8 * m1 + m0 ≤ 64 = leb→le (8 * m1 + m0) 64 (right (leb 1 (8 * m1 + m0)) _ (right (leb m0 7) _ e)) in
    omega arith) tt
told_in Decimal m0 m1 u =
    pick Told (leb 1 m0 && (leb m0 65 && (leb m1 30 && leb m1 m0)))
    (λ e. decimal_most m0 m1 (leb→le m0 65 (left (leb m0 65) _ (right (leb 1 m0) _ e)))
    (leb→le m1 30 (left (leb m1 30) _ (right (leb m0 65) _ (right (leb 1 m0) _ e))))) tt
told_in Enum m0 m1 u = pick Told (leb 1 m1 && leb m1 2) (λ e. tt) tt
told_in Set m0 m1 u =
    pick Told (leb 1 m1 && (leb m1 4 || eqb m1 8)) (λ e. set_most m1 (leb m1 4) (eqb m1 8) (leb→le m1 4) (eqb→eq m1 8) (right
    (leb 1 m1) _ e)) tt
told_in Unknown m0 m1 u = tt

told : (c : Column) → Told (shape_of c)
unfolding shape_of
told c = pick Told (eqb c.real 10) (λ e. tt) (told_in (family_of c.real) c.m0 c.m1 c.unsigned)

opped_of : (sh : Shape) → Sized sh → Told sh → Opped sh
opped_of (Unsigned k) h t = h
opped_of (Signed k) h t = h
opped_of FloatBits h t = tt
opped_of DoubleBits h t = tt
opped_of YearByte h t = tt
opped_of (Timed k) h t = t
opped_of (Fixed n) h t = t
opped_of (Counted k) h t = h
opped_of (NotTaken n) h t = tt

pub opped : (c : Column) → Opped (shape_of c)
opped c = opped_of (shape_of c) (sized c) (told c)

-- the op of an accepted column tells its shape
pub column_op : (c : Column) → is_taken (shape_of c) ≡ true → shape_for (op_of (shape_of c)) ≡ shape_of c
column_op c t = shape_of_op (shape_of c) t (opped c)

-- ---- the op of a signed width
pub signed_op : (k : ℕ) → 1 ≤ k → op_of (Signed k) ≡ within 8 9 k
unfolding op_of
signed_op k h = rw (le-leb 1 k h)

pub signed_none : (k : ℕ) → k < 1 → op_of (Signed k) ≡ 0
unfolding op_of
signed_none k h = rw (lt-leb 1 k h)
