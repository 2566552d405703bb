-- What holds of every column: its shape has a width that there is, an accepted column's value takes a byte at least and few at most, and a
-- value in its domain has few bytes. The rule of a decimal's leftover digits is document 01's table. Assumes nothing.
use Prim.Native.Nat.{ℕ, ◌+◌, ◌-◌, ◌*◌, ◌/◌, ◌%◌, ◌^◌, ◌≤◌, ◌<◌}
use mathlib.Core.Bool.{Bool, true, false, cond, ◌&&◌, ◌||◌, true≢false}
use mathlib.Core.List.{List, [], ◌∷◌}
use mathlib.Core.Logic.{◌⊎◌, inl, inr, dite}
use mathlib.Core.Path.{◌≡◌, refl, sym, ap, ◌∙◌, subst}
use borrow.Author.Tests.{lt-leb, ne_eqb, ltb-true, eqb-true}
use native.Mathlib.Decide.{dec_le}
use native.Mathlib.Omega.{arith}
use lib.ListN.{length, get_or}
use lib.Dec.{T, leb, ltb, eqb, eqb→eq, leb→le}
use Rattle.wire.specs.Number.{are_bytes}
use Rattle.wire.proofs.Bytes.{wider}
use Rattle.wire.proofs.Outcomes.{both_true}
use Rattle.wire.proofs.Each.{below, left, right}
use Rattle.temporal.proofs.Forms.{size_least, size_most}
use Rattle.value.specs.declared.shape.Shape.{Shape}
use Rattle.value.specs.declared.shape.Shape.TheVariants.{Unsigned, Signed, FloatBits, DoubleBits, YearByte, Timed, Fixed, Counted}
use Rattle.value.specs.declared.shape.Shape.TheVariants.{NotTaken}
use Rattle.value.specs.declared.column.Column.{Column}
use Rattle.value.specs.declared.types.Family.{Family}
use Rattle.value.specs.declared.types.Family.TheVariants.{Integer, Float, Double, Year, Timestamp, Date, Time, Datetime, Timestamp2}
use Rattle.value.specs.declared.types.Family.TheVariants.{Datetime2, Time2, Varchar, Char, Blob, Json, Bit, Decimal, Enum, Set}
use Rattle.value.specs.declared.types.Family.TheVariants.{Unknown}
use Rattle.value.specs.Types.{family_of, or30}
use Rattle.value.specs.Columns.{shape_in, shape_of, is_taken, refusal_of, leftover_bytes, digits_bytes, decimal_bytes, declared_in}
use Rattle.value.specs.Columns.{length_bytes}
use Rattle.value.specs.Data.{Datum, tag, bytes_in}
use Rattle.value.specs.Domains.{domain}
use Rattle.value.specs.Shapes.{need, most_of}
use Rattle.value.specs.Inner.Shapes.{Sized}
use Rattle.value.proofs.Facts.{made, sorted}

-- ---- a decimal's leftover digits
-- "leftover digits 0 to 8 take 0, 1, 1, 2, 2, 3, 3, 4, 4 bytes"
pub leftover_table : (digits : ℕ) → digits < 9 → leftover_bytes digits ≡ get_or (0 ∷ 1 ∷ 1 ∷ 2 ∷ 2 ∷ 3 ∷ 3 ∷ 4 ∷ 4 ∷ []) digits 0
unfolding leftover_bytes
leftover_table digits h =
    eqb→eq (leftover_bytes digits) (get_or table digits 0) (below (λ (d : ℕ). eqb (leftover_bytes d) (get_or table d 0)) 9 tt digits h)
  where
    table : List ℕ
    table = 0 ∷ 1 ∷ 1 ∷ 2 ∷ 2 ∷ 3 ∷ 3 ∷ 4 ∷ 4 ∷ []

pub digits_size : (digits : ℕ) → digits_bytes digits ≡ digits / 9 * 4 + (digits % 9 + 1) / 2
unfolding leftover_bytes
digits_size digits = refl

decimal_some : (m0 m1 : ℕ) → 1 ≤ m0 → m1 ≤ m0 → 0 < decimal_bytes m0 m1
unfolding decimal_bytes leftover_bytes
decimal_some m0 m1 h l = omega arith

decimal_few : (m0 m1 : ℕ) → m0 ≤ 65 → m1 ≤ 30 → decimal_bytes m0 m1 ≤ 64
unfolding decimal_bytes leftover_bytes
decimal_few m0 m1 h l = omega arith

-- the bytes of a SET
set_few : (m1 : ℕ) → T (leb m1 4 || eqb m1 8) → m1 ≤ 64
set_few m1 t =
    dite (dec_le m1 64) (λ h. h)
    (λ h. absurd (rw (lt-leb m1 4 (omega arith), ne_eqb m1 8 (λ e. omega arith)) at t))

-- ---- what holds of both sides of a test holds of what it picks
pub pick : {A : Type 0} (P : A → Type 0) (b : Bool) {x y : A} → (T b → P x) → P y → P (cond b x y)
pick P true p q = p tt
pick P false p q = q

-- ---- what holds of the shape of a column
abbrev pub Fine : Shape → Type 0
Fine (Unsigned k) = (0 < k) × (k ≤ 8)
Fine (Signed k) = (0 < k) × (k ≤ 8)
Fine FloatBits = Unit {0}
Fine DoubleBits = Unit {0}
Fine YearByte = Unit {0}
Fine (Timed k) = Unit {0}
Fine (Fixed n) = (0 < n) × (n ≤ 64)
Fine (Counted k) = (0 < k) × (k ≤ 4)
Fine (NotTaken n) = (n ≡ 4) ⊎ (n ≡ 5)

-- ---- the widths of integers, told by the shape of an unsigned column
abbrev Width : Family → Type 0
unfolding shape_in
Width f = Fine (shape_in f 0 0 true)

width_of : (t : ℕ) → Width (family_of t)
unfolding family_of shape_in
width_of t =
    (pick Width (eqb t 1) (λ e. (omega arith, omega arith))
    (pick Width (eqb t 2) (λ e. (omega arith, omega arith))
    (pick Width (eqb t 3) (λ e. (omega arith, omega arith))
    (pick Width (eqb t 4) (λ e. inr refl)
    (pick Width (eqb t 5) (λ e. inr refl)
    (pick Width (eqb t 7) (λ e. tt)
    (pick Width (eqb t 8) (λ e. (omega arith, omega arith))
    (pick Width (eqb t 9) (λ e. (omega arith, omega arith))
    (pick Width (eqb t 10) (λ e. tt)
    (pick Width (eqb t 11) (λ e. tt)
    (pick Width (eqb t 12) (λ e. tt)
    (pick Width (eqb t 13) (λ e. tt)
    (pick Width (eqb t 14) (λ e. tt)
    (pick Width (eqb t 15) (λ e. (omega arith, omega arith))
    (pick Width (eqb t 16) (λ e. inr refl)
    (pick Width (eqb t 17) (λ e. tt)
    (pick Width (eqb t 18) (λ e. tt)
    (pick Width (eqb t 19) (λ e. tt)
    (pick Width (eqb t 242) (λ e. inr refl)
    (pick Width (eqb t 245) (λ e. inr refl)
    (pick Width (eqb t 246) (λ e. inr refl)
    (pick Width (eqb t 247) (λ e. inr refl)
    (pick Width (eqb t 248) (λ e. inr refl)
    (pick Width (eqb t 249) (λ e. inr refl)
    (pick Width (eqb t 250) (λ e. inr refl)
    (pick Width (eqb t 251) (λ e. inr refl)
    (pick Width (eqb t 252) (λ e. inr refl)
    (pick Width (eqb t 253) (λ e. (omega arith, omega arith))
    (pick Width (eqb t 254) (λ e. inr refl)
    (pick Width (eqb t 255) (λ e. inr refl) (inl refl)))))))))))))))))))))))))))))))

-- ---- every column
one_or_two : (declared : ℕ) → Fine (Counted (length_bytes declared))
one_or_two declared =
    pick (λ (k : ℕ). (0 < k) × (k ≤ 4)) (ltb declared 256) (λ e. (omega arith, omega arith)) (omega arith, omega arith)

fine_in : (f : Family) (m0 m1 : ℕ) (u : Bool) → Width f → Fine (shape_in f m0 m1 u)
unfolding shape_in
fine_in (Integer k) m0 m1 u w = pick Fine (eqb m0 0 && eqb m1 0) (λ e. pick Fine u (λ e. w) w) (inr refl)
fine_in Float m0 m1 u w = pick Fine (eqb m0 4 && eqb m1 0) (λ e. tt) (inr refl)
fine_in Double m0 m1 u w = pick Fine (eqb m0 8 && eqb m1 0) (λ e. tt) (inr refl)
fine_in Year m0 m1 u w = pick Fine (eqb m0 0 && eqb m1 0) (λ e. tt) (inr refl)
fine_in Timestamp m0 m1 u w = pick Fine (eqb m0 0 && eqb m1 0) (λ e. tt) (inr refl)
fine_in Date m0 m1 u w = pick Fine (eqb m0 0 && eqb m1 0) (λ e. tt) (inr refl)
fine_in Time m0 m1 u w = pick Fine (eqb m0 0 && eqb m1 0) (λ e. tt) (inr refl)
fine_in Datetime m0 m1 u w = pick Fine (eqb m0 0 && eqb m1 0) (λ e. tt) (inr refl)
fine_in Timestamp2 m0 m1 u w = pick Fine (leb m0 6 && eqb m1 0) (λ e. tt) (inr refl)
fine_in Datetime2 m0 m1 u w = pick Fine (leb m0 6 && eqb m1 0) (λ e. tt) (inr refl)
fine_in Time2 m0 m1 u w = pick Fine (leb m0 6 && eqb m1 0) (λ e. tt) (inr refl)
fine_in Varchar m0 m1 u w = one_or_two (declared_in Varchar m0 m1)
fine_in Char m0 m1 u w = pick Fine (eqb (or30 m0) 254) (λ e. one_or_two (declared_in Char m0 m1)) (inr refl)
fine_in Blob m0 m1 u w =
    pick Fine (leb 1 m0 && (leb m0 4 && eqb m1 0))
    (λ e. (leb→le 1 m0 (left (leb 1 m0) _ e), leb→le m0 4 (left (leb m0 4) _ (right (leb 1 m0) _ e)))) (inr refl)
fine_in Json m0 m1 u w = pick Fine (eqb m0 4 && eqb m1 0) (λ e. (omega arith, omega arith)) (inr refl)
fine_in Bit m0 m1 u w =
    pick Fine (leb m0 7 && (leb 1 (8 * m1 + m0) && leb (8 * m1 + m0) 64))
    (λ e. let w = right (leb m0 7) _ e in
    let h : 1 ≤ 8 * m1 + m0 = leb→le 1 (8 * m1 + m0) (left (leb 1 (8 * m1 + m0)) _ w) in
    let l : 8 * m1 + m0 ≤ 64 = leb→le (8 * m1 + m0) 64 (right (leb 1 (8 * m1 + m0)) _ w) in
    (omega arith, omega arith)) (inr refl)
fine_in Decimal m0 m1 u w =
    pick Fine (leb 1 m0 && (leb m0 65 && (leb m1 30 && leb m1 m0)))
    (λ e. let w = right (leb 1 m0) _ e in
    let z = right (leb m0 65) _ w in (
      decimal_some m0 m1 (leb→le 1 m0 (left (leb 1 m0) _ e)) (leb→le m1 m0 (right (leb m1 30) _ z)),
      decimal_few m0 m1 (leb→le m0 65 (left (leb m0 65) _ w)) (leb→le m1 30 (left (leb m1 30) _ z)),
    )) (inr refl)
fine_in Enum m0 m1 u w =
    pick Fine (leb 1 m1 && leb m1 2)
    (λ e. let l : m1 ≤ 2 = leb→le m1 2 (right (leb 1 m1) _ e) in
    (leb→le 1 m1 (left (leb 1 m1) _ e), omega arith)) (inr refl)
fine_in Set m0 m1 u w =
    pick Fine (leb 1 m1 && (leb m1 4 || eqb m1 8))
    (λ e. (leb→le 1 m1 (left (leb 1 m1) _ e), set_few m1 (right (leb 1 m1) _ e))) (inr refl)
fine_in Unknown m0 m1 u w = inl refl

pub fine : (c : Column) → Fine (shape_of c)
unfolding shape_of
fine c =
    pick Fine (eqb c.real 10) (λ e. inl refl)
    (fine_in (family_of c.real) c.m0 c.m1 c.unsigned (width_of c.real))

-- every column's shape has a width that there is
sized_of : (sh : Shape) → Fine sh → Sized sh
sized_of (Unsigned k) h = h.1
sized_of (Signed k) h = h
sized_of FloatBits h = tt
sized_of DoubleBits h = tt
sized_of YearByte h = tt
sized_of (Timed k) h = tt
sized_of (Fixed n) h = tt
sized_of (Counted k) h = h.1
sized_of (NotTaken n) h = tt

pub sized : (c : Column) → Sized (shape_of c)
sized c = sized_of (shape_of c) (fine c)

-- every accepted column's value takes a byte at least
some_of : (sh : Shape) → Fine sh → is_taken sh ≡ true → (s : List ℕ) → 0 < need sh s
unfolding is_taken need
some_of (Unsigned k) h e s = h.0
some_of (Signed k) h e s = h.0
some_of FloatBits h e s = omega arith
some_of DoubleBits h e s = omega arith
some_of YearByte h e s = omega arith
some_of (Timed k) h e s = size_least k
some_of (Fixed n) h e s = h.0
some_of (Counted k) h e s = let l = h.0 in omega arith
some_of (NotTaken n) h e s = absurd (true≢false (sym e))

pub some_bytes : (c : Column) → is_taken (shape_of c) ≡ true → (s : List ℕ) → 0 < need (shape_of c) s
some_bytes c = some_of (shape_of c) (fine c)

-- what a value in its domain has of bytes are bytes, and fewer than four bytes can count
abbrev FewBytes : Datum → Type 0
FewBytes d = (are_bytes (bytes_in d) ≡ true) × (length (bytes_in d) < 256 ^ 4)

-- a value of the sort n, which has none
none_of : (d : Datum) (n : ℕ) (b : Bool) → FewBytes (made n d) → (eqb (tag d) n && b) ≡ true → FewBytes d
none_of d n b f h = subst FewBytes (sorted d n b h).0 f

few_of : (sh : Shape) (d : Datum) → Fine sh → domain sh d ≡ true → FewBytes d
unfolding domain bytes_in are_bytes
few_of (Unsigned k) d f h = none_of d 2 _ (refl, omega arith) h
few_of (Signed k) d f h = none_of d 1 _ (refl, omega arith) h
few_of FloatBits d f h = none_of d 3 _ (refl, omega arith) h
few_of DoubleBits d f h = none_of d 4 _ (refl, omega arith) h
few_of YearByte d f h = none_of d 5 _ (refl, omega arith) h
few_of (Timed k) d f h = none_of d 6 _ (refl, omega arith) h
few_of (Fixed n) d f h =
    let w = both_true (are_bytes (bytes_in d)) _ (sorted d 7 _ h).1 in
    let e : length (bytes_in d) ≡ n = eqb-true (length (bytes_in d)) n w.1 in
    (w.0, omega (arith, e, f.1))
few_of (Counted k) d f h =
    let w = both_true (are_bytes (bytes_in d)) _ (sorted d 7 _ h).1 in
    (w.0, wider k 4 (length (bytes_in d)) f.1 (ltb-true (length (bytes_in d)) (256 ^ k) w.1))
few_of (NotTaken n) d f h = absurd (true≢false (sym h))

pub few_bytes : (c : Column) (d : Datum) → domain (shape_of c) d ≡ true → (are_bytes (bytes_in d) ≡ true) × (length (bytes_in d) < 256 ^ 4)
few_bytes c d = few_of (shape_of c) d (fine c)

-- and no value takes more than a length of four bytes and what it can count
most_of_fine : (sh : Shape) → Fine sh → most_of sh ≤ 4294967299
unfolding most_of
most_of_fine (Unsigned k) f = omega (arith, f.1)
most_of_fine (Signed k) f = omega (arith, f.1)
most_of_fine FloatBits f = omega arith
most_of_fine DoubleBits f = omega arith
most_of_fine YearByte f = omega arith
most_of_fine (Timed k) f = omega (arith, size_most k)
most_of_fine (Fixed n) f = omega (arith, f.1)
most_of_fine (Counted k) f =
    let l : 256 ^ k - 1 < 256 ^ 4 = wider k 4 (256 ^ k - 1) f.1 (omega (arith, wider 0 k 0 (omega arith) (omega arith))) in
    omega (arith, f.1, l)
most_of_fine (NotTaken n) f = omega arith

pub most_few : (c : Column) → most_of (shape_of c) ≤ 4294967299
most_few c = most_of_fine (shape_of c) (fine c)

-- ---- a column's shape is its family's, where its type is a real type
pub by_family :
    (c : Column) (f : Family) → (c.real ≡ 10 → ⊥) → f ≡ family_of c.real →
    shape_in f c.m0 c.m1 c.unsigned ≡ shape_of c
unfolding shape_of
by_family c f h e =
    ap (λ (g : Family). shape_in g c.m0 c.m1 c.unsigned) e
    ∙ sym (ap (λ (b : Bool). cond b (NotTaken 4) (shape_in (family_of c.real) c.m0 c.m1 c.unsigned)) (ne_eqb c.real 10 h))

-- a column that there is not is refused with 4 or 5
number_of : (sh : Shape) → Fine sh → is_taken sh ≡ false → (refusal_of sh ≡ 4) ⊎ (refusal_of sh ≡ 5)
unfolding is_taken refusal_of
number_of (Unsigned k) h e = absurd (true≢false e)
number_of (Signed k) h e = absurd (true≢false e)
number_of FloatBits h e = absurd (true≢false e)
number_of DoubleBits h e = absurd (true≢false e)
number_of YearByte h e = absurd (true≢false e)
number_of (Timed k) h e = absurd (true≢false e)
number_of (Fixed n) h e = absurd (true≢false e)
number_of (Counted k) h e = absurd (true≢false e)
number_of (NotTaken n) h e = h

pub refused_number : (c : Column) → is_taken (shape_of c) ≡ false → (refusal_of (shape_of c) ≡ 4) ⊎ (refusal_of (shape_of c) ≡ 5)
refused_number c e = number_of (shape_of c) (fine c) e

pub four_or_five : (c : Column) (n : ℕ) → shape_of c ≡ NotTaken n → (n ≡ 4) ⊎ (n ≡ 5)
four_or_five c n e = subst Fine e (fine c)
