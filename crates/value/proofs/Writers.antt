-- Values and what they say: which a column takes, and the bytes that it stores. Laws for the writers of the code. Assumes nothing.
use Prim.Native.Nat.{ℕ, zero, suc, ◌+◌, ◌^◌, ◌≤◌, ◌<◌, min}
use mathlib.Core.Path.{◌≡◌, refl, sym, ap, subst, ◌∙◌}
use mathlib.Core.Bool.{Bool, true, false, ◌&&◌, and-false, true≢false}
use mathlib.Core.Logic.{⊎_elim, dite}
use mathlib.Core.List.{List, [], ◌++◌, append-nil}
use native.Mathlib.Decide.{dec_le}
use native.Mathlib.Omega.{arith}
use borrow.Author.Tests.{lt-ltb, le-ltb, le-leb, lt-leb, eq-eqb, ne_eqb, leb-true}
use lib.ListN.{length, drop, length-append}
use lib.Dec.{leb, ltb, eqb}
use lib.IntN.{ℤ}
use Rattle.wire.specs.declared.refusal.Refusal.{Refusal}
use Rattle.wire.specs.Outcome.{Outcome, ok, refused, refuse, why, after}
use Rattle.wire.specs.Number.{Bytes as AllBytes, are_bytes, le_bytes}
use Rattle.wire.specs.Signed.{twos_of, in_halves}
use Rattle.wire.specs.declared.part.Part.{Part}
use Rattle.wire.specs.Parts.{part_of, lent_part}
use Rattle.wire.specs.Stored.{store}
use Rattle.wire.proofs.Bytes.{le_bytes_length}
use Rattle.wire.proofs.Inverse.{bytes_take, bytes_drop, bytes_are}
use Rattle.wire.proofs.Outcomes.{both_true, after_is_ok, after_refuses, test_is_ok, ok_not_refused}
use Rattle.wire.proofs.Parts.{part_length, lent_is}
use Rattle.temporal.specs.declared.storage.Storage.{Storage}
use Rattle.temporal.specs.declared.parts.Temporal.{Temporal}
use Rattle.temporal.specs.Domains.{temporal_domain}
use Rattle.temporal.specs.Reading.{write_temporal}
use Rattle.value.specs.declared.shape.Shape.{Shape}
use Rattle.value.specs.declared.shape.Shape.TheVariants.{Unsigned, Signed, FloatBits, DoubleBits, YearByte, Timed, Fixed, Counted}
use Rattle.value.specs.declared.shape.Shape.TheVariants.{NotTaken}
use Rattle.value.specs.declared.datum.Value.{Value}
use Rattle.value.specs.declared.datum.Value.TheVariants.{Null, Int, Uint, Float, Double, Year, Bytes}
use Rattle.value.specs.Data.{Datum, bytes, tag, is_int, is_uint, is_float, is_double, is_year, is_temporal, is_bytes, int_in, number_in}
use Rattle.value.specs.Data.{temporal_in, bytes_in}
use Rattle.value.specs.Years.{byte_of_year, in_years}
use Rattle.value.specs.Domains.{domain}
use Rattle.value.specs.Shapes.{bytes_of, need, most_of}
use Rattle.value.specs.Columns.{is_taken, refusal_of}
use Rattle.value.specs.Reading.{taken, datum_of}
use Rattle.value.specs.Inner.Storing.{storable}
use Rattle.value.specs.Storing.{bytes_at, is_lent, is_in, stored_bytes, write_value, size_of}
use Rattle.value.proofs.Facts.{need_bytes}
use Rattle.value.proofs.Laws.{taken_at, taken_same}
use Rattle.value.proofs.Readers.{narrow}

-- ---- all but its bytes a value says whatever is lent
pub any : {B : Type 0} (f : Datum → B) → ((b c : List ℕ) → f (bytes b) ≡ f (bytes c)) → (s : List ℕ) (v : Value)
    → f (datum_of s v) ≡ f (datum_of [] v)
unfolding datum_of
any f e s Null = refl
any f e s (Int z) = refl
any f e s (Uint n) = refl
any f e s (Float n) = refl
any f e s (Double n) = refl
any f e s (Year n) = refl
any f e s (Value.Temporal t) = refl
any f e s (Bytes p) = e _ _

pub tag_any : (s : List ℕ) (v : Value) → tag (datum_of s v) ≡ tag (datum_of [] v)
unfolding tag
tag_any = any tag (λ b c. refl)

pub number_any : (s : List ℕ) (v : Value) → number_in (datum_of s v) ≡ number_in (datum_of [] v)
unfolding number_in
number_any = any number_in (λ b c. refl)

pub int_any : (s : List ℕ) (v : Value) → int_in (datum_of s v) ≡ int_in (datum_of [] v)
unfolding int_in
int_any = any int_in (λ b c. refl)

pub temporal_any : (s : List ℕ) (v : Value) → temporal_in (datum_of s v) ≡ temporal_in (datum_of [] v)
unfolding temporal_in
temporal_any = any temporal_in (λ b c. refl)

-- its bytes are a part of what is lent
pub bytes_part : (s : List ℕ) (v : Value) → bytes_in (datum_of s v) ≡ part_of s (bytes_at v)
unfolding bytes_in datum_of bytes_at
bytes_part s Null = refl
bytes_part s (Int z) = refl
bytes_part s (Uint n) = refl
bytes_part s (Float n) = refl
bytes_part s (Double n) = refl
bytes_part s (Year n) = refl
bytes_part s (Value.Temporal t) = refl
bytes_part s (Bytes p) = refl

-- which end within it
pub lent_fits : (s : List ℕ) (v : Value) → is_lent s v ≡ true → (bytes_at v).start + (bytes_at v).len ≤ length s
unfolding is_lent
lent_fits s v h = leb-true ((bytes_at v).start + (bytes_at v).len) (length s) h

pub bytes_length : (s : List ℕ) (v : Value) → is_lent s v ≡ true → length (bytes_in (datum_of s v)) ≡ (bytes_at v).len
bytes_length s v h = ap length (bytes_part s v) ∙ part_length s (bytes_at v) (lent_fits s v h)

-- ---- a value of another sort than a shape's is none of its
-- a value told by its sort
abbrev retold : ℕ → Value → Value
retold zero v = Null
retold (suc zero) v = Int (int_in (datum_of [] v))
retold (suc (suc zero)) v = Uint (number_in (datum_of [] v))
retold (suc (suc (suc zero))) v = Float (number_in (datum_of [] v))
retold (suc (suc (suc (suc zero)))) v = Double (number_in (datum_of [] v))
retold (suc (suc (suc (suc (suc zero))))) v = Year (number_in (datum_of [] v))
retold (suc (suc (suc (suc (suc (suc zero)))))) v = Value.Temporal (temporal_in (datum_of [] v))
retold (suc (suc (suc (suc (suc (suc (suc n))))))) v = Bytes (bytes_at v)

is_retold : (v : Value) → v ≡ retold (tag (datum_of [] v)) v
unfolding datum_of tag int_in number_in temporal_in bytes_at
is_retold Null = refl
is_retold (Int z) = refl
is_retold (Uint n) = refl
is_retold (Float n) = refl
is_retold (Double n) = refl
is_retold (Year n) = refl
is_retold (Value.Temporal t) = refl
is_retold (Bytes p) = refl

-- so none of its domain, of which the test b asks for the sort n first
apart : (n : ℕ) (s : List ℕ) (v : Value) (b : Bool) → (v ≡ retold n v → ⊥) → (is_lent s v && (eqb (tag (datum_of s v)) n && b)) ≡ false
apart n s v b h =
    let e = ne_eqb (tag (datum_of s v)) n (λ e. h (subst (λ (k : ℕ). v ≡ retold k v) (sym (tag_any s v) ∙ e) (is_retold v))) in
    rw e (and-false (is_lent s v))

pub not_unsigned : (k : ℕ) (s : List ℕ) (v : Value) → ((n : ℕ) → v ≡ Uint n → ⊥) → is_in (Unsigned k) s v ≡ false
unfolding is_in domain
not_unsigned k s v h = apart 2 s v _ (λ e. h _ e)

pub not_signed : (k : ℕ) (s : List ℕ) (v : Value) → ((z : ℤ) → v ≡ Int z → ⊥) → is_in (Signed k) s v ≡ false
unfolding is_in domain
not_signed k s v h = apart 1 s v _ (λ e. h _ e)

pub not_float : (s : List ℕ) (v : Value) → ((n : ℕ) → v ≡ Float n → ⊥) → is_in FloatBits s v ≡ false
unfolding is_in domain
not_float s v h = apart 3 s v _ (λ e. h _ e)

pub not_double : (s : List ℕ) (v : Value) → ((n : ℕ) → v ≡ Double n → ⊥) → is_in DoubleBits s v ≡ false
unfolding is_in domain
not_double s v h = apart 4 s v _ (λ e. h _ e)

pub not_year : (s : List ℕ) (v : Value) → ((n : ℕ) → v ≡ Year n → ⊥) → is_in YearByte s v ≡ false
unfolding is_in domain
not_year s v h = apart 5 s v _ (λ e. h _ e)

pub not_timed : (k : Storage) (s : List ℕ) (v : Value) → ((t : Temporal) → v ≡ Value.Temporal t → ⊥) → is_in (Timed k) s v ≡ false
unfolding is_in domain
not_timed k s v h = apart 6 s v _ (λ e. h _ e)

pub not_fixed : (n : ℕ) (s : List ℕ) (v : Value) → ((p : Part) → v ≡ Bytes p → ⊥) → is_in (Fixed n) s v ≡ false
unfolding is_in domain
not_fixed n s v h = apart 7 s v _ (λ e. h _ e)

pub not_counted : (k : ℕ) (s : List ℕ) (v : Value) → ((p : Part) → v ≡ Bytes p → ⊥) → is_in (Counted k) s v ≡ false
unfolding is_in domain
not_counted k s v h = apart 7 s v _ (λ e. h _ e)

-- a column that there is not takes none
pub none_in : (n : ℕ) (s : List ℕ) (v : Value) → is_in (NotTaken n) s v ≡ false
unfolding is_in domain
none_in n s v = and-false (is_lent s v)

-- ---- which values of its sort a shape takes, as the code tests it
pub not_in : (sh : Shape) (s : List ℕ) (v : Value) → is_lent s v ≡ false → is_in sh s v ≡ false
unfolding is_in
not_in sh s v h = rw h

-- the greatest number of k bytes, of a width that there is
pub top_narrow : (k most : ℕ) → k ≤ 8 → most + 1 ≡ 256 ^ min k 8 → most + 1 ≡ 256 ^ k
top_narrow k most h e = rw (narrow k h) at e

below_top : (n most k : ℕ) → most + 1 ≡ 256 ^ k → leb n most ≡ ltb n (256 ^ k)
below_top n most k e =
    rw (← e)
    (dite (dec_le n most)
    (λ h. le-leb n most h ∙ sym (lt-ltb n (most + 1) (omega arith)))
    (λ h. lt-leb n most (omega arith) ∙ sym (le-ltb n (most + 1) (omega arith))))

below : (n most k : ℕ) → k ≤ 8 → most + 1 ≡ 256 ^ min k 8 → leb n most ≡ ltb n (256 ^ k)
below n most k h e = below_top n most k (top_narrow k most h e)

-- a value of no bytes is lent, whatever is
nothing : (s : List ℕ) → leb 0 (length s) ≡ true
nothing s = le-leb 0 (length s) (omega arith)

pub unsigned_in : (k most n : ℕ) (s : List ℕ) → k ≤ 8 → most + 1 ≡ 256 ^ min k 8 → leb n most ≡ is_in (Unsigned k) s (Uint n)
unfolding is_in domain is_lent bytes_at datum_of tag number_in
unsigned_in k most n s h e = rw (nothing s) (below n most k h e)

pub signed_in : (k : ℕ) (z : ℤ) (s : List ℕ) → k ≤ 8 → in_halves (256 ^ min k 8) z ≡ is_in (Signed k) s (Int z)
unfolding is_in domain is_lent bytes_at datum_of tag int_in
signed_in k z s h = rw (nothing s, narrow k h)

pub float_in : (n : ℕ) (s : List ℕ) → n < 2 ^ 32 → is_in FloatBits s (Float n) ≡ true
unfolding is_in domain is_lent bytes_at datum_of tag number_in
float_in n s h = rw (nothing s, lt-ltb n (256 ^ 4) h)

pub double_in : (n : ℕ) (s : List ℕ) → n < 2 ^ 64 → is_in DoubleBits s (Double n) ≡ true
unfolding is_in domain is_lent bytes_at datum_of tag number_in
double_in n s h = rw (nothing s, lt-ltb n (256 ^ 8) h)

pub year_in : (n : ℕ) (s : List ℕ) → in_years n ≡ is_in YearByte s (Year n)
unfolding is_in domain is_lent bytes_at datum_of tag number_in
year_in n s = rw (nothing s)

pub timed_in : (k : Storage) (t : Temporal) (s : List ℕ) → temporal_domain k t ≡ is_in (Timed k) s (Value.Temporal t)
unfolding is_in domain is_lent bytes_at datum_of tag temporal_in
timed_in k t s = rw (nothing s)

-- the bytes of a part of what is lent
part_bytes : (p : Part) (s : List ℕ) → AllBytes s → are_bytes (part_of s p) ≡ true
part_bytes p s h = bytes_are (part_of s p) (bytes_take p.len (drop p.start s) (bytes_drop p.start s h))

part_size : (p : Part) (s : List ℕ) → is_lent s (Bytes p) ≡ true → length (part_of s p) ≡ p.len
unfolding is_lent bytes_at
part_size p s h = part_length s p (leb-true (p.start + p.len) (length s) h)

pub fixed_in : (n : ℕ) (p : Part) (s : List ℕ) → AllBytes s → is_lent s (Bytes p) ≡ true → eqb p.len n ≡ is_in (Fixed n) s (Bytes p)
unfolding is_in domain
fixed_in n p s b h = rw (h, part_bytes p s b, part_size p s h)

pub counted_in : (k most : ℕ) (p : Part) (s : List ℕ) → k ≤ 8 → most + 1 ≡ 256 ^ min k 8 → AllBytes s → is_lent s (Bytes p) ≡ true
    → leb p.len most ≡ is_in (Counted k) s (Bytes p)
unfolding is_in domain
counted_in k most p s l e b h = rw (h, part_bytes p s b, part_size p s h) (below p.len most k l e)

pub ruleset of_sort = (unsigned_in, signed_in, float_in, double_in, year_in, timed_in, fixed_in, counted_in)

pub ruleset of_another = (not_unsigned, not_signed, not_float, not_double, not_year, not_timed, not_fixed, not_counted, none_in)

-- ---- the same of a value of any sort, by its sort and what it says
within_top : (n most k : ℕ) → most + 1 ≡ 256 ^ k → (leb 0 n && leb n most) ≡ ltb n (256 ^ k)
within_top n most k e = rw (le-leb 0 n (omega arith)) (below_top n most k e)

bytes_lent : (s : List ℕ) (v : Value) → AllBytes s → are_bytes (bytes_in (datum_of s v)) ≡ true
bytes_lent s v h = ap are_bytes (bytes_part s v) ∙ part_bytes (bytes_at v) s h

-- a number of k bytes, of the sort t
pub in_plain : (sh : Shape) (t k most : ℕ) (s : List ℕ) (v : Value)
    → ((d : Datum) → domain sh d ≡ (eqb (tag d) t && ltb (number_in d) (256 ^ k))) → most + 1 ≡ 256 ^ k
    → is_lent s v ≡ true → (eqb (tag (datum_of [] v)) t && (leb 0 (number_in (datum_of [] v)) && leb (number_in (datum_of [] v)) most))
    ≡ is_in sh s v
unfolding is_in
in_plain sh t k most s v f e h = rw (h, f (datum_of s v), tag_any s v, number_any s v, within_top (number_in (datum_of [] v)) most k e)

pub unsigned_domain : (k : ℕ) (d : Datum) → domain (Unsigned k) d ≡ (is_uint d && ltb (number_in d) (256 ^ k))
unfolding domain
unsigned_domain k d = refl

pub float_domain : (d : Datum) → domain FloatBits d ≡ (is_float d && ltb (number_in d) (256 ^ 4))
unfolding domain
float_domain d = refl

pub double_domain : (d : Datum) → domain DoubleBits d ≡ (is_double d && ltb (number_in d) (256 ^ 8))
unfolding domain
double_domain d = refl

pub in_year : (s : List ℕ) (v : Value) → is_lent s v ≡ true
    → (is_year (datum_of [] v) && in_years (number_in (datum_of [] v))) ≡ is_in YearByte s v
unfolding is_in domain
in_year s v h = rw (h, tag_any s v, number_any s v)

pub in_signed : (k : ℕ) (s : List ℕ) (v : Value) → k ≤ 8 → is_lent s v ≡ true
    → (is_int (datum_of [] v) && in_halves (256 ^ min k 8) (int_in (datum_of [] v))) ≡ is_in (Signed k) s v
unfolding is_in domain
in_signed k s v l h = rw (h, tag_any s v, int_any s v, narrow k l)

pub in_timed : (k : Storage) (s : List ℕ) (v : Value) → is_lent s v ≡ true
    → (is_temporal (datum_of [] v) && temporal_domain k (temporal_in (datum_of [] v))) ≡ is_in (Timed k) s v
unfolding is_in domain
in_timed k s v h = rw (h, tag_any s v, temporal_any s v)

just : (n m : ℕ) → (leb n m && leb m n) ≡ eqb m n
just n m =
    dite (dec_le n m)
    (λ h. dite (dec_le m n)
    (λ g. rw (le-leb n m h, le-leb m n g) (sym (eq-eqb m n (omega arith))))
    (λ g. rw (le-leb n m h, lt-leb m n (omega arith)) (sym (ne_eqb m n (λ e. omega arith)))))
    (λ h. rw (lt-leb n m (omega arith)) (sym (ne_eqb m n (λ e. omega arith))))

pub in_fixed : (n : ℕ) (s : List ℕ) (v : Value) → AllBytes s → is_lent s v ≡ true
    → (is_bytes (datum_of [] v) && (leb n (bytes_at v).len && leb (bytes_at v).len n)) ≡ is_in (Fixed n) s v
unfolding is_in domain
in_fixed n s v b h = rw (h, tag_any s v, bytes_lent s v b, bytes_length s v h, just n (bytes_at v).len)

pub in_counted : (k most : ℕ) (s : List ℕ) (v : Value) → most + 1 ≡ 256 ^ k → AllBytes s → is_lent s v ≡ true
    → (is_bytes (datum_of [] v) && (leb 0 (bytes_at v).len && leb (bytes_at v).len most)) ≡ is_in (Counted k) s v
unfolding is_in domain
in_counted k most s v e b h = rw (h, tag_any s v, bytes_lent s v b, bytes_length s v h, within_top (bytes_at v).len most k e)

pub in_none : (n : ℕ) (s : List ℕ) (v : Value) → is_lent s v ≡ true → false ≡ is_in (NotTaken n) s v
unfolding is_in domain
in_none n s v h = rw h

-- a value that a column takes is lent, and in the domain
pub is_in_lem : (sh : Shape) (s : List ℕ) (v : Value) → is_in sh s v ≡ true → (is_lent s v ≡ true) × (domain sh (datum_of s v) ≡ true)
unfolding is_in
is_in_lem sh s v h = both_true (is_lent s v) (domain sh (datum_of s v)) h

-- ---- how many bytes it is stored in
pub size_is : (sh : Shape) (s : List ℕ) (v : Value) → is_in sh s v ≡ true
    → need sh (bytes_of sh (datum_of s v)) ≡ length (bytes_of sh (datum_of s v))
size_is sh s v h = rw (append-nil (bytes_of sh (datum_of s v))) at (need_bytes sh (datum_of s v) [] (is_in_lem sh s v h).1)

pub size_counted : (k : ℕ) (s : List ℕ) (v : Value) → is_in (Counted k) s v ≡ true
    → k + (bytes_at v).len ≡ length (bytes_of (Counted k) (datum_of s v))
unfolding bytes_of
size_counted k s v h =
    let l = bytes_length s v (is_in_lem (Counted k) s v h).0 in
    sym (length-append (le_bytes k (length (bytes_in (datum_of s v)))) (bytes_in (datum_of s v)) ∙ rw (le_bytes_length, l))

-- ---- and which bytes these are
pub put_unsigned : (k : ℕ) (s : List ℕ) (v : Value) → k ≤ 8
    → bytes_of (Unsigned k) (datum_of s v) ≡ le_bytes (min k 8) (number_in (datum_of [] v))
unfolding bytes_of
put_unsigned k s v h = rw (narrow k h, number_any s v)

pub put_signed : (k : ℕ) (s : List ℕ) (v : Value) → k ≤ 8
    → bytes_of (Signed k) (datum_of s v) ≡ le_bytes (min k 8) (twos_of (256 ^ min k 8) (int_in (datum_of [] v)))
unfolding bytes_of
put_signed k s v h = rw (narrow k h, int_any s v)

pub put_float : (s : List ℕ) (v : Value) → bytes_of FloatBits (datum_of s v) ≡ le_bytes 4 (number_in (datum_of [] v))
unfolding bytes_of
put_float s v = ap (le_bytes 4) (number_any s v)

pub put_double : (s : List ℕ) (v : Value) → bytes_of DoubleBits (datum_of s v) ≡ le_bytes 8 (number_in (datum_of [] v))
unfolding bytes_of
put_double s v = ap (le_bytes 8) (number_any s v)

pub put_year : (s : List ℕ) (v : Value) → bytes_of YearByte (datum_of s v) ≡ le_bytes 1 (byte_of_year (number_in (datum_of [] v)))
unfolding bytes_of
put_year s v = ap (λ (n : ℕ). le_bytes 1 (byte_of_year n)) (number_any s v)

pub put_fixed : (n : ℕ) (s : List ℕ) (v : Value) → bytes_of (Fixed n) (datum_of s v) ≡ le_bytes 0 (bytes_at v).len ++ part_of s (bytes_at v)
unfolding bytes_of le_bytes
put_fixed n s v = bytes_part s v

pub put_counted : (k : ℕ) (s : List ℕ) (v : Value) → is_lent s v ≡ true
    → bytes_of (Counted k) (datum_of s v) ≡ le_bytes k (bytes_at v).len ++ part_of s (bytes_at v)
unfolding bytes_of
put_counted k s v h = rw (bytes_length s v h, bytes_part s v)

pub put_timed : (k : Storage) (s : List ℕ) (v : Value) (buf : List ℕ) (at : ℕ) → is_in (Timed k) s v ≡ true
    → store (bytes_of (Timed k) (datum_of s v)) buf at ≡ write_temporal k 0 (temporal_in (datum_of [] v)) buf at
unfolding is_in domain bytes_of write_temporal
put_timed k s v buf at h =
    let w = both_true (is_lent s v) _ h in
    let d = both_true (is_temporal (datum_of s v)) _ w.1 in
    let t : temporal_domain k (temporal_in (datum_of [] v)) ≡ true = rw (temporal_any s v) at d.1 in
    rw (t, temporal_any s v)

-- ---- the refusals before that
pub not_taken : (sh : Shape) (p : ℕ) → is_taken sh ≡ false → taken sh p ≡ refuse (refusal_of sh) p
unfolding taken
not_taken sh p h = rw h

-- what a value is stored as, by the two tests
pub stored_not : (sh : Shape) (p : ℕ) (s : List ℕ) (v : Value) → is_taken sh ≡ false → stored_bytes sh p s v ≡ refuse (refusal_of sh) p
unfolding stored_bytes
stored_not sh p s v h = rw (not_taken sh p h)

pub stored_out : (sh : Shape) (p : ℕ) (s : List ℕ) (v : Value) → is_taken sh ≡ true → is_in sh s v ≡ false
    → stored_bytes sh p s v ≡ refuse 13 p
unfolding stored_bytes
stored_out sh p s v t h = rw (taken_at sh p t, h)

pub stored_in : (sh : Shape) (p : ℕ) (s : List ℕ) (v : Value) → is_taken sh ≡ true → is_in sh s v ≡ true
    → stored_bytes sh p s v ≡ ok (bytes_of sh (datum_of s v))
unfolding stored_bytes
stored_in sh p s v t h = rw (taken_at sh p t, h)

-- the bytes b of the part that the code lends
pub lent_part_lem : (s : List ℕ) (v : Value) (k : ℕ) (p : Part) (b : List ℕ) → is_lent s v ≡ true → p ≡ bytes_at v → b ≡ lent_part s p
    → le_bytes k (length b) ++ b ≡ le_bytes k (bytes_at v).len ++ part_of s (bytes_at v)
lent_part_lem s v k p b h e f =
    let l = lent_fits s v h in
    let g : b ≡ part_of s (bytes_at v) = f ∙ ap (lent_part s) e ∙ lent_is s (bytes_at v) l in
    rw (g, part_length s (bytes_at v) l)

-- ---- what the writer and the size answer
pub writes_not : (sh : Shape) (p : ℕ) (s : List ℕ) (v : Value) (buf : List ℕ) (at : ℕ) → is_taken sh ≡ false
    → write_value sh p s v buf at ≡ refuse (refusal_of sh) p
unfolding write_value
writes_not sh p s v buf at h = rw (stored_not sh p s v h)

pub writes_out : (sh : Shape) (p : ℕ) (s : List ℕ) (v : Value) (buf : List ℕ) (at : ℕ) → is_taken sh ≡ true → is_in sh s v ≡ false
    → write_value sh p s v buf at ≡ refuse 13 p
unfolding write_value
writes_out sh p s v buf at t h = rw (stored_out sh p s v t h)

pub writes_in : (sh : Shape) (p : ℕ) (s : List ℕ) (v : Value) (buf : List ℕ) (at : ℕ) → is_taken sh ≡ true → is_in sh s v ≡ true
    → write_value sh p s v buf at ≡ store (bytes_of sh (datum_of s v)) buf at
unfolding write_value
writes_in sh p s v buf at t h = rw (stored_in sh p s v t h)

pub sizes_not : (sh : Shape) (p : ℕ) (s : List ℕ) (v : Value) → is_taken sh ≡ false → size_of sh p s v ≡ refuse (refusal_of sh) p
unfolding size_of
sizes_not sh p s v h = rw (stored_not sh p s v h)

pub sizes_out : (sh : Shape) (p : ℕ) (s : List ℕ) (v : Value) → is_taken sh ≡ true → is_in sh s v ≡ false → size_of sh p s v ≡ refuse 13 p
unfolding size_of
sizes_out sh p s v t h = rw (stored_out sh p s v t h)

pub sizes_in : (sh : Shape) (p : ℕ) (s : List ℕ) (v : Value) → is_taken sh ≡ true → is_in sh s v ≡ true
    → size_of sh p s v ≡ ok (length (bytes_of sh (datum_of s v)))
unfolding size_of
sizes_in sh p s v t h = rw (stored_in sh p s v t h)

-- ---- the code judges first
there_is : (sh : Shape) → ((n : ℕ) → sh ≡ NotTaken n → ⊥) → is_taken sh ≡ true
unfolding is_taken
there_is (Unsigned k) h = refl
there_is (Signed k) h = refl
there_is FloatBits h = refl
there_is DoubleBits h = refl
there_is YearByte h = refl
there_is (Timed k) h = refl
there_is (Fixed n) h = refl
there_is (Counted k) h = refl
there_is (NotTaken n) h = absurd (h n refl)

pub judged_not : (n p : ℕ) (s : List ℕ) (v : Value) → storable (NotTaken n) p s v ≡ refuse n p
unfolding storable stored_bytes taken is_taken refusal_of
judged_not n p s v = refl

pub judged_out : (sh : Shape) (p : ℕ) (s : List ℕ) (v : Value) → ((n : ℕ) → sh ≡ NotTaken n → ⊥) → is_in sh s v ≡ false
    → storable sh p s v ≡ refuse 13 p
unfolding storable
judged_out sh p s v t h = rw (stored_out sh p s v (there_is sh t) h)

pub judged_in : (sh : Shape) (p : ℕ) (s : List ℕ) (v : Value) → ((n : ℕ) → sh ≡ NotTaken n → ⊥) → is_in sh s v ≡ true
    → storable sh p s v ≡ ok tt
unfolding storable
judged_in sh p s v t h = rw (stored_in sh p s v (there_is sh t) h)

pub ruleset judging = (judged_not, judged_out, judged_in)

-- so a value that passed is one that a column of the shape takes
passed : (sh : Shape) (p : ℕ) (s : List ℕ) (v : Value) → storable sh p s v ≡ ok tt
    → (is_in sh s v ≡ true) × (stored_bytes sh p s v ≡ ok (bytes_of sh (datum_of s v)))
unfolding storable stored_bytes taken
passed sh p s v e =
    let b = after_is_ok (stored_bytes sh p s v) _ _ e in
    let a = after_is_ok (taken sh p) _ _ b.1 in
    let i = taken_same sh a.0 p a.1 in
    let t = test_is_ok (is_in a.0 s v) (bytes_of a.0 (datum_of s v)) (why 13 p) b.0 a.2 in
    let h : is_in sh s v ≡ true = subst (λ (x : Shape). is_in x s v ≡ true) i.0 t.0 in
    (h, stored_in sh p s v i.1 h)

pub passed_in : (sh : Shape) (p : ℕ) (s : List ℕ) (v : Value) → storable sh p s v ≡ ok tt → is_in sh s v ≡ true
passed_in sh p s v e = (passed sh p s v e).0

-- and one of another sort did not
pub never : (sh : Shape) (p : ℕ) (s : List ℕ) (v : Value) → storable sh p s v ≡ ok tt → is_in sh s v ≡ false → ⊥
never sh p s v e h = true≢false (sym (passed_in sh p s v e) ∙ h)

-- and one that did not is refused by all that goes on from its bytes
refused_on : (x : Outcome (List ℕ)) (w : Refusal) → after {B = Unit {0}} x (λ b. ok tt) ≡ refused w → x ≡ refused w
refused_on x w e = ⊎_elim (λ r. r) (λ y. absurd (ok_not_refused y.2)) (after_refuses x _ w e)

-- ---- and then counts
-- a shape without a length of its own: the bytes tell nothing of how many they are, and its most is all it ever takes
pub width_fixed : (sh : Shape) → ((k : ℕ) → sh ≡ Counted k → ⊥) → ((s : List ℕ) → need sh s ≡ need sh []) × (most_of sh ≡ need sh [])
unfolding need most_of
width_fixed (Unsigned k) h = (λ s. refl, refl)
width_fixed (Signed k) h = (λ s. refl, refl)
width_fixed FloatBits h = (λ s. refl, refl)
width_fixed DoubleBits h = (λ s. refl, refl)
width_fixed YearByte h = (λ s. refl, refl)
width_fixed (Timed k) h = (λ s. refl, refl)
width_fixed (Fixed n) h = (λ s. refl, refl)
width_fixed (Counted k) h = absurd (h k refl)
width_fixed (NotTaken n) h = (λ s. refl, refl)

pub size_refused : (sh : Shape) (p : ℕ) (s : List ℕ) (v : Value) (w : Refusal) → storable sh p s v ≡ refused w → size_of sh p s v ≡ refused w
unfolding storable size_of
size_refused sh p s v w e = rw (refused_on (stored_bytes sh p s v) w e)

pub size_plain : (sh : Shape) (p : ℕ) (s : List ℕ) (v : Value) → ((k : ℕ) → sh ≡ Counted k → ⊥) → storable sh p s v ≡ ok tt
    → size_of sh p s v ≡ ok (need sh [])
unfolding size_of
size_plain sh p s v c e =
    let w = passed sh p s v e in
    rw w.1 (ap ok (sym (size_is sh s v w.0) ∙ (width_fixed sh c).0 (bytes_of sh (datum_of s v))))

pub size_bytes : (k p : ℕ) (s : List ℕ) (q : Part) → storable (Counted k) p s (Bytes q) ≡ ok tt
    → size_of (Counted k) p s (Bytes q) ≡ ok (k + q.len)
unfolding size_of bytes_at
size_bytes k p s q e = let w = passed (Counted k) p s (Bytes q) e in rw w.1 (ap ok (sym (size_counted k s (Bytes q) w.0)))

pub size_fits : (k p : ℕ) (s : List ℕ) (q : Part) → storable (Counted k) p s (Bytes q) ≡ ok tt → q.len ≤ length s
unfolding bytes_at
size_fits k p s q e =
    let l = lent_fits s (Bytes q) (is_in_lem (Counted k) s (Bytes q) (passed (Counted k) p s (Bytes q) e).0).0 in
    omega (arith, l)

pub ruleset sizing = (size_refused, size_plain, size_bytes)

-- ---- or writes
written : (sh : Shape) (p : ℕ) (s : List ℕ) (v : Value) (buf : List ℕ) (at : ℕ) → storable sh p s v ≡ ok tt
    → write_value sh p s v buf at ≡ store (bytes_of sh (datum_of s v)) buf at
unfolding write_value
written sh p s v buf at e = rw (passed sh p s v e).1

pub write_refused : (sh : Shape) (p : ℕ) (s : List ℕ) (v : Value) (buf : List ℕ) (at : ℕ) (w : Refusal) → storable sh p s v ≡ refused w
    → write_value sh p s v buf at ≡ refused w
unfolding storable write_value
write_refused sh p s v buf at w e = rw (refused_on (stored_bytes sh p s v) w e)

pub write_unsigned : (k n p : ℕ) (s buf : List ℕ) (at : ℕ) → k ≤ 8 → storable (Unsigned k) p s (Uint n) ≡ ok tt
    → write_value (Unsigned k) p s (Uint n) buf at ≡ store (le_bytes (min k 8) n) buf at
unfolding bytes_of datum_of number_in
write_unsigned k n p s buf at h e = written (Unsigned k) p s (Uint n) buf at e ∙ rw (narrow k h)

pub write_signed : (k : ℕ) (z : ℤ) (p : ℕ) (s buf : List ℕ) (at : ℕ) → k ≤ 8 → storable (Signed k) p s (Int z) ≡ ok tt
    → write_value (Signed k) p s (Int z) buf at ≡ store (le_bytes (min k 8) (twos_of (256 ^ min k 8) z)) buf at
unfolding bytes_of datum_of int_in
write_signed k z p s buf at h e = written (Signed k) p s (Int z) buf at e ∙ rw (narrow k h)

pub write_float : (n p : ℕ) (s buf : List ℕ) (at : ℕ) → storable FloatBits p s (Float n) ≡ ok tt
    → write_value FloatBits p s (Float n) buf at ≡ store (le_bytes 4 n) buf at
unfolding bytes_of datum_of number_in
write_float n p s buf at e = written FloatBits p s (Float n) buf at e

pub write_double : (n p : ℕ) (s buf : List ℕ) (at : ℕ) → storable DoubleBits p s (Double n) ≡ ok tt
    → write_value DoubleBits p s (Double n) buf at ≡ store (le_bytes 8 n) buf at
unfolding bytes_of datum_of number_in
write_double n p s buf at e = written DoubleBits p s (Double n) buf at e

pub write_year : (n p : ℕ) (s buf : List ℕ) (at : ℕ) → storable YearByte p s (Year n) ≡ ok tt
    → write_value YearByte p s (Year n) buf at ≡ store (le_bytes 1 (byte_of_year n)) buf at
unfolding bytes_of datum_of number_in
write_year n p s buf at e = written YearByte p s (Year n) buf at e

pub write_timed : (k : Storage) (t : Temporal) (p : ℕ) (s buf : List ℕ) (at : ℕ) → storable (Timed k) p s (Value.Temporal t) ≡ ok tt
    → write_value (Timed k) p s (Value.Temporal t) buf at ≡ write_temporal k p t buf at
unfolding bytes_of datum_of temporal_in write_temporal
write_timed k t p s buf at e =
    let d : temporal_domain k t ≡ true = timed_in k t s ∙ passed_in (Timed k) p s (Value.Temporal t) e in
    written (Timed k) p s (Value.Temporal t) buf at e ∙ rw d

-- the bytes are those of the part that the code lends
lent_there : (sh : Shape) (p : ℕ) (s : List ℕ) (q : Part) → storable sh p s (Bytes q) ≡ ok tt → lent_part s q ≡ part_of s q
unfolding bytes_at
lent_there sh p s q e = lent_is s q (lent_fits s (Bytes q) (is_in_lem sh s (Bytes q) (passed_in sh p s (Bytes q) e)).0)

pub write_fixed : (n p : ℕ) (s buf : List ℕ) (at : ℕ) (q : Part) → storable (Fixed n) p s (Bytes q) ≡ ok tt
    → write_value (Fixed n) p s (Bytes q) buf at ≡ store (lent_part s q) buf at
unfolding bytes_of datum_of bytes_in
write_fixed n p s buf at q e = written (Fixed n) p s (Bytes q) buf at e ∙ rw (lent_there (Fixed n) p s q e)

pub write_counted : (k p : ℕ) (s buf : List ℕ) (at : ℕ) (q : Part) → storable (Counted k) p s (Bytes q) ≡ ok tt
    → write_value (Counted k) p s (Bytes q) buf at ≡ store (le_bytes k (length (lent_part s q)) ++ lent_part s q) buf at
unfolding bytes_of datum_of bytes_in
write_counted k p s buf at q e = written (Counted k) p s (Bytes q) buf at e ∙ rw (lent_there (Counted k) p s q e)

pub ruleset writing = (
  write_refused,
  write_unsigned,
  write_signed,
  write_float,
  write_double,
  write_year,
  write_timed,
  write_fixed,
  write_counted,
)
