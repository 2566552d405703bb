-- How many bytes a value takes at most. What the bytes at hand tell is no more, and so are the stored bytes of a value in the domain; and a
-- value of each shape has just so many. Assumes nothing.
use Prim.Native.Nat.{ℕ, zero, suc, ◌+◌, ◌-◌, ◌/◌, ◌^◌, ◌≤◌, ◌<◌, min}
use mathlib.Core.Path.{◌≡◌, refl, sym, ◌∙◌}
use mathlib.Core.Bool.{true, false, true≢false}
use mathlib.Core.List.{List, [], ◌∷◌}
use native.Mathlib.Nat.{zero-mod, add-zero}
use native.Mathlib.Omega.{arith}
use borrow.Author.Tests.{lt-ltb, eq-eqb, ltb-true}
use types.Run.{OneOf, miss}
use denote.Enum.Declared.{tag_of}
use lib.ListN.{length, take, replicate, length-append, length-take, length-replicate}
use lib.IntN.{pos}
use Rattle.wire.specs.Number.{Bytes, are_bytes, le_value, le_bytes}
use Rattle.wire.specs.Signed.{in_halves}
use Rattle.wire.proofs.Bytes.{le_bytes_length, wider}
use Rattle.wire.proofs.Inverse.{le_bound, bytes_take, bytes_are}
use Rattle.wire.proofs.Signs.{bytes_even}
use Rattle.wire.proofs.Outcomes.{both_true}
use Rattle.temporal.specs.declared.storage.Storage.{Storage}
use Rattle.temporal.specs.declared.storage.Storage.TheVariants.{Timestamp, OldTime, OldDatetime, Newdate, Timestamp2, Datetime2, Time2}
use Rattle.temporal.specs.declared.parts.Temporal.{Temporal}
use Rattle.temporal.specs.Fraction.{fraction_bytes, unit_of}
use Rattle.temporal.specs.Ranges.{in_day, in_clock}
use Rattle.temporal.specs.Storage.{temporal_tag, seconds_in, date_in, datetime_in, time_in}
use Rattle.temporal.specs.Domains.{temporal_domain, seconds_domain, date_domain, datetime_domain, time_domain}
use Rattle.value.specs.declared.shape.Shape.{Shape}
use Rattle.value.specs.declared.shape.Shape.TheVariants.{Unsigned, Signed, FloatBits, DoubleBits, YearByte, Timed, Fixed, Counted}
use Rattle.value.specs.declared.shape.Shape.TheVariants.{NotTaken}
use Rattle.value.specs.declared.datum.Value.{Value}
use Rattle.value.specs.contracts.shape.Shape.{the_type as shape_type}
use Rattle.value.specs.Columns.{is_taken}
use Rattle.value.specs.Data.{Datum, null, int, uint, float, double, year, temporal, bytes, tag, int_in, number_in, temporal_in, bytes_in}
use Rattle.value.specs.Domains.{domain}
use Rattle.value.specs.Shapes.{bytes_of, need, most_of}
use Rattle.value.specs.Inner.Shapes.{Sized}
use Rattle.value.specs.Reading.{datum_of}
use Rattle.value.specs.Storing.{is_in}
use Rattle.value.proofs.Facts.{sorted, need_bytes}
use Rattle.value.proofs.Writers.{width_fixed, size_is, top_narrow}

-- ---- a shape without a length of its own, told by its tag
uncounted : (sh : Shape) → OneOf (0 ∷ 1 ∷ 2 ∷ 3 ∷ 4 ∷ 5 ∷ 6 ∷ 8 ∷ []) (tag_of shape_type sh) → (k : ℕ) → sh ≡ Counted k → ⊥
uncounted sh o k e =
    let t : OneOf (0 ∷ 1 ∷ 2 ∷ 3 ∷ 4 ∷ 5 ∷ 6 ∷ 8 ∷ []) 7 = rw e at o in
    miss (0 ∷ 1 ∷ 2 ∷ 3 ∷ 4 ∷ 5 ∷ 6 ∷ 8 ∷ []) 7 tt t

-- so a value of a shape of such a tag takes just what its width says
pub size_fixed : (sh : Shape) (s : List ℕ) (v : Value) → OneOf (0 ∷ 1 ∷ 2 ∷ 3 ∷ 4 ∷ 5 ∷ 6 ∷ 8 ∷ []) (tag_of shape_type sh)
    → is_in sh s v ≡ true → need sh [] ≡ length (bytes_of sh (datum_of s v))
size_fixed sh s v o h = sym ((width_fixed sh (uncounted sh o)).0 (bytes_of sh (datum_of s v))) ∙ size_is sh s v h

-- ---- a length of k bytes: with none at hand it counts nothing
none_taken : (k : ℕ) → take {A = ℕ} k [] ≡ []
none_taken zero = refl
none_taken (suc k) = refl

pub width_counted : (k : ℕ) → need (Counted k) [] ≡ k
unfolding need le_value
width_counted k = rw (none_taken k) (add-zero k)

-- of which the code knows the top
pub most_counted : (k top : ℕ) → k ≤ 4 → top + 1 ≡ 256 ^ min k 8 → k + top ≡ most_of (Counted k)
unfolding most_of
most_counted k top h e = omega (arith, top_narrow k top (omega arith) e)

pub top_small : (k top : ℕ) → k ≤ 4 → top + 1 ≡ 256 ^ min k 8 → k + top ≤ 4294967299
top_small k top h e =
    let l : top < 256 ^ 4 = wider k 4 top h (omega (arith, top_narrow k top (omega arith) e)) in
    omega arith

-- ---- no more, by the bytes at hand
pub need_most : (sh : Shape) (s : List ℕ) → Bytes s → need sh s ≤ most_of sh
unfolding need most_of
need_most (Unsigned k) s h = omega arith
need_most (Signed k) s h = omega arith
need_most FloatBits s h = omega arith
need_most DoubleBits s h = omega arith
need_most YearByte s h = omega arith
need_most (Timed k) s h = omega arith
need_most (Fixed n) s h = omega arith
need_most (Counted k) s h =
    let t = take k s in
    let l : length t ≤ k = omega (arith, length-take k s) in
    let b : le_value t < 256 ^ k = wider (length t) k (le_value t) l (le_bound t (bytes_take k s h)) in
    omega arith
need_most (NotTaken n) s h = omega arith

-- ---- and by the value
pub bytes_most : (sh : Shape) (d : Datum) → domain sh d ≡ true → length (bytes_of sh d) ≤ most_of sh
unfolding need most_of bytes_of domain
bytes_most (Unsigned k) d h = omega (arith, need_bytes (Unsigned k) d [] h)
bytes_most (Signed k) d h = omega (arith, need_bytes (Signed k) d [] h)
bytes_most FloatBits d h = omega (arith, need_bytes FloatBits d [] h)
bytes_most DoubleBits d h = omega (arith, need_bytes DoubleBits d [] h)
bytes_most YearByte d h = omega (arith, need_bytes YearByte d [] h)
bytes_most (Timed k) d h = omega (arith, need_bytes (Timed k) d [] h)
bytes_most (Fixed n) d h = omega (arith, need_bytes (Fixed n) d [] h)
bytes_most (Counted k) d h =
    let w = both_true (are_bytes (bytes_in d)) _ (sorted d 7 _ h).1 in
    let l : length (bytes_in d) < 256 ^ k = ltb-true (length (bytes_in d)) (256 ^ k) w.1 in
    omega (arith, length-append (le_bytes k (length (bytes_in d))) (bytes_in d), le_bytes_length k (length (bytes_in d)))
bytes_most (NotTaken n) d h = absurd (true≢false (sym h))

-- ---- a value that has just so many: zeros, and behind a length as many as it can count. Such lists stay what `replicate` says of them
unfoldable pub midnight : Storage → Temporal
midnight Timestamp = Temporal.Seconds record { seconds = 0; micros = 0 }
midnight OldTime = Temporal.Time record { negative = false; hours = 0; minutes = 0; seconds = 0; micros = 0 }
midnight OldDatetime = Temporal.Datetime record { year = 0; month = 0; day = 0; hour = 0; minute = 0; second = 0; micros = 0 }
midnight Newdate = Temporal.Date record { year = 0; month = 0; day = 0 }
midnight (Timestamp2 m0) = Temporal.Seconds record { seconds = 0; micros = 0 }
midnight (Datetime2 m0) = Temporal.Datetime record { year = 0; month = 0; day = 0; hour = 0; minute = 0; second = 0; micros = 0 }
midnight (Time2 m0) = Temporal.Time record { negative = false; hours = 0; minutes = 0; seconds = 0; micros = 0 }

unfoldable pub fullest : Shape → Datum
fullest (Unsigned k) = uint 0
fullest (Signed k) = int (pos 0)
fullest FloatBits = float 0
fullest DoubleBits = double 0
fullest YearByte = year 2155
fullest (Timed k) = temporal (midnight k)
fullest (Fixed n) = bytes (replicate n 0)
fullest (Counted k) = bytes (replicate (256 ^ k - 1) 0)
fullest (NotTaken n) = null

pub zero_bytes : (n : ℕ) → Bytes (replicate n 0)
zero_bytes zero i = omega arith
zero_bytes (suc n) zero = omega arith
zero_bytes (suc n) (suc i) = zero_bytes n i

-- there is a number of k bytes
some_number : (k : ℕ) → 0 < 256 ^ k
some_number k = wider 0 k 0 (omega arith) (omega arith)

midnight_in : (k : Storage) → temporal_domain k (midnight k) ≡ true
unfolding midnight temporal_domain temporal_tag seconds_in date_in datetime_in time_in seconds_domain date_domain datetime_domain time_domain in_day
    in_clock unit_of
midnight_in Timestamp = refl
midnight_in OldTime = refl
midnight_in OldDatetime = refl
midnight_in Newdate = refl
midnight_in (Timestamp2 m0) = rw (zero-mod (unit_of (fraction_bytes m0)))
midnight_in (Datetime2 m0) = rw (zero-mod (unit_of (fraction_bytes m0)))
midnight_in (Time2 m0) = rw (zero-mod (unit_of (fraction_bytes m0)))

pub fullest_in : (sh : Shape) → Sized sh → is_taken sh ≡ true → domain sh (fullest sh) ≡ true
unfolding fullest domain tag int_in number_in temporal_in bytes_in in_halves is_taken
fullest_in (Unsigned k) z t = lt-ltb 0 (256 ^ k) (some_number k)
fullest_in (Signed k) z t = lt-ltb 0 (256 ^ k / 2) (omega (arith, bytes_even k z.0, some_number k))
fullest_in FloatBits z t = refl
fullest_in DoubleBits z t = refl
fullest_in YearByte z t = refl
fullest_in (Timed k) z t = midnight_in k
fullest_in (Fixed n) z t =
    rw (bytes_are (replicate n 0) (zero_bytes n)) (eq-eqb (length (replicate n 0)) n (length-replicate n 0))
fullest_in (Counted k) z t =
    let n = 256 ^ k - 1 in
    rw (bytes_are (replicate n 0) (zero_bytes n))
    (lt-ltb (length (replicate n 0)) (256 ^ k) (omega (arith, length-replicate {A = ℕ} n 0, some_number k)))
fullest_in (NotTaken n) z t = absurd (true≢false (sym t))

counted_full : (k : ℕ) → length (bytes_of (Counted k) (fullest (Counted k))) ≡ k + (256 ^ k - 1)
unfolding bytes_of fullest bytes_in
counted_full k =
    let n = 256 ^ k - 1 in
    let b = replicate {A = ℕ} n 0 in
    length-append (le_bytes k (length b)) b ∙ omega (arith, le_bytes_length k (length b), length-replicate {A = ℕ} n 0)

pub fullest_size : (sh : Shape) → Sized sh → is_taken sh ≡ true → length (bytes_of sh (fullest sh)) ≡ most_of sh
unfolding need most_of is_taken
fullest_size (Unsigned k) z t = sym (need_bytes (Unsigned k) _ [] (fullest_in (Unsigned k) z t))
fullest_size (Signed k) z t = sym (need_bytes (Signed k) _ [] (fullest_in (Signed k) z t))
fullest_size FloatBits z t = sym (need_bytes FloatBits _ [] (fullest_in FloatBits z t))
fullest_size DoubleBits z t = sym (need_bytes DoubleBits _ [] (fullest_in DoubleBits z t))
fullest_size YearByte z t = sym (need_bytes YearByte _ [] (fullest_in YearByte z t))
fullest_size (Timed k) z t = sym (need_bytes (Timed k) _ [] (fullest_in (Timed k) z t))
fullest_size (Fixed n) z t = sym (need_bytes (Fixed n) _ [] (fullest_in (Fixed n) z t))
fullest_size (Counted k) z t = counted_full k
fullest_size (NotTaken n) z t = absurd (true≢false (sym t))
