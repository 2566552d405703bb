-- A value in a column's domain is one that the machine can hold, wherever its bytes stand. Assumes nothing.
use Prim.Native.Nat.{ℕ, ◌-◌, ◌^◌, ◌≤◌, ◌<◌}
use mathlib.Core.Path.{◌≡◌, subst}
use mathlib.Core.Bool.{true, not, false≢true}
use native.Mathlib.Nat.{pow-le-pow_right, zero-lt-suc}
use native.Mathlib.Omega.{arith}
use borrow.Author.Tests.{lt-ltb, ltb-true}
use lib.IntN.{ℤ, pos, negsuc}
use lib.ListN.{length}
use Rattle.wire.specs.Signed.{in_halves}
use Rattle.wire.specs.Parts.{part}
use Rattle.wire.proofs.Bytes.{wider}
use Rattle.wire.proofs.Outcomes.{both_true}
use Rattle.temporal.specs.declared.storage.Storage.{Storage}
use Rattle.temporal.specs.declared.storage.Storage.TheVariants.{Timestamp, OldTime, OldDatetime, Newdate, Timestamp2, Datetime2, Time2}
use Rattle.temporal.specs.declared.parts.Temporal.{Temporal}
use Rattle.temporal.specs.Fraction.{fraction_bytes}
use Rattle.temporal.specs.Storage.{is_seconds, is_date, is_datetime, is_time, seconds_in, date_in, datetime_in, time_in}
use Rattle.temporal.specs.Domains.{seconds_domain, date_domain, datetime_domain, time_domain, temporal_domain}
use Rattle.temporal.proofs.Ranges.{day_of}
use Rattle.temporal.proofs.Holds.{seconds_of_lem, datetime_of_lem, time_of}
use Rattle.temporal.proofs.Sorts.{is_seconds_lem, is_date_lem, is_datetime_lem, is_time_lem}
use Rattle.value.specs.declared.column.Column.{Column}
use Rattle.value.specs.declared.shape.Shape.{Shape}
use Rattle.value.specs.declared.shape.Shape.TheVariants.{Unsigned, Signed, FloatBits, DoubleBits, YearByte, Timed, Fixed, Counted}
use Rattle.value.specs.declared.shape.Shape.TheVariants.{NotTaken}
use Rattle.value.specs.declared.datum.Value.{Value}
use Rattle.value.specs.Columns.{shape_of}
use Rattle.value.specs.Data.{Datum, int_in, number_in, temporal_in, bytes_in}
use Rattle.value.specs.Domains.{domain}
use Rattle.value.specs.Inner.Shapes.{Sized}
use Rattle.value.specs.Reading.{placed}
use Rattle.value.proofs.Facts.{sorted, year_most}
use Rattle.value.proofs.Tables.{sized, few_bytes}
use Rattle.value_parts.specs.Parts.{top_of_bits, is_held}
use Rattle.value_parts.proofs.Holds.{held_halves, held_uint, held_float, held_double, held_year, held_bytes, held_seconds, held_date}
use Rattle.value_parts.proofs.Holds.{held_datetime, held_time}

-- ---- temporals
seconds_held : (w : ℕ) (t : Temporal) → is_seconds t ≡ true → seconds_domain w (seconds_in t) ≡ true → is_held (Value.Temporal t) ≡ true
seconds_held w t s h =
    let x = seconds_of_lem w (seconds_in t) h in
    subst (λ (y : Temporal). is_held (Value.Temporal y) ≡ true) (is_seconds_lem t s)
    (held_seconds (seconds_in t) (omega (arith, x.seconds)) (omega (arith, x.micros)))

datetime_held : (w : ℕ) (t : Temporal) → is_datetime t ≡ true → datetime_domain w (datetime_in t) ≡ true → is_held (Value.Temporal t) ≡ true
datetime_held w t s h =
    let x = datetime_of_lem w (datetime_in t) h in
    let d = x.date in
    let c = x.clock in
    subst (λ (y : Temporal). is_held (Value.Temporal y) ≡ true) (is_datetime_lem t s)
    (held_datetime (datetime_in t) (omega (arith, d.year)) (omega (arith, d.month)) (omega (arith, d.day)) (omega (arith, c.hour))
    (omega (arith, c.minute)) (omega (arith, c.second)) (omega (arith, c.micros)))

time_held : (w : ℕ) (t : Temporal) → is_time t ≡ true → time_domain w (time_in t) ≡ true → is_held (Value.Temporal t) ≡ true
time_held w t s h =
    let c = (time_of w (time_in t) h).clock in
    subst (λ (y : Temporal). is_held (Value.Temporal y) ≡ true) (is_time_lem t s)
    (held_time (time_in t) (omega (arith, c.hour)) (omega (arith, c.minute)) (omega (arith, c.second)) (omega (arith, c.micros)))

date_held : (t : Temporal) → is_date t ≡ true → date_domain (date_in t) ≡ true → is_held (Value.Temporal t) ≡ true
unfolding date_domain
date_held t s h =
    let x = day_of (date_in t).year (date_in t).month (date_in t).day h in
    subst (λ (y : Temporal). is_held (Value.Temporal y) ≡ true) (is_date_lem t s)
    (held_date (date_in t) (omega (arith, x.year)) (omega (arith, x.month)) (omega (arith, x.day)))

timed_held : (k : Storage) (t : Temporal) → temporal_domain k t ≡ true → is_held (Value.Temporal t) ≡ true
unfolding temporal_domain
timed_held Timestamp t h = let a = both_true (is_seconds t) _ h in seconds_held 0 t a.0 a.1
timed_held OldTime t h = let a = both_true (is_time t) _ h in time_held 0 t a.0 (both_true (not (time_in t).negative) _ a.1).1
timed_held OldDatetime t h = let a = both_true (is_datetime t) _ h in datetime_held 0 t a.0 a.1
timed_held Newdate t h = let a = both_true (is_date t) _ h in date_held t a.0 a.1
timed_held (Timestamp2 m0) t h = let a = both_true (is_seconds t) _ h in seconds_held (fraction_bytes m0) t a.0 a.1
timed_held (Datetime2 m0) t h = let a = both_true (is_datetime t) _ h in datetime_held (fraction_bytes m0) t a.0 a.1
timed_held (Time2 m0) t h = let a = both_true (is_time t) _ h in time_held (fraction_bytes m0) t a.0 a.1

-- ---- the halves of k bytes are within those of eight
wider_halves : (k : ℕ) (z : ℤ) → k ≤ 8 → in_halves (256 ^ k) z ≡ true → in_halves (2 ^ 64) z ≡ true
unfolding in_halves
wider_halves k (pos n) l h =
    lt-ltb n (2 ^ 63) (omega (arith, ltb-true n _ h, pow-le-pow_right {n = 256} (zero-lt-suc 255) l))
wider_halves k (negsuc n) l h =
    lt-ltb n (2 ^ 63) (omega (arith, ltb-true n _ h, pow-le-pow_right {n = 256} (zero-lt-suc 255) l))

-- ---- every shape
held_by : (sh : Shape) (d : Datum) (e : ℕ) → Sized sh → length (bytes_in d) < 256 ^ 4 → domain sh d ≡ true → e ≤ top_of_bits 64
    → is_held (placed e d) ≡ true
unfolding domain placed
held_by (Unsigned k) d e z f h l =
    let w = sorted d 2 _ h in
    subst (λ (x : Datum). is_held (placed e x) ≡ true) w.0
    (held_uint (number_in d) (omega (arith, wider k 8 (number_in d) z (ltb-true (number_in d) (256 ^ k) w.1))))
held_by (Signed k) d e z f h l =
    let w = sorted d 1 _ h in
    subst (λ (x : Datum). is_held (placed e x) ≡ true) w.0 (held_halves (int_in d) (wider_halves k (int_in d) z.1 w.1))
held_by FloatBits d e z f h l =
    let w = sorted d 3 _ h in
    subst (λ (x : Datum). is_held (placed e x) ≡ true) w.0
    (held_float (number_in d) (omega (arith, ltb-true (number_in d) (256 ^ 4) w.1)))
held_by DoubleBits d e z f h l =
    let w = sorted d 4 _ h in
    subst (λ (x : Datum). is_held (placed e x) ≡ true) w.0
    (held_double (number_in d) (omega (arith, ltb-true (number_in d) (256 ^ 8) w.1)))
held_by YearByte d e z f h l =
    let w = sorted d 5 _ h in
    subst (λ (x : Datum). is_held (placed e x) ≡ true) w.0 (held_year (number_in d) (omega (arith, year_most (number_in d) w.1)))
held_by (Timed k) d e z f h l =
    let w = sorted d 6 _ h in
    subst (λ (x : Datum). is_held (placed e x) ≡ true) w.0 (timed_held k (temporal_in d) w.1)
held_by (Fixed n) d e z f h l =
    subst (λ (x : Datum). is_held (placed e x) ≡ true) (sorted d 7 _ h).0
    (held_bytes (part (e - length (bytes_in d)) (length (bytes_in d))) (omega (arith, l)) (omega (arith, f)))
held_by (Counted k) d e z f h l =
    subst (λ (x : Datum). is_held (placed e x) ≡ true) (sorted d 7 _ h).0
    (held_bytes (part (e - length (bytes_in d)) (length (bytes_in d))) (omega (arith, l)) (omega (arith, f)))
held_by (NotTaken n) d e z f h l = absurd (false≢true h)

pub held_in : (c : Column) (d : Datum) (e : ℕ) → domain (shape_of c) d ≡ true → e ≤ top_of_bits 64 → is_held (placed e d) ≡ true
held_in c d e h = held_by (shape_of c) d e (sized c) (few_bytes c d h).1 h
