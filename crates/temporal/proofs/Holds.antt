-- What the domains say. Assumes nothing.
use Prim.Native.Nat.{ℕ, ◌+◌, ◌%◌, ◌≤◌, ◌<◌}
use mathlib.Core.Path.{◌≡◌, refl, sym}
use mathlib.Core.Bool.{Bool, true, false, not, ◌&&◌, false≢true}
use native.Mathlib.Omega.{arith}
use borrow.Author.Tests.{le-leb, leb-true, eq-eqb, ne_eqb, eqb-true, eqb-false}
use lib.Dec.{eqb}
use Rattle.wire.proofs.Outcomes.{both_true}
use Rattle.temporal.specs.declared.storage.Storage.TheVariants.{Time2}
use Rattle.temporal.specs.declared.parts.Seconds.{Seconds}
use Rattle.temporal.specs.declared.parts.Datetime.{Datetime}
use Rattle.temporal.specs.declared.parts.Time.{Time}
use Rattle.temporal.specs.declared.parts.Temporal.{Temporal}
use Rattle.temporal.specs.Fraction.{fraction_bytes, unit_of}
use Rattle.temporal.specs.Times.{time_number}
use Rattle.temporal.specs.Storage.{is_time, time_in}
use Rattle.temporal.specs.Domains.{seconds_domain, datetime_domain, time_domain, temporal_domain}
use Rattle.temporal.proofs.Ranges.{Clock, Day, clock_of, clock_in, day_of, day_in}

-- ---- a seconds, a datetime and a time that a fraction of w bytes can hold, and the other way round
pub record HoldsSeconds (w : ℕ) (t : Seconds) : Type 0 where
  pub seconds : t.seconds ≤ 4294967295
  pub micros : t.micros ≤ 999999
  pub units : t.micros % unit_of w ≡ 0

-- what the test says
pub seconds_of_lem : (w : ℕ) (t : Seconds) → seconds_domain w t ≡ true → HoldsSeconds w t
unfolding seconds_domain
seconds_of_lem w t e =
    let a = both_true _ _ e in
    let b = both_true _ _ a.1 in
    record { seconds = leb-true _ _ a.0; micros = leb-true _ _ b.0; units = eqb-true _ _ b.1 }

-- and what it needs
pub seconds_in_lem : (w : ℕ) (t : Seconds) → HoldsSeconds w t → seconds_domain w t ≡ true
unfolding seconds_domain
seconds_in_lem w t h =
    simp (le-leb t.seconds 4294967295 h.seconds, le-leb t.micros 999999 h.micros, eq-eqb (t.micros % unit_of w) 0 h.units)

-- a datetime
pub record HoldsDatetime (w : ℕ) (m : Datetime) : Type 0 where
  pub date : Day m.year m.month m.day
  pub clock : Clock 23 m.hour m.minute m.second m.micros
  pub units : m.micros % unit_of w ≡ 0

-- what the test says
pub datetime_of_lem : (w : ℕ) (m : Datetime) → datetime_domain w m ≡ true → HoldsDatetime w m
unfolding datetime_domain
datetime_of_lem w m e =
    let a = both_true _ _ e in
    let b = both_true _ _ a.1 in
    record { date = day_of _ _ _ a.0; clock = clock_of _ _ _ _ _ b.0; units = eqb-true _ _ b.1 }

-- and what it needs
pub datetime_in_lem : (w : ℕ) (m : Datetime) → HoldsDatetime w m → datetime_domain w m ≡ true
unfolding datetime_domain
datetime_in_lem w m h = rw (day_in h.date, clock_in h.clock, eq-eqb (m.micros % unit_of w) 0 h.units) refl

-- zero where all parts are
abbrev pub sum : Time → ℕ
sum t = t.hours + t.minutes + t.seconds + t.micros

-- a time, which is no negative zero
pub record HoldsTime (w : ℕ) (t : Time) : Type 0 where
  pub clock : Clock 838 t.hours t.minutes t.seconds t.micros
  pub units : t.micros % unit_of w ≡ 0
  pub signed : t.negative ≡ true → 0 < sum t

not_both : (a b : Bool) → not (a && b) ≡ true → a ≡ true → b ≡ false
not_both true true e p = sym e
not_both true false e p = refl
not_both false b e p = absurd (false≢true p)

not_zero : (b : Bool) (n : ℕ) → (b ≡ true → 0 < n) → not (b && eqb n 0) ≡ true
not_zero true n h = let p = h refl in simp (ne_eqb n 0 (λ e. omega arith))
not_zero false n h = refl

-- what the test says
pub time_of : (w : ℕ) (t : Time) → time_domain w t ≡ true → HoldsTime w t
unfolding time_domain
time_of w t e =
    let a = both_true _ _ e in
    let b = both_true _ _ a.1 in
    record {
      clock = clock_of _ _ _ _ _ a.0;
      units = eqb-true _ _ b.0;
      signed = λ n.
          let q = eqb-false (sum t) 0 (not_both t.negative _ b.1 n) in
          omega arith;
    }

-- and what it needs
pub time_in_lem : (w : ℕ) (t : Time) → HoldsTime w t → time_domain w t ≡ true
unfolding time_domain
time_in_lem w t h = rw (clock_in h.clock, eq-eqb (t.micros % unit_of w) 0 h.units) (not_zero t.negative (sum t) h.signed)

-- ---- what TIME2 holds can be stored: no number of it is too large
pub time2_room : (m0 : ℕ) (t : Temporal) → temporal_domain (Time2 m0) t ≡ true
    → (time_number 64 (time_in t) < 8388608) × ((time_in t).micros ≤ 999999)
unfolding temporal_domain
time2_room m0 t e =
    let a = both_true (is_time t) (time_domain (fraction_bytes m0) (time_in t)) e in
    let c = (time_of (fraction_bytes m0) (time_in t) a.1).clock in
    (omega arith, c.micros)
