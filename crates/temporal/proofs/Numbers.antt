-- Each storage's two stored numbers, both ways: those of a temporal that it can hold say that temporal again; and what two numbers say,
-- with no part out of range, can be held and has just these numbers. No bytes yet. Assumes nothing.
use Prim.Native.Nat.{ℕ, ◌+◌, ◌-◌, ◌*◌, ◌/◌, ◌%◌, ◌^◌, ◌≤◌, ◌<◌}
use mathlib.Core.Path.{◌≡◌, refl, sym, ap, ◌∙◌, subst}
use mathlib.Core.Logic.{dite}
use mathlib.Core.Bool.{Bool, true, false, not, ◌&&◌, false≢true}
use native.Mathlib.Decide.{dec_le}
use native.Mathlib.Nat.{zero-mul, zero-mod, zero-div}
use native.Mathlib.Omega.{arith}
use borrow.Author.Tests.{le-leb, lt-leb, lt-ltb, le-ltb, eq-eqb, ne_eqb, not-true}
use Rattle.wire.proofs.Outcomes.{both_true}
use Rattle.temporal.specs.declared.storage.Storage.{Storage}
use Rattle.temporal.specs.declared.storage.Storage.TheVariants.{Timestamp, OldTime, OldDatetime, Newdate, Timestamp2, Datetime2}
use Rattle.temporal.specs.declared.storage.Storage.TheVariants.{Time2}
use Rattle.temporal.specs.declared.parts.Seconds.{Seconds}
use Rattle.temporal.specs.declared.parts.Datetime.{Datetime}
use Rattle.temporal.specs.declared.parts.Time.{Time}
use Rattle.temporal.specs.declared.parts.Temporal.{Temporal}
use Rattle.temporal.specs.Fraction.{fraction_bytes, unit_of}
use Rattle.temporal.specs.Ranges.{clock_fault}
use Rattle.temporal.specs.Times.{time_by, time_number, time_fault, signed_time, time2_of, time2_whole, time2_fraction}
use Rattle.temporal.specs.Datetimes.{datetime_by, datetime_number, datetime_fault, signed_datetime, datetime2_of, datetime2_fault}
use Rattle.temporal.specs.Datetimes.{datetime_of, date_of, date_number, date_fault, seconds_of, seconds_fault}
use Rattle.temporal.specs.Storage.{whole_bytes, fraction_size, temporal_of, fault_of, whole_of, units_of, temporal_tag, is_seconds, is_date}
use Rattle.temporal.specs.Storage.{is_datetime, is_time, seconds_in, date_in, datetime_in, time_in}
use Rattle.temporal.specs.Domains.{temporal_domain, seconds_domain, date_domain, datetime_domain, time_domain}
use Rattle.temporal.proofs.Units.{fraction_small, unit_div, unit_mod, unit_whole, unit_fits, unit_some, unit_zero}
use Rattle.temporal.proofs.Sorts.{is_seconds_lem, is_date_lem, is_datetime_lem, is_time_lem}
use Rattle.temporal.proofs.Ranges.{clock_clear, clock_none, day_clear, day_none, day_of, day_in}
use Rattle.temporal.proofs.Radices.{Below, time_back, time_number_lem, datetime_back, datetime_number_lem}
use Rattle.temporal.proofs.Holds.{HoldsSeconds, HoldsDatetime, HoldsTime, sum, seconds_of_lem, seconds_in_lem, datetime_of_lem, datetime_in_lem}
use Rattle.temporal.proofs.Holds.{time_of, time_in_lem}

-- what a storage's two numbers obey
pub record NumberLaw (k : Storage) : Type 0 where
  pub back : (t : Temporal) → temporal_domain k t ≡ true
      → (fault_of k (whole_of k t) (units_of k t) ≡ 0) × (whole_of k t < 256 ^ whole_bytes k) × (units_of k t < 256 ^ fraction_size k)
      × (temporal_of k (whole_of k t) (units_of k t) ≡ t)
  pub sound : (a f : ℕ) → a < 256 ^ whole_bytes k → f < 256 ^ fraction_size k → fault_of k a f ≡ 0
      → (temporal_domain k (temporal_of k a f) ≡ true) × (whole_of k (temporal_of k a f) ≡ a) × (units_of k (temporal_of k a f) ≡ f)

-- ---- seconds since 1970
seconds_back : (w : ℕ) (t : Seconds) → HoldsSeconds w t → seconds_of w t.seconds (t.micros / unit_of w) ≡ t
unfolding seconds_of
seconds_back w t h = rw (unit_whole w t.micros h.units)

seconds_clear : (w : ℕ) (t : Seconds) → HoldsSeconds w t → seconds_fault t ≡ 0
seconds_clear w t h = clock_none (record { hour = omega arith; minute = omega arith; second = omega arith; micros = h.micros })

seconds_sound : (w a f : ℕ) → a < 256 ^ 4 → seconds_fault (seconds_of w a f) ≡ 0 → seconds_domain w (seconds_of w a f) ≡ true
unfolding seconds_of
seconds_sound w a f h z =
    let c = clock_clear 0 0 0 0 (f * unit_of w) z in
    seconds_in_lem w (seconds_of w a f) (record { seconds = omega arith; micros = c.micros; units = unit_mod w f })

timestamp2_law : (m0 : ℕ) → NumberLaw (Timestamp2 m0)
unfolding temporal_domain temporal_of fault_of whole_of units_of whole_bytes fraction_size temporal_tag seconds_in
timestamp2_law m0 = record {
  back = λ t e.
      let w = fraction_bytes m0 in
      let a = both_true (is_seconds t) (seconds_domain w (seconds_in t)) e in
      let h = seconds_of_lem w (seconds_in t) a.1 in
      let p = seconds_back w (seconds_in t) h in (
        ap seconds_fault p ∙ seconds_clear w (seconds_in t) h,
        omega arith,
        unit_fits (seconds_in t).micros w h.micros (fraction_small m0),
        ap Temporal.Seconds p ∙ is_seconds_lem t a.0,
      );
  sound = λ a f k l z. (seconds_sound (fraction_bytes m0) a f k z, refl, unit_div (fraction_bytes m0) f (fraction_small m0));
}

timestamp_law : NumberLaw Timestamp
unfolding temporal_domain temporal_of fault_of whole_of units_of whole_bytes fraction_size temporal_tag seconds_in seconds_of
timestamp_law = record {
  back = λ t e.
      let a = both_true (is_seconds t) (seconds_domain 0 (seconds_in t)) e in
      let h = seconds_of_lem 0 (seconds_in t) a.1 in
      let z = unit_zero (seconds_in t).micros h.micros h.units in
      let p : seconds_of 0 (seconds_in t).seconds 0 ≡ seconds_in t = rw (zero-mul (unit_of 0), ← z) in
      (refl, omega arith, omega arith, ap Temporal.Seconds p ∙ is_seconds_lem t a.0);
  sound =
      λ a f k l z. (
        seconds_sound 0 a 0 k
            (clock_none (record { hour = omega arith; minute = omega arith; second = omega arith; micros = omega arith })),
        refl,
        omega arith,
      );
}

-- ---- datetimes
below_64 : {w : ℕ} (m : Datetime) → HoldsDatetime w m → Below 64 32 32 13 m
below_64 m h =
    let d = h.date in
    let c = h.clock in
    record { month = omega arith; day = omega arith; hour = omega arith; minute = omega arith; second = omega arith }

below_100 : {w : ℕ} (m : Datetime) → HoldsDatetime w m → Below 100 100 100 100 m
below_100 m h =
    let d = h.date in
    let c = h.clock in
    record { month = omega arith; day = omega arith; hour = omega arith; minute = omega arith; second = omega arith }

datetime_clear : (w : ℕ) (m : Datetime) → HoldsDatetime w m → datetime_fault m ≡ 0
datetime_clear w m h = day_none (clock_fault 23 m.hour m.minute m.second m.micros) h.date ∙ clock_none h.clock

datetime_sound : (w : ℕ) (m : Datetime) → datetime_fault m ≡ 0 → m.micros % unit_of w ≡ 0 → datetime_domain w m ≡ true
datetime_sound w m z u =
    let d = day_clear m.year m.month m.day (clock_fault 23 m.hour m.minute m.second m.micros) z in
    datetime_in_lem w m (record { date = d.0; clock = clock_clear 23 m.hour m.minute m.second m.micros d.1; units = u })

datetime2_back : (w : ℕ) (m : Datetime) → HoldsDatetime w m
    → datetime2_of w (549755813888 + datetime_number 64 32 32 13 m) (m.micros / unit_of w) ≡ m
unfolding datetime2_of signed_datetime
datetime2_back w m h =
    let n = datetime_number 64 32 32 13 m in
    let x : 549755813888 + n - 549755813888 ≡ n = omega arith in
    rw (x, unit_whole w m.micros h.units) (datetime_back 64 32 32 13 m (below_64 m h))

datetime2_law : (m0 : ℕ) → NumberLaw (Datetime2 m0)
unfolding temporal_domain temporal_of fault_of whole_of units_of whole_bytes fraction_size temporal_tag datetime_in datetime2_of datetime2_fault
    signed_datetime
datetime2_law m0 = record {
  back = λ t e.
      let w = fraction_bytes m0 in
      let m = datetime_in t in
      let a = both_true (is_datetime t) (datetime_domain w m) e in
      let h = datetime_of_lem w m a.1 in
      let d = h.date in
      let c = h.clock in
      let p = datetime2_back w m h in (
        rw (le-ltb (549755813888 + datetime_number 64 32 32 13 m) 549755813888 (omega arith)) (ap datetime_fault p ∙ datetime_clear w m h),
        omega arith,
        unit_fits m.micros w c.micros (fraction_small m0),
        ap Temporal.Datetime p ∙ is_datetime_lem t a.0,
      );
  sound = λ a f k l z.
      let w = fraction_bytes m0 in
      dite (dec_le 549755813888 a)
      (λ p.
      let z₁ : datetime_fault (datetime2_of w a f) ≡ 0 = rw (le-ltb a 549755813888 p) at z in (
        datetime_sound w (datetime2_of w a f) z₁ (unit_mod w f),
        ap (λ (n : ℕ). 549755813888 + n) (datetime_number_lem 64 32 32 13 (a - 549755813888) (f * unit_of w)) ∙ omega arith,
        unit_div w f (fraction_small m0),
      ))
      (λ p. let y : 8 ≡ 0 = rw (lt-ltb a 549755813888 (omega arith)) at z in absurd (omega arith));
}

datetime_law : NumberLaw OldDatetime
unfolding temporal_domain temporal_of fault_of whole_of units_of whole_bytes fraction_size temporal_tag datetime_in datetime_of
datetime_law = record {
  back = λ t e.
      let m = datetime_in t in
      let a = both_true (is_datetime t) (datetime_domain 0 m) e in
      let h = datetime_of_lem 0 m a.1 in
      let d = h.date in
      let c = h.clock in
      let n = datetime_number 100 100 100 100 m in
      let z = unit_zero m.micros c.micros h.units in
      let p : datetime_by 100 100 100 100 n 0 ≡ m =
      ap (λ (u : ℕ). datetime_by 100 100 100 100 n u) (sym z) ∙ datetime_back 100 100 100 100 m (below_100 m h) in
      (ap datetime_fault p ∙ datetime_clear 0 m h, omega arith, omega arith, ap Temporal.Datetime p ∙ is_datetime_lem t a.0);
  sound = λ a f k l z. (datetime_sound 0 (datetime_of a) z (zero-mod (unit_of 0)), datetime_number_lem 100 100 100 100 a 0, omega arith);
}

-- ---- dates
date_law : NumberLaw Newdate
unfolding temporal_domain temporal_of fault_of whole_of units_of whole_bytes fraction_size temporal_tag date_in date_of date_domain
date_law = record {
  back = λ t e.
      let d = date_in t in
      let a = both_true (is_date t) (date_domain d) e in
      let h = day_of d.year d.month d.day a.1 in
      let n = date_number d in
      let e1 : n / 32 / 16 ≡ d.year = omega arith in
      let e2 : n / 32 % 16 ≡ d.month = omega arith in
      let e3 : n % 32 ≡ d.day = omega arith in
      let p : date_of n ≡ d = rw (e1, e2, e3) in
      (ap date_fault p ∙ day_none 0 h, omega arith, omega arith, ap Temporal.Date p ∙ is_date_lem t a.0);
  sound = λ a f k l z. (day_in (day_clear (a / 32 / 16) (a / 32 % 16) (a % 32) 0 z).0, omega arith, omega arith);
}

-- ---- times
time_clear : (w : ℕ) (t : Time) → HoldsTime w t → time_fault t ≡ 0
time_clear w t h = clock_none h.clock

time_sound : (w : ℕ) (t : Time) → time_fault t ≡ 0 → t.micros % unit_of w ≡ 0 → (t.negative ≡ true → 0 < sum t) → time_domain w t ≡ true
time_sound w t z u s =
    time_in_lem w t (record { clock = clock_clear 838 t.hours t.minutes t.seconds t.micros z; units = u; signed = s })

time_law : NumberLaw OldTime
unfolding temporal_domain temporal_of fault_of whole_of units_of whole_bytes fraction_size temporal_tag time_in time_by
time_law = record {
  back = λ t e.
      let x = time_in t in
      let a = both_true (is_time t) (not x.negative && time_domain 0 x) e in
      let b = both_true (not x.negative) (time_domain 0 x) a.1 in
      let h = time_of 0 x b.1 in
      let c = h.clock in
      let n = time_number 100 x in
      let z = unit_zero x.micros c.micros h.units in
      let p : time_by 100 false n 0 ≡ x = rw (← not-true x.negative b.0, ← z) (time_back 100 x (omega arith) (omega arith)) in
      (ap time_fault p ∙ time_clear 0 x h, omega arith, omega arith, ap Temporal.Time p ∙ is_time_lem t a.0);
  sound =
      λ a f k l z. (
        time_sound 0 (time_by 100 false a 0) z (zero-mod (unit_of 0)) (λ q. absurd (false≢true q)),
        time_number_lem 100 false a 0,
        omega arith,
      );
}

abbrev units : ℕ → Time → ℕ
units w t = t.micros / unit_of w

abbrev Back : ℕ → Time → ℕ → ℕ → Type 0
Back w t a f = (a < 256 ^ 3) × (f < 256 ^ w) × (time2_of w a f ≡ t)

time2_back : (w : ℕ) → w ≤ 3 → (t : Time) → HoldsTime w t → (b : Bool) → t.negative ≡ b
    → Back w t (time2_whole t (units w t)) (time2_fraction w t.negative (units w t))
unfolding time2_whole time2_fraction time2_of signed_time
time2_back w h t d false p =
    let c = d.clock in
    let n = time_number 64 t in
    let f = unit_fits t.micros w c.micros h in
    let x : 8388608 + n - 8388608 ≡ n = omega arith in
    rw p (
      omega arith,
      f,
      rw (le-leb 8388608 (8388608 + n) (omega arith), x, unit_whole w t.micros d.units, ← p)
          (time_back 64 t (omega arith) (omega arith)),
    )
time2_back w h t d true p =
    let c = d.clock in
    let n = time_number 64 t in
    let u = units w t in
    let f = unit_fits t.micros w c.micros h in
    let v = unit_whole w t.micros d.units in
    let g = d.signed p in
    let same = time_back 64 t (omega arith) (omega arith) in
    dite (dec_le u 0)
    (λ z.
    let e : u ≡ 0 = omega arith in
    let m : t.micros ≡ 0 = sym v ∙ rw e (zero-mul (unit_of w)) in
    let x : 8388608 - (8388608 - n) ≡ n = omega arith in
    rw (p, eq-eqb u 0 e) (omega arith, omega arith, rw (lt-leb 8388608 (8388608 - n) (omega arith), x, ← p, ← m) same))
    (λ z.
    let x : 8388608 - (8388608 - n - 1) - 1 ≡ n = omega arith in
    let y : 256 ^ w - (256 ^ w - u) ≡ u = omega arith in
    rw (p, ne_eqb u 0 (λ e. omega arith)) (
      omega arith,
      omega arith,
      rw (lt-leb 8388608 (8388608 - n - 1) (omega arith), ne_eqb (256 ^ w - u) 0 (λ e. omega arith), x, y, v, ← p) same,
    ))

abbrev Sound : ℕ → ℕ → ℕ → Time → Type 0
Sound w a f t = (time_domain w t ≡ true) × (time2_whole t (units w t) ≡ a) × (time2_fraction w t.negative (units w t) ≡ f)

time2_sound : (w : ℕ) → w ≤ 3 → (a f : ℕ) → a < 256 ^ 3 → f < 256 ^ w → time_fault (time2_of w a f) ≡ 0 → Sound w a f (time2_of w a f)
unfolding time2_of signed_time time2_whole time2_fraction time_by
time2_sound w h a f k l z =
    dite (dec_le 8388608 a)
    (λ p.
    let n = a - 8388608 in
    let t = time_by 64 false n (f * unit_of w) in
    let e : time2_of w a f ≡ t = rw (le-leb 8388608 a p) in
    let z₁ : time_fault t ≡ 0 = ap time_fault (sym e) ∙ z in
    subst (Sound w a f) (sym e) (
      time_sound w t z₁ (unit_mod w f) (λ q. absurd (false≢true q)),
      ap (λ (m : ℕ). 8388608 + m) (time_number_lem 64 false n (f * unit_of w)) ∙ omega arith,
      unit_div w f h,
    ))
    (λ p. dite (dec_le f 0)
    (λ q.
    let n = 8388608 - a in
    let t = time_by 64 true n 0 in
    let e : time2_of w a f ≡ t = rw (lt-leb 8388608 a (omega arith), eq-eqb f 0 (omega arith)) in
    let z₁ : time_fault t ≡ 0 = ap time_fault (sym e) ∙ z in
    let i = time_number_lem 64 true n 0 in
    subst (Sound w a f) (sym e) (
      time_sound w t z₁ (zero-mod (unit_of w)) (λ q. omega arith),
      rw (zero-div (unit_of w)) (omega arith),
      rw (zero-div (unit_of w)) (omega arith),
    ))
    (λ q.
    let n = 8388608 - a - 1 in
    let u = 256 ^ w - f in
    let t = time_by 64 true n (u * unit_of w) in
    let e : time2_of w a f ≡ t = rw (lt-leb 8388608 a (omega arith), ne_eqb f 0 (λ y. omega arith)) in
    let z₁ : time_fault t ≡ 0 = ap time_fault (sym e) ∙ z in
    let s = unit_some u w (omega arith) h in
    let i = ne_eqb u 0 (λ y. omega arith) in
    let j = time_number_lem 64 true n (u * unit_of w) in
    subst (Sound w a f) (sym e)
    (time_sound w t z₁ (unit_mod w u) (λ q. omega arith), rw (unit_div w u h, i) (omega arith), rw (unit_div w u h, i) (omega arith))))

time2_law : (m0 : ℕ) → NumberLaw (Time2 m0)
unfolding temporal_domain temporal_of fault_of whole_of units_of whole_bytes fraction_size temporal_tag time_in
time2_law m0 = record {
  back = λ t e.
      let w = fraction_bytes m0 in
      let x = time_in t in
      let a = both_true (is_time t) (time_domain w x) e in
      let h = time_of w x a.1 in
      let r = time2_back w (fraction_small m0) x h x.negative refl in
      (ap time_fault r.2 ∙ time_clear w x h, r.0, r.1, ap Temporal.Time r.2 ∙ is_time_lem t a.0);
  sound = λ a f k l z. time2_sound (fraction_bytes m0) (fraction_small m0) a f k l z;
}

-- ---- every storage
pub number_law : (k : Storage) → NumberLaw k
number_law Timestamp = timestamp_law
number_law OldTime = time_law
number_law OldDatetime = datetime_law
number_law Newdate = date_law
number_law (Timestamp2 m0) = timestamp2_law m0
number_law (Datetime2 m0) = datetime2_law m0
number_law (Time2 m0) = time2_law m0
