-- The functions that read one storage each tell what the definitions say. Assumes nothing.
use Rattle.std.specs.Prelude.{Result}
use Prim.Native.Nat.{ℕ, ◌+◌, ◌^◌, ◌≤◌, ◌<◌, min}
use mathlib.Core.Path.{◌≡◌, refl}
use mathlib.Core.Bool.{true, false}
use borrow.Author.Rules.{rules}
use mathlib.Core.Logic.{◌⊎◌, inl, inr}
use mathlib.Core.List.{List}
use native.Mathlib.Nat.{add-zero, min-eq_left}
use native.Mathlib.Omega.{arith}
use lib.ListN.{length, take, drop}
use Rattle.wire.specs.Outcome.{refuse}
use Rattle.wire.specs.Number.{le_value, be_value}
use Rattle.temporal.specs.declared.storage.Storage.{Storage}
use Rattle.temporal.specs.declared.storage.Storage.TheVariants.{Timestamp, OldTime, OldDatetime, Newdate, Timestamp2, Datetime2, Time2}
use Rattle.temporal.specs.declared.misc.SignedTime.{SignedTime}
use Rattle.temporal.specs.declared.stored.Stored.{Stored}
use Rattle.temporal.specs.declared.parts.Temporal.{Temporal}
use Rattle.temporal.specs.Fraction.{fraction_bytes, unit_of}
use Rattle.temporal.specs.Ranges.{clock_fault}
use Rattle.temporal.specs.Times.{signed_time, time2_of, time_by}
use Rattle.temporal.specs.Datetimes.{datetime_by, datetime_of, signed_datetime, datetime2_of, datetime2_fault, date_of, seconds_of}
use Rattle.temporal.specs.Storage.{whole_bytes, fraction_size, is_big, temporal_of, fault_of}
use Rattle.temporal.specs.Inner.Ranged.{ranged, ranged_time, ranged_datetime, ranged_signed, ranged_date, ranged_seconds, ranged_told}
use Rattle.temporal.specs.Inner.Stored.{StoredAt}
use Rattle.temporal.specs.Reading.{temporal_size, read_temporal}
use Rattle.temporal.proofs.Units.{fraction_small}
use Rattle.temporal.proofs.Steps.{little_whole, whole_big, whole_little, units_big, units_little, read_judged, read_short}

-- ---- the widths that a reader of one storage goes by are those of the storage
pub record Big (storage : Storage) (k w : ℕ) : Type 0 where
  pub whole : k ≡ whole_bytes storage
  pub most : k ≤ 8
  pub units : w ≡ fraction_size storage
  pub few : w ≤ 3
  pub big : is_big storage ≡ true

module _ (m0 : ℕ) where
  pub timestamp2_big : Big (Timestamp2 m0) 4 (fraction_bytes m0)
  unfolding whole_bytes fraction_size is_big
  timestamp2_big = record { whole = refl; most = omega arith; units = refl; few = fraction_small m0; big = refl }

  pub datetime2_big : Big (Datetime2 m0) 5 (fraction_bytes m0)
  unfolding whole_bytes fraction_size is_big
  datetime2_big = record { whole = refl; most = omega arith; units = refl; few = fraction_small m0; big = refl }

  pub time2_big : Big (Time2 m0) 3 (fraction_bytes m0)
  unfolding whole_bytes fraction_size is_big
  time2_big = record { whole = refl; most = omega arith; units = refl; few = fraction_small m0; big = refl }

  -- ---- and what it judges is what the storage's row of the table says
  pub timestamp2_judged : (w a f : ℕ) → w ≡ fraction_bytes m0
      → ranged_seconds (seconds_of w a f) ≡ ranged (fault_of (Timestamp2 m0) a f) (temporal_of (Timestamp2 m0) a f)
  unfolding temporal_of fault_of
  timestamp2_judged w a f e = rw e

  pub datetime2_judged : (w a f : ℕ) → w ≡ fraction_bytes m0
      → ranged_signed (signed_datetime w a f) ≡ ranged (fault_of (Datetime2 m0) a f) (temporal_of (Datetime2 m0) a f)
  unfolding temporal_of fault_of datetime2_of datetime2_fault
  datetime2_judged w a f e = rw e

  pub time2_judged : (w a f : ℕ) → w ≡ fraction_bytes m0 → (p : SignedTime) → p ≡ signed_time w a f
      → ranged_time (time_by 64 p.negative p.whole p.micros) ≡ ranged (fault_of (Time2 m0) a f) (temporal_of (Time2 m0) a f)
  unfolding temporal_of fault_of time2_of
  time2_judged w a f e p g = rw (g, e)

-- seconds, with a fraction or with none
pub seconds_judged : (k : Storage) (w a f : ℕ) → (k ≡ Timestamp) ⊎ ((m0 : ℕ) × (k ≡ Timestamp2 m0)) → w ≡ fraction_size k → f < 256 ^ w
    → ranged_seconds (seconds_of w a f) ≡ ranged (fault_of k a f) (temporal_of k a f)
unfolding temporal_of fault_of fraction_size seconds_of clock_fault unit_of
seconds_judged k w a f (inl e) p h =
    let q : w ≡ 0 = rw e at p in
    let z : f ≡ 0 = let b : f < 256 ^ 0 = rw q at h in omega arith in
    rw (e, q, z)
seconds_judged k w a f (inr x) p h = rw x.1 (timestamp2_judged x.0 w a f (rw x.1 at p))

pub newdate_judged : (a f : ℕ) → ranged_date (date_of a) ≡ ranged (fault_of Newdate a f) (temporal_of Newdate a f)
unfolding temporal_of fault_of
newdate_judged a f = refl

-- the old ones, in decimals
pub old_time_judged : (a f : ℕ) → ranged_time (time_by 100 false a 0) ≡ ranged (fault_of OldTime a f) (temporal_of OldTime a f)
unfolding temporal_of fault_of
old_time_judged a f = refl

pub old_datetime_judged : (a f : ℕ)
    → ranged_datetime (datetime_by 100 100 100 100 a 0) ≡ ranged (fault_of OldDatetime a f) (temporal_of OldDatetime a f)
unfolding temporal_of fault_of datetime_of
old_datetime_judged a f = refl

-- all rows of the table
pub ruleset judged = (rules, old_time_judged, old_datetime_judged, newdate_judged, datetime2_judged, time2_judged)

-- the size
big_size : (storage : Storage) (k w : ℕ) → Big storage k w → k + w ≡ temporal_size storage
unfolding temporal_size
big_size storage k w b = rw (b.whole, b.units)

little_size : (storage : Storage) (k : ℕ) → k ≡ whole_bytes storage → is_big storage ≡ false → k ≡ temporal_size storage
unfolding temporal_size
little_size storage k e b = rw (little_whole storage b, add-zero (whole_bytes storage)) e

-- ---- at a place; `place` is what a refusal tells
module _ (storage : Storage) (place : ℕ) (s : List ℕ) (at : ℕ) where
  -- the most significant byte first
  module _ (k w : ℕ) (b : Big storage k w) where
    pub numbers_told : (a f : ℕ) → at + (k + w) ≤ length s → (a ≡ be_value (take (min k 8) (drop at s))) × (a < 256 ^ min k 8)
        → (f ≡ be_value (take w (drop (at + k) s))) × (f < 256 ^ w)
        → (r : Result Temporal ℕ) → r ≡ ranged (fault_of storage a f) (temporal_of storage a f)
        → ranged_told r (at + (k + w)) place ≡ read_temporal storage place s at
    numbers_told a f there x y r e =
        let few = b.few in
        let l : min w 8 ≡ w = omega arith in
        let y₁ : (f ≡ be_value (take (min w 8) (drop (at + k) s))) × (f < 256 ^ min w 8) = rw l y in
        let n = big_size storage k w b in
        let a₁ = whole_big storage s at a k b.whole b.most b.big x.0 x.1 in
        let f₁ = units_big storage s at f k w b.whole b.units b.few b.big y₁.0 y₁.1 in
        let there₁ : at + temporal_size storage ≤ length s = rw (← n) there in
        rw n (read_judged storage place s at a f there₁ a₁.0 f₁.0 r e)

    pub big_told : (n : Stored) (next : ℕ) → StoredAt k w s at n next
        → (r : Result Temporal ℕ) → r ≡ ranged (fault_of storage n.whole n.units) (temporal_of storage n.whole n.units)
        → ranged_told r next place ≡ read_temporal storage place s at
    big_told n next x r e =
        let most = min-eq_left b.most in
        let p : (n.whole ≡ be_value (take (min k 8) (drop at s))) × (n.whole < 256 ^ min k 8) = rw most (x.whole, x.fits) in
        let q : (n.units ≡ be_value (take w (drop (at + k) s))) × (n.units < 256 ^ w) = (x.units, rw (← x.width) n.told) in
        rw x.behind (numbers_told n.whole n.units x.there p q r e)

    pub big_short : length s < at + (k + w) → read_temporal storage place s at ≡ refuse 9 place
    big_short h = read_short storage place s at (rw (← big_size storage k w b) h)

  -- the least significant byte first
  module _ (k : ℕ) (e : k ≡ whole_bytes storage) (b : is_big storage ≡ false) where
    pub little_told : (a : ℕ) → k ≤ 8 → at + k ≤ length s → a ≡ le_value (take (min k 8) (drop at s)) → a < 256 ^ min k 8
        → (r : Result Temporal ℕ) → r ≡ ranged (fault_of storage a 0) (temporal_of storage a 0)
        → ranged_told r (at + k) place ≡ read_temporal storage place s at
    little_told a h there x y r g =
        let n = little_size storage k e b in
        let a₁ = whole_little storage s at a k e h b x y in
        let f₁ = units_little storage (take (temporal_size storage) (drop at s)) b in
        let there₁ : at + temporal_size storage ≤ length s = rw (← n) there in
        rw n (read_judged storage place s at a 0 there₁ a₁.0 f₁.0 r g)

    pub little_short : length s < at + k → read_temporal storage place s at ≡ refuse 9 place
    little_short h = read_short storage place s at (rw (← little_size storage k e b) h)
