-- Which part of a stored temporal is out of its range, the first of them. Document 02, No. 4: "Each temporal reader shall name the first
-- offending part: year 1, month 2, day 3, hour 4, minute 5, second 6, fraction 7, and 8 for a negative datetime, which is tested before the
-- others." The ranges are document 01's. Assumes nothing.
use Rattle.std.specs.Prelude.{ℕ, ◌^◌, ◌≤◌, ◌<◌, ◌≡◌, cond, List, [], ◌∷◌, ◌++◌, eqb}
use Rattle.temporal.specs.declared.storage.Storage.{Storage}
use Rattle.temporal.specs.declared.storage.Storage.TheVariants.{Timestamp, OldTime, OldDatetime, Newdate, Timestamp2, Datetime2}
use Rattle.temporal.specs.declared.storage.Storage.TheVariants.{Time2}
use Rattle.temporal.specs.declared.parts.Temporal.{Temporal}
use Rattle.temporal.specs.Fraction.{fraction_bytes}
use Rattle.temporal.specs.Reading.{whole_in, temporal_decode}

-- a part: its number, what it is, and the most that it may be
pub record PartRange : Type 0 where
  pub number : ℕ
  pub value : ℕ
  pub most : ℕ

abbrev pub part_range : ℕ → ℕ → ℕ → PartRange
part_range number value most = record { number = number; value = value; most = most }

-- "year to 9999, month 12, day 31, hour 23 (time 838), minute and second 59, fraction 999,999": those that a temporal has, by their numbers
unfoldable pub parts_in : Temporal → List PartRange
parts_in (Temporal.Seconds t) = part_range 7 t.micros 999999 ∷ []
parts_in (Temporal.Date d) = part_range 1 d.year 9999 ∷ part_range 2 d.month 12 ∷ part_range 3 d.day 31 ∷ []
parts_in (Temporal.Datetime m) =
    part_range 1 m.year 9999 ∷ part_range 2 m.month 12 ∷ part_range 3 m.day 31
    ∷ part_range 4 m.hour 23 ∷ part_range 5 m.minute 59 ∷ part_range 6 m.second 59 ∷ part_range 7 m.micros 999999
    ∷ []
parts_in (Temporal.Time t) =
    part_range 4 t.hours 838 ∷ part_range 5 t.minutes 59 ∷ part_range 6 t.seconds 59 ∷ part_range 7 t.micros 999999 ∷ []

-- all of them are in range
unfoldable pub InRange : List PartRange → Type 0
InRange [] = Unit {0}
InRange (p ∷ ps) = (p.value ≤ p.most) × InRange ps

-- a datetime below zero: less than the 2^39 that is added to what is stored
pub data BelowZero : Storage → List ℕ → Type 0 where
  below_zero : {m0 : ℕ} {b : List ℕ} → whole_in (Datetime2 m0) b < 2 ^ 39 → BelowZero (Datetime2 m0) b

-- the first part of a stored form b that is out of range
pub data FirstOut (k : Storage) (b : List ℕ) : ℕ → Type 0 where
  is_below : BelowZero k b → FirstOut k b 8
  is_out : (before : List PartRange) (p : PartRange) (behind : List PartRange) → (BelowZero k b → ⊥)
      → parts_in (temporal_decode k b) ≡ before ++ (p ∷ behind)
      → InRange before → p.most < p.value → FirstOut k b p.number

-- ---- which parts can be out of range in bytes of a storage: one of a remainder or of few bits cannot, nor a fraction that is not stored
abbrev pub with_fraction : ℕ → List ℕ
with_fraction m0 = cond (eqb (fraction_bytes m0) 0) [] (7 ∷ [])

unfoldable pub tellable : Storage → List ℕ
unfolding fraction_bytes
tellable Timestamp = []
tellable OldTime = 4 ∷ 5 ∷ 6 ∷ []
tellable OldDatetime = 1 ∷ 2 ∷ 3 ∷ 4 ∷ 5 ∷ 6 ∷ []
tellable Newdate = 1 ∷ 2 ∷ []
tellable (Timestamp2 m0) = with_fraction m0
tellable (Datetime2 m0) = 8 ∷ 1 ∷ 4 ∷ 5 ∷ 6 ∷ with_fraction m0
tellable (Time2 m0) = 4 ∷ 5 ∷ 6 ∷ with_fraction m0
