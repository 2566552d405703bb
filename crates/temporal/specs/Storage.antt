-- The stored form of each column type: how many bytes, which parts their numbers say, which of these is out of range, and the numbers that
-- parts are stored as. One table. Assumes nothing.
use Rattle.std.specs.Prelude.{ℕ, ◌+◌, ◌/◌, ◌^◌, Bool, true, false, eqb}
use Rattle.temporal.specs.declared.storage.Storage.{Storage}
use Rattle.temporal.specs.declared.storage.Storage.TheVariants.{Timestamp, OldTime, OldDatetime, Newdate, Timestamp2, Datetime2}
use Rattle.temporal.specs.declared.storage.Storage.TheVariants.{Time2}
use Rattle.temporal.specs.declared.parts.Seconds.{Seconds}
use Rattle.temporal.specs.declared.parts.Date.{Date}
use Rattle.temporal.specs.declared.parts.Datetime.{Datetime}
use Rattle.temporal.specs.declared.parts.Time.{Time}
use Rattle.temporal.specs.declared.parts.Temporal.{Temporal}
use Rattle.temporal.specs.Fraction.{fraction_bytes, unit_of}
use Rattle.temporal.specs.Times.{time_by, time_number, time_fault, time2_of, time2_whole, time2_fraction}
use Rattle.temporal.specs.Datetimes.{datetime_number, datetime_fault, datetime2_of, datetime2_fault, datetime_of, date_of, date_number}
use Rattle.temporal.specs.Datetimes.{date_fault, seconds_of, seconds_fault}

-- ---- bytes: those of the whole part, and then those of the fraction
unfoldable pub whole_bytes : Storage → ℕ
whole_bytes Timestamp = 4
whole_bytes OldTime = 3
whole_bytes OldDatetime = 8
whole_bytes Newdate = 3
whole_bytes (Timestamp2 m0) = 4
whole_bytes (Datetime2 m0) = 5
whole_bytes (Time2 m0) = 3

unfoldable pub fraction_size : Storage → ℕ
unfolding fraction_bytes
fraction_size Timestamp = 0
fraction_size OldTime = 0
fraction_size OldDatetime = 0
fraction_size Newdate = 0
fraction_size (Timestamp2 m0) = fraction_bytes m0
fraction_size (Datetime2 m0) = fraction_bytes m0
fraction_size (Time2 m0) = fraction_bytes m0

-- "17, 18, 19 are unsigned big-endian"; the others are little-endian
unfoldable pub is_big : Storage → Bool
is_big Timestamp = false
is_big OldTime = false
is_big OldDatetime = false
is_big Newdate = false
is_big (Timestamp2 m0) = true
is_big (Datetime2 m0) = true
is_big (Time2 m0) = true

-- ---- the parts of a stored whole part a and fraction f
unfoldable pub temporal_of : Storage → ℕ → ℕ → Temporal
unfolding time_by time2_of datetime_of datetime2_of date_of seconds_of fraction_bytes
temporal_of Timestamp a f = Temporal.Seconds (seconds_of 0 a 0)
temporal_of OldTime a f = Temporal.Time (time_by 100 false a 0)
temporal_of OldDatetime a f = Temporal.Datetime (datetime_of a)
temporal_of Newdate a f = Temporal.Date (date_of a)
temporal_of (Timestamp2 m0) a f = Temporal.Seconds (seconds_of (fraction_bytes m0) a f)
temporal_of (Datetime2 m0) a f = Temporal.Datetime (datetime2_of (fraction_bytes m0) a f)
temporal_of (Time2 m0) a f = Temporal.Time (time2_of (fraction_bytes m0) a f)

-- the first of them out of range, or 0
unfoldable pub fault_of : Storage → ℕ → ℕ → ℕ
unfolding time_by time2_of datetime_of datetime2_fault date_of seconds_of fraction_bytes
fault_of Timestamp a f = 0
fault_of OldTime a f = time_fault (time_by 100 false a 0)
fault_of OldDatetime a f = datetime_fault (datetime_of a)
fault_of Newdate a f = date_fault (date_of a)
fault_of (Timestamp2 m0) a f = seconds_fault (seconds_of (fraction_bytes m0) a f)
fault_of (Datetime2 m0) a f = datetime2_fault (fraction_bytes m0) a f
fault_of (Time2 m0) a f = time_fault (time2_of (fraction_bytes m0) a f)

-- ---- which sort a temporal is of
unfoldable pub temporal_tag : Temporal → ℕ
temporal_tag (Temporal.Seconds t) = 0
temporal_tag (Temporal.Date d) = 1
temporal_tag (Temporal.Datetime m) = 2
temporal_tag (Temporal.Time t) = 3

-- whether it is of this sort
abbrev pub is_seconds : Temporal → Bool
is_seconds t = eqb (temporal_tag t) 0

abbrev pub is_date : Temporal → Bool
is_date t = eqb (temporal_tag t) 1

abbrev pub is_datetime : Temporal → Bool
is_datetime t = eqb (temporal_tag t) 2

abbrev pub is_time : Temporal → Bool
is_time t = eqb (temporal_tag t) 3

-- ---- the parts of a temporal of one sort; of a temporal of another sort they are all zero
abbrev pub no_seconds : Seconds
no_seconds = record { seconds = 0; micros = 0 }

unfoldable pub seconds_in : Temporal → Seconds
seconds_in (Temporal.Seconds t) = t
seconds_in (Temporal.Date d) = no_seconds
seconds_in (Temporal.Datetime m) = no_seconds
seconds_in (Temporal.Time t) = no_seconds

abbrev pub no_date : Date
no_date = record { year = 0; month = 0; day = 0 }

unfoldable pub date_in : Temporal → Date
date_in (Temporal.Seconds t) = no_date
date_in (Temporal.Date d) = d
date_in (Temporal.Datetime m) = no_date
date_in (Temporal.Time t) = no_date

abbrev pub no_datetime : Datetime
no_datetime = record { year = 0; month = 0; day = 0; hour = 0; minute = 0; second = 0; micros = 0 }

unfoldable pub datetime_in : Temporal → Datetime
datetime_in (Temporal.Seconds t) = no_datetime
datetime_in (Temporal.Date d) = no_datetime
datetime_in (Temporal.Datetime m) = m
datetime_in (Temporal.Time t) = no_datetime

abbrev pub no_time : Time
no_time = record { negative = false; hours = 0; minutes = 0; seconds = 0; micros = 0 }

unfoldable pub time_in : Temporal → Time
time_in (Temporal.Seconds t) = no_time
time_in (Temporal.Date d) = no_time
time_in (Temporal.Datetime m) = no_time
time_in (Temporal.Time t) = t

-- ---- the numbers that a temporal is stored as
unfoldable pub whole_of : Storage → Temporal → ℕ
unfolding seconds_in date_in datetime_in time_in time2_whole unit_of fraction_bytes
whole_of Timestamp t = (seconds_in t).seconds
whole_of OldTime t = time_number 100 (time_in t)
whole_of OldDatetime t = datetime_number 100 100 100 100 (datetime_in t)
whole_of Newdate t = date_number (date_in t)
whole_of (Timestamp2 m0) t = (seconds_in t).seconds
whole_of (Datetime2 m0) t = 2 ^ 39 + datetime_number 64 32 32 13 (datetime_in t)
whole_of (Time2 m0) t = time2_whole (time_in t) ((time_in t).micros / unit_of (fraction_bytes m0))

unfoldable pub units_of : Storage → Temporal → ℕ
unfolding seconds_in datetime_in time_in time2_fraction unit_of fraction_bytes
units_of Timestamp t = 0
units_of OldTime t = 0
units_of OldDatetime t = 0
units_of Newdate t = 0
units_of (Timestamp2 m0) t = (seconds_in t).micros / unit_of (fraction_bytes m0)
units_of (Datetime2 m0) t = (datetime_in t).micros / unit_of (fraction_bytes m0)
units_of (Time2 m0) t = time2_fraction (fraction_bytes m0) (time_in t).negative ((time_in t).micros / unit_of (fraction_bytes m0))
