-- Which temporals a column can hold, as ranges and units. Assumes nothing.
use Rattle.std.specs.Prelude.{ℕ, ◌+◌, ◌%◌, Bool, not, ◌&&◌, leb, eqb}
use Rattle.temporal.specs.declared.storage.Storage.{Storage}
use Rattle.temporal.specs.declared.storage.Storage.TheVariants.{Timestamp, OldTime, OldDatetime, Newdate, Timestamp2, Datetime2}
use Rattle.temporal.specs.declared.storage.Storage.TheVariants.{Time2}
use Rattle.temporal.specs.declared.parts.Seconds.{Seconds}
use Rattle.temporal.specs.declared.parts.Datetime.{Datetime}
use Rattle.temporal.specs.declared.parts.Date.{Date}
use Rattle.temporal.specs.declared.parts.Time.{Time}
use Rattle.temporal.specs.declared.parts.Temporal.{Temporal}
use Rattle.temporal.specs.Fraction.{fraction_bytes, unit_of}
use Rattle.temporal.specs.Ranges.{in_day, in_clock}
use Rattle.temporal.specs.Storage.{temporal_tag, is_seconds, is_date, is_datetime, is_time, seconds_in, date_in, datetime_in, time_in}

-- a fraction of a second in units of w bytes: 10,000, 100 or 1 microseconds, or none at all
abbrev pub in_units : ℕ → ℕ → Bool
in_units w u = eqb (u % unit_of w) 0

unfoldable pub seconds_domain : ℕ → Seconds → Bool
unfolding unit_of
seconds_domain w t = leb t.seconds 4294967295 && (leb t.micros 999999 && in_units w t.micros)

unfoldable pub date_domain : Date → Bool
unfolding in_day
date_domain d = in_day d.year d.month d.day

unfoldable pub datetime_domain : ℕ → Datetime → Bool
unfolding in_day in_clock unit_of
datetime_domain w m =
    in_day m.year m.month m.day && (in_clock 23 m.hour m.minute m.second m.micros && in_units w m.micros)

-- "a time is sign, hours, the rest; no negative zero"
unfoldable pub time_domain : ℕ → Time → Bool
unfolding in_clock unit_of
time_domain w t =
    in_clock 838 t.hours t.minutes t.seconds t.micros
    && (in_units w t.micros && not (t.negative && eqb (t.hours + t.minutes + t.seconds + t.micros) 0))

unfoldable pub temporal_domain : Storage → Temporal → Bool
unfolding temporal_tag seconds_in date_in datetime_in time_in seconds_domain date_domain datetime_domain time_domain fraction_bytes
temporal_domain Timestamp t = is_seconds t && seconds_domain 0 (seconds_in t)
temporal_domain OldTime t = is_time t && (not (time_in t).negative && time_domain 0 (time_in t))
temporal_domain OldDatetime t = is_datetime t && datetime_domain 0 (datetime_in t)
temporal_domain Newdate t = is_date t && date_domain (date_in t)
temporal_domain (Timestamp2 m0) t = is_seconds t && seconds_domain (fraction_bytes m0) (seconds_in t)
temporal_domain (Datetime2 m0) t = is_datetime t && datetime_domain (fraction_bytes m0) (datetime_in t)
temporal_domain (Time2 m0) t = is_time t && time_domain (fraction_bytes m0) (time_in t)
