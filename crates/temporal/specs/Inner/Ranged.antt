-- What the code's own functions answer: parts in range, or the number of the first that is not. Assumes nothing.
use Rattle.std.specs.Prelude.{ℕ, cond, eqb, Result, Ok, Err}
use Rattle.wire.specs.Outcome.{Outcome, ok, refused, out_of}
use Rattle.temporal.specs.declared.parts.Seconds.{Seconds}
use Rattle.temporal.specs.declared.parts.Date.{Date}
use Rattle.temporal.specs.declared.parts.Datetime.{Datetime}
use Rattle.temporal.specs.declared.parts.Time.{Time}
use Rattle.temporal.specs.declared.parts.Temporal.{Temporal}
use Rattle.temporal.specs.declared.misc.SignedTime.{SignedTime}
use Rattle.temporal.specs.Times.{time_fault}
use Rattle.temporal.specs.Datetimes.{datetime_fault, datetime_from, fault_from, date_fault, seconds_fault}

abbrev pub ranged : {A : Type 0} → ℕ → A → Result A ℕ
ranged fault a = cond (eqb fault 0) (Ok a) (Err fault)

abbrev pub ranged_time : Time → Result Temporal ℕ
ranged_time t = ranged (time_fault t) (Temporal.Time t)

abbrev pub ranged_datetime : Datetime → Result Temporal ℕ
ranged_datetime m = ranged (datetime_fault m) (Temporal.Datetime m)

abbrev pub ranged_signed : SignedTime → Result Temporal ℕ
ranged_signed p = ranged (fault_from p) (Temporal.Datetime (datetime_from p))

abbrev pub ranged_date : Date → Result Temporal ℕ
ranged_date d = ranged (date_fault d) (Temporal.Date d)

abbrev pub ranged_seconds : Seconds → Result Temporal ℕ
ranged_seconds t = ranged (seconds_fault t) (Temporal.Seconds t)

-- what a reader tells of it: the temporal and the place after it, or refusal 10
abbrev pub ranged_told : Result Temporal ℕ → ℕ → ℕ → Outcome (Temporal × ℕ)
ranged_told (Ok t) next place = ok (t, next)
ranged_told (Err part) next place = refused (out_of place part)
