-- Dates and datetimes: DATETIME2 (18), DATETIME (12), DATE (14), and TIMESTAMP2 (17) and TIMESTAMP (7). Document 01: "18: 5 bytes less
-- 2^39; year·13+month, day (5 bits), hour (5), minute (6), second (6)"; "12: YYYYMMDDhhmmss in 8, little-endian"; "14: 3 bytes
-- little-endian, day 5 bits, month 4, year"; "17: 4 bytes, seconds"; "7: seconds, 4 bytes"; "datetimes not negative". Assumes nothing.
use Rattle.std.specs.Prelude.{ℕ, ◌+◌, ◌-◌, ◌*◌, ◌/◌, ◌%◌, ◌^◌, cond, ltb}
use Rattle.temporal.specs.declared.parts.Date.{Date}
use Rattle.temporal.specs.declared.parts.Datetime.{Datetime}
use Rattle.temporal.specs.declared.parts.Seconds.{Seconds}
use Rattle.temporal.specs.declared.misc.SignedTime.{SignedTime}
use Rattle.temporal.specs.Fraction.{unit_of}
use Rattle.temporal.specs.Ranges.{clock_fault, day_fault}

-- the datetime of a whole part n, whose seconds and minutes have the radix r, hours h, days d and months mo, and of u microseconds; its
-- whole part again; and its fault
unfoldable pub datetime_by : ℕ → ℕ → ℕ → ℕ → ℕ → ℕ → Datetime
datetime_by r h d mo n u = record {
  year = n / r / r / h / d / mo;
  month = n / r / r / h / d % mo;
  day = n / r / r / h % d;
  hour = n / r / r % h;
  minute = n / r % r;
  second = n % r;
  micros = u;
}

abbrev pub datetime_number : ℕ → ℕ → ℕ → ℕ → Datetime → ℕ
datetime_number r h d mo m = ((((m.year * mo + m.month) * d + m.day) * h + m.hour) * r + m.minute) * r + m.second

abbrev pub datetime_fault : Datetime → ℕ
datetime_fault m = day_fault m.year m.month m.day (clock_fault 23 m.hour m.minute m.second m.micros)

-- ---- DATETIME2, of a stored whole part a and fraction f of w bytes: sign, whole part and microseconds, and the datetime of these. Fault 8
-- is a negative one, which is told before any other
unfoldable pub signed_datetime : ℕ → ℕ → ℕ → SignedTime
unfolding unit_of
signed_datetime w a f = record { negative = ltb a (2 ^ 39); whole = a - 2 ^ 39; micros = f * unit_of w }

abbrev pub datetime_from : SignedTime → Datetime
datetime_from p = datetime_by 64 32 32 13 p.whole p.micros

abbrev pub fault_from : SignedTime → ℕ
fault_from p = cond p.negative 8 (datetime_fault (datetime_from p))

unfoldable pub datetime2_of : ℕ → ℕ → ℕ → Datetime
unfolding datetime_by signed_datetime
datetime2_of w a f = datetime_from (signed_datetime w a f)

unfoldable pub datetime2_fault : ℕ → ℕ → ℕ → ℕ
unfolding datetime_by signed_datetime
datetime2_fault w a f = fault_from (signed_datetime w a f)

-- ---- DATETIME
unfoldable pub datetime_of : ℕ → Datetime
unfolding datetime_by
datetime_of n = datetime_by 100 100 100 100 n 0

-- ---- DATE
unfoldable pub date_of : ℕ → Date
date_of n = record { year = n / 32 / 16; month = n / 32 % 16; day = n % 32 }

abbrev pub date_number : Date → ℕ
date_number d = (d.year * 16 + d.month) * 32 + d.day

abbrev pub date_fault : Date → ℕ
date_fault d = day_fault d.year d.month d.day 0

-- ---- TIMESTAMP2; TIMESTAMP is one with no fraction
unfoldable pub seconds_of : ℕ → ℕ → ℕ → Seconds
unfolding unit_of
seconds_of w a f = record { seconds = a; micros = f * unit_of w }

abbrev pub seconds_fault : Seconds → ℕ
seconds_fault t = clock_fault 0 0 0 0 t.micros
