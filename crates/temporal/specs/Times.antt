-- Times of day and spans: TIME2 (19) and TIME (11). Document 01: "19: 3 bytes less 2^23; if negative with nonzero fraction, whole part plus
-- 1 and fraction less 256 or 65,536; with m0 5..6, 6 bytes less 2^47 as one packed number, absolute value then split at 2^24; hours are the
-- whole part over 4,096, minutes and seconds 6 bits each"; "11: decimal HHMMSS in 3 unsigned bytes". Here in sign and magnitude; `Words`
-- has the paper's own words, over ℤ, which are proved to say the same. Assumes nothing.
use Rattle.std.specs.Prelude.{ℕ, ◌+◌, ◌-◌, ◌*◌, ◌/◌, ◌%◌, ◌^◌, Bool, true, false, cond, leb, eqb}
use Rattle.temporal.specs.declared.parts.Time.{Time}
use Rattle.temporal.specs.declared.misc.SignedTime.{SignedTime}
use Rattle.temporal.specs.Fraction.{unit_of}
use Rattle.temporal.specs.Ranges.{clock_fault}

-- the time of a whole part n, whose minutes and seconds have the radix r, and of u microseconds; its whole part again; and its fault
unfoldable pub time_by : ℕ → Bool → ℕ → ℕ → Time
time_by r negative n u = record { negative = negative; hours = n / r / r; minutes = n / r % r; seconds = n % r; micros = u }

abbrev pub time_number : ℕ → Time → ℕ
time_number r t = (t.hours * r + t.minutes) * r + t.seconds

abbrev pub time_fault : Time → ℕ
time_fault t = clock_fault 838 t.hours t.minutes t.seconds t.micros

-- ---- TIME2, of a stored whole part a and fraction f of w bytes: sign, whole part and microseconds, and the time of these
unfoldable pub signed_time : ℕ → ℕ → ℕ → SignedTime
unfolding unit_of
signed_time w a f =
    cond (leb (2 ^ 23) a) record { negative = false; whole = a - 2 ^ 23; micros = f * unit_of w }
    (cond (eqb f 0) record { negative = true; whole = 2 ^ 23 - a; micros = 0 }
    record { negative = true; whole = 2 ^ 23 - a - 1; micros = (256 ^ w - f) * unit_of w })

unfoldable pub time2_of : ℕ → ℕ → ℕ → Time
unfolding time_by signed_time
time2_of w a f = time_by 64 (signed_time w a f).negative (signed_time w a f).whole (signed_time w a f).micros

-- what a time with u units of fraction is stored as
unfoldable pub time2_whole : Time → ℕ → ℕ
time2_whole t u = cond t.negative (cond (eqb u 0) (2 ^ 23 - time_number 64 t) (2 ^ 23 - time_number 64 t - 1)) (2 ^ 23 + time_number 64 t)

unfoldable pub time2_fraction : ℕ → Bool → ℕ → ℕ
time2_fraction w negative u = cond negative (cond (eqb u 0) 0 (256 ^ w - u)) u
