-- Temporals. Worked values of every type and unit: the greatest, and one past each range; what is read from their bytes, and how they are
-- written. `temporals` in proofs/Readings/Temporals.antt proves all of it. Assumes nothing.
use Rattle.std.specs.Prelude.{ℕ, Bool, true, false, List, [], ◌∷◌}
use Rattle.temporal.specs.declared.parts.Temporal.{Temporal}
use Rattle.value.specs.declared.datum.Value.{Value}
use Rattle.promises.specs.Tables.{EachRow, Stored, stored, unread, out_of_range, unwritten, IsStored, column}

-- ---- temporals in numbers
-- seconds and microseconds
abbrev pub seconds_value : ℕ → ℕ → Value
seconds_value seconds micros = Value.Temporal (Temporal.Seconds record { seconds = seconds; micros = micros })

-- year, month and day
abbrev pub date_value : ℕ → ℕ → ℕ → Value
date_value year month day = Value.Temporal (Temporal.Date record { year = year; month = month; day = day })

-- year, month, day, hour, minute, second and microseconds
abbrev pub datetime_value : ℕ → ℕ → ℕ → ℕ → ℕ → ℕ → ℕ → Value
datetime_value year month day hour minute second micros =
    Value.Temporal (Temporal.Datetime record
    { year = year; month = month; day = day; hour = hour; minute = minute; second = second; micros = micros })

-- whether it is negative, hours, minutes, seconds and microseconds
abbrev pub time_value : Bool → ℕ → ℕ → ℕ → ℕ → Value
time_value negative hours minutes seconds micros =
    Value.Temporal (Temporal.Time record { negative = negative; hours = hours; minutes = minutes; seconds = seconds; micros = micros })

-- ---- worked values, by the column's type
-- 17 TIMESTAMP2: 4 bytes, seconds
unfoldable pub stored17 : List Stored
stored17 =
    stored (column 17 0 0) (0x00 ∷ 0x00 ∷ 0x00 ∷ 0x00 ∷ []) (seconds_value 0 0)
    ∷ stored (column 17 0 0) (0xff ∷ 0xff ∷ 0xff ∷ 0xff ∷ []) (seconds_value 4294967295 0)
    -- fractions of one byte are hundredths, of two ten-thousandths, of three millionths of a second
    ∷ stored (column 17 1 0) (0x65 ∷ 0x53 ∷ 0xf1 ∷ 0x00 ∷ 0x01 ∷ []) (seconds_value 1700000000 10000)
    ∷ stored (column 17 2 0) (0x65 ∷ 0x53 ∷ 0xf1 ∷ 0x00 ∷ 0x63 ∷ []) (seconds_value 1700000000 990000)
    ∷ out_of_range (column 17 2 0) (0x65 ∷ 0x53 ∷ 0xf1 ∷ 0x00 ∷ 0x64 ∷ []) 7
    ∷ stored (column 17 3 0) (0x65 ∷ 0x53 ∷ 0xf1 ∷ 0x00 ∷ 0x00 ∷ 0x01 ∷ []) (seconds_value 1700000000 100)
    ∷ stored (column 17 4 0) (0x65 ∷ 0x53 ∷ 0xf1 ∷ 0x00 ∷ 0x27 ∷ 0x0f ∷ []) (seconds_value 1700000000 999900)
    ∷ out_of_range (column 17 4 0) (0x65 ∷ 0x53 ∷ 0xf1 ∷ 0x00 ∷ 0x27 ∷ 0x10 ∷ []) 7
    ∷ stored (column 17 5 0) (0x65 ∷ 0x53 ∷ 0xf1 ∷ 0x00 ∷ 0x00 ∷ 0x00 ∷ 0x01 ∷ []) (seconds_value 1700000000 1)
    ∷ stored (column 17 6 0) (0x65 ∷ 0x53 ∷ 0xf1 ∷ 0x00 ∷ 0x0f ∷ 0x42 ∷ 0x3f ∷ []) (seconds_value 1700000000 999999)
    ∷ out_of_range (column 17 6 0) (0x65 ∷ 0x53 ∷ 0xf1 ∷ 0x00 ∷ 0x0f ∷ 0x42 ∷ 0x40 ∷ []) 7
    -- a byte less: 9
    ∷ unread (column 17 6 0) (0x65 ∷ 0x53 ∷ 0xf1 ∷ 0x00 ∷ 0x00 ∷ 0x00 ∷ []) 9
    -- a fraction that is no multiple of the unit, and one of a whole second
    ∷ unwritten (column 17 0 0) (seconds_value 0 1)
    ∷ unwritten (column 17 1 0) (seconds_value 0 1000)
    ∷ unwritten (column 17 2 0) (seconds_value 0 5000)
    ∷ unwritten (column 17 3 0) (seconds_value 0 10)
    ∷ unwritten (column 17 4 0) (seconds_value 0 50)
    ∷ unwritten (column 17 6 0) (seconds_value 0 1000000)
    ∷ unwritten (column 17 0 0) (time_value false 0 0 1 0)
    ∷ []

-- 18 DATETIME2: 5 bytes less 2^39
unfoldable pub stored18 : List Stored
stored18 =
    stored (column 18 0 0) (0x80 ∷ 0x00 ∷ 0x00 ∷ 0x00 ∷ 0x00 ∷ []) (datetime_value 0 0 0 0 0 0 0)
    ∷ stored (column 18 0 0) (0x99 ∷ 0x64 ∷ 0x42 ∷ 0x00 ∷ 0x00 ∷ []) (datetime_value 2000 1 1 0 0 0 0)
    ∷ stored (column 18 2 0) (0xfe ∷ 0xf3 ∷ 0xff ∷ 0x7e ∷ 0xfb ∷ 0x63 ∷ []) (datetime_value 9999 12 31 23 59 59 990000)
    ∷ stored (column 18 4 0) (0x99 ∷ 0x2d ∷ 0x78 ∷ 0x71 ∷ 0x49 ∷ 0x27 ∷ 0x0f ∷ []) (datetime_value 1983 2 28 7 5 9 999900)
    ∷ stored (column 18 6 0) (0xfe ∷ 0xf3 ∷ 0xff ∷ 0x7e ∷ 0xfb ∷ 0x0f ∷ 0x42 ∷ 0x3f ∷ []) (datetime_value 9999 12 31 23 59 59 999999)
    -- year 10000, hour 24, minute 60, second 60, fractions of a whole second, and one below zero
    ∷ out_of_range (column 18 0 0) (0xfe ∷ 0xf4 ∷ 0x00 ∷ 0x00 ∷ 0x00 ∷ []) 1
    ∷ out_of_range (column 18 0 0) (0x99 ∷ 0x64 ∷ 0x43 ∷ 0x80 ∷ 0x00 ∷ []) 4
    ∷ out_of_range (column 18 0 0) (0x99 ∷ 0x64 ∷ 0x42 ∷ 0x0f ∷ 0x00 ∷ []) 5
    ∷ out_of_range (column 18 0 0) (0x99 ∷ 0x64 ∷ 0x42 ∷ 0x00 ∷ 0x3c ∷ []) 6
    ∷ out_of_range (column 18 2 0) (0x99 ∷ 0x64 ∷ 0x42 ∷ 0x00 ∷ 0x00 ∷ 0x64 ∷ []) 7
    ∷ out_of_range (column 18 4 0) (0x99 ∷ 0x64 ∷ 0x42 ∷ 0x00 ∷ 0x00 ∷ 0x27 ∷ 0x10 ∷ []) 7
    ∷ out_of_range (column 18 6 0) (0x99 ∷ 0x64 ∷ 0x42 ∷ 0x00 ∷ 0x00 ∷ 0x0f ∷ 0x42 ∷ 0x40 ∷ []) 7
    ∷ out_of_range (column 18 0 0) (0x7f ∷ 0xff ∷ 0xff ∷ 0xff ∷ 0xff ∷ []) 8
    -- of two parts out of range the first is told
    ∷ out_of_range (column 18 2 0) (0x7f ∷ 0xff ∷ 0xff ∷ 0xff ∷ 0xff ∷ 0x64 ∷ []) 8
    ∷ out_of_range (column 18 6 0) (0xfe ∷ 0xf4 ∷ 0x3e ∷ 0xff ∷ 0xff ∷ 0x0f ∷ 0x42 ∷ 0x40 ∷ []) 1
    ∷ unread (column 18 0 0) (0x80 ∷ 0x00 ∷ 0x00 ∷ 0x00 ∷ []) 9
    ∷ unwritten (column 18 6 0) (datetime_value 10000 1 1 0 0 0 0)
    ∷ unwritten (column 18 6 0) (datetime_value 2000 13 1 0 0 0 0)
    ∷ unwritten (column 18 6 0) (datetime_value 2000 1 32 0 0 0 0)
    ∷ unwritten (column 18 6 0) (datetime_value 2000 1 1 24 0 0 0)
    ∷ unwritten (column 18 6 0) (datetime_value 2000 1 1 0 60 0 0)
    ∷ unwritten (column 18 6 0) (datetime_value 2000 1 1 0 0 60 0)
    ∷ unwritten (column 18 6 0) (datetime_value 2000 1 1 0 0 0 1000000)
    ∷ unwritten (column 18 2 0) (datetime_value 2000 1 1 0 0 0 5000)
    ∷ unwritten (column 18 6 0) (date_value 2000 1 1)
    ∷ []

-- 19 TIME2: 3 bytes less 2^23
unfoldable pub stored19 : List Stored
stored19 =
    stored (column 19 0 0) (0x80 ∷ 0x00 ∷ 0x00 ∷ []) (time_value false 0 0 0 0)
    ∷ stored (column 19 0 0) (0xb4 ∷ 0x6e ∷ 0xfb ∷ []) (time_value false 838 59 59 0)
    ∷ stored (column 19 0 0) (0x7f ∷ 0xff ∷ 0xff ∷ []) (time_value true 0 0 1 0)
    ∷ stored (column 19 0 0) (0x4b ∷ 0x91 ∷ 0x05 ∷ []) (time_value true 838 59 59 0)
    -- -838:59:59.99, -00:00:01.50, -00:00:00.01 and their like in each unit; the greatest; and a whole number of seconds below zero
    ∷ stored (column 19 2 0) (0x4b ∷ 0x91 ∷ 0x04 ∷ 0x9d ∷ []) (time_value true 838 59 59 990000)
    ∷ stored (column 19 1 0) (0x7f ∷ 0xff ∷ 0xfe ∷ 0xce ∷ []) (time_value true 0 0 1 500000)
    ∷ stored (column 19 2 0) (0x7f ∷ 0xff ∷ 0xff ∷ 0xff ∷ []) (time_value true 0 0 0 10000)
    ∷ stored (column 19 2 0) (0x80 ∷ 0x00 ∷ 0x00 ∷ 0x01 ∷ []) (time_value false 0 0 0 10000)
    ∷ stored (column 19 2 0) (0x7f ∷ 0xef ∷ 0x7d ∷ 0x00 ∷ []) (time_value true 1 2 3 0)
    ∷ stored (column 19 4 0) (0x4b ∷ 0x91 ∷ 0x04 ∷ 0xd8 ∷ 0xf1 ∷ []) (time_value true 838 59 59 999900)
    ∷ stored (column 19 3 0) (0x7f ∷ 0xff ∷ 0xfe ∷ 0xec ∷ 0x78 ∷ []) (time_value true 0 0 1 500000)
    ∷ stored (column 19 4 0) (0x7f ∷ 0xff ∷ 0xff ∷ 0xff ∷ 0xff ∷ []) (time_value true 0 0 0 100)
    ∷ stored (column 19 4 0) (0xb4 ∷ 0x6e ∷ 0xfb ∷ 0x27 ∷ 0x0f ∷ []) (time_value false 838 59 59 999900)
    ∷ stored (column 19 6 0) (0x4b ∷ 0x91 ∷ 0x04 ∷ 0xf0 ∷ 0xbd ∷ 0xc1 ∷ []) (time_value true 838 59 59 999999)
    ∷ stored (column 19 5 0) (0x7f ∷ 0xff ∷ 0xfe ∷ 0xf8 ∷ 0x5e ∷ 0xe0 ∷ []) (time_value true 0 0 1 500000)
    ∷ stored (column 19 6 0) (0x7f ∷ 0xff ∷ 0xff ∷ 0xff ∷ 0xff ∷ 0xff ∷ []) (time_value true 0 0 0 1)
    ∷ stored (column 19 6 0) (0x7f ∷ 0xef ∷ 0x7d ∷ 0x00 ∷ 0x00 ∷ 0x00 ∷ []) (time_value true 1 2 3 0)
    ∷ stored (column 19 6 0) (0xb4 ∷ 0x6e ∷ 0xfb ∷ 0x0f ∷ 0x42 ∷ 0x3f ∷ []) (time_value false 838 59 59 999999)
    -- hour 839, minute 60, second 60 of both signs; fractions of a whole second
    ∷ out_of_range (column 19 0 0) (0xb4 ∷ 0x70 ∷ 0x00 ∷ []) 4
    ∷ out_of_range (column 19 0 0) (0x80 ∷ 0x0f ∷ 0x00 ∷ []) 5
    ∷ out_of_range (column 19 0 0) (0x80 ∷ 0x00 ∷ 0x3c ∷ []) 6
    ∷ out_of_range (column 19 0 0) (0x4b ∷ 0x90 ∷ 0x00 ∷ []) 4
    ∷ out_of_range (column 19 0 0) (0x7f ∷ 0xf1 ∷ 0x00 ∷ []) 5
    ∷ out_of_range (column 19 0 0) (0x7f ∷ 0xff ∷ 0xc4 ∷ []) 6
    ∷ out_of_range (column 19 2 0) (0x80 ∷ 0x00 ∷ 0x00 ∷ 0x64 ∷ []) 7
    ∷ out_of_range (column 19 2 0) (0x7f ∷ 0xff ∷ 0xff ∷ 0x9c ∷ []) 7
    ∷ out_of_range (column 19 4 0) (0x80 ∷ 0x00 ∷ 0x00 ∷ 0x27 ∷ 0x10 ∷ []) 7
    ∷ out_of_range (column 19 4 0) (0x7f ∷ 0xff ∷ 0xff ∷ 0xd8 ∷ 0xf0 ∷ []) 7
    ∷ out_of_range (column 19 6 0) (0x80 ∷ 0x00 ∷ 0x00 ∷ 0x0f ∷ 0x42 ∷ 0x40 ∷ []) 7
    ∷ out_of_range (column 19 6 0) (0x7f ∷ 0xff ∷ 0xff ∷ 0xf0 ∷ 0xbd ∷ 0xc0 ∷ []) 7
    -- of two parts out of range the first is told
    ∷ out_of_range (column 19 2 0) (0xb4 ∷ 0x8f ∷ 0xff ∷ 0x64 ∷ []) 4
    ∷ unread (column 19 6 0) (0x80 ∷ 0x00 ∷ 0x00 ∷ 0x00 ∷ 0x00 ∷ []) 9
    -- no negative zero; no hour 839, minute 60, second 60, whole second of fraction, part of a unit
    ∷ unwritten (column 19 6 0) (time_value true 0 0 0 0)
    ∷ unwritten (column 19 6 0) (time_value false 839 0 0 0)
    ∷ unwritten (column 19 6 0) (time_value false 0 60 0 0)
    ∷ unwritten (column 19 6 0) (time_value false 0 0 60 0)
    ∷ unwritten (column 19 6 0) (time_value false 0 0 0 1000000)
    ∷ unwritten (column 19 2 0) (time_value true 0 0 0 5000)
    ∷ unwritten (column 19 4 0) (time_value false 0 0 0 50)
    ∷ unwritten (column 19 0 0) (time_value false 0 0 0 10000)
    ∷ unwritten (column 19 6 0) (seconds_value 1 0)
    ∷ []

-- 14 DATE: 3 bytes little-endian, day 5 bits, month 4, year
unfoldable pub stored14 : List Stored
stored14 =
    stored (column 14 0 0) (0x00 ∷ 0x00 ∷ 0x00 ∷ []) (date_value 0 0 0)
    ∷ stored (column 14 0 0) (0x3f ∷ 0xa0 ∷ 0x0f ∷ []) (date_value 2000 1 31)
    ∷ stored (column 14 0 0) (0x9f ∷ 0x1f ∷ 0x4e ∷ []) (date_value 9999 12 31)
    -- month 13, year 10000
    ∷ out_of_range (column 14 0 0) (0xa1 ∷ 0xa1 ∷ 0x0f ∷ []) 2
    ∷ out_of_range (column 14 0 0) (0x21 ∷ 0x20 ∷ 0x4e ∷ []) 1
    ∷ unread (column 14 0 0) (0x00 ∷ 0x00 ∷ []) 9
    ∷ unwritten (column 14 0 0) (date_value 10000 1 1)
    ∷ unwritten (column 14 0 0) (date_value 2000 13 1)
    ∷ unwritten (column 14 0 0) (date_value 2000 1 32)
    ∷ unwritten (column 14 0 0) (datetime_value 2000 1 1 0 0 0 0)
    ∷ []

-- 11 TIME: decimal HHMMSS in 3 unsigned bytes, little-endian
unfoldable pub stored11 : List Stored
stored11 =
    stored (column 11 0 0) (0x39 ∷ 0x30 ∷ 0x00 ∷ []) (time_value false 1 23 45 0)
    ∷ stored (column 11 0 0) (0xa7 ∷ 0xf5 ∷ 0x7f ∷ []) (time_value false 838 59 59 0)
    -- 8390000, 6000 and 60; the greatest number of 3 bytes
    ∷ out_of_range (column 11 0 0) (0x70 ∷ 0x05 ∷ 0x80 ∷ []) 4
    ∷ out_of_range (column 11 0 0) (0x70 ∷ 0x17 ∷ 0x00 ∷ []) 5
    ∷ out_of_range (column 11 0 0) (0x3c ∷ 0x00 ∷ 0x00 ∷ []) 6
    ∷ out_of_range (column 11 0 0) (0xff ∷ 0xff ∷ 0xff ∷ []) 4
    ∷ unread (column 11 0 0) (0x00 ∷ 0x00 ∷ []) 9
    ∷ unwritten (column 11 0 0) (time_value true 0 0 1 0)
    ∷ unwritten (column 11 0 0) (time_value false 839 0 0 0)
    ∷ unwritten (column 11 0 0) (time_value false 0 0 0 10000)
    ∷ unwritten (column 11 0 0) (seconds_value 1 0)
    ∷ []

-- 12 DATETIME: decimal YYYYMMDDhhmmss in 8 bytes, little-endian
unfoldable pub stored12 : List Stored
stored12 =
    stored (column 12 0 0) (0x00 ∷ 0x00 ∷ 0x00 ∷ 0x00 ∷ 0x00 ∷ 0x00 ∷ 0x00 ∷ 0x00 ∷ []) (datetime_value 0 0 0 0 0 0 0)
    ∷ stored (column 12 0 0) (0x45 ∷ 0x1c ∷ 0xfa ∷ 0xa2 ∷ 0x30 ∷ 0x12 ∷ 0x00 ∷ 0x00 ∷ []) (datetime_value 2000 1 2 3 4 5 0)
    ∷ stored (column 12 0 0) (0x77 ∷ 0x87 ∷ 0xd1 ∷ 0x05 ∷ 0xf1 ∷ 0x5a ∷ 0x00 ∷ 0x00 ∷ []) (datetime_value 9999 12 31 23 59 59 0)
    -- year 10000, month 13, day 32, hour 24, minute 60, second 60
    ∷ out_of_range (column 12 0 0) (0x40 ∷ 0x63 ∷ 0x7f ∷ 0x16 ∷ 0xf3 ∷ 0x5a ∷ 0x00 ∷ 0x00 ∷ []) 1
    ∷ out_of_range (column 12 0 0) (0x40 ∷ 0xef ∷ 0x70 ∷ 0xea ∷ 0x30 ∷ 0x12 ∷ 0x00 ∷ 0x00 ∷ []) 2
    ∷ out_of_range (column 12 0 0) (0x00 ∷ 0x69 ∷ 0xc3 ∷ 0xa4 ∷ 0x30 ∷ 0x12 ∷ 0x00 ∷ 0x00 ∷ []) 3
    ∷ out_of_range (column 12 0 0) (0xc0 ∷ 0x0c ∷ 0xee ∷ 0xa2 ∷ 0x30 ∷ 0x12 ∷ 0x00 ∷ 0x00 ∷ []) 4
    ∷ out_of_range (column 12 0 0) (0xb0 ∷ 0x7a ∷ 0xea ∷ 0xa2 ∷ 0x30 ∷ 0x12 ∷ 0x00 ∷ 0x00 ∷ []) 5
    ∷ out_of_range (column 12 0 0) (0x7c ∷ 0x63 ∷ 0xea ∷ 0xa2 ∷ 0x30 ∷ 0x12 ∷ 0x00 ∷ 0x00 ∷ []) 6
    -- of two parts out of range the first is told
    ∷ out_of_range (column 12 0 0) (0x23 ∷ 0x34 ∷ 0x4c ∷ 0xf0 ∷ 0x30 ∷ 0x12 ∷ 0x00 ∷ 0x00 ∷ []) 2
    ∷ out_of_range (column 12 0 0) (0x23 ∷ 0x53 ∷ 0x56 ∷ 0xea ∷ 0x30 ∷ 0x12 ∷ 0x00 ∷ 0x00 ∷ []) 3
    ∷ out_of_range (column 12 0 0) (0xa3 ∷ 0xd7 ∷ 0x09 ∷ 0x5e ∷ 0xf3 ∷ 0x5a ∷ 0x00 ∷ 0x00 ∷ []) 1
    ∷ unread (column 12 0 0) (0x00 ∷ 0x00 ∷ 0x00 ∷ 0x00 ∷ 0x00 ∷ 0x00 ∷ 0x00 ∷ []) 9
    ∷ unwritten (column 12 0 0) (datetime_value 2000 1 1 0 0 0 10000)
    ∷ unwritten (column 12 0 0) (datetime_value 10000 1 1 0 0 0 0)
    ∷ unwritten (column 12 0 0) (date_value 2000 1 1)
    ∷ []

-- 7 TIMESTAMP: seconds, 4 bytes, little-endian
unfoldable pub stored7 : List Stored
stored7 =
    stored (column 7 0 0) (0x01 ∷ 0x00 ∷ 0x00 ∷ 0x00 ∷ []) (seconds_value 1 0)
    ∷ stored (column 7 0 0) (0xff ∷ 0xff ∷ 0xff ∷ 0xff ∷ []) (seconds_value 4294967295 0)
    ∷ unread (column 7 0 0) (0x00 ∷ 0x00 ∷ 0x00 ∷ []) 9
    ∷ unwritten (column 7 0 0) (seconds_value 0 1)
    ∷ unwritten (column 7 0 0) (seconds_value 4294967296 0)
    ∷ unwritten (column 7 0 0) (time_value false 0 0 1 0)
    ∷ []

pub record Temporals : Type 0 where
  pub type_17 : EachRow IsStored stored17
  pub type_18 : EachRow IsStored stored18
  pub type_19 : EachRow IsStored stored19
  pub type_14 : EachRow IsStored stored14
  pub type_11 : EachRow IsStored stored11
  pub type_12 : EachRow IsStored stored12
  pub type_7 : EachRow IsStored stored7
