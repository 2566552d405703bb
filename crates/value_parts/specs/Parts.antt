-- A value in numbers: its sort and the parts that the sort has, and the value that a sort and parts make. Assumes nothing.
use Rattle.std.specs.Prelude.{ℕ, zero, suc, ◌-◌, ◌^◌, Bool, true, false, cond, ◌&&◌, List, [], ◌∷◌, get_or, leb, eqb}
use Rattle.wire.specs.Outcome.{Outcome, ok, refuse}
use Rattle.wire.specs.Parts.{part}
use Rattle.wire.specs.Signed.{signed_of, twos_of, in_halves}
use Rattle.temporal.specs.declared.parts.Seconds.{Seconds}
use Rattle.temporal.specs.declared.parts.Date.{Date}
use Rattle.temporal.specs.declared.parts.Datetime.{Datetime}
use Rattle.temporal.specs.declared.parts.Time.{Time}
use Rattle.temporal.specs.declared.parts.Temporal.{Temporal}
use Rattle.value.specs.declared.datum.Value.{Value}
use Rattle.value.specs.declared.datum.Value.TheVariants.{Null, Int, Uint, Float, Double, Year, Bytes}
use Rattle.value.specs.Data.{int_in}
use Rattle.value.specs.Reading.{datum_of}

-- ---- a value's sort and parts
unfoldable pub sort_of : Value → ℕ
sort_of Null = 1
sort_of (Int z) = 2
sort_of (Uint n) = 3
sort_of (Float bits) = 4
sort_of (Double bits) = 5
sort_of (Value.Temporal (Temporal.Seconds s)) = 6
sort_of (Year y) = 7
sort_of (Value.Temporal (Temporal.Date d)) = 8
sort_of (Value.Temporal (Temporal.Datetime m)) = 9
sort_of (Value.Temporal (Temporal.Time t)) = 10
sort_of (Bytes p) = 11

-- a signed integer is its two's complement in 64 bits, and a sign 1 where it is negative
unfoldable pub parts_of : Value → List ℕ
unfolding twos_of
parts_of Null = []
parts_of (Int z) = twos_of (2 ^ 64) z ∷ []
parts_of (Uint n) = n ∷ []
parts_of (Float bits) = bits ∷ []
parts_of (Double bits) = bits ∷ []
parts_of (Value.Temporal (Temporal.Seconds s)) = s.seconds ∷ (s.micros ∷ [])
parts_of (Year y) = y ∷ []
parts_of (Value.Temporal (Temporal.Date d)) = d.year ∷ (d.month ∷ (d.day ∷ []))
parts_of (Value.Temporal (Temporal.Datetime m)) = m.year ∷ (m.month ∷ (m.day ∷ (m.hour ∷ (m.minute ∷ (m.second ∷ (m.micros ∷ []))))))
parts_of (Value.Temporal (Temporal.Time t)) = cond t.negative 1 0 ∷ (t.hours ∷ (t.minutes ∷ (t.seconds ∷ (t.micros ∷ []))))
parts_of (Bytes p) = p.start ∷ (p.len ∷ [])

-- the first k of some parts, 0 for each that is not there
unfoldable pub padded : ℕ → List ℕ → List ℕ
padded zero ps = []
padded (suc k) [] = 0 ∷ padded k []
padded (suc k) (p ∷ ps) = p ∷ padded k ps

-- ---- the parts that a sort takes
-- the greatest number of so many bits
abbrev pub top_of_bits : ℕ → ℕ
top_of_bits bits = 2 ^ bits - 1

-- the greatest that each part of a sort may be
unfoldable pub tops_of : ℕ → List ℕ
tops_of sort =
    cond (eqb sort 2) (top_of_bits 64 ∷ [])
    (cond (eqb sort 3) (top_of_bits 64 ∷ [])
    (cond (eqb sort 4) (top_of_bits 32 ∷ [])
    (cond (eqb sort 5) (top_of_bits 64 ∷ [])
    (cond (eqb sort 6) (top_of_bits 32 ∷ (top_of_bits 32 ∷ []))
    (cond (eqb sort 7) (top_of_bits 16 ∷ [])
    (cond (eqb sort 8) (top_of_bits 16 ∷ (top_of_bits 8 ∷ (top_of_bits 8 ∷ [])))
    (cond (eqb sort 9) (top_of_bits 16 ∷ (top_of_bits 8 ∷ (top_of_bits 8 ∷ (top_of_bits 8 ∷ (top_of_bits 8 ∷ (top_of_bits 8 ∷ (top_of_bits 32 ∷ [])))))))
    (cond (eqb sort 10) (top_of_bits 1 ∷ (top_of_bits 16 ∷ (top_of_bits 8 ∷ (top_of_bits 8 ∷ (top_of_bits 32 ∷ [])))))
    (cond (eqb sort 11) (top_of_bits 64 ∷ (top_of_bits 64 ∷ []))
    [])))))))))

-- a part for each, and none greater; what stands behind them is not looked at
unfoldable pub fit : List ℕ → List ℕ → Bool
fit [] ps = true
fit (t ∷ ts) [] = false
fit (t ∷ ts) (p ∷ ps) = leb p t && fit ts ps

unfoldable pub makes_value : ℕ → List ℕ → Bool
unfolding tops_of fit
makes_value sort ps = leb 1 sort && (leb sort 11 && fit (tops_of sort) ps)

-- ---- the value that they make
abbrev pub made_seconds : List ℕ → Seconds
made_seconds ps = record { seconds = get_or ps 0 0; micros = get_or ps 1 0 }

abbrev pub made_date : List ℕ → Date
made_date ps = record { year = get_or ps 0 0; month = get_or ps 1 0; day = get_or ps 2 0 }

abbrev pub made_datetime : List ℕ → Datetime
made_datetime ps = record {
  year = get_or ps 0 0;
  month = get_or ps 1 0;
  day = get_or ps 2 0;
  hour = get_or ps 3 0;
  minute = get_or ps 4 0;
  second = get_or ps 5 0;
  micros = get_or ps 6 0;
}

abbrev pub made_time : List ℕ → Time
made_time ps = record {
  negative = eqb (get_or ps 0 0) 1;
  hours = get_or ps 1 0;
  minutes = get_or ps 2 0;
  seconds = get_or ps 3 0;
  micros = get_or ps 4 0;
}

unfoldable pub made : ℕ → List ℕ → Value
unfolding signed_of
made sort ps =
    cond (eqb sort 2) (Int (signed_of (2 ^ 64) (get_or ps 0 0)))
    (cond (eqb sort 3) (Uint (get_or ps 0 0))
    (cond (eqb sort 4) (Float (get_or ps 0 0))
    (cond (eqb sort 5) (Double (get_or ps 0 0))
    (cond (eqb sort 6) (Value.Temporal (Temporal.Seconds (made_seconds ps)))
    (cond (eqb sort 7) (Year (get_or ps 0 0))
    (cond (eqb sort 8) (Value.Temporal (Temporal.Date (made_date ps)))
    (cond (eqb sort 9) (Value.Temporal (Temporal.Datetime (made_datetime ps)))
    (cond (eqb sort 10) (Value.Temporal (Temporal.Time (made_time ps)))
    (cond (eqb sort 11) (Bytes (part (get_or ps 0 0) (get_or ps 1 0)))
    Null)))))))))

-- 13 at 0 for a sort that there is not, for fewer parts than the sort has, and for a part that is too great
unfoldable pub value_of : ℕ → List ℕ → Outcome Value
unfolding makes_value made
value_of sort ps = cond (makes_value sort ps) (ok (made sort ps)) (refuse 13 0)

-- ---- a value that the machine can hold: each part within its bits. A signed integer is judged as it is, as two's complement would cut it;
-- of every other value `int_in` is 0
unfoldable pub is_held : Value → Bool
unfolding in_halves int_in datum_of tops_of sort_of parts_of fit
is_held v = in_halves (2 ^ 64) (int_in (datum_of [] v)) && fit (tops_of (sort_of v)) (parts_of v)
