-- A value's sort and parts make the same value again. Assumes nothing.
use Prim.Native.Nat.{ℕ, ◌^◌, ◌≤◌}
use mathlib.Core.Path.{◌≡◌, refl, ap, ◌∙◌}
use mathlib.Core.Bool.{Bool, true, false, cond}
use mathlib.Core.List.{List, [], ◌++◌}
use native.Mathlib.Omega.{arith}
use lib.Dec.{eqb}
use Rattle.wire.specs.Outcome.{ok}
use Rattle.wire.specs.Signed.{in_halves}
use Rattle.wire.proofs.Signs.{signs_back}
use Rattle.wire.proofs.Outcomes.{both_true}
use Rattle.temporal.specs.declared.parts.Time.{Time}
use Rattle.temporal.specs.declared.parts.Temporal.{Temporal}
use Rattle.value.specs.declared.datum.Value.{Value}
use Rattle.value.specs.declared.datum.Value.TheVariants.{Null, Int, Uint, Float, Double, Year, Bytes}
use Rattle.value.specs.Data.{int_in}
use Rattle.value.specs.Reading.{datum_of}
use Rattle.value_parts.specs.Parts.{sort_of, parts_of, padded, tops_of, fit, makes_value, made, value_of, is_held}
use Rattle.value_parts.proofs.Takes.{fit_more, taken_is}

-- ---- every sort of a value is one that is taken
least : (v : Value) → 1 ≤ sort_of v
unfolding sort_of
least Null = omega arith
least (Int z) = omega arith
least (Uint n) = omega arith
least (Float n) = omega arith
least (Double n) = omega arith
least (Year n) = omega arith
least (Value.Temporal (Temporal.Seconds s)) = omega arith
least (Value.Temporal (Temporal.Date d)) = omega arith
least (Value.Temporal (Temporal.Datetime m)) = omega arith
least (Value.Temporal (Temporal.Time t)) = omega arith
least (Bytes p) = omega arith

most : (v : Value) → sort_of v ≤ 11
unfolding sort_of
most Null = omega arith
most (Int z) = omega arith
most (Uint n) = omega arith
most (Float n) = omega arith
most (Double n) = omega arith
most (Year n) = omega arith
most (Value.Temporal (Temporal.Seconds s)) = omega arith
most (Value.Temporal (Temporal.Date d)) = omega arith
most (Value.Temporal (Temporal.Datetime m)) = omega arith
most (Value.Temporal (Temporal.Time t)) = omega arith
most (Bytes p) = omega arith

-- ---- the parts of a value make it
sign_back : (b : Bool) → eqb (cond b 1 0) 1 ≡ b
sign_back true = refl
sign_back false = refl

abbrev signed : Time → Bool → Time
signed t b = record { negative = b; hours = t.hours; minutes = t.minutes; seconds = t.seconds; micros = t.micros }

makes : (v : Value) (rest : List ℕ) → in_halves (2 ^ 64) (int_in (datum_of [] v)) ≡ true → made (sort_of v) (parts_of v ++ rest) ≡ v
unfolding made sort_of parts_of int_in datum_of
makes Null rest h = refl
makes (Int z) rest h = ap Int (signs_back (2 ^ 64) z h).1
makes (Uint n) rest h = refl
makes (Float n) rest h = refl
makes (Double n) rest h = refl
makes (Year n) rest h = refl
makes (Value.Temporal (Temporal.Seconds s)) rest h = refl
makes (Value.Temporal (Temporal.Date d)) rest h = refl
makes (Value.Temporal (Temporal.Datetime m)) rest h = refl
makes (Value.Temporal (Temporal.Time t)) rest h = ap (λ (b : Bool). Value.Temporal (Temporal.Time (signed t b))) (sign_back t.negative)
makes (Bytes p) rest h = refl

-- ---- a value that the machine can hold is made again of its sort and its parts, whatever stands behind them
pub value_back : (v : Value) (rest : List ℕ) → is_held v ≡ true → value_of (sort_of v) (parts_of v ++ rest) ≡ ok v
unfolding value_of is_held
value_back v rest h =
    let w = both_true (in_halves (2 ^ 64) (int_in (datum_of [] v))) (fit (tops_of (sort_of v)) (parts_of v)) h in
    let t : makes_value (sort_of v) (parts_of v ++ rest) ≡ true =
    taken_is (sort_of v) (parts_of v ++ rest) (least v) (most v) ∙ fit_more (tops_of (sort_of v)) (parts_of v) rest w.1 in
    rw t (ap ok (makes v rest w.0))

-- ---- so do seven parts, of which those behind the sort's own are 0
pub seven : (v : Value) → (rest : List ℕ) × (padded 7 (parts_of v) ≡ parts_of v ++ rest)
unfolding padded parts_of
seven Null = (_, refl)
seven (Int z) = (_, refl)
seven (Uint n) = (_, refl)
seven (Float n) = (_, refl)
seven (Double n) = (_, refl)
seven (Year n) = (_, refl)
seven (Value.Temporal (Temporal.Seconds s)) = (_, refl)
seven (Value.Temporal (Temporal.Date d)) = (_, refl)
seven (Value.Temporal (Temporal.Datetime m)) = (_, refl)
seven (Value.Temporal (Temporal.Time t)) = (_, refl)
seven (Bytes p) = (_, refl)
