-- A value whose parts are within their bits, as the machine's are, is one that is made again of its sort and parts. Assumes nothing.
use Prim.Native.Nat.{ℕ, ◌^◌, ◌≤◌}
use mathlib.Core.Path.{◌≡◌, refl}
use mathlib.Core.Bool.{Bool, true, false, cond}
use native.Mathlib.Omega.{arith}
use borrow.Author.Tests.{le-leb, lt-ltb}
use lib.IntN.{ℤ, pos, negsuc}
use mir.Syntax.{w64}
use mir.Val.{SFits}
use Rattle.wire.specs.declared.part.Part.{Part}
use Rattle.wire.specs.Signed.{in_halves, twos_of}
use Rattle.wire.proofs.Signs.{signs_back}
use Rattle.temporal.specs.declared.parts.Seconds.{Seconds}
use Rattle.temporal.specs.declared.parts.Date.{Date}
use Rattle.temporal.specs.declared.parts.Datetime.{Datetime}
use Rattle.temporal.specs.declared.parts.Time.{Time}
use Rattle.temporal.specs.declared.parts.Temporal.{Temporal}
use Rattle.value.specs.declared.datum.Value.{Value}
use Rattle.value.specs.declared.datum.Value.TheVariants.{Null, Int, Uint, Float, Double, Year, Bytes}
use Rattle.value.specs.Data.{int_in}
use Rattle.value.specs.Reading.{datum_of}
use Rattle.value_parts.specs.Parts.{sort_of, parts_of, top_of_bits, tops_of, fit, is_held}

in_halves_lem : (z : ℤ) → SFits w64 z → in_halves (2 ^ 64) z ≡ true
unfolding in_halves
in_halves_lem (pos n) f = lt-ltb n (2 ^ 63) f.sfits
in_halves_lem (negsuc n) f = lt-ltb n (2 ^ 63) f.sfits

sign_bit : (b : Bool) → cond b 1 0 ≤ top_of_bits 1
sign_bit true = omega arith
sign_bit false = omega arith

pub held_null : is_held Null ≡ true
unfolding is_held in_halves int_in datum_of tops_of sort_of parts_of fit
held_null = refl

pub held_halves : (z : ℤ) → in_halves (2 ^ 64) z ≡ true → is_held (Int z) ≡ true
unfolding is_held int_in datum_of tops_of sort_of parts_of fit
held_halves z h =
    let w = signs_back (2 ^ 64) z h in
    rw (h, le-leb (twos_of (2 ^ 64) z) (top_of_bits 64) (omega (arith, w.0)))

pub held_int : (z : ℤ) → SFits w64 z → is_held (Int z) ≡ true
held_int z f = held_halves z (in_halves_lem z f)

pub held_uint : (n : ℕ) → n ≤ top_of_bits 64 → is_held (Uint n) ≡ true
unfolding is_held in_halves int_in datum_of tops_of sort_of parts_of fit
held_uint n h = rw (le-leb n (top_of_bits 64) h)

pub held_float : (n : ℕ) → n ≤ top_of_bits 32 → is_held (Float n) ≡ true
unfolding is_held in_halves int_in datum_of tops_of sort_of parts_of fit
held_float n h = rw (le-leb n (top_of_bits 32) h)

pub held_double : (n : ℕ) → n ≤ top_of_bits 64 → is_held (Double n) ≡ true
unfolding is_held in_halves int_in datum_of tops_of sort_of parts_of fit
held_double n h = rw (le-leb n (top_of_bits 64) h)

pub held_year : (n : ℕ) → n ≤ top_of_bits 16 → is_held (Year n) ≡ true
unfolding is_held in_halves int_in datum_of tops_of sort_of parts_of fit
held_year n h = rw (le-leb n (top_of_bits 16) h)

pub held_bytes : (p : Part) → p.start ≤ top_of_bits 64 → p.len ≤ top_of_bits 64 → is_held (Bytes p) ≡ true
unfolding is_held in_halves int_in datum_of tops_of sort_of parts_of fit
held_bytes p a b = rw (le-leb p.start (top_of_bits 64) a, le-leb p.len (top_of_bits 64) b)

pub held_seconds : (s : Seconds) → s.seconds ≤ top_of_bits 32 → s.micros ≤ top_of_bits 32
    → is_held (Value.Temporal (Temporal.Seconds s)) ≡ true
unfolding is_held in_halves int_in datum_of tops_of sort_of parts_of fit
held_seconds s a b = rw (le-leb s.seconds (top_of_bits 32) a, le-leb s.micros (top_of_bits 32) b)

pub held_date : (d : Date) → d.year ≤ top_of_bits 16 → d.month ≤ top_of_bits 8 → d.day ≤ top_of_bits 8
    → is_held (Value.Temporal (Temporal.Date d)) ≡ true
unfolding is_held in_halves int_in datum_of tops_of sort_of parts_of fit
held_date d a b c = rw (le-leb d.year (top_of_bits 16) a, le-leb d.month (top_of_bits 8) b, le-leb d.day (top_of_bits 8) c)

pub held_datetime : (m : Datetime) → m.year ≤ top_of_bits 16 → m.month ≤ top_of_bits 8 → m.day ≤ top_of_bits 8 → m.hour ≤ top_of_bits 8
    → m.minute ≤ top_of_bits 8 → m.second ≤ top_of_bits 8 → m.micros ≤ top_of_bits 32 → is_held (Value.Temporal (Temporal.Datetime m)) ≡ true
unfolding is_held in_halves int_in datum_of tops_of sort_of parts_of fit
held_datetime m a b c d e f g =
    rw (
      le-leb m.year (top_of_bits 16) a,
      le-leb m.month (top_of_bits 8) b,
      le-leb m.day (top_of_bits 8) c,
      le-leb m.hour (top_of_bits 8) d,
      le-leb m.minute (top_of_bits 8) e,
      le-leb m.second (top_of_bits 8) f,
      le-leb m.micros (top_of_bits 32) g,
    )

pub held_time : (t : Time) → t.hours ≤ top_of_bits 16 → t.minutes ≤ top_of_bits 8 → t.seconds ≤ top_of_bits 8 → t.micros ≤ top_of_bits 32
    → is_held (Value.Temporal (Temporal.Time t)) ≡ true
unfolding is_held in_halves int_in datum_of tops_of sort_of parts_of fit
held_time t a b c d =
    rw (
      le-leb (cond t.negative 1 0) (top_of_bits 1) (sign_bit t.negative),
      le-leb t.hours (top_of_bits 16) a,
      le-leb t.minutes (top_of_bits 8) b,
      le-leb t.seconds (top_of_bits 8) c,
      le-leb t.micros (top_of_bits 32) d,
    )

pub ruleset held = (
  held_null,
  held_int,
  held_uint,
  held_float,
  held_double,
  held_year,
  held_bytes,
  held_seconds,
  held_date,
  held_datetime,
  held_time,
)
