-- The fields of a number over their radices, whatever these are: a number of fields is split into them, and the fields of a number make it.
-- Bits (64, 32, 32, 13) and decimals (100) are the same law. Assumes nothing.
use Prim.Native.Nat.{ℕ, ◌+◌, ◌*◌, ◌/◌, ◌%◌, ◌<◌}
use mathlib.Core.Path.{◌≡◌, ap, ◌∙◌}
use mathlib.Core.Bool.{Bool}
use native.Mathlib.Nat.{mul-add-div_right, mul-add-mod_self_right, div-eq_of_lt, mod-eq_of_lt, div-add-mod', add-zero}
use native.Mathlib.Omega.{arith}
use Rattle.temporal.specs.declared.parts.Time.{Time}
use Rattle.temporal.specs.declared.parts.Datetime.{Datetime}
use Rattle.temporal.specs.Times.{time_by, time_number}
use Rattle.temporal.specs.Datetimes.{datetime_by, datetime_number}

-- ---- one field behind a number
pub field_div : (n r v : ℕ) → v < r → (n * r + v) / r ≡ n
field_div n r v h = mul-add-div_right {m = r} (omega arith) n v ∙ ap (λ (k : ℕ). n + k) (div-eq_of_lt h) ∙ add-zero n

-- and the field is what is left over
pub field_mod : (n r v : ℕ) → v < r → (n * r + v) % r ≡ v
field_mod n r v h = mul-add-mod_self_right n r v ∙ mod-eq_of_lt h

-- ---- a time
pub time_back : (r : ℕ) (t : Time) → t.minutes < r → t.seconds < r → time_by r t.negative (time_number r t) t.micros ≡ t
unfolding time_by
time_back r t m s =
    let x = field_div (t.hours * r + t.minutes) r t.seconds s in
    let y = field_div t.hours r t.minutes m in
    rw (x, y, field_mod t.hours r t.minutes m, field_mod (t.hours * r + t.minutes) r t.seconds s)

-- and the number of a number's fields is the number
pub time_number_lem : (r : ℕ) (b : Bool) (n u : ℕ) → time_number r (time_by r b n u) ≡ n
unfolding time_by
time_number_lem r b n u = rw (div-add-mod' (n / r) r) (div-add-mod' n r)

-- ---- a datetime
pub record Below (r h d mo : ℕ) (m : Datetime) : Type 0 where
  pub month : m.month < mo
  pub day : m.day < d
  pub hour : m.hour < h
  pub minute : m.minute < r
  pub second : m.second < r

-- the fields of its number are its own
pub datetime_back : (r h d mo : ℕ) (m : Datetime) → Below r h d mo m → datetime_by r h d mo (datetime_number r h d mo m) m.micros ≡ m
unfolding datetime_by
datetime_back r h d mo m b =
    let n₁ = m.year * mo + m.month in
    let n₂ = n₁ * d + m.day in
    let n₃ = n₂ * h + m.hour in
    let n₄ = n₃ * r + m.minute in
    rw (
      field_div n₄ r m.second b.second,
      field_div n₃ r m.minute b.minute,
      field_div n₂ h m.hour b.hour,
      field_div n₁ d m.day b.day,
      field_div m.year mo m.month b.month,
      field_mod m.year mo m.month b.month,
      field_mod n₁ d m.day b.day,
      field_mod n₂ h m.hour b.hour,
      field_mod n₃ r m.minute b.minute,
      field_mod n₄ r m.second b.second,
    )

-- and the number of a number's fields is the number
pub datetime_number_lem : (r h d mo n u : ℕ) → datetime_number r h d mo (datetime_by r h d mo n u) ≡ n
unfolding datetime_by
datetime_number_lem r h d mo n u =
    rw (div-add-mod' (n / r / r / h / d) mo, div-add-mod' (n / r / r / h) d, div-add-mod' (n / r / r) h, div-add-mod' (n / r) r)
    (div-add-mod' n r)
