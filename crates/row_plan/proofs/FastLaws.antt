-- Values read fast are the values that are read as everywhere. Assumes nothing.
use Prim.Native.Nat.{ℕ, ◌+◌, ◌-◌, ◌*◌, ◌/◌, ◌%◌, ◌^◌, ◌≤◌, ◌<◌}
use mathlib.Core.Path.{◌≡◌, refl, sym, ap, ◌∙◌}
use mathlib.Core.Bool.{true, cond}
use mathlib.Core.Logic.{dite}
use mathlib.Core.List.{List, [], ◌∷◌}
use native.Mathlib.Decide.{dec_le}
use native.Mathlib.Nat.{zero-mul}
use native.Mathlib.Omega.{arith}
use borrow.Author.Tests.{le-leb, lt-leb, le-ltb, lt-ltb, eq-eqb, ne_eqb}
use lib.Dec.{ltb}
use lib.ListN.{length, get_or, take, drop}
use lib.Seq.{take-take, drop-cons}
use Rattle.std.specs.Prelude.{Option, None}
use Rattle.wire.specs.Number.{le_value, be_value}
use Rattle.wire.specs.Outcome.{ok}
use Rattle.temporal.specs.declared.storage.Storage.{Storage}
use Rattle.temporal.specs.declared.storage.Storage.TheVariants.{Newdate, Timestamp2, Datetime2, Time2}
use Rattle.temporal.specs.Fraction.{fraction_bytes, unit_of}
use Rattle.temporal.specs.Ranges.{in_clock}
use Rattle.temporal.specs.Times.{signed_time, time2_of, time_by}
use Rattle.temporal.specs.Datetimes.{signed_datetime, datetime_by, datetime2_of, datetime2_fault, date_of, seconds_of}
use Rattle.temporal.specs.Storage.{whole_bytes, fraction_size, is_big, temporal_of, fault_of}
use Rattle.temporal.specs.Reading.{temporal_size, whole_in, units_in, temporal_fault, temporal_decode, read_temporal}
use Rattle.temporal.proofs.Ranges.{Clock, Day, clock_none, clock_of, day_none}
use Rattle.temporal.proofs.Steps.{whole_big, whole_little, units_big, units_little}
use Rattle.temporal.proofs.Units.{widths}
use Rattle.value.specs.declared.shape.Shape.{Shape}
use Rattle.value.specs.declared.shape.Shape.TheVariants.{Unsigned, Signed, YearByte, Timed}
use Rattle.value.specs.declared.datum.Value.{Value}
use Rattle.value.specs.declared.datum.Value.TheVariants.{Year}
use Rattle.value.specs.Columns.{is_taken}
use Rattle.value.specs.Years.{year_of}
use Rattle.value.specs.Ops.{shape_for}
use Rattle.value.specs.Shapes.{need, decode, fault}
use Rattle.value.specs.Reading.{read_value, placed}
use Rattle.value.proofs.Readers.{got, narrow}
use Rattle.row_plan.specs.Runs.{value_numbers}
use Rattle.row_plan.proofs.NumberLaws.{unsigned_got, signed_got, timed_told}
use Rattle.wire.specs.Signed.{signed_of, twos_of}
use Rattle.row_plan.specs.Inner.Numbers.{numbered, one_listed}
use Rattle.row_plan.specs.Inner.Fast.{Reads, Took}
use Rattle.wire.proofs.Inverse.{le_one}
use Rattle.row_plan.proofs.EightLaws.{be_below, le_below, front, whole4, behind4, whole5, behind5, kept3}

-- ---- left
pub took_none : (sh : Shape) (eight slot : List ℕ) → Took sh eight slot slot None
took_none sh eight slot = refl

-- ---- by another name of its op
pub at_op : {op o : ℕ} (eight slot exit : List ℕ) (n : Option ℕ) → op ≡ o → Took (shape_for o) eight slot exit n
    → Took (shape_for op) eight slot exit n
at_op eight slot exit n e t = rw e t

-- ---- integers and years
-- the first of the eight bytes are the first of those that stand there
front_of : (k : ℕ) (s : List ℕ) (at : ℕ) {eight : List ℕ} → k ≤ 8 → eight ≡ take 8 (drop at s) → take k eight ≡ take k (drop at s)
front_of k s at l e = rw e (take-take k 8 (drop at s) l)

module _ {eight exit : List ℕ} where
  pub took_unsigned : (k x : ℕ) → k ≤ 8 → x ≡ le_value (take k eight) → exit ≡ one_listed 3 x → Reads (Unsigned k) eight k exit
  took_unsigned k x l e d = record {
    few = l;
    reads = λ s b at h q by p.
        rw d (sym (unsigned_got k by p s at x (omega arith) (e ∙ ap le_value (front_of k s at l q))));
  }

  pub took_signed : (k x : ℕ) → k ≤ 8 → x ≡ twos_of (2 ^ 64) (signed_of (256 ^ k) (le_value (take k eight))) → exit ≡ one_listed 2 x
      → Reads (Signed k) eight k exit
  took_signed k x l e d = record {
    few = l;
    reads = λ s b at h q by p.
        rw d (sym (signed_got k by p s at x (omega arith) (e ∙ ap (λ (b : List ℕ). twos_of (2 ^ 64) (signed_of (256 ^ k) (le_value b))) (front_of k s at l q))));
  }

  pub took_year : (x y : ℕ) → x ≡ get_or eight 0 0 → y ≡ year_of x → exit ≡ one_listed 7 y → Reads YearByte eight 1 exit
  unfolding is_taken need decode fault placed value_numbers
  took_year x y e ey d = record {
    few = omega arith;
    reads = λ s b at h q by p.
        let f : x ≡ le_value (take 1 (drop at s)) = e ∙ ap (λ (l : List ℕ). get_or l 0 0) q ∙ rw (drop-cons s at 0 (omega arith)) refl ∙ sym (le_one s at (omega arith)) in
        rw d (sym (ap (numbered by) (got YearByte p s at 1 (Year y) (at + 1) refl refl (omega arith) refl (ap Year (ey ∙ ap year_of f)) refl)));
  }

-- ---- temporals: whole part and fraction are at hand, and no part is out of range
timed_got : (k : Storage) (p : ℕ) (s : List ℕ) (at a f : ℕ) → at + temporal_size k ≤ length s
    → a ≡ whole_in k (take (temporal_size k) (drop at s)) → f ≡ units_in k (take (temporal_size k) (drop at s)) → fault_of k a f ≡ 0
    → read_temporal k p s at ≡ ok (temporal_of k a f, at + temporal_size k)
unfolding read_temporal temporal_fault temporal_decode
timed_got k p s at a f there x y z = rw (le-leb _ _ there, ← x, ← y, z)

module _ (k : Storage) (s : List ℕ) (at m w a f : ℕ) (em : m ≡ whole_bytes k) (lm : m ≤ 8) (ew : w ≡ fraction_size k) (lw : w ≤ 3)
    (big : is_big k ≡ true) (there : at + (m + w) ≤ length s) (ea : a ≡ be_value (take m (drop at s))) (la : a < 256 ^ m)
    (ef : f ≡ be_value (take w (drop (at + m) s))) (lf : f < 256 ^ w) (z : fault_of k a f ≡ 0) where
  size_is : m + w ≡ temporal_size k
  unfolding temporal_size
  size_is = rw (em, ew)

  pub big_got : (by p : ℕ)
      → numbered by (read_value (Timed k) p s at) ≡ ok (value_numbers by (Value.Temporal (temporal_of k a f)), at + (m + w))
  big_got by p =
      let l : w ≤ 8 = omega arith in
      let x = whole_big k s at a m em lm big (rw (narrow m lm) ea) (rw (narrow m lm) la) in
      let y = units_big k s at f m w em ew lw big (rw (narrow w l) ef) (rw (narrow w l) lf) in
      let t = timed_got k p s at a f (rw (← size_is) there) x.0 y.0 z in
      rw size_is (sym (timed_told k by p s at (sym t)))

-- ---- a time as one number of six bytes, less its offset: sign, whole part and fraction
abbrev Apart : ℕ → Type 0
Apart w = (a f q off : ℕ) → f < 256 ^ w → q ≡ a * 16777216 + f * 256 ^ (3 - w) → off ≡ q - 140737488355328 + (140737488355328 - q)
    → ((8388608 ≤ a) → (140737488355328 ≤ q) × (off / 16777216 ≡ a - 8388608) × (off % 16777216 / 256 ^ (3 - w) ≡ f))
    × ((a < 8388608) → (f ≡ 0) → (q < 140737488355328) × (off / 16777216 ≡ 8388608 - a) × (off % 16777216 / 256 ^ (3 - w) ≡ 0))
    × ((a < 8388608) → (0 < f) → (q < 140737488355328) × (off / 16777216 ≡ 8388608 - a - 1)
    × (off % 16777216 / 256 ^ (3 - w) ≡ 256 ^ w - f))

digits : (off n v : ℕ) → v < 16777216 → off ≡ n * 16777216 + v → (off / 16777216 ≡ n) × (off % 16777216 ≡ v)
digits off n v l e = (omega arith, omega arith)

apart0 : Apart 0
apart0 a f q off l e o = (
  λ h.
      let x : off ≡ (a - 8388608) * 16777216 + f * 16777216 = omega arith in
      let g = digits off (a - 8388608) (f * 16777216) (omega arith) x in
      (omega arith, g.0, omega (arith, g.1)),
  λ h z.
      let x : off ≡ (8388608 - a) * 16777216 + 0 = omega arith in
      let g = digits off (8388608 - a) 0 (omega arith) x in
      (omega arith, g.0, omega (arith, g.1)),
  λ h z.
      let x : off ≡ (8388608 - a - 1) * 16777216 + (1 - f) * 16777216 = omega arith in
      let g = digits off (8388608 - a - 1) ((1 - f) * 16777216) (omega arith) x in
      (omega arith, g.0, omega (arith, g.1)),
)

apart1 : Apart 1
apart1 a f q off l e o = (
  λ h.
      let x : off ≡ (a - 8388608) * 16777216 + f * 65536 = omega arith in
      let g = digits off (a - 8388608) (f * 65536) (omega arith) x in
      (omega arith, g.0, omega (arith, g.1)),
  λ h z.
      let x : off ≡ (8388608 - a) * 16777216 + 0 = omega arith in
      let g = digits off (8388608 - a) 0 (omega arith) x in
      (omega arith, g.0, omega (arith, g.1)),
  λ h z.
      let x : off ≡ (8388608 - a - 1) * 16777216 + (256 - f) * 65536 = omega arith in
      let g = digits off (8388608 - a - 1) ((256 - f) * 65536) (omega arith) x in
      (omega arith, g.0, omega (arith, g.1)),
)

apart2 : Apart 2
apart2 a f q off l e o = (
  λ h.
      let x : off ≡ (a - 8388608) * 16777216 + f * 256 = omega arith in
      let g = digits off (a - 8388608) (f * 256) (omega arith) x in
      (omega arith, g.0, omega (arith, g.1)),
  λ h z.
      let x : off ≡ (8388608 - a) * 16777216 + 0 = omega arith in
      let g = digits off (8388608 - a) 0 (omega arith) x in
      (omega arith, g.0, omega (arith, g.1)),
  λ h z.
      let x : off ≡ (8388608 - a - 1) * 16777216 + (65536 - f) * 256 = omega arith in
      let g = digits off (8388608 - a - 1) ((65536 - f) * 256) (omega arith) x in
      (omega arith, g.0, omega (arith, g.1)),
)

apart3 : Apart 3
apart3 a f q off l e o = (
  λ h.
      let x : off ≡ (a - 8388608) * 16777216 + f * 1 = omega arith in
      let g = digits off (a - 8388608) (f * 1) (omega arith) x in
      (omega arith, g.0, omega (arith, g.1)),
  λ h z.
      let x : off ≡ (8388608 - a) * 16777216 + 0 = omega arith in
      let g = digits off (8388608 - a) 0 (omega arith) x in
      (omega arith, g.0, omega (arith, g.1)),
  λ h z.
      let x : off ≡ (8388608 - a - 1) * 16777216 + (16777216 - f) * 1 = omega arith in
      let g = digits off (8388608 - a - 1) ((16777216 - f) * 1) (omega arith) x in
      (omega arith, g.0, omega (arith, g.1)),
)

signed_is : (w : ℕ) → w ≤ 3 → (a f q off : ℕ) → f < 256 ^ w → q ≡ a * 16777216 + f * 256 ^ (3 - w) → off ≡ q - 2 ^ 47 + (2 ^ 47 - q)
    → signed_time w a f
    ≡ record { negative = ltb q (2 ^ 47); whole = off / 16777216; micros = off % 16777216 / 256 ^ (3 - w) * unit_of w }
unfolding signed_time
signed_is w l a f q off lf eq eo =
    let t = widths Apart apart0 apart1 apart2 apart3 w l a f q off lf eq eo in
    dite (dec_le (2 ^ 23) a)
    (λ h. let r = t.0 h in rw (le-leb (2 ^ 23) a h, le-ltb q (2 ^ 47) r.0, r.1, r.2))
    (λ h. dite (dec_le f 0)
    (λ g. let r = t.1 (omega arith) (omega arith) in
    rw (lt-leb (2 ^ 23) a (omega arith), eq-eqb f 0 (omega arith), lt-ltb q (2 ^ 47) r.0, r.1, r.2, zero-mul (unit_of w)))
    (λ g. let r = t.2 (omega arith) (omega arith) in
    rw (lt-leb (2 ^ 23) a (omega arith), ne_eqb f 0 (λ z. omega arith), lt-ltb q (2 ^ 47) r.0, r.1, r.2)))

module _ {eight exit : List ℕ} where
  pub took_date : (n : ℕ) → n ≡ le_value (take 3 eight) → n / 32 / 16 ≤ 9999 → n / 32 % 16 ≤ 12
      → exit ≡ 8 ∷ (n / 32 / 16 ∷ (n / 32 % 16 ∷ (n % 32 ∷ (0 ∷ (0 ∷ (0 ∷ (0 ∷ []))))))) → Reads (Timed Newdate) eight 3 exit
  unfolding value_numbers temporal_of fault_of date_of temporal_size whole_bytes fraction_size is_big
  took_date n e y m d = record {
    few = omega arith;
    reads = λ s b at h q by p.
        let v : n ≡ le_value (take 3 (drop at s)) = e ∙ ap le_value (front_of 3 s at (omega arith) q) in
        let lt : n < 256 ^ 3 = rw v (le_below s b at 3 (omega arith)) in
        let x = whole_little Newdate s at n 3 refl (omega arith) refl v lt in
        let u = units_little Newdate (take (temporal_size Newdate) (drop at s)) refl in
        let day : Day (n / 32 / 16) (n / 32 % 16) (n % 32) = record { year = y; month = m; day = omega arith } in
        rw d (sym (timed_told Newdate by p s at (sym (timed_got Newdate p s at n 0 (omega arith) x.0 u.0 (day_none 0 day)))));
  }

  module _ (m0 w : ℕ) (ew : (w ≡ fraction_bytes m0) × (w ≤ 3)) (x : ℕ) (ex : x ≡ be_value eight) where
    pub took_seconds : (u : ℕ) → u ≡ x / 256 % 16777216 / 256 ^ (3 - w) * unit_of w → u ≤ 999999
        → exit ≡ 6 ∷ (x / 4294967296 ∷ (u ∷ (0 ∷ (0 ∷ (0 ∷ (0 ∷ (0 ∷ [])))))))
        → Reads (Timed (Timestamp2 m0)) eight (4 + w) exit
    unfolding value_numbers temporal_of fault_of seconds_of whole_bytes fraction_size is_big
    took_seconds u eu lu d = record {
      few = omega (arith, ew.1);
      reads = λ s b at h q by p.
          let xe : x ≡ be_value (take 8 (drop at s)) = ex ∙ ap be_value q in
          let f = be_value (take w (drop (at + 4) s)) in
          let ef : f ≡ x / 256 % 16777216 / 256 ^ (3 - w) = sym (rw (behind4 s b at x h xe) (front s b (at + 4) w ew.1 (omega arith))) in
          let uf : u ≡ f * unit_of (fraction_bytes m0) = rw (ef, ← ew.0) eu in
          let ck : Clock 0 0 0 0 (f * unit_of (fraction_bytes m0)) = record {
            hour = omega arith;
            minute = omega arith;
            second = omega arith;
            micros = rw uf at lu;
          } in
          let a : x / 4294967296 ≡ be_value (take 4 (drop at s)) = whole4 s b at x h xe in
          let r = big_got (Timestamp2 m0) s at 4 w (x / 4294967296) f refl (omega arith) ew.0 ew.1 refl (omega (arith, ew.1)) a
          (rw a (be_below s b at 4 (omega arith))) refl (be_below s b (at + 4) w (omega (arith, ew.1))) (clock_none ck) in
          rw (d, uf) (r by p);
    }

    pub took_datetime : (n u : ℕ) → 2 ^ 39 ≤ x / 16777216 → n ≡ x / 16777216 - 2 ^ 39 → u ≡ x % 16777216 / 256 ^ (3 - w) * unit_of w
        → n / 64 / 64 / 32 / 32 / 13 ≤ 9999 → in_clock 23 (n / 64 / 64 % 32) (n / 64 % 64) (n % 64) u ≡ true
        → exit ≡ 9 ∷ (n / 64 / 64 / 32 / 32 / 13 ∷ (n / 64 / 64 / 32 / 32 % 13 ∷ (n / 64 / 64 / 32 % 32 ∷ (n / 64 / 64 % 32
        ∷ (n / 64 % 64 ∷ (n % 64 ∷ (u ∷ []))))))) → Reads (Timed (Datetime2 m0)) eight (5 + w) exit
    unfolding value_numbers temporal_of fault_of datetime2_of datetime2_fault signed_datetime datetime_by whole_bytes fraction_size is_big
    took_datetime n u big en eu ly ck d = record {
      few = omega (arith, ew.1);
      reads = λ s b at h q by p.
          let xe : x ≡ be_value (take 8 (drop at s)) = ex ∙ ap be_value q in
          let f = be_value (take w (drop (at + 5) s)) in
          let ef : f ≡ x % 16777216 / 256 ^ (3 - w) = sym (rw (behind5 s b at x h xe) (front s b (at + 5) w ew.1 (omega arith))) in
          let uf : u ≡ f * unit_of (fraction_bytes m0) = rw (ef, ← ew.0) eu in
          let c = clock_of 23 (n / 64 / 64 % 32) (n / 64 % 64) (n % 64) u ck in
          let y : Day (n / 64 / 64 / 32 / 32 / 13) (n / 64 / 64 / 32 / 32 % 13) (n / 64 / 64 / 32 % 32) = record {
            year = ly;
            month = omega arith;
            day = omega arith;
          } in
          let a : x / 16777216 ≡ be_value (take 5 (drop at s)) = whole5 s b at x h xe in
          let z : fault_of (Datetime2 m0) (x / 16777216) f ≡ 0 =
          rw (le-ltb (x / 16777216) (2 ^ 39) big, ← en, ← uf) (day_none _ y ∙ clock_none c) in
          let r = big_got (Datetime2 m0) s at 5 w (x / 16777216) f refl (omega arith) ew.0 ew.1 refl (omega (arith, ew.1)) a
          (rw a (be_below s b at 5 (omega arith))) refl (be_below s b (at + 5) w (omega (arith, ew.1))) z in
          rw d (rw (en, uf) (r by p));
    }

    pub took_time : (v off n u i : ℕ) → v ≡ x / 65536 / 256 ^ (3 - w) * 256 ^ (3 - w) → off ≡ v - 2 ^ 47 + (2 ^ 47 - v)
        → n ≡ off / 16777216 → u ≡ off % 16777216 / 256 ^ (3 - w) * unit_of w
        → in_clock 838 (n / 64 / 64) (n / 64 % 64) (n % 64) u ≡ true
        → i ≡ cond (ltb v (2 ^ 47)) 1 0
        → exit ≡ 10 ∷ (i ∷ (n / 64 / 64 ∷ (n / 64 % 64 ∷ (n % 64 ∷ (u ∷ (0 ∷ (0 ∷ [])))))))
        → Reads (Timed (Time2 m0)) eight (3 + w) exit
    unfolding value_numbers temporal_of fault_of time2_of time_by whole_bytes fraction_size is_big
    took_time v off n u i ev eo en eu ck ei d = record {
      few = omega (arith, ew.1);
      reads = λ s b at h q by p.
          let xe : x ≡ be_value (take 8 (drop at s)) = ex ∙ ap be_value q in
          let a = be_value (take 3 (drop at s)) in
          let f = be_value (take w (drop (at + 3) s)) in
          let lf = be_below s b (at + 3) w (omega (arith, ew.1)) in
          let g : signed_time (fraction_bytes m0) a f ≡ record { negative = ltb v (2 ^ 47); whole = n; micros = u } =
          rw (← ew.0, en, eu) (signed_is w ew.1 a f v off lf (ev ∙ kept3 s b at x h xe w ew.1) eo) in
          let c = clock_of 838 (n / 64 / 64) (n / 64 % 64) (n % 64) u ck in
          let z : fault_of (Time2 m0) a f ≡ 0 = rw g (clock_none c) in
          let r = big_got (Time2 m0) s at 3 w a f refl (omega arith) ew.0 ew.1 refl (omega (arith, ew.1)) refl
          (be_below s b at 3 (omega arith)) refl lf z in
          rw d (rw ei (rw g at (r by p)));
    }
