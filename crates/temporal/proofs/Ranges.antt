-- Ranges: a judgement with no part out of range says that each is in it, and the other way round; and so does the domain's test. Assumes
-- nothing.
use Rattle.std.specs.Prelude.{Result, Ok, Err, IfOk, IfErr, is_ok}
use Prim.Native.Nat.{ℕ, suc, ◌≤◌, ◌<◌}
use mathlib.Core.Path.{◌≡◌, refl, sym, ◌∙◌}
use mathlib.Core.Bool.{Bool, true, false, false≢true}
use mathlib.Core.Logic.{dite}
use native.Mathlib.Decide.{dec_le}
use native.Mathlib.Omega.{arith}
use borrow.Author.Tests.{le-leb, lt-leb, leb-true, eq-eqb, ne_eqb}
use lib.Dec.{eqb}
use Rattle.wire.proofs.Outcomes.{both_true}
use Rattle.temporal.specs.Ranges.{over, clock_fault, day_fault, in_day, in_clock}

-- a part, and the others behind it
over_clear : (v top p o : ℕ) → over v top (suc p) o ≡ 0 → (v ≤ top) × (o ≡ 0)
over_clear v top p o e =
    dite (dec_le v top)
    (λ a. (a, simp (le-leb v top a) at e))
    (λ a. let z : suc p ≡ 0 = simp (lt-leb v top (omega arith)) at e in absurd (omega arith))

-- the ranges themselves
pub record Clock (top h m s u : ℕ) : Type 0 where
  pub hour : h ≤ top
  pub minute : m ≤ 59
  pub second : s ≤ 59
  pub micros : u ≤ 999999

-- of a date
pub record Day (y mo d : ℕ) : Type 0 where
  pub year : y ≤ 9999
  pub month : mo ≤ 12
  pub day : d ≤ 31

-- what each of the two judges says of a clock
pub clock_clear : (top h m s u : ℕ) → clock_fault top h m s u ≡ 0 → Clock top h m s u
unfolding clock_fault
clock_clear top h m s u e =
    let a = over_clear h top 3 _ e in
    let b = over_clear m 59 4 _ a.1 in
    let c = over_clear s 59 5 _ b.1 in
    let d = over_clear u 999999 6 _ c.1 in
    record { hour = a.0; minute = b.0; second = c.0; micros = d.0 }

-- parts in range: no fault
pub clock_none : {top h m s u : ℕ} → Clock top h m s u → clock_fault top h m s u ≡ 0
unfolding clock_fault
clock_none {top} {h} {m} {s} {u} c =
    simp (le-leb h top c.hour, le-leb m 59 c.minute, le-leb s 59 c.second, le-leb u 999999 c.micros)

-- parts in range: the domain's test holds
pub clock_in : {top h m s u : ℕ} → Clock top h m s u → in_clock top h m s u ≡ true
unfolding in_clock
clock_in {top} {h} {m} {s} {u} c =
    simp (le-leb h top c.hour, le-leb m 59 c.minute, le-leb s 59 c.second, le-leb u 999999 c.micros)

-- and where that test holds they are in range
pub clock_of : (top h m s u : ℕ) → in_clock top h m s u ≡ true → Clock top h m s u
unfolding in_clock
clock_of top h m s u e =
    let a = both_true _ _ e in
    let b = both_true _ _ a.1 in
    let d = both_true _ _ b.1 in
    record { hour = leb-true _ _ a.0; minute = leb-true _ _ b.0; second = leb-true _ _ d.0; micros = leb-true _ _ d.1 }

-- and of a day; its parts are judged before what follows
pub day_clear : (y mo d o : ℕ) → day_fault y mo d o ≡ 0 → Day y mo d × (o ≡ 0)
unfolding day_fault
day_clear y mo d o e =
    let a = over_clear y 9999 0 _ e in
    let b = over_clear mo 12 1 _ a.1 in
    let c = over_clear d 31 2 _ b.1 in
    (record { year = a.0; month = b.0; day = c.0 }, c.1)

-- parts in range: what follows decides
pub day_none : {y mo d : ℕ} → (o : ℕ) → Day y mo d → day_fault y mo d o ≡ o
unfolding day_fault
day_none {y} {mo} {d} o c = simp (le-leb y 9999 c.year, le-leb mo 12 c.month, le-leb d 31 c.day)

-- parts in range: the domain's test holds
pub day_in : {y mo d : ℕ} → Day y mo d → in_day y mo d ≡ true
unfolding in_day
day_in {y} {mo} {d} c = simp (le-leb y 9999 c.year, le-leb mo 12 c.month, le-leb d 31 c.day)

-- and where that test holds they are in range
pub day_of : (y mo d : ℕ) → in_day y mo d ≡ true → Day y mo d
unfolding in_day
day_of y mo d e =
    let a = both_true _ _ e in
    let b = both_true _ _ a.1 in
    record { year = leb-true _ _ a.0; month = leb-true _ _ b.0; day = leb-true _ _ b.1 }

-- where a date's own part is out of range, that part is the first
pub day_first : (y mo d o : ℕ) → (day_fault y mo d 0 ≡ 0 → ⊥) → day_fault y mo d o ≡ day_fault y mo d 0
unfolding day_fault
day_first y mo d o h =
    dite (dec_le y 9999) (λ a. dite (dec_le mo 12) (λ b. dite (dec_le d 31)
    (λ c. absurd (h (simp (le-leb y 9999 a, le-leb mo 12 b, le-leb d 31 c))))
    (λ c. simp (lt-leb d 31 (omega arith))))
    (λ b. simp (lt-leb mo 12 (omega arith))))
    (λ a. simp (lt-leb y 9999 (omega arith)))

-- and it is told
pub day_out : (y mo d o p : ℕ) → p ≡ day_fault y mo d 0 → 0 < p → day_fault y mo d o ≡ p
day_out y mo d o p e h = day_first y mo d o (λ z. omega arith) ∙ sym e

-- the two judges agree: no part is out of range exactly where all are in it
bool_same : (a : Bool) (n : ℕ) → (a ≡ true → n ≡ 0) → (n ≡ 0 → a ≡ true) → a ≡ eqb n 0
bool_same true n f g = sym (eq-eqb n 0 (f refl))
bool_same false n f g = sym (ne_eqb n 0 (λ e. false≢true (g e)))

-- of a clock
pub clock_same : (top h m s u : ℕ) → in_clock top h m s u ≡ eqb (clock_fault top h m s u) 0
clock_same top h m s u = bool_same _ _ (λ e. clock_none (clock_of top h m s u e)) (λ e. clock_in (clock_clear top h m s u e))

-- the same of a day
pub day_same : (y mo d : ℕ) → in_day y mo d ≡ eqb (day_fault y mo d 0) 0
day_same y mo d = bool_same _ _ (λ e. day_none 0 (day_of y mo d e)) (λ e. day_in (day_clear y mo d 0 e).0)

-- a judge's answer says whether there is a fault
pub judged_ok : (r : Result (Unit {0}) ℕ) (n : ℕ) → IfOk r (λ _. n ≡ 0) → IfErr r (λ part. (part ≡ n) × (0 < part)) → is_ok r ≡ eqb n 0
judged_ok (Ok x) n a b = sym (eq-eqb n 0 a)
judged_ok (Err p) n a b = sym (ne_eqb n 0 (λ e. omega arith))
