-- The first part out of range: what is told is that part, exactly so; and which parts bytes of a storage can tell. Assumes nothing.
use Prim.Native.Nat.{ℕ, ◌-◌, ◌/◌, ◌%◌, ◌*◌, ◌^◌, ◌≤◌, ◌<◌}
use mathlib.Core.Path.{◌≡◌, refl, sym, ap, subst, ◌∙◌}
use mathlib.Core.Bool.{Bool, true, false, cond, or-true}
use mathlib.Core.List.{List, [], ◌∷◌, ◌++◌}
use native.Mathlib.Nat.{zero-mul}
use native.Mathlib.Omega.{arith}
use borrow.Author.Tests.{le-leb, lt-leb, leb-true, leb-false, lt-ltb, ltb-true, eqb-true}
use lib.ListN.{length}
use lib.Dec.{leb, ltb, eqb}
use Rattle.wire.specs.Number.{Bytes, is_among}
use Rattle.temporal.specs.declared.storage.Storage.{Storage}
use Rattle.temporal.specs.declared.storage.Storage.TheVariants.{Timestamp, OldTime, OldDatetime, Newdate, Timestamp2, Datetime2}
use Rattle.temporal.specs.declared.storage.Storage.TheVariants.{Time2}
use Rattle.temporal.specs.declared.misc.SignedTime.{SignedTime}
use Rattle.temporal.specs.declared.parts.Temporal.{Temporal}
use Rattle.temporal.specs.Fraction.{fraction_bytes, unit_of}
use Rattle.temporal.specs.Ranges.{over, clock_fault, day_fault}
use Rattle.temporal.specs.Times.{time_by, signed_time, time2_of}
use Rattle.temporal.specs.Datetimes.{datetime_by, signed_datetime, datetime2_of, datetime2_fault, datetime_of, date_of, seconds_of}
use Rattle.temporal.specs.Storage.{fraction_size, temporal_of, fault_of}
use Rattle.temporal.specs.Reading.{temporal_size, whole_in, units_in, temporal_decode, temporal_fault}
use Rattle.temporal.specs.Firsts.{PartRange, parts_in, InRange, BelowZero, below_zero, FirstOut, is_below, is_out, with_fraction}
use Rattle.temporal.specs.Firsts.{tellable}
use Rattle.temporal.proofs.Forms.{units_few}

-- ---- the first of some parts, or 0
first_over : List PartRange → ℕ
first_over [] = 0
first_over (p ∷ ps) = over p.value p.most p.number (first_over ps)

-- a datetime below zero, as a test
is_below_lem : Storage → ℕ → Bool
is_below_lem Timestamp a = false
is_below_lem OldTime a = false
is_below_lem OldDatetime a = false
is_below_lem Newdate a = false
is_below_lem (Timestamp2 m0) a = false
is_below_lem (Datetime2 m0) a = ltb a (2 ^ 39)
is_below_lem (Time2 m0) a = false

-- what is told is the first of these
by_parts : (k : Storage) (a f : ℕ) → fault_of k a f ≡ cond (is_below_lem k a) 8 (first_over (parts_in (temporal_of k a f)))
unfolding fault_of temporal_of parts_in first_over is_below_lem clock_fault day_fault datetime2_fault datetime2_of signed_datetime datetime_of datetime_by
    seconds_of unit_of
by_parts Timestamp a f = refl
by_parts OldTime a f = refl
by_parts OldDatetime a f = refl
by_parts Newdate a f = refl
by_parts (Timestamp2 m0) a f = refl
by_parts (Datetime2 m0) a f = refl
by_parts (Time2 m0) a f = refl

-- ---- a split of the parts at the first that is out of range
record FirstAt (ps : List PartRange) : Type 0 where
  before : List PartRange
  p : PartRange
  behind : List PartRange
  split : ps ≡ before ++ (p ∷ behind)
  within : InRange before
  out : p.most < p.value
  told : first_over ps ≡ p.number

first_at : (ps : List PartRange) → (first_over ps ≡ 0 → ⊥) → FirstAt ps
unfolding first_over InRange
first_at [] n = absurd (n refl)
first_at (q ∷ ps) n = go (λ m. first_at ps m) (leb q.value q.most) refl
  where
    go : ((first_over ps ≡ 0 → ⊥) → FirstAt ps) → (t : Bool) → leb q.value q.most ≡ t → FirstAt (q ∷ ps)
    go again true e =
        let x = again (λ z. n (rw e z)) in
        record {
          before = q ∷ x.before;
          p = x.p;
          behind = x.behind;
          split = ap (λ (l : List PartRange). q ∷ l) x.split;
          within = (leb-true q.value q.most e, x.within);
          out = x.out;
          told = rw e x.told;
        }
    go again false e =
        record { before = []; p = q; behind = ps; split = refl; within = tt; out = leb-false q.value q.most e; told = rw e }

at_first : (before : List PartRange) (p : PartRange) (behind : List PartRange) → InRange before → p.most < p.value
    → first_over (before ++ (p ∷ behind)) ≡ p.number
unfolding first_over InRange
at_first [] p behind h l = rw (lt-leb p.value p.most l)
at_first (q ∷ before) p behind h l = rw (le-leb q.value q.most h.0) (at_first before p behind h.1 l)

-- ---- below zero, as it is said and as a test
below_true : (k : Storage) (b : List ℕ) → is_below_lem k (whole_in k b) ≡ true → BelowZero k b
unfolding is_below_lem
below_true (Datetime2 m0) b e = below_zero (ltb-true (whole_in (Datetime2 m0) b) (2 ^ 39) e)
below_true Timestamp b e = let z : ◌≡◌ {A = ℕ} 0 1 = cc in absurd (omega arith)
below_true OldTime b e = let z : ◌≡◌ {A = ℕ} 0 1 = cc in absurd (omega arith)
below_true OldDatetime b e = let z : ◌≡◌ {A = ℕ} 0 1 = cc in absurd (omega arith)
below_true Newdate b e = let z : ◌≡◌ {A = ℕ} 0 1 = cc in absurd (omega arith)
below_true (Timestamp2 m0) b e = let z : ◌≡◌ {A = ℕ} 0 1 = cc in absurd (omega arith)
below_true (Time2 m0) b e = let z : ◌≡◌ {A = ℕ} 0 1 = cc in absurd (omega arith)

below_is : {k : Storage} {b : List ℕ} → BelowZero k b → is_below_lem k (whole_in k b) ≡ true
unfolding is_below_lem
below_is {k} {b} (below_zero {m0} h) = lt-ltb (whole_in (Datetime2 m0) b) (2 ^ 39) h

not_below : {k : Storage} {b : List ℕ} → (BelowZero k b → ⊥) → is_below_lem k (whole_in k b) ≡ false
not_below {k} {b} n = go (is_below_lem k (whole_in k b)) refl
  where
    go : (t : Bool) → is_below_lem k (whole_in k b) ≡ t → t ≡ false
    go true e = absurd (n (below_true k b e))
    go false e = refl

-- ---- what is told is the first part out of range
pub first_out : (k : Storage) (b : List ℕ) → (temporal_fault k b ≡ 0 → ⊥) → FirstOut k b (temporal_fault k b)
unfolding temporal_fault temporal_decode
first_out k b n = go (is_below_lem k (whole_in k b)) refl
  where
    parts : List PartRange
    parts = parts_in (temporal_of k (whole_in k b) (units_in k b))

    told : {t : Bool} → is_below_lem k (whole_in k b) ≡ t → temporal_fault k b ≡ cond t 8 (first_over parts)
    told e = by_parts k (whole_in k b) (units_in k b) ∙ rw e

    go : (t : Bool) → is_below_lem k (whole_in k b) ≡ t → FirstOut k b (temporal_fault k b)
    go true e = subst (FirstOut k b) (sym (told e)) (is_below (below_true k b e))
    go false e =
        let x = first_at parts (λ z. n (told e ∙ z)) in
        let above : BelowZero k b → ⊥ = λ y. let z : true ≡ false = sym (below_is y) ∙ e in let w : ◌≡◌ {A = ℕ} 0 1 = cc in omega arith in
        subst (FirstOut k b) (sym (told e ∙ x.told)) (is_out x.before x.p x.behind above x.split x.within x.out)

-- and the first part out of range is told
pub out_first : {k : Storage} {b : List ℕ} {part : ℕ} → FirstOut k b part → temporal_fault k b ≡ part
unfolding temporal_fault temporal_decode
out_first {k} {b} (is_below z) = by_parts k (whole_in k b) (units_in k b) ∙ rw (below_is z)
out_first {k} {b} (is_out before p behind n e h l) =
    by_parts k (whole_in k b) (units_in k b) ∙ rw (not_below n, e) (at_first before p behind h l)

-- ---- every part has a number from 1 on
Numbered : List PartRange → Type 0
Numbered [] = Unit {0}
Numbered (p ∷ ps) = (1 ≤ p.number) × Numbered ps

numbered : (t : Temporal) → Numbered (parts_in t)
unfolding Numbered parts_in
numbered (Temporal.Seconds t) = (omega arith, tt)
numbered (Temporal.Date d) = (omega arith, (omega arith, (omega arith, tt)))
numbered (Temporal.Datetime m) = (omega arith, (omega arith, (omega arith, (omega arith, (omega arith, (omega arith, (omega arith, tt)))))))
numbered (Temporal.Time t) = (omega arith, (omega arith, (omega arith, (omega arith, tt))))

numbered_at : (before : List PartRange) (p : PartRange) (behind : List PartRange) → Numbered (before ++ (p ∷ behind)) → 1 ≤ p.number
unfolding Numbered
numbered_at [] p behind h = h.0
numbered_at (q ∷ before) p behind h = numbered_at before p behind h.1

pub some_part : {k : Storage} {b : List ℕ} {part : ℕ} → FirstOut k b part → 1 ≤ part
some_part (is_below z) = omega arith
some_part {k} {b} (is_out before p behind n e h l) = numbered_at before p behind (subst Numbered e (numbered (temporal_decode k b)))

-- ---- no part has a greater number than 8
most : (t : Bool) {x y : ℕ} → x ≤ 8 → y ≤ 8 → cond t x y ≤ 8
most true h l = h
most false h l = l

clock_most : (top h m s u : ℕ) → clock_fault top h m s u ≤ 8
unfolding clock_fault
clock_most top h m s u =
    most (leb h top) (most (leb m 59) (most (leb s 59) (most (leb u 999999) (omega arith) (omega arith)) (omega arith)) (omega arith))
    (omega arith)

day_most : (y mo d o : ℕ) → o ≤ 8 → day_fault y mo d o ≤ 8
unfolding day_fault
day_most y mo d o h = most (leb y 9999) (most (leb mo 12) (most (leb d 31) h (omega arith)) (omega arith)) (omega arith)

fault_of_most : (k : Storage) (a f : ℕ) → fault_of k a f ≤ 8
unfolding fault_of datetime2_fault
fault_of_most Timestamp a f = omega arith
fault_of_most OldTime a f = clock_most 838 _ _ _ _
fault_of_most OldDatetime a f = day_most _ _ _ _ (clock_most 23 _ _ _ _)
fault_of_most Newdate a f = day_most _ _ _ 0 (omega arith)
fault_of_most (Timestamp2 m0) a f = clock_most 0 0 0 0 _
fault_of_most (Datetime2 m0) a f =
    most (signed_datetime (fraction_bytes m0) a f).negative (omega arith) (day_most _ _ _ _ (clock_most 23 _ _ _ _))
fault_of_most (Time2 m0) a f = clock_most 838 _ _ _ _

pub fault_most : (k : Storage) (b : List ℕ) → temporal_fault k b ≤ 8
unfolding temporal_fault
fault_most k b = fault_of_most k (whole_in k b) (units_in k b)

-- ---- which parts are told: none, or one among some
data Within (ps : List ℕ) (n : ℕ) : Type 0 where
  none : n ≡ 0 → Within ps n
  among : is_among n ps ≡ true → Within ps n

over_within : {ps : List ℕ} (v top part : ℕ) {others : ℕ} → is_among part ps ≡ true → Within ps others → Within ps (over v top part others)
over_within {ps} v top part {others} p o = go (leb v top)
  where
    go : (t : Bool) → Within ps (cond t others part)
    go true = o
    go false = among p

over_never : {ps : List ℕ} (v top part : ℕ) {others : ℕ} → v ≤ top → Within ps others → Within ps (over v top part others)
over_never v top part h o = rw (le-leb v top h) o

wider : {ps : List ℕ} {n : ℕ} (q : ℕ) → Within ps n → Within (q ∷ ps) n
unfolding is_among
wider q (none e) = none e
wider {ps} {n} q (among e) = among (rw e (or-true (eqb n q)))

-- a fraction that is not stored is zero
fraction_within : (m0 u : ℕ) → (fraction_bytes m0 ≡ 0 → u ≡ 0) → Within (with_fraction m0) (over u 999999 7 0)
unfolding is_among
fraction_within m0 u h = go (eqb (fraction_bytes m0) 0) refl
  where
    go : (t : Bool) → eqb (fraction_bytes m0) 0 ≡ t → Within (cond t [] (7 ∷ [])) (over u 999999 7 0)
    go true e = let z = h (eqb-true (fraction_bytes m0) 0 e) in rw z (none refl)
    go false e = over_within u 999999 7 refl (none refl)

no_units : (m0 f : ℕ) → f < 256 ^ fraction_bytes m0 → fraction_bytes m0 ≡ 0 → f ≡ 0
no_units m0 f h e = let l : f < 256 ^ 0 = subst (λ (w : ℕ). f < 256 ^ w) e h in omega arith

no_micros : (w a : ℕ) → (signed_time w a 0).micros ≡ 0
unfolding signed_time
no_micros w a = go (leb 8388608 a)
  where
    go : (t : Bool) → (cond {A = SignedTime} t record { negative = false; whole = a - 8388608; micros = 0 * unit_of w }
        record { negative = true; whole = 8388608 - a; micros = 0 }).micros ≡ 0
    go true = zero-mul (unit_of w)
    go false = refl

clock_within : {ps : List ℕ} (top h m s u : ℕ) → Within ps (over u 999999 7 0)
    → Within (4 ∷ 5 ∷ 6 ∷ ps) (clock_fault top h m s u)
unfolding clock_fault is_among
clock_within top h m s u o =
    over_within h top 4 refl (over_within m 59 5 refl (over_within s 59 6 refl (wider 4 (wider 5 (wider 6 o)))))

told_within : (k : Storage) (a f : ℕ) → f < 256 ^ fraction_size k → Within (tellable k) (fault_of k a f)
unfolding fault_of tellable fraction_size is_among clock_fault day_fault datetime2_fault datetime_of datetime_by time_by date_of seconds_of time2_of
    signed_datetime
told_within Timestamp a f h = none refl
told_within OldTime a f h = clock_within {ps = []} 838 (a / 100 / 100) (a / 100 % 100) (a % 100) 0 (none refl)
told_within OldDatetime a f h =
    over_within (a / 100 / 100 / 100 / 100 / 100) 9999 1 refl
    (over_within (a / 100 / 100 / 100 / 100 % 100) 12 2 refl
    (over_within (a / 100 / 100 / 100 % 100) 31 3 refl
    (wider 1 (wider 2 (wider 3 (clock_within {ps = []} 23 (a / 100 / 100 % 100) (a / 100 % 100) (a % 100) 0 (none refl)))))))
told_within Newdate a f h =
    over_within (a / 32 / 16) 9999 1 refl
    (over_within (a / 32 % 16) 12 2 refl
    (over_never (a % 32) 31 3 (omega arith) (none refl)))
told_within (Timestamp2 m0) a f h =
    fraction_within m0 (f * unit_of (fraction_bytes m0)) (λ e. rw (no_units m0 f h e) (zero-mul (unit_of (fraction_bytes m0))))
told_within (Datetime2 m0) a f h = go (ltb a 549755813888)
  where
    n : ℕ
    n = a - 549755813888

    u : ℕ
    u = f * unit_of (fraction_bytes m0)

    clock : Within (4 ∷ 5 ∷ 6 ∷ with_fraction m0) (clock_fault 23 (n / 64 / 64 % 32) (n / 64 % 64) (n % 64) u)
    clock =
        clock_within 23 (n / 64 / 64 % 32) (n / 64 % 64) (n % 64) u
        (fraction_within m0 u (λ e. rw (no_units m0 f h e) (zero-mul (unit_of (fraction_bytes m0)))))

    go : (t : Bool) → Within (8 ∷ 1 ∷ 4 ∷ 5 ∷ 6 ∷ with_fraction m0)
        (cond t 8 (over (n / 64 / 64 / 32 / 32 / 13) 9999 1 (over (n / 64 / 64 / 32 / 32 % 13) 12 2 (over (n / 64 / 64 / 32 % 32) 31 3
        (clock_fault 23 (n / 64 / 64 % 32) (n / 64 % 64) (n % 64) u)))))
    go true = among refl
    go false =
        over_within (n / 64 / 64 / 32 / 32 / 13) 9999 1 refl
        (over_never (n / 64 / 64 / 32 / 32 % 13) 12 2 (omega arith)
        (over_never (n / 64 / 64 / 32 % 32) 31 3 (omega arith) (wider 8 (wider 1 clock))))
told_within (Time2 m0) a f h =
    let n = (signed_time (fraction_bytes m0) a f).whole in
    clock_within 838 (n / 64 / 64) (n / 64 % 64) (n % 64) (signed_time (fraction_bytes m0) a f).micros
    (fraction_within m0 (signed_time (fraction_bytes m0) a f).micros
    (λ e. let z = no_units m0 f h e in rw z (no_micros (fraction_bytes m0) a)))

pub parts_told : (k : Storage) (b : List ℕ) → length b ≡ temporal_size k → Bytes b → (temporal_fault k b ≡ 0 → ⊥)
    → is_among (temporal_fault k b) (tellable k) ≡ true
unfolding temporal_fault
parts_told k b n h z = go (told_within k (whole_in k b) (units_in k b) (units_few k b n h))
  where
    go : Within (tellable k) (temporal_fault k b) → is_among (temporal_fault k b) (tellable k) ≡ true
    go (none e) = absurd (z e)
    go (among e) = e
