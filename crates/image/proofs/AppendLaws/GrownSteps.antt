-- Bytes put behind an image, for one step, from any cursor, made up or not. Assumes nothing.
use Prim.Native.Nat.{ℕ, ◌+◌, ◌-◌, ◌≤◌, ◌<◌}
use mathlib.Core.Path.{◌≡◌, refl, sym, ap, subst, ◌∙◌}
use mathlib.Core.Bool.{Bool, true, false}
use mathlib.Core.Logic.{dite}
use mathlib.Core.List.{List, [], ◌∷◌, ◌++◌}
use native.Mathlib.Decide.{dec_le}
use native.Mathlib.Omega.{arith}
use borrow.Author.Tests.{eqb-true, lt-ltb, le-ltb}
use lib.Dec.{eqb}
use lib.ListN.{length, drop, length-append}
use lib.Seq.{drop-append-le}
use Rattle.wire.specs.declared.refusal.Refusal.{Refusal}
use Rattle.wire.specs.Outcome.{Outcome, ok, refused, refuse, after, Stays, same as Stays-same, ended}
use Rattle.wire.specs.Bits.{bytes_for, bit_lsb0}
use Rattle.value.specs.declared.shape.Shape.{Shape}
use Rattle.value.specs.declared.datum.Value.{Value}
use Rattle.value.specs.Data.{Datum}
use Rattle.value.specs.Reading.{Fails, short, range as out_of, read_datum, read_value, placed}
use Rattle.value.proofs.Laws.{fails}
use Rattle.value.proofs.Appends.{datum_more}
use Rattle.record.specs.Records.{count_of, read_record, record_valid}
use Rattle.image.specs.declared.cursor.Cursor.{Cursor}
use Rattle.image.specs.Present.{Present, count_bits, present_from}
use Rattle.image.specs.Split.{slots, slots_at, cursor, head_of, ColumnStepped, value, step_over, slots_left, step_from}
use Rattle.image.specs.Grown.{Later, answer, nine, ten, Filled, told, still, range, Grows, same, more}
use Rattle.image.proofs.CursorLaws.Heads.{Over, null_bytes, head_is}
use Rattle.image.proofs.StepLaws.Steps.{step_goes}
use Rattle.image.proofs.StepLaws.Splits.{Each, Good}
use Rattle.image.proofs.PresenceLaws.Presents.{present_count, good_from, slots_same, bit_front}
use Rattle.image.proofs.AppendLaws.Rises.{Rising, rising_less, rising_from, fails_nine}

-- ---- the slots are told by the null bits
pub slots_more : (r p im t : List ℕ) (j : ℕ) → j ≤ count_of r → null_bytes r p ≤ length im → slots_at r p (im ++ t) j ≡ slots_at r p im j
unfolding slots_at
slots_more r p im t j h l =
    let n = count_of r in
    let e : j + (n - j) ≡ n = omega arith in
    let c : count_bits p j + length (present_from (n - j) r p j) ≡ count_bits p n = present_count (n - j) r p j ∙ ap (count_bits p) e in
    slots_same (present_from (n - j) r p j) (count_bits p j) (im ++ t) im (λ i b. bit_front im t i (omega arith))

-- ---- a value at its place, in a step
abbrev stepped : ℕ → ℕ → Outcome (Datum × ℕ) → Outcome ColumnStepped
stepped j o x =
    after (after {B = Value × ℕ} x (λ x. ok (placed (o + x.1) x.0, o + x.1))) (λ x. ok (value j x.0 (cursor (j + 1) x.1)))

-- it is the column's value, or 9 or 10 there
filled_value : (sh : Shape) (j : ℕ) (s : List ℕ) (o : ℕ) → (x : Outcome (Datum × ℕ)) → ((w : Refusal) → x ≡ refused w → Fails sh s j w)
    → Filled j (stepped j o x)
filled_value sh j s o (ok x) f = told _ _
filled_value sh j s o (refused w) f = go (f w refl)
  where
    go : {w : Refusal} → Fails sh s j w → Filled j (refused w)
    go (short l) = still
    go (out_of l e) = range _

later_filled : (j k : ℕ) {o : Outcome ColumnStepped} → j ≤ k → Filled k o → Later j o
later_filled j k h (told v c) = answer _
later_filled j k h still = nine k h
later_filled j k h (range part) = ten k part h

-- only a 9 may change
value_grows : (sh : Shape) (j : ℕ) (s t : List ℕ) (o : ℕ) (x y : Outcome (Datum × ℕ)) → Stays 9 x y
    → ((w : Refusal) → x ≡ refused w → Fails sh s j w)
    → ((w : Refusal) → y ≡ refused w → Fails sh (s ++ t) j w)
    → Grows Filled (stepped j o x) (stepped j o y)
value_grows sh j s t o _ _ (Stays-same x) f g = same _
value_grows sh j s t o _ _ (ended w y n) f g =
    subst (λ (z : Refusal). Grows Filled (refused z) (stepped j o y)) (sym (fails_nine (f w refl) n))
    (more j (stepped j o y) (filled_value sh j (s ++ t) o y g))

-- ---- a step over slots
pub over_grows : (cs : List Present) (k : ℕ) (nulls im t : List ℕ) (o : ℕ) → Each Good cs → o ≤ length im
    → Grows Filled (step_over (slots cs k nulls) im o) (step_over (slots cs k nulls) (im ++ t) o)
unfolding step_over slots Each read_value
over_grows [] k nulls im t o g h = same _
over_grows (c ∷ cs) k nulls im t o g h = go (bit_lsb0 nulls k) refl
  where
    sh : Shape
    sh = c.shape

    j : ℕ
    j = c.column

    go : (b : Bool) → bit_lsb0 nulls k ≡ b
        → Grows Filled (step_over (slots (c ∷ cs) k nulls) im o) (step_over (slots (c ∷ cs) k nulls) (im ++ t) o)
    go true e = rw e (same _)
    go false e =
        rw (e, drop-append-le o im t h)
        (value_grows sh j (drop o im) t o (read_datum sh j (drop o im)) (read_datum sh j (drop o im ++ t)) (datum_more sh j (drop o im) t)
        (λ w q. fails sh j (drop o im) w g.0.taken q)
        (λ w q. fails sh j (drop o im ++ t) w g.0.taken q))

-- whatever it answers, it refuses at no earlier column
later_over : (cs : List Present) (k j : ℕ) (nulls im : List ℕ) (o : ℕ) → Each Good cs → Rising j cs
    → Later j (step_over (slots cs k nulls) im o)
unfolding step_over slots Each Rising read_value
later_over [] k j nulls im o g u = answer _
later_over (c ∷ cs) k j nulls im o g u = go (bit_lsb0 nulls k) refl
  where
    go : (b : Bool) → bit_lsb0 nulls k ≡ b → Later j (step_over (slots (c ∷ cs) k nulls) im o)
    go true e = rw e (answer _)
    go false e =
        rw e
        (later_filled j c.column u.0
        (filled_value c.shape c.column (drop o im) o (read_datum c.shape c.column (drop o im))
        (λ w q. fails c.shape c.column (drop o im) w g.0.taken q)))

-- ---- a step from a cursor
later_step : (r p im : List ℕ) (c : Cursor) (j : ℕ) → Over r p → c.column ≤ count_of r → j ≤ c.column
    → (length im < null_bytes r p → j ≡ 0)
    → Later j (step_from r p im c)
unfolding step_from slots_left slots_at
later_step r p im c j u h l z =
    let n = count_of r in
    rw (head_is r p u, le-ltb n c.column h)
    (dite (dec_le (null_bytes r p) (length im))
    (λ (a : null_bytes r p ≤ length im).
    rw (le-ltb (length im) (null_bytes r p) a)
    (dite (dec_le c.offset (length im))
    (λ (b : c.offset ≤ length im).
    rw (le-ltb (length im) c.offset b)
    (later_over (present_from (n - c.column) r p c.column) (count_bits p c.column) j im im c.offset
    (good_from (n - c.column) r p c.column u.valid (omega arith))
    (rising_less j c.column _ l (rising_from (n - c.column) r p c.column))))
    (λ b. rw (lt-ltb (length im) c.offset (omega arith)) (nine c.column l))))
    (λ a. rw (lt-ltb (length im) (null_bytes r p) (omega arith)) (nine 0 (omega (arith, z (omega arith))))))

over_slots : (r p im t : List ℕ) (c : Cursor) → Each Good (present_from (count_of r - c.column) r p c.column) → c.offset ≤ length im
    → Grows Filled (step_over (slots_at r p im c.column) im c.offset) (step_over (slots_at r p im c.column) (im ++ t) c.offset)
unfolding slots_at
over_slots r p im t c g b =
    over_grows (present_from (count_of r - c.column) r p c.column) (count_bits p c.column) im im t c.offset g b

nulls_short : (r p im : List ℕ) (c : Cursor) → Over r p → c.column ≤ count_of r → length im < null_bytes r p → step_from r p im c ≡ refuse 9 0
unfolding step_from slots_left
nulls_short r p im c u h a = rw (head_is r p u, le-ltb (count_of r) c.column h, lt-ltb (length im) (null_bytes r p) a)

offset_past : (r p im : List ℕ) (c : Cursor) → Over r p → c.column ≤ count_of r → null_bytes r p ≤ length im → length im < c.offset
    → step_from r p im c ≡ refuse 9 c.column
unfolding step_from slots_left
offset_past r p im c u h a b =
    rw (head_is r p u, le-ltb (count_of r) c.column h, le-ltb (length im) (null_bytes r p) a, lt-ltb (length im) c.offset b)

-- one that stands within the image: what was there stays, and a value that was cut short is told, or told again at its own column
pub step_filled : (r p im t : List ℕ) (c : Cursor) → Over r p → c.column ≤ count_of r → null_bytes r p ≤ length im → c.offset ≤ length im
    → Grows Filled (step_from r p im c) (step_from r p (im ++ t) c)
step_filled r p im t c u h a b =
    let n = count_of r in
    let m = length-append im t in
    let hd = head_is r p u in
    rw (step_goes r p im c hd h a b, step_goes r p (im ++ t) c hd h (omega arith) (omega arith), slots_more r p im t c.column h a)
    (over_slots r p im t c (good_from (n - c.column) r p c.column u.valid (omega arith)) b)

later_grows : {x y : Outcome ColumnStepped} → Grows Filled x y → Grows Later x y
later_grows (same o) = same o
later_grows (more j o f) = more j o (later_filled j j (omega arith) f)

over_more : (r p im t : List ℕ) (c : Cursor) → Over r p → c.column ≤ count_of r → Grows Later (step_from r p im c) (step_from r p (im ++ t) c)
over_more r p im t c u h =
    let m = length-append im t in
    dite (dec_le (null_bytes r p) (length im))
    (λ (a : null_bytes r p ≤ length im).
    dite (dec_le c.offset (length im))
    (λ (b : c.offset ≤ length im). later_grows (step_filled r p im t c u h a b))
    (λ b.
    rw (offset_past r p im c u h a (omega arith))
    (more c.column _ (later_step r p (im ++ t) c c.column u h (omega arith) (λ x. absurd (omega arith))))))
    (λ a. rw (nulls_short r p im c u h (omega arith)) (more 0 _ (later_step r p (im ++ t) c 0 u h (omega arith) (λ x. refl))))

-- any cursor, under any record
pub step_more : (r p im t : List ℕ) (c : Cursor) → Grows Later (step_from r p im c) (step_from r p (im ++ t) c)
unfolding step_from slots_left head_of read_record
step_more r p im t c = valid (record_valid r) refl
  where
    bits : record_valid r ≡ true → (b : Bool) → eqb (length p) (bytes_for (count_of r)) ≡ b
        → Grows Later (step_from r p im c) (step_from r p (im ++ t) c)
    bits v false e = rw (v, e) (same _)
    bits v true e =
        dite (dec_le c.column (count_of r))
        (λ h. over_more r p im t c (record { valid = v; bits = eqb-true (length p) (bytes_for (count_of r)) e }) h)
        (λ h. rw (v, e, lt-ltb (count_of r) c.column (omega arith)) (same _))

    valid : (b : Bool) → record_valid r ≡ b → Grows Later (step_from r p im c) (step_from r p (im ++ t) c)
    valid true v = bits v (eqb (length p) (bytes_for (count_of r))) refl
    valid false v = rw v (same _)
