-- A run by the plan of a record is the walk under that record, image by image. Assumes nothing.
use Prim.Native.Nat.{ℕ, zero, suc, ◌+◌, ◌-◌, ◌*◌, ◌≤◌, ◌<◌}
use mathlib.Core.Path.{◌≡◌, refl, sym, ap, subst, ◌∙◌}
use mathlib.Core.Bool.{Bool, true, false, cond}
use mathlib.Core.Logic.{dite}
use mathlib.Core.List.{List, [], ◌∷◌}
use native.Mathlib.Decide.{dec_le}
use native.Mathlib.Numerals.{add-one}
use native.Mathlib.Omega.{arith}
use borrow.Author.Tests.{le-ltb, lt-ltb}
use lib.ListN.{length, get_or, take, drop, length-drop}
use lib.Seq.{drop-drop}
use Rattle.wire.specs.declared.refusal.Refusal.{Refusal}
use Rattle.wire.specs.Number.{le_value}
use Rattle.wire.specs.Outcome.{Outcome, ok, refused, refuse}
use Rattle.wire.specs.Bits.{bytes_for, bit_lsb0}
use Rattle.wire.specs.Stored.{stored}
use Rattle.value.specs.declared.shape.Shape.{Shape}
use Rattle.value.specs.declared.datum.Value.{Value}
use Rattle.value.specs.declared.datum.Value.TheVariants.{Null}
use Rattle.value.specs.Data.{Datum, null as null_datum}
use Rattle.value.specs.Ops.{shape_for}
use Rattle.value.specs.Reading.{read_datum, read_value, placed, datum_of}
use Rattle.value.proofs.Laws.{said_read}
use Rattle.record.specs.Records.{count_of}
use Rattle.image.specs.Split.{Slot, slots_at}
use Rattle.image.specs.Walk.{RowWalked, row_stopped, with_answer, answered, read_slot, read_slots, walk_from, walk_image}
use Rattle.image.specs.Split.{first_cursor, slots_left}
use Rattle.image.proofs.PresenceLaws.Firsts.{count_none}
use Rattle.image.proofs.CursorLaws.Heads.{Over, head_is, null_bytes}
use Rattle.row_plan.specs.Plan.{item_count, item_at, plan_of, plan_slots, row_cursor, plan_step}
use Rattle.row_plan.specs.Runs.{value_numbers, run_from}
use Rattle.row_plan.specs.Rows.{Same, put_values, Stopped, at_end, at_refusal, RowRun}
use Rattle.row_plan.specs.Inner.Numbers.{item_numbers}
use Rattle.row_plan.specs.Inner.Paused.{Stands}
use Rattle.row_plan.proofs.Goes.{slots_here, slots_end, row_short}
use Rattle.row_plan.proofs.Rows.{plan_slots_lem, items_present}
use Rattle.row_plan.proofs.RunLaws.{run_got, item_null, item_read, next_inside, step_here}

module _ (plan images : List ℕ) (start : ℕ) where
  abbrev im : List ℕ
  im = drop start images

  abbrev column : ℕ → ℕ
  column item = le_value (take 2 (drop (3 * item + 1) plan))

  abbrev op : ℕ → ℕ
  op item = get_or plan (3 * item) 0

  -- one more value in front of a run
  more : (item offset o : ℕ) (x : Value) (a : ℕ × Datum) (w : RowWalked) → Stands plan images (item_count plan) (row_cursor start item offset)
      → item_numbers plan im start item offset ≡ ok (value_numbers start x, o) → datum_of im x ≡ a.1
      → RowRun plan images start (item + 1) o w → RowRun plan images start item offset (with_answer a w)
  unfolding Same put_values
  more item offset o x a w t e s r =
      let xs = r.values in
      let n : item + 1 + length xs ≡ item + suc (length xs) = omega arith in
      record {
        values = x ∷ xs;
        last = r.last;
        same = (s, r.same);
        goes = λ m v buf.
            let k : v + 1 + length xs ≡ v + suc (length xs) = omega arith in
            let z : suc (length xs) + m ≡ suc (length xs + m) = omega arith in
            ap (λ (i : ℕ). run_from i plan images (row_cursor start item offset) v buf) z
            ∙ run_got plan images (item_count plan) (row_cursor start item offset) t refl (length xs + m) v buf (value_numbers start x) o e
            ∙ r.goes m (v + 1) (stored (value_numbers start x) buf (8 * v))
            ∙ rw (n, k);
        stops = subst (λ (i : ℕ). Stopped plan images start i r.last w.how) n r.stops;
      }

  -- a run that stands at a refusal
  none : (item offset : ℕ) (w : Refusal) → plan_step plan images (row_cursor start item offset) ≡ refused w
      → RowRun plan images start item offset (row_stopped (refused w))
  unfolding Same put_values
  none item offset w e =
      let n : item + 0 ≡ item = omega arith in
      record {
        values = [];
        last = offset;
        same = tt;
        goes = λ m v buf. let k : v + 0 ≡ v = omega arith in let z : 0 + m ≡ m = omega arith in rw (n, k, z);
        stops = rw n (at_refusal w e);
      }

  ends : (item offset : ℕ) → item ≡ item_count plan → RowRun plan images start item offset (row_stopped (ok offset))
  unfolding Same put_values
  ends item offset e =
      let n : item + 0 ≡ item = omega arith in
      record {
        values = [];
        last = offset;
        same = tt;
        goes = λ m v buf. let k : v + 0 ≡ v = omega arith in let z : 0 + m ≡ m = omega arith in rw (n, k, z);
        stops = rw n (at_end e);
      }

  -- what is read at an item, as numbers and as a step tells it
  abbrev shape : ℕ → Shape
  shape item = shape_for (op item)

  numbers_of : (item offset : ℕ) (d : Datum) (n : ℕ) → bit_lsb0 im item ≡ false
      → read_datum (shape item) (column item) (drop offset im) ≡ ok (d, n)
      → item_numbers plan im start item offset ≡ ok (value_numbers start (placed (offset + n) d), offset + n)
  unfolding read_value
  numbers_of item offset d n u e = item_read plan im start item offset (op item) (column item) u refl refl ∙ rw e

  step_refused : (item offset : ℕ) (w : Refusal) → Stands plan images (item_count plan) (row_cursor start item offset)
      → bit_lsb0 im item ≡ false → read_datum (shape item) (column item) (drop offset im) ≡ refused w
      → plan_step plan images (row_cursor start item offset) ≡ refused w
  unfolding read_value
  step_refused item offset w t u e = step_here plan images (item_count plan) (row_cursor start item offset) t refl ∙ rw (u, e)

  module _ (item offset : ℕ) (t : Stands plan images (item_count plan) (row_cursor start item offset))
      (ih : (o : ℕ) → o ≤ length images - start
      → RowRun plan images start (item + 1) o (read_slots (plan_slots plan im (item + 1)) (drop o im) o)) where
    abbrev behind : ℕ → RowWalked
    behind n = read_slots (plan_slots plan im (suc item)) (drop n (drop offset im)) (offset + n)

    behind_is : (n : ℕ) → read_slots (plan_slots plan im (item + 1)) (drop (offset + n) im) (offset + n) ≡ behind n
    behind_is n = rw (add-one item, drop-drop n offset im)

    by_read : bit_lsb0 im item ≡ false → (x : Outcome (Datum × ℕ)) → read_datum (shape item) (column item) (drop offset im) ≡ x
        → RowRun plan images start item offset (answered (column item) behind x)
    by_read u (ok x) e =
        let d = x.0 in
        let n = x.1 in
        let q = numbers_of item offset d n u e in
        let l = next_inside plan images (item_count plan) (row_cursor start item offset) t refl (value_numbers start (placed (offset + n) d))
        (offset + n) q in
        subst (λ (w : RowWalked). RowRun plan images start item offset (with_answer (column item, d) w)) (behind_is n)
        (more item offset (offset + n) (placed (offset + n) d) (column item, d) _ t q
        (said_read (shape item) (column item) im offset d n e) (ih (offset + n) l))
    by_read u (refused w) e = none item offset w (step_refused item offset w t u e)

    by_bit : (bit : Bool) → bit_lsb0 im item ≡ bit
        → RowRun plan images start item offset
        (answered (column item) behind (cond bit (ok (null_datum, 0)) (read_datum (shape item) (column item) (drop offset im))))
    unfolding datum_of
    by_bit true u =
        let z : offset + 0 ≡ offset = omega arith in
        subst (λ (w : RowWalked). RowRun plan images start item offset (with_answer (column item, null_datum) w)) (behind_is 0)
        (more item offset (offset + 0) Null (column item, null_datum) _ t (item_null plan im start item offset u ∙ rw z) refl
        (ih (offset + 0) (rw z t.offset)))
    by_bit false u = by_read u (read_datum (shape item) (column item) (drop offset im)) refl

  -- slots one after the other
  no_slot : (s : List ℕ) (o : ℕ) → read_slots [] s o ≡ row_stopped (ok o)
  unfolding read_slots
  no_slot s o = refl

  one_slot : (item offset : ℕ)
      → read_slots (record { present = item_at plan item; null = bit_lsb0 im item } ∷ plan_slots plan im (suc item)) (drop offset im) offset
      ≡ answered (column item) (λ n. read_slots (plan_slots plan im (suc item)) (drop n (drop offset im)) (offset + n))
      (cond (bit_lsb0 im item) (ok (null_datum, 0)) (read_datum (shape item) (column item) (drop offset im)))
  unfolding read_slots read_slot item_at
  one_slot item offset = refl

  follow : (k item offset : ℕ) → k + item ≡ item_count plan → bytes_for (item_count plan) ≤ length images - start
      → offset ≤ length images - start
      → RowRun plan images start item offset (read_slots (plan_slots plan im item) (drop offset im) offset)
  follow zero item offset e b d =
      let n = length-drop start images in
      let q = slots_end plan images (row_cursor start item offset) refl (omega arith) (omega (arith, b, n)) (omega (arith, d, n))
      (omega arith) in
      subst (λ (w : RowWalked). RowRun plan images start item offset w)
      (sym (no_slot (drop offset im) offset) ∙ ap (λ (is : List Slot). read_slots is (drop offset im) offset) (sym q))
      (ends item offset (omega arith))
  follow (suc k) item offset e b d =
      let n = length-drop start images in
      let l : item < item_count plan = omega arith in
      let t : Stands plan images (item_count plan)
      (row_cursor start item offset) = record { count = refl; item = l; nulls = b; offset = d } in
      let q = slots_here plan images (row_cursor start item offset) refl (omega arith) (omega (arith, b, n)) (omega (arith, d, n)) l in
      subst (λ (w : RowWalked). RowRun plan images start item offset w)
      (sym (one_slot item offset) ∙ ap (λ (is : List Slot). read_slots is (drop offset im) offset) (sym q))
      (by_bit item offset t (λ o h. follow k (item + 1) o (omega arith) b h) (bit_lsb0 im item) refl)

-- ---- under a record
walk_whole : (r p image : List ℕ) → Over r p → null_bytes r p ≤ length image
    → walk_image r p image ≡ read_slots (slots_at r p image 0) (drop (null_bytes r p) image) (null_bytes r p)
unfolding walk_image first_cursor walk_from slots_left
walk_whole r p image u h = rw (head_is r p u, head_is r p u, le-ltb (count_of r) 0 (omega arith), le-ltb (length image) (null_bytes r p) h)

walk_cut : (r p image : List ℕ) → Over r p → length image < null_bytes r p → walk_image r p image ≡ row_stopped (refuse 9 0)
unfolding walk_image first_cursor walk_from slots_left
walk_cut r p image u h = rw (head_is r p u, head_is r p u, le-ltb (count_of r) 0 (omega arith), lt-ltb (length image) (null_bytes r p) h)

pub run_walk : (r p images : List ℕ) (start : ℕ) → Over r p
    → RowRun (plan_of r p) images start 0 (null_bytes r p) (walk_image r p (drop start images))
run_walk r p images start u =
    let plan = plan_of r p in
    let im = drop start images in
    let c = items_present r p in
    let n = length-drop start images in
    let q : plan_slots plan im 0 ≡ slots_at r p im 0 =
    ap (plan_slots plan im) (sym (count_none p)) ∙ plan_slots_lem r p im 0 u.valid (omega arith) in
    dite (dec_le (null_bytes r p) (length im))
    (λ h. subst (RowRun plan images start 0 (null_bytes r p))
    (ap (λ (is : List Slot). read_slots is (drop (null_bytes r p) im) (null_bytes r p)) q ∙ sym (walk_whole r p im u h))
    (follow plan images start (item_count plan) 0 (null_bytes r p) (omega arith) (omega (arith, c, n, h)) (omega (arith, n, h))))
    (λ h. let l : length im < null_bytes r p = omega arith in
    subst (RowRun plan images start 0 (null_bytes r p)) (sym (walk_cut r p im u l))
    (none plan images start 0 (null_bytes r p) _
    (row_short plan images (row_cursor start 0 (null_bytes r p)) refl (omega arith) (omega (arith, c, l)))))
