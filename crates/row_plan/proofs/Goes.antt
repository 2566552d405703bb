-- What a step by a plan answers, by what the code finds. Assumes nothing.
use Prim.Native.Nat.{ℕ, zero, suc, ◌+◌, ◌-◌, ◌*◌, ◌≤◌, ◌<◌, min}
use mathlib.Core.Path.{◌≡◌, refl, sym, ◌∙◌}
use mathlib.Core.Bool.{true, false}
use mathlib.Core.List.{List, [], ◌∷◌}
use native.Mathlib.Omega.{arith}
use borrow.Author.Tests.{le-ltb, lt-ltb}
use mathlib.Core.Logic.{dite}
use native.Mathlib.Decide.{dec_le}
use lib.ListN.{length, get_or, take, drop, length-drop}
use lib.Seq.{take_all, drop-cons}
use native.Mathlib.Numerals.{add-one}
use Rattle.wire.specs.declared.refusal.Refusal.{Refusal}
use Rattle.wire.specs.Number.{le_value}
use Rattle.wire.specs.Outcome.{Outcome, ok, refused, refuse, after}
use Rattle.wire.specs.Bits.{bytes_for, bit_lsb0}
use Rattle.value.specs.declared.datum.Value.{Value}
use Rattle.value.specs.Ops.{shape_for}
use Rattle.value.specs.Reading.{read_value}
use Rattle.image.specs.Split.{cursor, slots, step_over}
use Rattle.row_plan.specs.declared.row.RowCursor.{RowCursor}
use Rattle.row_plan.specs.Plan.{item_count, item_at, items_from, plan_slots, row_cursor, RowStepped, null, value, end, row_next, plan_step}

-- the items from one on
pub slots_at_lem : (plan im : List ℕ) (k : ℕ) → k < item_count plan
    → plan_slots plan im k ≡ record { present = item_at plan k; null = bit_lsb0 im k } ∷ plan_slots plan im (suc k)
unfolding plan_slots items_from slots
slots_at_lem plan im k l =
    let z : item_count plan - k ≡ suc (item_count plan - suc k) = omega arith in
    rw z

pub slots_over : (plan im : List ℕ) (k : ℕ) → item_count plan ≤ k → plan_slots plan im k ≡ []
unfolding plan_slots items_from slots
slots_over plan im k l = let z : item_count plan - k ≡ 0 = omega arith in rw z

-- past the tests; im is the images from the start on
module _ (plan images : List ℕ) (c : RowCursor) {im : List ℕ} (is : im ≡ drop c.start images)
    (a : c.item ≤ item_count plan) (b : bytes_for (item_count plan) ≤ length im) (d : c.offset ≤ length im) where
  pub goes : plan_step plan images c ≡ after (step_over (plan_slots plan im c.item) im c.offset) (λ t. ok (row_next c t))
  unfolding plan_step
  goes = rw (
    sym is,
    le-ltb (item_count plan) c.item a,
    le-ltb (length im) (bytes_for (item_count plan)) b,
    le-ltb (length im)
        c.offset d,
  )

  pub row_end : c.item ≡ item_count plan → plan_step plan images c ≡ ok (end c.offset)
  unfolding plan_slots items_from slots step_over
  row_end e =
      let z : item_count plan - c.item ≡ 0 = omega arith in
      goes ∙ rw z

  pub slots_end : c.item ≡ item_count plan → plan_slots plan im c.item ≡ []
  slots_end e = slots_over plan im c.item (omega arith)

  pub slots_here : c.item < item_count plan
      → plan_slots plan im c.item ≡ record { present = item_at plan c.item; null = bit_lsb0 im c.item } ∷ plan_slots plan im (suc
      c.item)
  slots_here l = slots_at_lem plan im c.item l

  module _ (l : c.item < item_count plan) {j : ℕ} (col : j ≡ le_value (take 2 (drop (3 * c.item + 1) plan))) where
    pub row_null : bit_lsb0 im c.item ≡ true → plan_step plan images c ≡ ok (null j (row_cursor c.start (c.item + 1) c.offset))
    unfolding step_over item_at
    row_null n = goes ∙ rw (slots_here l, n, col)

    module _ (n : bit_lsb0 im c.item ≡ false) where
      abbrev then : Outcome (Value × ℕ) → Outcome RowStepped
      then w = after w (λ y. ok (value j y.0 (row_cursor c.start (c.item + 1) y.1)))

      through : (w : Outcome (Value × ℕ)) → after (after w (λ y. ok (value j y.0 (cursor (j + 1) y.1)))) (λ t. ok (row_next c t))
          ≡ then w
      through (ok y) = refl
      through (refused w) = refl

      pub row_read : {x : Outcome (Value × ℕ)} → x ≡ read_value (shape_for (get_or plan (3 * c.item) 0)) j im c.offset
          → plan_step plan images c ≡ then x
      unfolding step_over item_at
      row_read {x} q = goes ∙ rw (slots_here l, n, sym col, sym q) (through x)

      -- by what the reader answered
      module _ (x : Outcome (Value × ℕ)) (q : x ≡ read_value (shape_for (get_or plan (3 * c.item) 0)) j im c.offset) where
        pub row_got : (v : Value) (o : ℕ) → x ≡ ok (v, o) → plan_step plan images c ≡ ok (value j v (row_cursor c.start (c.item + 1) o))
        row_got v o y = row_read (sym y ∙ q)

        pub row_bad : (w : Refusal) → x ≡ refused w → plan_step plan images c ≡ refused w
        row_bad w y = row_read (sym y ∙ q)

-- ---- the tests
pub row_none : (plan images : List ℕ) (c : RowCursor) → item_count plan < c.item → plan_step plan images c ≡ refuse 14 c.item
unfolding plan_step
row_none plan images c h = rw (lt-ltb (item_count plan) c.item h)

pub row_short : (plan images : List ℕ) (c : RowCursor) {im : List ℕ} → im ≡ drop c.start images → c.item ≤ item_count plan
    → length im < bytes_for (item_count plan)
    → plan_step plan images c ≡ refuse 9 0
unfolding plan_step
row_short plan images c {im} is a b = rw (sym is, le-ltb (item_count plan) c.item a, lt-ltb (length im) (bytes_for (item_count plan)) b)

pub row_past : (plan images : List ℕ) (c : RowCursor) {im : List ℕ} → im ≡ drop c.start images → c.item ≤ item_count plan
    → bytes_for (item_count plan) ≤ length im → length im < c.offset
    → plan_step plan images c ≡ refuse 9 c.item
unfolding plan_step
row_past plan images c {im} is a b d = rw (
  sym is,
  le-ltb (item_count plan) c.item a,
  le-ltb (length im) (bytes_for
      (item_count plan)) b,
  lt-ltb (length im) c.offset d,
)

-- the part of the images from the start on, or from their end on
pub rest_is : (s : List ℕ) (start from : ℕ) → from ≡ min start (length s) → take (length s - from) (drop from s) ≡ drop start s
rest_is s start from e =
    dite (dec_le start (length s))
    (λ h. let f : from ≡ start = omega arith in
    rw f (take_all (length s - start) (drop start s) (rw length-drop (omega arith))))
    (λ h. let f : from ≡ length s = omega arith in
    let z : length s - length s ≡ 0 = omega arith in
    rw (f, z) (sym (drop_past s start (omega arith))))
  where
    drop_past : (l : List ℕ) (k : ℕ) → length l ≤ k → drop k l ≡ []
    drop_past [] zero h = refl
    drop_past [] (suc k) h = refl
    drop_past (x ∷ l) zero h = absurd (omega arith)
    drop_past (x ∷ l) (suc k) h = drop_past l k (omega arith)

-- two bytes are a column
pub two : (s : List ℕ) (at : ℕ) → at + 2 ≤ length s → le_value (take 2 (drop at s)) ≡ get_or s at 0 + 256 * get_or s (at + 1) 0
unfolding le_value
two s at h = rw (drop-cons s at 0 (omega arith), drop-cons s (suc at) 0 (omega arith), add-one at) (omega arith)
