-- A step by a plan that was made of a record is the step under that record. Assumes nothing.
use Prim.Native.Nat.{ℕ, zero, suc, ◌+◌, ◌-◌, ◌≤◌, ◌<◌}
use mathlib.Core.Path.{◌≡◌, refl, sym, ap, ◌∙◌}
use mathlib.Core.Bool.{Bool, true, false, cond}
use mathlib.Core.Logic.{dite}
use mathlib.Core.List.{List, [], ◌∷◌}
use native.Mathlib.Decide.{dec_le}
use native.Mathlib.Nat.{sub-zero}
use native.Mathlib.Numerals.{add-one}
use native.Mathlib.Omega.{arith}
use borrow.Author.Tests.{le-ltb}
use lib.ListN.{length, drop}
use lib.Dec.{ltb}
use Rattle.wire.specs.Outcome.{Outcome, ok, refused, refuse, after}
use Rattle.wire.specs.Bits.{bit_lsb0}
use Rattle.value.specs.declared.datum.Value.{Value}
use Rattle.value.specs.Reading.{read_value}
use Rattle.record.specs.Records.{count_of, record_valid}
use Rattle.image.specs.declared.cursor.Cursor.{Cursor}
use Rattle.image.specs.Present.{present, present_from, count_bits, first_from}
use Rattle.image.specs.Split.{Slot, cursor, slots_at, ColumnStepped, step_over, slots_left, step_from}
use Rattle.image.proofs.PresenceLaws.Firsts.{present_at, first_is, slot_at, slots_end, slots_first, count_set, count_not, count_none}
use Rattle.image.proofs.CursorLaws.Heads.{Over, head_is, null_bytes}
use Rattle.image.proofs.PresenceLaws.Presents.{present_length}
use Rattle.row_plan.specs.declared.row.RowCursor.{RowCursor}
use Rattle.row_plan.specs.Plan.{plan_of, item_count, plan_slots, row_cursor, row_next, plan_step, row_at}
use Rattle.row_plan.specs.Plan.{rows_next, null, value}
use Rattle.row_plan.proofs.Items.{items_from_lem, plan_count, kept_present}

-- ---- the present columns behind the first ones
drop_next : {A : Type 0} (k : ℕ) (xs : List A) (x : A) (ys : List A) → drop k xs ≡ x ∷ ys → drop (suc k) xs ≡ ys
drop_next zero [] x ys e = absurd (let z : ◌≡◌ {A = ℕ} 0 1 = cc in omega arith)
drop_next zero (a ∷ xs) x ys e = cc
drop_next (suc k) [] x ys e = absurd (let z : ◌≡◌ {A = ℕ} 0 1 = cc in omega arith)
drop_next (suc k) (a ∷ xs) x ys e = drop_next k xs x ys e

pub present_here : (m : ℕ) (r p : List ℕ) (j : ℕ) → bit_lsb0 p j ≡ true
    → present_from (suc m) r p j ≡ present_at r j ∷ present_from m r p (suc j)
unfolding present_from
present_here m r p j e = rw e

pub present_not : (m : ℕ) (r p : List ℕ) (j : ℕ) → bit_lsb0 p j ≡ false → present_from (suc m) r p j ≡ present_from m r p (suc j)
unfolding present_from
present_not m r p j e = rw e

pub drop_present : (r p : List ℕ) (j : ℕ) → j ≤ count_of r → drop (count_bits p j) (present r p) ≡ present_from (count_of r - j) r p j
drop_present r p zero h = rw (count_none p, sub-zero (count_of r))
drop_present r p (suc j) h = go (drop_present r p j (omega arith)) (bit_lsb0 p j) refl
  where
    m : ℕ
    m = count_of r - suc j

    n : count_of r - j ≡ suc m
    n = omega arith

    go : drop (count_bits p j) (present r p) ≡ present_from (count_of r - j) r p j → (b : Bool) → bit_lsb0 p j ≡ b
        → drop (count_bits p (suc j)) (present r p) ≡ present_from m r p (suc j)
    go i true e =
        ap (λ (k : ℕ). drop k (present r p)) (count_set p j e)
        ∙ drop_next (count_bits p j) (present r p) (present_at r j) (present_from m r p (suc j)) (i ∙ ap (λ (k : ℕ). present_from k r p j) n
        ∙ present_here m r p j e)
    go i false e =
        ap (λ (k : ℕ). drop k (present r p)) (count_not p j e) ∙ i ∙ ap (λ (k : ℕ). present_from k r p j) n ∙ present_not m r p j e

-- ---- a plan that was made of a record has the record's slots
pub items_present : (r p : List ℕ) → item_count (plan_of r p) ≡ count_bits p (count_of r)
unfolding plan_of
items_present r p = plan_count (present r p) ∙ present_length r p

pub plan_slots_lem : (r p im : List ℕ) (j : ℕ) → record_valid r ≡ true → j ≤ count_of r
    → plan_slots (plan_of r p) im (count_bits p j) ≡ slots_at r p im j
unfolding plan_slots plan_of slots_at
plan_slots_lem r p im j v h =
    rw (plan_count (present r p), items_from_lem (count_bits p j) (present r p) (kept_present r p v), drop_present r p j h)

-- ---- the next cursor of a step, either way
pub count_up : (p : List ℕ) (j m : ℕ) → count_bits p j ≤ count_bits p (j + m)
count_up p j zero = let e : j + 0 ≡ j = omega arith in rw e (omega arith)
count_up p j (suc m) = go (count_up p j m) (bit_lsb0 p (j + m)) refl
  where
    go : count_bits p j ≤ count_bits p (j + m) → (b : Bool) → bit_lsb0 p (j + m) ≡ b → count_bits p j ≤ count_bits p (j + suc m)
    go i true e = let n : j + suc m ≡ suc (j + m) = omega arith in rw n (omega (arith, i, count_set p (j + m) e))
    go i false e = let n : j + suc m ≡ suc (j + m) = omega arith in rw n (omega (arith, i, count_not p (j + m) e))

abbrev Alike : List ℕ → ℕ → RowCursor → Outcome ColumnStepped → Type 0
Alike p start c x = after x (λ t. ok (row_next c t)) ≡ after x (λ t. ok (rows_next p start t))

alike_end : (p : List ℕ) (start : ℕ) (c : RowCursor) (im : List ℕ) (o : ℕ) → Alike p start c (step_over [] im o)
unfolding step_over
alike_end p start c im o = refl

alike_more : (p : List ℕ) (start : ℕ) (c : RowCursor) (im : List ℕ) (i : Slot) (is : List Slot) (o : ℕ) → c.start ≡ start
    → c.item + 1 ≡ count_bits p (i.present.column + 1)
    → Alike p start c (step_over (i ∷ is) im o)
unfolding step_over row_at
alike_more p start c im i is o s k = go i.null
  where
    read : (x : Outcome (Value × ℕ)) → Alike p start c (after x (λ x. ok (value i.present.column x.0 (cursor
        (i.present.column + 1) x.1))))
    read (ok x) = rw (s, k)
    read (refused w) = refl

    go : (b : Bool) → Alike p start c (cond b (ok (null i.present.column (cursor (i.present.column + 1) o)))
        (after (read_value i.present.shape i.present.column im o) (λ x. ok (value i.present.column x.0 (cursor
        (i.present.column + 1) x.1)))))
    go true = rw (s, k)
    go false = read (read_value i.present.shape i.present.column im o)

alike : (r p im : List ℕ) (start j o : ℕ) → j ≤ count_of r
    → Alike p start (row_cursor start (count_bits p j) o) (step_over (slots_at r p im j) im o)
alike r p im start j o b =
    let n = count_of r in
    let k = first_from (n - j) p j in
    let i = first_is (n - j) p j in
    let c = row_cursor start (count_bits p j) o in
    dite (dec_le n k)
    (λ a. rw (slots_end r p im j b a) (alike_end p start c im o))
    (λ a. let l : k < n = omega arith in
    let u : count_bits p j + 1 ≡ count_bits p (k + 1) = add-one (count_bits p j) ∙ ap suc (sym i.rank)
    ∙ sym (ap (count_bits p) (add-one k) ∙ count_set p k (i.found (omega arith))) in
    rw (slots_first r p im j b l) (alike_more p start c im (slot_at r p im k) (slots_at r p im (k + 1)) o refl u))

-- ---- the law: by the plan of a record a step is that under the record, from every cursor that a walk can have
pub plan_step_lem : (r p images : List ℕ) (start : ℕ) (c : Cursor) → Over r p → c.column ≤ count_of r → c.offset ≤ length (drop start images)
    → plan_step (plan_of r p) images (row_at p start c) ≡ after (step_from r p (drop start images) c) (λ t. ok (rows_next p start t))
unfolding plan_step step_from slots_left row_at
plan_step_lem r p images start c u a d =
    let im = drop start images in
    let e : c.column + (count_of r - c.column) ≡ count_of r = omega arith in
    let m : count_bits p c.column ≤ count_bits p (count_of r) = rw e at (count_up p c.column (count_of r - c.column)) in
    rw (
      plan_slots_lem r p im c.column u.valid a,
      items_present r p,
      head_is r p u,
      le-ltb (count_bits p (count_of r)) (count_bits p c.column) m,
      le-ltb (count_of r) c.column a,
      le-ltb (length im) c.offset d,
    )
    (go im (ltb (length im) (null_bytes r p)))
  where
    go : (im : List ℕ) (b : Bool)
        → cond b (refuse 9 0) (after (step_over (slots_at r p im c.column) im c.offset) (λ t.
        ok (row_next (row_cursor start (count_bits p c.column) c.offset) t)))
        ≡ after (after (cond b (refuse 9 0) (ok (slots_at r p im c.column))) (λ is. step_over is im c.offset)) (λ t.
        ok (rows_next p start t))
    go im true = refl
    go im false = alike r p im start c.column c.offset a
