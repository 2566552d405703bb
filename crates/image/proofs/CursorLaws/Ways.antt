-- From any cursor, made up or not, under any record: the walk is the step's answer and then the walk from the step's cursor, and no other
-- walk is. Assumes nothing.
use Prim.Native.Nat.{ℕ, zero, suc, ◌+◌, ◌-◌, ◌≤◌, ◌<◌}
use mathlib.Core.Path.{◌≡◌, refl, sym, ap, ◌∙◌}
use mathlib.Core.Bool.{Bool, true, false, cond}
use mathlib.Core.Logic.{dite}
use mathlib.Core.List.{List, [], ◌∷◌}
use native.Mathlib.Decide.{dec_le}
use native.Mathlib.Omega.{arith}
use lib.ListN.{drop}
use Rattle.wire.specs.Outcome.{Outcome, ok, refused, after}
use Rattle.value.specs.declared.datum.Value.{Value}
use Rattle.value.specs.Data.{null}
use Rattle.value.specs.Reading.{read_value, datum_of}
use Rattle.record.specs.Records.{count_of}
use Rattle.image.specs.declared.cursor.Cursor.{Cursor}
use Rattle.image.specs.Present.{first_from}
use Rattle.image.specs.Split.{Slot, slots, slots_at, cursor, ColumnStepped, null as null₁, value, step_over, slots_left, step_from}
use Rattle.image.specs.Walk.{RowWalked, with_answer, going_on, read_slots, walk_from, row_onward}
use Rattle.image.proofs.PresenceLaws.Firsts.{first_is, slot_at, present_end, slots_end, slots_first}
use Rattle.image.proofs.StepLaws.Steps.{left_stands}
use Rattle.image.proofs.StepLaws.Walks.{onward_slots}

-- two ways on that agree on every cursor that a step can give agree behind the step
abbrev Agree : List ℕ → (Cursor → RowWalked) → (Cursor → RowWalked) → Outcome ColumnStepped → Type 0
Agree im f g x = row_onward f im x ≡ row_onward g im x

agree_end : (im : List ℕ) (f g : Cursor → RowWalked) (o : ℕ) → Agree im f g (step_over [] im o)
unfolding step_over
agree_end im f g o = refl

agree_more : (im : List ℕ) (f g : Cursor → RowWalked) (i : Slot) (is : List Slot) (o : ℕ)
    → ((o' : ℕ) → f (cursor (i.present.column + 1) o') ≡ g (cursor (i.present.column + 1) o')) → Agree im f g (step_over (i ∷ is) im o)
unfolding step_over
agree_more im f g i is o h = go i.null
  where
    read : (x : Outcome (Value × ℕ))
        → Agree im f g (after x (λ x. ok (value i.present.column x.0 (cursor (i.present.column + 1) x.1))))
    read (ok x) = ap (with_answer (i.present.column, datum_of im x.0)) (h x.1)
    read (refused w) = refl

    go : (b : Bool) → Agree im f g (cond b (ok (null₁ i.present.column (cursor (i.present.column + 1) o)))
        (after (read_value i.present.shape i.present.column im o)
        (λ x. ok (value i.present.column x.0 (cursor (i.present.column + 1) x.1)))))
    go true = ap (with_answer (i.present.column, null)) (h o)
    go false = read (read_value i.present.shape i.present.column im o)

none_past : (r p im : List ℕ) (j : ℕ) → count_of r < j → slots_at r p im j ≡ []
unfolding slots_at slots
none_past r p im j h =
    let n = count_of r in
    let l = (first_is (n - j) p j).low in
    rw (present_end (n - j) r p j (omega arith))

agree_slots : (r p im : List ℕ) (j o : ℕ) (f g : Cursor → RowWalked) → ((c : Cursor) → j < c.column → c.column ≤ count_of r → f c ≡ g c)
    → Agree im f g (step_over (slots_at r p im j) im o)
agree_slots r p im j o f g h =
    let n = count_of r in
    let k = first_from (n - j) p j in
    let i = first_is (n - j) p j in
    dite (dec_le j n)
    (λ (b : j ≤ n).
    dite (dec_le n k)
    (λ a. rw (slots_end r p im j b a) (agree_end im f g o))
    (λ a. let l : k < n = omega arith in
    rw (slots_first r p im j b l)
    (agree_more im f g (slot_at r p im k) (slots_at r p im (k + 1)) o (λ o'. h (cursor (k + 1) o') (omega (arith, i.low)) (omega arith)))))
    (λ b. rw (none_past r p im j (omega arith)) (agree_end im f g o))

agree : (r p im : List ℕ) (c : Cursor) (f g : Cursor → RowWalked)
    → ((c' : Cursor) → c.column < c'.column → c'.column ≤ count_of r → f c' ≡ g c')
    → Agree im f g (step_from r p im c)
unfolding step_from
agree r p im c f g h = go (slots_left r p im c) refl
  where
    go : (x : Outcome (List Slot)) → slots_left r p im c ≡ x → Agree im f g (after x (λ is. step_over is im c.offset))
    go (ok is) e = rw (← (left_stands r p im c is e).slots) (agree_slots r p im c.column c.offset f g h)
    go (refused w) e = refl

-- the walk is the step's answer and then the walk from the step's cursor
pub walk_on : (r p im : List ℕ) (c : Cursor) → walk_from r p im c ≡ row_onward (walk_from r p im) im (step_from r p im c)
unfolding walk_from step_from
walk_on r p im c = go (slots_left r p im c) refl
  where
    go : (x : Outcome (List Slot)) → slots_left r p im c ≡ x
        → going_on (λ is. read_slots is (drop c.offset im) c.offset) x
        ≡ row_onward (walk_from r p im) im (after x (λ is. step_over is im c.offset))
    go (ok is) e =
        let s = left_stands r p im c is e in
        rw (← s.slots) (sym (onward_slots r p im c.column c.offset s.tested s.column s.nulls s.offset))
    go (refused w) e = refl

-- and no other walk is, for each step's cursor stands further on
pub only_walk : (r p im : List ℕ) (w : Cursor → RowWalked) → ((c : Cursor) → w c ≡ row_onward w im (step_from r p im c)) → (c : Cursor)
    → w c ≡ walk_from r p im c
only_walk r p im w h c = go (suc (count_of r)) c (omega arith)
  where
    go : (m : ℕ) (c : Cursor) → count_of r - c.column < m → w c ≡ walk_from r p im c
    go zero c l = absurd (omega arith)
    go (suc m) c l = h c ∙ agree r p im c w (walk_from r p im) (λ c' a b. go m c' (omega arith)) ∙ sym (walk_on r p im c)
