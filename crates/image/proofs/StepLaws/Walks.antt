-- Steps over slots are the reading of the slots one after the other. Assumes nothing.
use Prim.Native.Nat.{ℕ, ◌+◌, ◌-◌, ◌≤◌, ◌<◌}
use mathlib.Core.Path.{◌≡◌, refl}
use mathlib.Core.Bool.{Bool, true, false}
use mathlib.Core.Logic.{dite}
use mathlib.Core.List.{List, [], ◌∷◌}
use native.Mathlib.Nat.{add-zero}
use native.Mathlib.Decide.{dec_le}
use native.Mathlib.Omega.{arith}
use lib.ListN.{length, drop, length-drop}
use lib.Seq.{drop-drop}
use Rattle.wire.specs.Outcome.{Outcome, ok, refused, after}
use Rattle.value.specs.declared.datum.Value.{Value}
use Rattle.value.specs.Data.{Datum}
use Rattle.value.specs.Reading.{read_datum, read_value, placed}
use Rattle.value.proofs.Laws.{took, said_read}
use Rattle.record.specs.Records.{count_of}
use Rattle.image.specs.declared.cursor.Cursor.{Cursor}
use Rattle.image.specs.declared.cursor.Head.{Head}
use Rattle.image.specs.Present.{first_from}
use Rattle.image.specs.Split.{Slot, slots_at, cursor, head_of, value, step_over}
use Rattle.image.specs.Walk.{RowWalked, read_slot, answered, read_slots, walk_from, row_onward}
use Rattle.image.proofs.PresenceLaws.Firsts.{slot_at, slots_end, slots_first}
use Rattle.image.proofs.CursorLaws.Heads.{head_tested}
use Rattle.image.proofs.StepLaws.Steps.{left_goes}

-- ---- a step and then the rest
-- no column is left
onward_end : (w : Cursor → RowWalked) (im : List ℕ) (o : ℕ) → row_onward w im (step_over [] im o) ≡ read_slots [] (drop o im) o
unfolding step_over read_slots
onward_end w im o = refl

-- a step, and then whatever walks over the rest
onward_more : (w : Cursor → RowWalked) (i : Slot) (is : List Slot) (im : List ℕ) (o : ℕ) → o ≤ length im
    → ((o' : ℕ) → o' ≤ length im → w (cursor (i.present.column + 1) o') ≡ read_slots is (drop o' im) o')
    → row_onward w im (step_over (i ∷ is) im o) ≡ read_slots (i ∷ is) (drop o im) o
unfolding step_over read_slots read_slot read_value
onward_more w i is im o l h = go i.null refl
  where
    read : (x : Outcome (Datum × ℕ)) → read_datum i.present.shape i.present.column (drop o im) ≡ x
        → row_onward w im (after (after {B = Value × ℕ} x (λ x. ok (placed (o + x.1) x.0, o + x.1)))
        (λ x. ok (value i.present.column x.0 (cursor (i.present.column + 1) x.1))))
        ≡ answered i.present.column (λ n. read_slots is (drop n (drop o im)) (o + n)) x
    read (refused w) e = refl
    read (ok x) e =
        let f : o + x.1 ≤ length im =
        omega (arith, (took i.present.shape i.present.column (drop o im) x.0 x.1 e).fits, length-drop o im) in
        rw (h (o + x.1) f, said_read i.present.shape i.present.column im o x.0 x.1 e, drop-drop x.1 o im)

    go : (b : Bool) → i.null ≡ b → row_onward w im (step_over (i ∷ is) im o) ≡ read_slots (i ∷ is) (drop o im) o
    go true e = rw (e, h o l, add-zero o)
    go false e = rw e (read (read_datum i.present.shape i.present.column (drop o im)) refl)

-- ---- from a cursor that passes the tests
pub walk_goes : (r p im : List ℕ) (c : Cursor) {h : Head} → head_of r p ≡ ok h → c.column ≤ h.columns → h.nulls ≤ length im
    → c.offset ≤ length im
    → walk_from r p im c ≡ read_slots (slots_at r p im c.column) (drop c.offset im) c.offset
unfolding walk_from
walk_goes r p im c e a b d = rw (left_goes r p im c e a b d)

-- a step over its slots, and then the walk from the step's cursor
pub onward_slots : (r p im : List ℕ) (j o : ℕ) {h : Head} → head_of r p ≡ ok h → j ≤ h.columns → h.nulls ≤ length im → o ≤ length im
    → row_onward (walk_from r p im) im (step_over (slots_at r p im j) im o) ≡ read_slots (slots_at r p im j) (drop o im) o
onward_slots r p im j o {h} e a b d =
    let n = count_of r in
    let f = first_from (n - j) p j in
    let k : h.columns ≡ n = (head_tested r p e).columns in
    let l : j ≤ n = omega arith in
    dite (dec_le n f)
    (λ g. rw (slots_end r p im j l g) (onward_end (walk_from r p im) im o))
    (λ g. let m : f < n = omega arith in
    rw (slots_first r p im j l m)
    (onward_more (walk_from r p im) (slot_at r p im f) (slots_at r p im (f + 1)) im o d
    (λ o' d'. walk_goes r p im (cursor (f + 1) o') e (omega arith) b d')))
