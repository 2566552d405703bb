-- Bytes put behind an image, for the whole walk, under any record. Assumes nothing.
use Prim.Native.Nat.{ℕ, suc, ◌+◌, ◌≤◌}
use mathlib.Core.Path.{◌≡◌, refl, sym, ap, subst, ◌∙◌}
use mathlib.Core.Bool.{Bool, true, false, cond}
use mathlib.Core.Logic.{dite, ⊎_elim}
use mathlib.Core.List.{List, [], ◌∷◌, ◌++◌, append-nil}
use native.Mathlib.Decide.{dec_le}
use native.Mathlib.Omega.{arith}
use borrow.Author.Tests.{eqb-true}
use lib.Dec.{eqb}
use lib.ListN.{length, take, drop, length-append, take-append-drop}
use lib.Seq.{take-append-le, drop-append-le, length-take-le}
use Rattle.wire.specs.declared.refusal.Refusal.{Refusal}
use Rattle.wire.specs.Outcome.{Outcome, ok, refused, refuse, Stays, same}
use Rattle.wire.specs.Bits.{bytes_for, bit_lsb0}
use Rattle.wire.proofs.Outcomes.{same_refused, ok_not_refused}
use Rattle.wire.proofs.Appends.{stays_ok, stays_no}
use Rattle.value.specs.Data.{Datum, null}
use Rattle.value.specs.Reading.{read_datum}
use Rattle.value.proofs.Appends.{datum_more}
use Rattle.record.specs.Records.{count_of, read_record, record_valid}
use Rattle.image.specs.Present.{Present, present}
use Rattle.image.specs.Split.{Slot, slots, head_of, first_cursor}
use Rattle.image.specs.Walk.{RowWalked, row_stopped, with_answer, read_slot, answered, read_slots, walk_image}
use Rattle.image.specs.Grown.{Later, nine, Grown, same as grown_same, more}
use Rattle.image.proofs.CursorLaws.Heads.{Over}
use Rattle.image.proofs.StepLaws.Slots.{slot_fails}
use Rattle.image.proofs.StepLaws.Splits.{Each, Good}
use Rattle.image.proofs.PresenceLaws.Presents.{good_present}
use Rattle.image.proofs.EndLaws.Images.{walk_read, walk_short}
use Rattle.image.proofs.EndLaws.Used.{slot_fits}
use Rattle.image.proofs.AppendLaws.Rises.{Rising, rising_from, fails_nine, later_read}

-- ---- one slot
pub slot_more : (i : Slot) (s t : List ℕ) → Stays 9 (read_slot i s) (read_slot i (s ++ t))
unfolding read_slot
slot_more i s t = go i.null
  where
    go : (b : Bool)
        → Stays 9 (cond b (ok (null, 0)) (read_datum i.present.shape i.present.column s))
        (cond b (ok (null, 0)) (read_datum i.present.shape i.present.column (s ++ t)))
    go true = same _
    go false = datum_more i.present.shape i.present.column s t

-- ---- slots one after the other
grown_with : (a : ℕ × Datum) {w w' : RowWalked} → Grown w w' → Grown (with_answer a w) (with_answer a w')
grown_with a (grown_same w) = grown_same (with_answer a w)
grown_with a (more w w' j b h e l) = more (with_answer a w) (with_answer a w') j b h (ap (λ (x : List (ℕ × Datum)). a ∷ x) e) l

pub read_more : (cs : List Present) (k j : ℕ) (nulls s t : List ℕ) (o : ℕ) → Each Good cs → Rising j cs
    → Grown (read_slots (slots cs k nulls) s o) (read_slots (slots cs k nulls) (s ++ t) o)
unfolding read_slots slots Each Rising
read_more [] k j nulls s t o g u = grown_same _
read_more (c ∷ cs) k j nulls s t o g u =
    go (λ n. read_more cs (suc k) c.column nulls (drop n s) t (o + n) g.1 u.1)
    (later_read (c ∷ cs) k c.column nulls (s ++ t) o g (omega arith, u.1))
    (read_slot i s) refl
  where
    i : Slot
    i = record { present = c; null = bit_lsb0 nulls k }

    rest : List ℕ → ℕ → RowWalked
    rest s n = read_slots (slots cs (suc k) nulls) (drop n s) (o + n)

    go : ((n : ℕ) → Grown (rest s n) (read_slots (slots cs (suc k) nulls) (drop n s ++ t) (o + n)))
        → Later c.column (answered c.column (rest (s ++ t)) (read_slot i (s ++ t))).how
        → (x : Outcome (Datum × ℕ)) → read_slot i s ≡ x
        → Grown (answered c.column (rest s) x) (answered c.column (rest (s ++ t)) (read_slot i (s ++ t)))
    go f l (ok x) e =
        rw (stays_ok (slot_more i s t) e, drop-append-le x.1 s t (slot_fits i s x.0 x.1 e))
        (grown_with (c.column, x.0) (f x.1))
    go f l (refused w) e =
        let v = (slot_fails i s w g.0.taken e).1 in
        ⊎_elim
        (λ (y : read_slot i (s ++ t) ≡ refused w). rw y (grown_same (row_stopped (refused w))))
        (λ y.
        more _ _ c.column (answered c.column (rest (s ++ t)) (read_slot i (s ++ t))).answers (ap refused (fails_nine v y)) refl l)
        (stays_no (slot_more i s t) e)

-- ---- the whole walk
-- the null bits of an image that has them all are at its front
pub walk_cut : (r p im : List ℕ) → Over r p → bytes_for (length (present r p)) ≤ length im
    → let o = bytes_for (length (present r p)) in walk_image r p im ≡ read_slots (slots (present r p) 0 (take o im)) (drop o im) o
walk_cut r p im u h =
    let o = bytes_for (length (present r p)) in
    let l = length-take-le o im h in
    ap (walk_image r p) (sym (take-append-drop o im))
    ∙ walk_read r p (take o im) (drop o im) u l
    ∙ ap (read_slots (slots (present r p) 0 (take o im)) (drop o im)) l

over_more : (r p im t : List ℕ) → Over r p → Grown (walk_image r p im) (walk_image r p (im ++ t))
over_more r p im t u =
    let cs = present r p in
    let o = bytes_for (length cs) in
    let m = length-append im t in
    let g = good_present r p u.valid in
    let up = rising_from (count_of r) r p 0 in
    dite (dec_le o (length im))
    (λ (h : o ≤ length im).
    rw (walk_cut r p im u h, walk_cut r p (im ++ t) u (omega arith), take-append-le o im t h, drop-append-le o im t h)
    (read_more cs 0 0 (take o im) (drop o im) t o g up))
    (λ h.
    dite (dec_le o (length (im ++ t)))
    (λ (b : o ≤ length (im ++ t)).
    more _ _ 0 (walk_image r p (im ++ t)).answers (ap (λ (w : RowWalked). w.how) (walk_short r p im u (omega arith)))
    (rw (walk_short r p im u (omega arith)))
    (rw (walk_cut r p (im ++ t) u b) (later_read cs 0 0 (take o (im ++ t)) (drop o (im ++ t)) o g up)))
    (λ b. rw (walk_short r p im u (omega arith), walk_short r p (im ++ t) u (omega arith)) (grown_same _)))

pub walk_more : (r p im t : List ℕ) → Grown (walk_image r p im) (walk_image r p (im ++ t))
unfolding walk_image first_cursor head_of read_record
walk_more r p im t = valid (record_valid r) refl
  where
    bits : record_valid r ≡ true → (b : Bool) → eqb (length p) (bytes_for (count_of r)) ≡ b
        → Grown (walk_image r p im) (walk_image r p (im ++ t))
    bits v true e = over_more r p im t (record { valid = v; bits = eqb-true (length p) (bytes_for (count_of r)) e })
    bits v false e = rw (v, e) (grown_same _)

    valid : (b : Bool) → record_valid r ≡ b → Grown (walk_image r p im) (walk_image r p (im ++ t))
    valid true v = bits v (eqb (length p) (bytes_for (count_of r))) refl
    valid false v = rw v (grown_same _)

-- ---- in the request's words
-- an image that was read: no answer, no place, and not the count used
pub read_kept : (r p im t : List ℕ) (n : ℕ) → (walk_image r p im).how ≡ ok n → walk_image r p (im ++ t) ≡ walk_image r p im
read_kept r p im t n e = go (walk_more r p im t) e
  where
    go : {w w' : RowWalked} → Grown w w' → w.how ≡ ok n → w' ≡ w
    go (grown_same w) e = refl
    go (more w w' j b h q l) e = absurd (ok_not_refused (sym e ∙ h))

-- refusal 10 stays, at its place, of its part, and with the answers before it; so does every refusal but 9
pub refusal_kept : (r p im t : List ℕ) (w : Refusal) → (walk_image r p im).how ≡ refused w → (w.number ≡ 9 → ⊥)
    → walk_image r p (im ++ t) ≡ walk_image r p im
refusal_kept r p im t w e n = go (walk_more r p im t) e
  where
    go : {v v' : RowWalked} → Grown v v' → v.how ≡ refused w → v' ≡ v
    go (grown_same v) e = refl
    go (more v v' j b h q l) e = absurd (n (ap (λ (x : Refusal). x.number) (same_refused (sym e ∙ h))))

-- refusal 9: the answers before it are unchanged, and it becomes an answer, or 9 or 10 at its column or a later one
pub nine_grows : (r p im t : List ℕ) (j : ℕ) → (walk_image r p im).how ≡ refuse 9 j
    → ((b : List (ℕ × Datum)) × ((walk_image r p (im ++ t)).answers ≡ (walk_image r p im).answers ++ b))
    × Later j (walk_image r p (im ++ t)).how
nine_grows r p im t j e = go (walk_more r p im t) e
  where
    go : {w w' : RowWalked} → Grown w w' → w.how ≡ refuse 9 j
        → ((b : List (ℕ × Datum)) × (w'.answers ≡ w.answers ++ b)) × Later j w'.how
    go (grown_same w) e = (([], sym (append-nil w.answers)), subst (Later j) (sym e) (nine j (omega arith)))
    go (more w w' i b h q l) e =
        ((b, q), subst (λ (x : ℕ). Later x w'.how) (ap (λ (x : Refusal). x.place) (same_refused (sym h ∙ e))) l)
