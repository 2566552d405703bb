-- How many bytes a walk that came to the end used: its null bits at least, the image at most. Assumes nothing.
use Prim.Native.Nat.{ℕ, ◌+◌, ◌≤◌, ◌<◌}
use mathlib.Core.Path.{◌≡◌, refl, sym, ap, ◌∙◌}
use mathlib.Core.Bool.{Bool, true, false}
use mathlib.Core.Logic.{dite}
use mathlib.Core.List.{List, [], ◌∷◌}
use native.Mathlib.Decide.{dec_le}
use native.Mathlib.Omega.{arith}
use borrow.Author.Tests.{eqb-true}
use lib.ListN.{length, take, drop, length-drop, take-append-drop}
use lib.Seq.{length-take-le}
use lib.Dec.{eqb}
use Rattle.wire.specs.Outcome.{Outcome, ok, refused, why, after}
use Rattle.wire.specs.Bits.{bytes_for}
use Rattle.wire.proofs.Outcomes.{same_ok, ok_not_refused, after_is_ok, test_is_ok}
use Rattle.value.specs.Data.{Datum}
use Rattle.value.proofs.Laws.{took}
use Rattle.record.specs.Records.{count_of, read_record}
use Rattle.record.proofs.Valid.{read_valid}
use Rattle.image.specs.declared.cursor.Head.{Head}
use Rattle.image.specs.Present.{Present, count_bits, present}
use Rattle.image.specs.Split.{Slot, slots, cursor, first_cursor, head_of}
use Rattle.image.specs.Walk.{RowWalked, going_on, read_slot, answered, read_slots, walk_from, walk_image}
use Rattle.image.proofs.CursorLaws.Heads.{Over}
use Rattle.image.proofs.PresenceLaws.Presents.{present_length}
use Rattle.image.proofs.EndLaws.Images.{walk_read, walk_short}

-- a slot takes bytes that are there
pub slot_fits : (i : Slot) (s : List ℕ) (d : Datum) (n : ℕ) → read_slot i s ≡ ok (d, n) → n ≤ length s
unfolding read_slot
slot_fits i s d n e = go i.null refl
  where
    go : (b : Bool) → i.null ≡ b → n ≤ length s
    go true q =
        let z = same_ok (rw q at e) in
        let m : 0 ≡ n = ap (λ (x : Datum × ℕ). x.1) z in
        omega arith
    go false q = (took i.present.shape i.present.column s d n (rw q at e)).fits

-- the reading goes on from its offset, and stays within the bytes
pub record Within (o room u : ℕ) : Type 0 where
  pub from : o ≤ u
  pub most : u ≤ o + room

pub slots_used : (is : List Slot) (s : List ℕ) (o u : ℕ) → (read_slots is s o).how ≡ ok u → Within o (length s) u
unfolding read_slots
slots_used [] s o u e = let z : o ≡ u = same_ok e in record { from = omega arith; most = omega arith }
slots_used (i ∷ is) s o u e = go (λ n. slots_used is (drop n s) (o + n) u) (read_slot i s) refl e
  where
    go : ((n : ℕ) → (read_slots is (drop n s) (o + n)).how ≡ ok u → Within (o + n) (length (drop n s)) u) → (x : Outcome (Datum × ℕ))
        → read_slot i s ≡ x
        → (answered i.present.column (λ n. read_slots is (drop n s) (o + n)) x).how ≡ ok u → Within o (length s) u
    go f (ok x) q e =
        let b = f x.1 e in
        let l = slot_fits i s x.0 x.1 q in
        record { from = omega (arith, b.from); most = omega (arith, b.most, l, length-drop x.1 s) }
    go f (refused w) q e = absurd (ok_not_refused (sym e))

-- under a valid record and presence bits of its length
over_used : (r p im : List ℕ) (u : ℕ) → Over r p → (walk_image r p im).how ≡ ok u → (bytes_for (length (present r p)) ≤ u) × (u ≤ length im)
over_used r p im u v e =
    let o = bytes_for (length (present r p)) in
    dite (dec_le o (length im))
    (λ (h : o ≤ length im).
    let l = length-take-le o im h in
    let q = sym (take-append-drop o im) in
    let b = slots_used _ (drop o im) (length (take o im)) u (rw (ap (walk_image r p) q ∙ walk_read r p (take o im) (drop o im) v l) at e) in
    (omega (arith, b.from), omega (arith, b.most, length-drop o im)))
    (λ h.
    let s : length im < o = omega arith in
    absurd (ok_not_refused (sym (rw (walk_short r p im v s) at e))))

-- where the tests went well, the record is valid and the presence bits are of its length
over_of : (r p : List ℕ) {h : Head} → head_of r p ≡ ok h → Over r p
unfolding head_of
over_of r p {h} e =
    let w = after_is_ok (read_record r) _ h e in
    let v = read_valid r w.0 w.1 in
    let t = test_is_ok (eqb (length p) (bytes_for w.0)) _ (why 12 0) h w.2 in
    record { valid = v.0; bits = eqb-true (length p) (bytes_for w.0) t.0 ∙ ap bytes_for v.1 }

-- whatever the record and the presence bits are: a walk that came to the end had good ones
pub walk_over : (r p im : List ℕ) (u : ℕ) → (walk_image r p im).how ≡ ok u → Over r p
unfolding walk_image first_cursor
walk_over r p im u e = go (head_of r p) refl e
  where
    go : (x : Outcome Head) → head_of r p ≡ x → (going_on (walk_from r p im) (after x (λ h. ok (cursor 0 h.nulls)))).how ≡ ok u → Over r p
    go (ok h) q e = over_of r p q
    go (refused w) q e = absurd (ok_not_refused (sym e))

pub walk_used : (r p im : List ℕ) (u : ℕ) → (walk_image r p im).how ≡ ok u → (bytes_for (length (present r p)) ≤ u) × (u ≤ length im)
walk_used r p im u e = over_used r p im u (walk_over r p im u e) e

-- where no column is present, none
no_present : (cs : List Present) → length cs ≡ 0 → cs ≡ []
no_present [] e = refl
no_present (c ∷ cs) e = absurd (omega arith)

pub walk_none : (r p im : List ℕ) → Over r p → count_bits p (count_of r) ≡ 0 → (walk_image r p im).how ≡ ok 0
unfolding read_slots slots
walk_none r p im v z =
    let e = no_present (present r p) (present_length r p ∙ z) in
    let l : 0 ≡ bytes_for (length (present r p)) = sym (ap (λ (cs : List Present). bytes_for (length cs)) e) in
    ap (λ (x : RowWalked). x.how) (walk_read r p [] im v l ∙ ap (λ (cs : List Present). read_slots (slots cs 0 []) im 0) e)
