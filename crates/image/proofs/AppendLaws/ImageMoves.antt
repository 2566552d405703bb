-- An image is told by its own bytes, as many as it used, wherever they stand and whatever stands around them. Assumes nothing.
use Prim.Native.Nat.{ℕ, ◌+◌, ◌-◌, ◌≤◌}
use mathlib.Core.Path.{◌≡◌, refl, sym, ap, ◌∙◌}
use mathlib.Core.Bool.{Bool, true, false}
use mathlib.Core.List.{List, [], ◌∷◌}
use native.Mathlib.Omega.{arith}
use lib.ListN.{length, take, drop, length-drop}
use lib.Seq.{take-take}
use Rattle.wire.specs.Outcome.{Outcome, ok, refused}
use Rattle.wire.specs.Bits.{bytes_for}
use Rattle.wire.specs.Parts.{Moved}
use Rattle.wire.proofs.Outcomes.{ok_not_refused}
use Rattle.wire.proofs.Moves.{front_part}
use Rattle.value.specs.Data.{Datum}
use Rattle.value.proofs.Laws.{took}
use Rattle.value.proofs.Moves.{datum_moved}
use Rattle.image.specs.Present.{present}
use Rattle.image.specs.Split.{Slot, slots}
use Rattle.image.specs.Walk.{RowWalked, with_answer, read_slot, answered, read_slots, walk_image}
use Rattle.image.proofs.EndLaws.Used.{slot_fits, slots_used, walk_over, walk_used}
use Rattle.image.proofs.AppendLaws.GrownWalks.{walk_cut}

-- ---- one slot
slot_moved : (i : Slot) (s t : List ℕ) (d : Datum) (n : ℕ) → read_slot i s ≡ ok (d, n) → n ≤ length t → take n t ≡ take n s
    → read_slot i t ≡ ok (d, n)
unfolding read_slot
slot_moved i s t d n e l q = go i.null refl
  where
    go : (b : Bool) → i.null ≡ b → read_slot i t ≡ ok (d, n)
    go true m = rw m (rw m at e)
    go false m =
        let f = rw m at e in
        let w = took i.present.shape i.present.column s d n f in
        rw m
        (datum_moved i.present.shape i.present.column s t (omega (arith, w.size, w.fits)) (omega (arith, w.size, l))
        (rw (sym w.size) q) ∙ f)

-- ---- slots one after the other
-- bytes behind n, of m that are the same
behind : (a b : List ℕ) (m n : ℕ) → n ≤ m → m ≤ length a → m ≤ length b → take m a ≡ take m b
    → take (m - n) (drop n a) ≡ take (m - n) (drop n b)
behind a b m n h l k e = front_part a b m n (m - n) (omega arith) l k e

pub slots_moved : (is : List Slot) (s t : List ℕ) (o u : ℕ) → (read_slots is s o).how ≡ ok u → u - o ≤ length t
    → take (u - o) t ≡ take (u - o) s
    → read_slots is t o ≡ read_slots is s o
unfolding read_slots
slots_moved [] s t o u e l q = refl
slots_moved (i ∷ is) s t o u e l q =
    go (λ n. slots_moved is (drop n s) (drop n t) (o + n) u) (read_slot i s) refl e
  where
    rest : List ℕ → ℕ → RowWalked
    rest s n = read_slots is (drop n s) (o + n)

    go : ((n : ℕ) → (rest s n).how ≡ ok u → u - (o + n) ≤ length (drop n t) → take (u - (o + n)) (drop n t) ≡ take (u - (o + n)) (drop n s)
        → rest t n ≡ rest s n)
        → (x : Outcome (Datum × ℕ)) → read_slot i s ≡ x → (answered i.present.column (rest s) x).how ≡ ok u
        → answered i.present.column (rest t) (read_slot i t) ≡ answered i.present.column (rest s) x
    go f (ok x) p h =
        let n = x.1 in
        let b = slots_used is (drop n s) (o + n) u h in
        let c = slot_fits i s x.0 n p in
        let z = length-drop n s in
        let y = length-drop n t in
        let m : n ≤ u - o = omega (arith, b.from) in
        let a : u - o ≤ length s = omega (arith, b.most) in
        let r : u - (o + n) ≡ u - o - n = omega arith in
        let g : take n t ≡ take n s = sym (take-take n (u - o) t m) ∙ ap (take n) q ∙ take-take n (u - o) s m in
        let k : take (u - (o + n)) (drop n t) ≡ take (u - (o + n)) (drop n s) = rw r (behind t s (u - o) n m l a q) in
        rw (slot_moved i s t x.0 n p (omega arith) g)
        (ap (with_answer (i.present.column, x.0)) (f n h (omega arith) k))
    go f (refused w) p h = absurd (ok_not_refused (sym h))

-- ---- the whole walk
pub image_moved : (r p im : List ℕ) (n : ℕ) (t : List ℕ) (to : ℕ) → (walk_image r p im).how ≡ ok n → Moved n im 0 t to
    → walk_image r p (drop to t) ≡ walk_image r p im
image_moved r p im n t to e m =
    let v = walk_over r p im n e in
    let w = walk_used r p im n e in
    let o = bytes_for (length (present r p)) in
    let x = drop to t in
    let l : n ≤ length x = omega (arith, m.whole, length-drop to t) in
    let q : take n x ≡ take n im = m.same in
    let a : take o x ≡ take o im = sym (take-take o n x w.0) ∙ ap (take o) q ∙ take-take o n im w.0 in
    let c : walk_image r p im ≡ read_slots (slots (present r p) 0 (take o im)) (drop o im) o = walk_cut r p im v (omega arith) in
    let h = sym (ap (λ (y : RowWalked). y.how) c) ∙ e in
    walk_cut r p x v (omega arith)
    ∙ ap (λ (b : List ℕ). read_slots (slots (present r p) 0 b) (drop o x) o) a
    ∙ slots_moved (slots (present r p) 0 (take o im)) (drop o im) (drop o x) o n h (rw length-drop (omega arith))
    (behind x im n o w.0 l w.1 q)
    ∙ sym c
