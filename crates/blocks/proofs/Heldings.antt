-- Whether a state is fit, by what the code finds. Assumes nothing.
use Prim.Native.Nat.{ℕ, zero, suc, ◌+◌, ◌-◌, ◌≤◌, ◌<◌}
use mathlib.Core.Path.{◌≡◌, refl, sym, ap, ◌∙◌}
use mathlib.Core.Bool.{Bool, true, false, cond, ◌&&◌, not, true≢false}
use mathlib.Core.Logic.{dite}
use mathlib.Core.List.{List, [], ◌∷◌}
use native.Mathlib.Decide.{dec_le}
use native.Mathlib.Omega.{arith}
use borrow.Author.Tests.{le-leb, le-ltb, eq-eqb, ne_eqb}
use lib.ListN.{length, take}
use lib.Dec.{leb, ltb, eqb}
use Rattle.std.proofs.Math.Bool.{and-false}
use Rattle.wire.specs.Outcome.{Outcome, ok, refuse}
use Rattle.wire.specs.Bits.{bit_lsb0}
use Rattle.value.specs.declared.shape.Shape.{Shape}
use Rattle.value.specs.declared.shape.Shape.TheVariants.{NotTaken}
use Rattle.value.specs.Shapes.{need, prefix}
use Rattle.record.specs.Records.{count_of}
use Rattle.image.specs.Present.{count_bits, first_from, shape_at, present_from}
use Rattle.image.specs.Split.{Slot, slots, slots_at}
use Rattle.image.proofs.PresenceLaws.Firsts.{first_is, first_stop, slot_at, slots_end, slots_first, count_set, count_not, count_at_most}
use Rattle.blocks.specs.declared.state.Phase.TheVariants.{Open}
use Rattle.blocks.specs.declared.state.Arriving.{Arriving}
use Rattle.blocks.specs.Turns.{TurnSaid, wait, long, whole, too_long, turn_of}
use Rattle.blocks.specs.Fits.{waits, is_long}
use Rattle.blocks.specs.Ends.{end_over, end_in}
use Rattle.blocks.specs.Inner.Hands.{held_shape, due_from, end_open}

-- ---- by the turn
abbrev pub is_wait : TurnSaid → Bool
is_wait wait = true
is_wait (long n) = false
is_wait (whole n) = false

abbrev pub is_long_of : ℕ → TurnSaid → Bool
is_long_of left wait = false
is_long_of left (long n) = ltb 0 left && leb left n
is_long_of left (whole n) = false

module _ (room : ℕ) (sh : Shape) (x : List ℕ) where
  wait_turn : is_wait (turn_of room sh x) ≡ (not (too_long room sh x) && ltb (length x) (need sh x))
  unfolding turn_of
  wait_turn = go (too_long room sh x) (ltb (length x) (need sh x))
    where
      go : (a b : Bool) → is_wait (cond a (long (need sh x - prefix sh)) (cond b wait (whole (need sh x)))) ≡ (not a && b)
      go true b = refl
      go false true = refl
      go false false = refl

  long_turn : (left : ℕ) → is_long_of left (turn_of room sh x) ≡ (too_long room sh x && (ltb 0 left && leb left (need sh x - prefix sh)))
  unfolding turn_of
  long_turn left = go (too_long room sh x) (ltb (length x) (need sh x))
    where
      go : (a b : Bool) → is_long_of left (cond a (long (need sh x - prefix sh)) (cond b wait (whole (need sh x))))
          ≡ (a && (ltb 0 left && leb left (need sh x - prefix sh)))
      go true b = refl
      go false true = refl
      go false false = refl

-- a shape that there is not neither waits nor is long
none_turn : (room : ℕ) (x : List ℕ) → turn_of room (NotTaken 0) x ≡ whole 0
unfolding turn_of too_long need prefix
none_turn room x = rw (le-leb 0 (length x) (omega arith), le-ltb room 0 (omega arith), le-ltb (length x) 0 (omega arith))

-- ---- by the shape of the value in progress
module _ (r p y : List ℕ) (j : ℕ) (h : j ≤ count_of r) where
  abbrev n : ℕ
  n = count_of r

  -- what holds of the slots that are left, and of the shape: none, one of another column, NULL, or not
  by_slot : (P : List Slot → Shape → Type 0) → P [] (NotTaken 0)
      → ((i : Slot) (is : List Slot) → eqb i.present.column j ≡ false → P (i ∷ is) (NotTaken 0))
      → ((i : Slot) (is : List Slot) → i.present.column ≡ j → i.null ≡ true → P (i ∷ is) (NotTaken 0))
      → ((i : Slot) (is : List Slot) → i.present.column ≡ j → i.null ≡ false → P (i ∷ is) i.present.shape)
      → P (slots_at r p y j) (held_shape r p y (count_of r) j)
  unfolding held_shape
  by_slot P none other null there =
      let f = first_from (n - j) p j in
      let i = first_is (n - j) p j in
      dite (dec_le n f)
      (λ (l : n ≤ f). rw (slots_end r p y j h l) (absent l))
      (λ l. rw (slots_first r p y j h (omega arith)) (one (bit_lsb0 p j) refl (omega arith)))
    where
      absent : count_of r ≤ first_from (count_of r - j) p j
          → P [] (cond (eqb j (count_of r)) (NotTaken 0)
          (cond (bit_lsb0 p j) (cond (bit_lsb0 y (count_bits p j)) (NotTaken 0) (shape_at r j)) (NotTaken 0)))
      absent l =
          dite (dec_le (count_of r) j)
          (λ (a : count_of r ≤ j). let e : j ≡ count_of r = omega arith in rw (eq-eqb j (count_of r) e) none)
          (λ a. rw (ne_eqb j (count_of r) (λ (e : j ≡ count_of r). absurd (omega arith))) (bit (omega arith) (bit_lsb0 p j) refl))
        where
          bit : j < count_of r → (b : Bool) → bit_lsb0 p j ≡ b
              → P [] (cond b (cond (bit_lsb0 y (count_bits p j)) (NotTaken 0) (shape_at r j)) (NotTaken 0))
          bit a true e = absurd (omega (arith, l, first_stop (count_of r) j p a e))
          bit a false e = none

      one : (b : Bool) → bit_lsb0 p j ≡ b → first_from (count_of r - j) p j < count_of r
          → let f = first_from (count_of r - j) p j in
          P (slot_at r p y f ∷ slots_at r p y (f + 1))
          (cond (eqb j (count_of r)) (NotTaken 0) (cond b (cond (bit_lsb0 y (count_bits p j)) (NotTaken 0) (shape_at r j)) (NotTaken 0)))
      one true e l =
          let a = (first_is (count_of r - j) p j).low in
          let s = first_stop (count_of r) j p (omega arith) e in
          rw (s, ne_eqb j (count_of r) (λ (z : j ≡ count_of r). absurd (omega arith))) (bit (bit_lsb0 y (count_bits p j)) refl)
        where
          bit : (b : Bool) → bit_lsb0 y (count_bits p j) ≡ b → P (slot_at r p y j ∷ slots_at r p y (j + 1)) (cond b (NotTaken 0) (shape_at r j))
          bit true e = null (slot_at r p y j) (slots_at r p y (j + 1)) refl e
          bit false e = there (slot_at r p y j) (slots_at r p y (j + 1)) refl e
      one false e l =
          let f = first_from (count_of r - j) p j in
          let i = first_is (count_of r - j) p j in
          let z : f ≡ j → ⊥ = λ (k : f ≡ j). absurd (true≢false (sym (i.found (omega arith)) ∙ ap (bit_lsb0 p) k ∙ e)) in
          let a = i.low in
          rw (ne_eqb j (count_of r) (λ (k : j ≡ count_of r). absurd (omega arith)))
          (other (slot_at r p y f) (slots_at r p y (f + 1)) (ne_eqb f j z))

  pub waits_turn : (room : ℕ) (x : List ℕ) → is_wait (turn_of room (held_shape r p y (count_of r) j) x) ≡ waits room j (slots_at r p y j) x
  unfolding waits
  waits_turn room x =
      by_slot (λ is sh. is_wait (turn_of room sh x) ≡ waits room j is x)
      (ap is_wait (none_turn room x))
      (λ i is e. rw (none_turn room x, e))
      (λ i is e f. rw (none_turn room x, eq-eqb i.present.column j e, f))
      (λ i is e f. rw (eq-eqb i.present.column j e, f) (wait_turn room i.present.shape x))

  pub longs_turn : (room left : ℕ) (x : List ℕ) → let sh = held_shape r p y (count_of r) j in
      (eqb (length x) (prefix sh) && is_long_of left (turn_of room sh x)) ≡ is_long room j left (slots_at r p y j) x
  unfolding is_long
  longs_turn room left x =
      by_slot (λ is sh. (eqb (length x) (prefix sh) && is_long_of left (turn_of room sh x)) ≡ is_long room j left is x)
      (rw (none_turn room x) (and-false (eqb (length x) (prefix (NotTaken 0)))))
      (λ i is e. rw (none_turn room x, e) (and-false (eqb (length x) (prefix (NotTaken 0)))))
      (λ i is e f. rw (none_turn room x, eq-eqb i.present.column j e, f) (and-false (eqb (length x) (prefix (NotTaken 0)))))
      (λ i is e f. rw (eq-eqb i.present.column j e, f, long_turn room i.present.shape x left))

-- ---- the end: the first column that is due
pub due_most : (m : ℕ) (p y : List ℕ) (j : ℕ) → due_from m p y j ≤ j + m
unfolding due_from
due_most zero p y j = omega arith
due_most (suc m) p y j = go (bit_lsb0 p j) (bit_lsb0 y (count_bits p j)) (due_most m p y (suc j))
  where
    go : (a b : Bool) → due_from m p y (suc j) ≤ suc j + m → cond a (cond b (due_from m p y (suc j)) j) (due_from m p y (suc j)) ≤ j + suc m
    go true true i = omega arith
    go true false i = omega arith
    go false b i = omega arith

end_due : (m : ℕ) (r p y : List ℕ) (j used : ℕ)
    → end_over (slots (present_from m r p j) (count_bits p j) y) used
    ≡ cond (eqb (due_from m p y j) (j + m)) (ok used) (refuse 9 (due_from m p y j))
unfolding end_over slots present_from due_from
end_due zero r p y j used = let e : j ≡ j + 0 = omega arith in rw (eq-eqb j (j + 0) e)
end_due (suc m) r p y j used = go (end_due m r p y (suc j) used) (bit_lsb0 p j) refl
  where
    on : let d = due_from m p y (suc j) in cond (eqb d (suc j + m)) (ok used) (refuse 9 d) ≡ cond (eqb d (j + suc m)) (ok used) (refuse 9 d)
    on = let e : suc j + m ≡ j + suc m = omega arith in rw e

    go : (let d = due_from m p y (suc j) in
        end_over (slots (present_from m r p (suc j)) (count_bits p (suc j)) y) used ≡ cond (eqb d (suc j + m)) (ok used) (refuse 9 d))
        → (b : Bool) → bit_lsb0 p j ≡ b
        → end_over (slots (present_from (suc m) r p j) (count_bits p j) y) used
        ≡ cond (eqb (due_from (suc m) p y j) (j + suc m)) (ok used) (refuse 9 (due_from (suc m) p y j))
    go i false e = rw (e, ← count_not p j e) (i ∙ on)
    go i true e = null (bit_lsb0 y (count_bits p j)) refl
      where
        null : (b : Bool) → bit_lsb0 y (count_bits p j) ≡ b
            → end_over (slots (present_from (suc m) r p j) (count_bits p j) y) used
            ≡ cond (eqb (due_from (suc m) p y j) (j + suc m)) (ok used) (refuse 9 (due_from (suc m) p y j))
        null true f = rw (e, f, ← count_set p j e) (i ∙ on)
        null false f = rw (e, f, ne_eqb j (j + suc m) (λ (z : j ≡ j + suc m). absurd (omega arith)))

pub end_found : (r p y : List ℕ) (j used : ℕ) → j ≤ count_of r
    → end_over (slots_at r p y j) used
    ≡ cond (eqb (due_from (count_of r - j) p y j) (count_of r)) (ok used) (refuse 9 (due_from (count_of r - j) p y j))
unfolding slots_at
end_found r p y j used h =
    let e : j + (count_of r - j) ≡ count_of r = omega arith in
    end_due (count_of r - j) r p y j used ∙ rw e

pub end_open_is : (r p carry : List ℕ) (nb : ℕ) (st : Arriving) → st.column ≤ count_of r
    → end_open p (count_of r) nb st carry ≡ end_in Open r p nb st carry
unfolding end_open end_in
end_open_is r p carry nb st h =
    ap (λ (o : Outcome ℕ). cond (ltb st.held nb) (refuse 9 0) o) (sym (end_found r p (take st.held carry) st.column st.used h))

-- ---- the loop over the columns that are present
-- the columns before j are NULL or absent
pub record DueFrom (p y : List ℕ) (column n j rank : ℕ) : Type 0 where
  pub is_rank : rank ≡ count_bits p j
  pub rest : due_from (n - column) p y column ≡ due_from (n - j) p y j

module _ (p y : List ℕ) (column n j rank : ℕ) (d : DueFrom p y column n j rank) where
  pub due_absent : j < n → bit_lsb0 p j ≡ false → DueFrom p y column n (j + 1) rank
  unfolding due_from
  due_absent h e =
      let k : n - j ≡ suc (n - (j + 1)) = omega arith in
      let z : j + 1 ≡ suc j = omega arith in
      record { is_rank = d.is_rank ∙ sym (rw z (count_not p j e)); rest = d.rest ∙ rw (k, e, z) }

  module _ (h : j < n) (e : bit_lsb0 p j ≡ true) where
    pub due_null : bit_lsb0 y rank ≡ true → DueFrom p y column n (j + 1) (rank + 1)
    unfolding due_from
    due_null f =
        let k : n - j ≡ suc (n - (j + 1)) = omega arith in
        let z : j + 1 ≡ suc j = omega arith in
        let w : rank + 1 ≡ suc rank = omega arith in
        let b : bit_lsb0 y (count_bits p j) ≡ true = ap (bit_lsb0 y) (sym d.is_rank) ∙ f in
        record { is_rank = rw (w, z) (ap suc d.is_rank ∙ sym (count_set p j e)); rest = d.rest ∙ rw (k, e, b, z) }

    pub due_stop : bit_lsb0 y rank ≡ false → j ≡ due_from (n - column) p y column
    unfolding due_from
    due_stop f =
        let k : n - j ≡ suc (n - suc j) = omega arith in
        let b : bit_lsb0 y (count_bits p j) ≡ false = ap (bit_lsb0 y) (sym d.is_rank) ∙ f in
        sym (d.rest ∙ rw (k, e, b))

  pub due_end : j ≡ n → n ≡ due_from (n - column) p y column
  unfolding due_from
  due_end h = let k : n - j ≡ 0 = omega arith in sym (d.rest ∙ rw k h)

-- what a turn of the loop does
pub ruleset due_rules = (due_absent, due_null, due_stop, due_end, count_at_most)
