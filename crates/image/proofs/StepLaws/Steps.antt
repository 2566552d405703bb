-- What a step answers, by what the code finds. Assumes nothing.
use Prim.Native.Nat.{ℕ, suc, ◌+◌, ◌-◌, ◌≤◌, ◌<◌}
use mathlib.Core.Path.{◌≡◌, sym, ap, subst, ◌∙◌}
use mathlib.Core.Bool.{true, false, cond}
use mathlib.Core.List.{List, [], ◌∷◌}
use native.Mathlib.Numerals.{add-one}
use native.Mathlib.Omega.{arith}
use borrow.Author.Tests.{le-ltb, ltb-false}
use lib.ListN.{length}
use lib.Dec.{ltb}
use Rattle.wire.specs.declared.refusal.Refusal.{Refusal}
use Rattle.wire.specs.Outcome.{Outcome, ok, refused, why, after}
use Rattle.wire.specs.Bits.{bit_lsb0}
use Rattle.wire.proofs.Outcomes.{after_is_ok, by_test, ok_not_refused, same_ok}
use Rattle.value.specs.declared.column.Column.{Column}
use Rattle.value.specs.declared.datum.Value.{Value}
use Rattle.value.specs.Columns.{shape_of}
use Rattle.value.specs.Reading.{read_value}
use Rattle.record.specs.Entries.{column_of}
use Rattle.record.specs.Records.{most_columns, count_of, entry_in}
use Rattle.image.specs.declared.cursor.Cursor.{Cursor}
use Rattle.image.specs.declared.cursor.Head.{Head}
use Rattle.image.specs.declared.step.InnerCursor.{InnerCursor}
use Rattle.image.specs.Present.{count_bits, first_from, shape_at}
use Rattle.image.specs.Split.{Slot, cursor, slots_at, head_of, ColumnStepped, null, value, end, step_over, slots_left, step_from}
use Rattle.image.specs.Inner.Steps.{Placed}
use Rattle.image.proofs.PresenceLaws.Firsts.{IsFirst, first_is, first_below, present_at, count_set, count_at_most, slots_end, slots_first}

-- the slots from a cursor on, f being the first present column from it on
module _ {r p : List ℕ} {n : ℕ} {s : InnerCursor} (h : Placed r p n s) {f : ℕ} (e : f ≡ first_from (n - s.cursor.column) p s.cursor.column) where
  here : first_from (count_of r - s.cursor.column) p s.cursor.column ≡ f
  here = ap (λ (m : ℕ). first_from (m - s.cursor.column) p s.cursor.column) (sym h.count) ∙ sym e

  facts : IsFirst (n - s.cursor.column) p s.cursor.column f
  facts = subst (IsFirst (n - s.cursor.column) p s.cursor.column) (sym e) (first_is (n - s.cursor.column) p s.cursor.column)

  pub column_below : (f ≡ n → ⊥) → f < n
  column_below u = first_below p h.column e u

  rank_is : count_bits p f ≡ s.rank
  rank_is = facts.rank ∙ sym h.rank

  -- the rank behind it
  pub rank_next : (f ≡ n → ⊥) → s.rank + 1 ≡ count_bits p (f + 1)
  rank_next u =
      sym (ap (count_bits p) (add-one f) ∙ count_set p f (facts.found (omega (arith, column_below u, h.column))) ∙ ap suc rank_is
      ∙ sym (add-one s.rank))

  -- which is no large number
  pub rank_small : s.rank ≤ most_columns
  rank_small = omega (arith, h.rank, count_at_most p s.cursor.column, h.column, h.few)

  pub slots_none : (im : List ℕ) → f ≡ n → slots_at r p im s.cursor.column ≡ []
  slots_none im u = slots_end r p im s.cursor.column (omega (arith, h.column, h.count)) (omega (arith, here, h.count))

  pub slots_some : (im : List ℕ) → (f ≡ n → ⊥)
      → slots_at r p im s.cursor.column ≡ record { present = present_at r f; null = bit_lsb0 im s.rank } ∷ slots_at r p im (f + 1)
  slots_some im u =
      let w =
      rw here at (slots_first r p im s.cursor.column (omega (arith, h.column, h.count))
      (omega (arith, here, h.count, column_below u))) in
      rw rank_is at w

  module _ (im : List ℕ) (o : ℕ) where
    pub step_end : f ≡ n → step_over (slots_at r p im s.cursor.column) im o ≡ ok (end o)
    unfolding step_over
    step_end u = rw (slots_none im u)

    pub step_null : (f ≡ n → ⊥) → bit_lsb0 im s.rank ≡ true
        → step_over (slots_at r p im s.cursor.column) im o ≡ ok (null f (cursor (f + 1) o))
    unfolding step_over
    step_null u b = rw (slots_some im u, b)

    -- the value that the record's column says
    module _ (u : f ≡ n → ⊥) (b : bit_lsb0 im s.rank ≡ false) {k : Column} (g : k ≡ column_of (entry_in r f)) where
      abbrev pub then : Outcome (Value × ℕ) → Outcome ColumnStepped
      then w = after w (λ x. ok (value f x.0 (cursor (f + 1) x.1)))

      -- a being what the reader answered
      pub step_read : (a : Outcome (Value × ℕ)) → a ≡ read_value (shape_of k) f im o
          → step_over (slots_at r p im s.cursor.column) im o ≡ then a
      unfolding step_over shape_at
      step_read a q = rw (slots_some im u, b) (ap then (ap (λ (c : Column). read_value (shape_of c) f im o) (sym g) ∙ sym q))

      -- by what the reader answered
      module _ (a : Outcome (Value × ℕ)) (q : a ≡ read_value (shape_of k) f im o) where
        pub step_got : (v : Value) (x : ℕ) → a ≡ ok (v, x) → step_over (slots_at r p im s.cursor.column) im o ≡ ok (value f v (cursor (f + 1) x))
        step_got v x y = step_read (ok (v, x)) (sym y ∙ q)

        pub step_bad : (z : Refusal) → a ≡ refused z → step_over (slots_at r p im s.cursor.column) im o ≡ refused z
        step_bad z y = step_read (refused z) (sym y ∙ q)

-- what the code's own step goes by
pub ruleset stepping = (column_below, rank_next, rank_small, step_end, step_null)

-- ---- a cursor that passes the tests
pub left_goes : (r p im : List ℕ) (c : Cursor) {h : Head} → head_of r p ≡ ok h → c.column ≤ h.columns → h.nulls ≤ length im
    → c.offset ≤ length im
    → slots_left r p im c ≡ ok (slots_at r p im c.column)
unfolding slots_left
left_goes r p im c {h} e a b d =
    rw (e, le-ltb h.columns c.column a, le-ltb (length im) h.nulls b, le-ltb (length im) c.offset d)

-- a step from it goes over the slots from its column on
pub step_goes : (r p im : List ℕ) (c : Cursor) {h : Head} → head_of r p ≡ ok h → c.column ≤ h.columns → h.nulls ≤ length im
    → c.offset ≤ length im
    → step_from r p im c ≡ step_over (slots_at r p im c.column) im c.offset
unfolding step_from
step_goes r p im c e a b d = rw (left_goes r p im c e a b d)

-- and the other way: what they tell
pub record Stands (r p im : List ℕ) (c : Cursor) (is : List Slot) : Type 0 where
  pub head : Head
  pub tested : head_of r p ≡ ok head
  pub column : c.column ≤ head.columns
  pub nulls : head.nulls ≤ length im
  pub offset : c.offset ≤ length im
  pub slots : slots_at r p im c.column ≡ is

-- a test whose failing is a refusal
past_test : {A : Type 0} (a b : ℕ) (w : Refusal) (x : Outcome A) (y : A) → cond (ltb a b) (refused w) x ≡ ok y → (b ≤ a) × (x ≡ ok y)
past_test a b w x y e =
    by_test (ltb a b) (refused w) x (ok y) e (λ u f. absurd (ok_not_refused (sym f))) (λ u f. let l = ltb-false a b u in (omega arith, f))

pub left_stands : (r p im : List ℕ) (c : Cursor) (is : List Slot) → slots_left r p im c ≡ ok is → Stands r p im c is
unfolding slots_left
left_stands r p im c is e =
    let a = after_is_ok (head_of r p) _ is e in
    let h = a.0 in
    let x = past_test h.columns c.column (why 14 c.column) _ is a.2 in
    let y = past_test (length im) h.nulls (why 9 0) _ is x.1 in
    let z = past_test (length im) c.offset (why 9 c.column) _ is y.1 in
    record { head = h; tested = a.1; column = x.0; nulls = y.0; offset = z.0; slots = same_ok z.1 }
