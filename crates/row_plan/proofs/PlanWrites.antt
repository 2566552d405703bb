-- By the plan of a record a value is written as under that record, and so is a row. Assumes nothing.
use Prim.Native.Nat.{ℕ, suc, ◌+◌, ◌-◌, ◌≤◌, ◌<◌}
use mathlib.Core.Path.{◌≡◌, refl, sym, ap, ◌∙◌}
use mathlib.Core.Bool.{Bool, true, false, cond}
use mathlib.Core.Logic.{dite}
use mathlib.Core.List.{List, [], ◌∷◌}
use native.Mathlib.Decide.{dec_le}
use native.Mathlib.Numerals.{add-one}
use native.Mathlib.Omega.{arith}
use borrow.Author.Tests.{le-ltb, eqb-true}
use lib.ListN.{length}
use lib.Dec.{eqb}
use Rattle.wire.specs.Outcome.{Outcome, ok, refused, refuse, why, after}
use Rattle.wire.specs.Bits.{bytes_for}
use Rattle.wire.specs.Stored.{store}
use Rattle.wire.proofs.Outcomes.{same_ok, after_is_ok, test_is_ok}
use Rattle.value.specs.declared.datum.Value.{Value}
use Rattle.record.specs.Records.{count_of, read_record}
use Rattle.record.proofs.Valid.{read_valid}
use Rattle.image.specs.declared.cursor.Cursor.{Cursor}
use Rattle.image.specs.Present.{count_bits, first_from}
use Rattle.image.specs.Split.{Slot, cursor, slots_at, head_of, head_with}
use Rattle.image.specs.Puts.{filled, head_nulls, start_image, slot_bytes, put_over, put_from}
use Rattle.image.specs.WriteRow.{LentValue, put_row, write_row, left_then, put_left, write_left}
use Rattle.image.proofs.PresenceLaws.Firsts.{first_is, slot_at, slots_first, count_set, count_none}
use Rattle.image.proofs.CursorLaws.Heads.{Over, head_is, null_bytes, nulls_tested}
use Rattle.row_plan.specs.declared.put.ItemCursor.{ItemCursor}
use Rattle.row_plan.specs.Plan.{plan_of}
use Rattle.row_plan.specs.Puts.{item_cursor, plan_put, plan_puts, plan_write, item_then, plan_puts_left, plan_left, item_of}
use Rattle.row_plan.proofs.Rows.{count_up, items_present, plan_slots_lem}

-- a cursor and a buffer of the writer under a record, as a plan has them
abbrev items : List ℕ → Outcome (Cursor × List ℕ) → Outcome (ItemCursor × List ℕ)
items p w = after w (λ x. ok (item_of p x.0, x.1))

-- ---- the first slot from a column on, where one is left
record Ahead (r p nulls : List ℕ) (j : ℕ) : Type 0 where
  at : ℕ
  below : at < count_of r
  rank : count_bits p (at + 1) ≡ count_bits p j + 1
  is : slots_at r p nulls j ≡ slot_at r p nulls at ∷ slots_at r p nulls (at + 1)

ahead : (r p nulls : List ℕ) (j : ℕ) → j ≤ count_of r → count_bits p j < count_bits p (count_of r) → Ahead r p nulls j
ahead r p nulls j b l =
    let n = count_of r in
    let k = first_from (n - j) p j in
    let i = first_is (n - j) p j in
    dite (dec_le n k)
    (λ a. let e : k ≡ n = omega (arith, i.high) in
    let z : count_bits p n ≡ count_bits p j = ap (count_bits p) (sym e) ∙ i.rank in absurd (omega arith))
    (λ a. record {
      at = k;
      below = omega arith;
      rank = ap (count_bits p) (add-one k) ∙ count_set p k (i.found (omega arith)) ∙ ap suc i.rank ∙ sym (add-one (count_bits p j));
      is = slots_first r p nulls j b (omega arith);
    })

-- ---- a step
-- a step over slots, told with the item behind k
abbrev told : ℕ → Outcome (Cursor × List ℕ) → Outcome (ItemCursor × List ℕ)
told k w = after w (λ x. ok (item_cursor (k + 1) x.0.offset, x.1))

-- what was stored, told with the column behind j
abbrev next : ℕ → Outcome (ℕ × List ℕ) → Outcome (Cursor × List ℕ)
next j w = after w (λ x. ok (cursor (j + 1) x.0, x.1))

module _ (p lent : List ℕ) (v : Value) (buf : List ℕ) (c : Cursor) (i : Slot) (is : List Slot) where
  -- over the same slots, from a cursor with another number in place of its column
  over_alike : (k : ℕ) → count_bits p (i.present.column + 1) ≡ k + 1
      → told k (put_over (i ∷ is) (cursor k c.offset) lent v buf) ≡ items p (put_over (i ∷ is) c lent v buf)
  unfolding put_over item_of
  over_alike k e = go (slot_bytes i lent v)
    where
      stores : (w : Outcome (ℕ × List ℕ)) → told k (next i.present.column w) ≡ items p (next i.present.column w)
      stores (ok x) = rw e
      stores (refused z) = refl

      go : (w : Outcome (List ℕ))
          → told k (after w (λ b. next i.present.column (store b buf c.offset)))
          ≡ items p (after w (λ b. next i.present.column (store b buf c.offset)))
      go (ok y) = stores (store y buf c.offset)
      go (refused z) = refl

  -- the cursor behind
  over_next : (x : Cursor × List ℕ) → put_over (i ∷ is) c lent v buf ≡ ok x → x.0.column ≡ i.present.column + 1
  unfolding put_over
  over_next x e =
      let a = after_is_ok (slot_bytes i lent v) _ x e in
      let b = after_is_ok (store a.0 buf c.offset) _ x a.2 in
      ap (λ (y : Cursor × List ℕ). y.0.column) (sym (same_ok b.2))

module _ (r p nulls lent : List ℕ) (v : Value) (buf : List ℕ) (c : Cursor) (u : Over r p) (b : c.column ≤ count_of r) where
  -- past the tests it goes over the slots from its column on
  put_goes : (t : Bool) → eqb (length nulls) (null_bytes r p) ≡ t
      → put_from r p nulls c lent v buf ≡ cond t (put_over (slots_at r p nulls c.column) c lent v buf) (refuse 12 0)
  unfolding put_from head_nulls
  put_goes true e = rw (head_is r p u, e, le-ltb (count_of r) c.column b)
  put_goes false e = rw (head_is r p u, e)

  plan_goes : (t : Bool) → eqb (length nulls) (null_bytes r p) ≡ t
      → plan_put (plan_of r p) nulls (item_of p c) lent v buf
      ≡ cond t (told (count_bits p c.column) (put_over (slots_at r p nulls c.column) (cursor (count_bits p c.column) c.offset)
      lent v buf)) (refuse 12 0)
  unfolding plan_put item_of
  plan_goes t e = rw (plan_slots_lem r p nulls c.column u.valid b, items_present r p, e)

  module _ (l : count_bits p c.column < count_bits p (count_of r)) where
    -- a value is written alike, from a cursor of the writer that has a present column left
    put_alike : plan_put (plan_of r p) nulls (item_of p c) lent v buf ≡ items p (put_from r p nulls c lent v buf)
    put_alike = go (eqb (length nulls) (null_bytes r p)) refl
      where
        go : (t : Bool) → eqb (length nulls) (null_bytes r p) ≡ t
            → plan_put (plan_of r p) nulls (item_of p c) lent v buf ≡ items p (put_from r p nulls c lent v buf)
        go false e = plan_goes false e ∙ sym (ap (items p) (put_goes false e))
        go true e =
            let h = ahead r p nulls c.column b l in
            plan_goes true e
            ∙ rw h.is
            (over_alike p lent v buf c (slot_at r p nulls h.at) (slots_at r p nulls (h.at + 1)) (count_bits p c.column) h.rank)
            ∙ sym (ap (items p) (put_goes true e))

    -- and the cursor behind it has one item less before it
    next_of : (x : Cursor × List ℕ) → put_from r p nulls c lent v buf ≡ ok x
        → (x.0.column ≤ count_of r) × (count_bits p x.0.column ≡ count_bits p c.column + 1)
    next_of x = go (eqb (length nulls) (null_bytes r p)) refl
      where
        go : (t : Bool) → eqb (length nulls) (null_bytes r p) ≡ t → put_from r p nulls c lent v buf ≡ ok x
            → (x.0.column ≤ count_of r) × (count_bits p x.0.column ≡ count_bits p c.column + 1)
        go false e q = absurd (let z : refuse 12 0 ≡ ok x = sym (put_goes false e) ∙ q in let y : ◌≡◌ {A = ℕ} 0 1 = cc in omega arith)
        go true e q =
            let h = ahead r p nulls c.column b l in
            let w : put_over (slot_at r p nulls h.at ∷ slots_at r p nulls (h.at + 1)) c lent v buf ≡ ok x =
            rw h.is at (sym (put_goes true e) ∙ q) in
            let n = over_next p lent v buf c (slot_at r p nulls h.at) (slots_at r p nulls (h.at + 1)) x w in
            (omega (arith, n, h.below), ap (count_bits p) n ∙ h.rank)

-- by the plan a value is written as under the record: a column above the record's has no present one left
pub plan_put_lem : (r p nulls lent : List ℕ) (v : Value) (buf : List ℕ) (c : Cursor) → Over r p
    → count_bits p c.column < count_bits p (count_of r)
    → plan_put (plan_of r p) nulls (item_of p c) lent v buf ≡ items p (put_from r p nulls c lent v buf)
plan_put_lem r p nulls lent v buf c u l =
    dite (dec_le c.column (count_of r))
    (λ b. put_alike r p nulls lent v buf c u b l)
    (λ b. let e : count_of r + (c.column - count_of r) ≡ c.column = omega arith in
    let m = rw e at (count_up p (count_of r) (c.column - count_of r)) in absurd (omega arith))

-- ---- a row
puts_alike : (r p nulls : List ℕ) → Over r p → (gs : List LentValue) (c : Cursor) (buf : List ℕ) → c.column ≤ count_of r
    → count_bits p c.column + length gs ≤ count_bits p (count_of r)
    → plan_puts (plan_of r p) nulls gs (item_of p c) buf ≡ items p (put_row r p nulls gs c buf)
unfolding plan_puts put_row
puts_alike r p nulls u [] c buf b l = refl
puts_alike r p nulls u (g ∷ gs) c buf b l =
    rw (put_alike r p nulls g.lent g.value buf c u b (omega arith))
    (go (puts_alike r p nulls u gs) (put_from r p nulls c g.lent g.value buf) refl)
  where
    go : ((c : Cursor) (buf : List ℕ) → c.column ≤ count_of r → count_bits p c.column + length gs ≤ count_bits p (count_of r)
        → plan_puts (plan_of r p) nulls gs (item_of p c) buf ≡ items p (put_row r p nulls gs c buf))
        → (w : Outcome (Cursor × List ℕ)) → put_from r p nulls c g.lent g.value buf ≡ w
        → after (items p w) (λ x. plan_puts (plan_of r p) nulls gs x.0 x.1) ≡ items p (after w (λ x. put_row r p nulls gs x.0 x.1))
    go rest (ok x) e =
        let n = next_of r p nulls g.lent g.value buf c u b (omega arith) x e in
        rest x.0 x.1 n.0 (omega (arith, n.1))
    go rest (refused z) e = refl

-- a start that went well: the tests before it did, and its cursor stands before the first column
start_next : (r p nulls buf : List ℕ) (x : Cursor × List ℕ) → start_image r p nulls buf ≡ ok x → Over r p × (x.0.column ≡ 0)
unfolding start_image head_of
start_next r p nulls buf x e =
    let h = after_is_ok (head_nulls r p nulls) _ x e in
    let t = (nulls_tested r p nulls h.1).0 in
    let w = after_is_ok (read_record r) _ h.0 t in
    let v = read_valid r w.0 w.1 in
    let q = test_is_ok (eqb (length p) (bytes_for w.0)) (head_with w.0 (count_bits p w.0)) (why 12 0) h.0 w.2 in
    let s = after_is_ok (store (filled h.0.present nulls) buf 0) _ x h.2 in (
      record { valid = v.0; bits = eqb-true (length p) (bytes_for w.0) q.0 ∙ ap bytes_for v.1 },
      ap (λ (y : Cursor × List ℕ). y.0.column) (sym (same_ok s.2)),
    )

item_first : (p : List ℕ) (c : Cursor) → count_bits p c.column ≡ 0 → item_cursor 0 c.offset ≡ item_of p c
unfolding item_of
item_first p c z = rw z

-- a row that is written by a start and steps by the plan is the row written under the record, whatever refuses it
pub plan_write_lem : (r p nulls : List ℕ) (gs : List LentValue) (buf : List ℕ) → length gs ≤ count_bits p (count_of r)
    → plan_write r p nulls gs buf ≡ items p (write_row r p nulls gs buf)
unfolding plan_write write_row
plan_write_lem r p nulls gs buf l = go (start_image r p nulls buf) refl
  where
    go : (w : Outcome (Cursor × List ℕ)) → start_image r p nulls buf ≡ w
        → after w (λ x. plan_puts (plan_of r p) nulls gs (item_cursor 0 x.0.offset) x.1)
        ≡ items p (after w (λ x. put_row r p nulls gs x.0 x.1))
    go (refused z) e = refl
    go (ok x) e =
        let s = start_next r p nulls buf x e in
        let z : count_bits p x.0.column ≡ 0 = ap (count_bits p) s.1 ∙ count_none p in
        rw (item_first p x.0 z) (puts_alike r p nulls s.0 gs x.0 x.1 (omega (arith, s.1)) (omega (arith, z)))

-- ---- what is left of the buffer
left_alike : (r p nulls : List ℕ) → Over r p → (gs : List LentValue) (c : Cursor) (buf : List ℕ) → c.column ≤ count_of r
    → count_bits p c.column + length gs ≤ count_bits p (count_of r)
    → plan_puts_left (plan_of r p) nulls gs (item_of p c) buf ≡ put_left r p nulls gs c buf
unfolding plan_puts_left put_left
left_alike r p nulls u [] c buf b l = refl
left_alike r p nulls u (g ∷ gs) c buf b l =
    rw (put_alike r p nulls g.lent g.value buf c u b (omega arith))
    (go (left_alike r p nulls u gs) (put_from r p nulls c g.lent g.value buf) refl)
  where
    go : ((c : Cursor) (buf : List ℕ) → c.column ≤ count_of r → count_bits p c.column + length gs ≤ count_bits p (count_of r)
        → plan_puts_left (plan_of r p) nulls gs (item_of p c) buf ≡ put_left r p nulls gs c buf)
        → (w : Outcome (Cursor × List ℕ)) → put_from r p nulls c g.lent g.value buf ≡ w
        → item_then buf (plan_puts_left (plan_of r p) nulls gs) (items p w) ≡ left_then buf (put_left r p nulls gs) w
    go rest (ok x) e =
        let n = next_of r p nulls g.lent g.value buf c u b (omega arith) x e in
        rest x.0 x.1 n.0 (omega (arith, n.1))
    go rest (refused z) e = refl

-- and so is what a row leaves that is refused in its middle
pub plan_left_lem : (r p nulls : List ℕ) (gs : List LentValue) (buf : List ℕ) → length gs ≤ count_bits p (count_of r)
    → plan_left r p nulls gs buf ≡ write_left r p nulls gs buf
unfolding plan_left write_left
plan_left_lem r p nulls gs buf l = go (start_image r p nulls buf) refl
  where
    go : (w : Outcome (Cursor × List ℕ)) → start_image r p nulls buf ≡ w
        → left_then buf (λ c. plan_puts_left (plan_of r p) nulls gs (item_cursor 0 c.offset)) w ≡ left_then buf (put_left r p nulls gs) w
    go (refused z) e = refl
    go (ok x) e =
        let s = start_next r p nulls buf x e in
        let z : count_bits p x.0.column ≡ 0 = ap (count_bits p) s.1 ∙ count_none p in
        rw (item_first p x.0 z) (left_alike r p nulls s.0 gs x.0 x.1 (omega (arith, s.1)) (omega (arith, z)))
