-- What a step of writing by a plan answers and leaves, by what the code finds. Assumes nothing.
use Prim.Native.Nat.{ℕ, ◌+◌, ◌*◌, ◌≤◌, ◌<◌}
use mathlib.Core.Path.{◌≡◌, refl, sym, ap, ◌∙◌}
use mathlib.Core.Bool.{true, false}
use mathlib.Core.List.{List, []}
use native.Mathlib.Omega.{arith}
use borrow.Author.Tests.{eq-eqb, ne_eqb}
use lib.ListN.{length, get_or, take, drop}
use Rattle.wire.specs.declared.refusal.Refusal.{Refusal}
use Rattle.wire.specs.Outcome.{Outcome, ok, refused, refuse, after}
use Rattle.wire.specs.Number.{le_value}
use Rattle.wire.specs.Bits.{bytes_for, bit_lsb0}
use Rattle.wire.specs.Stored.{store, answer_of, left_of}
use Rattle.wire.proofs.Outcomes.{after_after}
use Rattle.wire.proofs.Stores.{store_full}
use Rattle.value.specs.declared.datum.Value.{Value}
use Rattle.value.specs.declared.datum.Value.TheVariants.{Null, Int, Uint, Float, Double, Year, Bytes}
use Rattle.temporal.specs.declared.parts.Temporal.{Temporal}
use Rattle.value_parts.specs.Parts.{sort_of}
use Rattle.value.specs.Ops.{shape_for}
use Rattle.value.specs.Reading.{datum_of}
use Rattle.value.specs.Storing.{stored_bytes, write_value}
use Rattle.image.specs.declared.cursor.Cursor.{Cursor}
use Rattle.image.specs.Split.{cursor}
use Rattle.image.specs.Rows.{is_null}
use Rattle.image.specs.Puts.{slot_bytes, put_over}
use Rattle.image.proofs.PutLaws.Puts.{store_none}
use Rattle.row_plan.specs.declared.put.ItemCursor.{ItemCursor}
use Rattle.row_plan.specs.Plan.{item_count, item_at, plan_slots}
use Rattle.row_plan.specs.Puts.{item_cursor, plan_put}
use Rattle.row_plan.proofs.Goes.{slots_at_lem, slots_over}

-- ---- which values are NULL, by their sort
pub null_sort : (lent : List ℕ) (v : Value) → sort_of v ≡ 1 → is_null (datum_of lent v) ≡ true
unfolding is_null datum_of sort_of
null_sort lent Null e = refl
null_sort lent (Int z) e = absurd (omega arith)
null_sort lent (Uint n) e = absurd (omega arith)
null_sort lent (Float n) e = absurd (omega arith)
null_sort lent (Double n) e = absurd (omega arith)
null_sort lent (Year n) e = absurd (omega arith)
null_sort lent (Value.Temporal (Temporal.Seconds s)) e = absurd (omega arith)
null_sort lent (Value.Temporal (Temporal.Date d)) e = absurd (omega arith)
null_sort lent (Value.Temporal (Temporal.Datetime m)) e = absurd (omega arith)
null_sort lent (Value.Temporal (Temporal.Time t)) e = absurd (omega arith)
null_sort lent (Bytes p) e = absurd (omega arith)

pub other_sort : (lent : List ℕ) (v : Value) → (sort_of v ≡ 1 → ⊥) → is_null (datum_of lent v) ≡ false
unfolding is_null datum_of sort_of
other_sort lent Null n = absurd (n refl)
other_sort lent (Int z) n = refl
other_sort lent (Uint m) n = refl
other_sort lent (Float m) n = refl
other_sort lent (Double m) n = refl
other_sort lent (Year m) n = refl
other_sort lent (Value.Temporal t) n = refl
other_sort lent (Bytes p) n = refl

-- ---- and by themselves
pub null_is : (lent : List ℕ) (v : Value) → v ≡ Null → is_null (datum_of lent v) ≡ true
unfolding is_null datum_of
null_is lent v e = rw e

pub other_is : (lent : List ℕ) (v : Value) → (v ≡ Null → ⊥) → is_null (datum_of lent v) ≡ false
unfolding is_null datum_of
other_is lent Null n = absurd (n refl)
other_is lent (Int z) n = refl
other_is lent (Uint m) n = refl
other_is lent (Float m) n = refl
other_is lent (Double m) n = refl
other_is lent (Year m) n = refl
other_is lent (Value.Temporal t) n = refl
other_is lent (Bytes p) n = refl

-- ---- the answer a of a call that writes, and the buffer x that it leaves, are those of w
abbrev pub Wrote : List ℕ → Outcome (ItemCursor × List ℕ) → Outcome ItemCursor → List ℕ → Type 0
Wrote buf w a x = (a ≡ answer_of w) × (x ≡ left_of w buf)

pub wrote_none : {w : Outcome (ItemCursor × List ℕ)} {z : Refusal} (buf : List ℕ) → w ≡ refused z → Wrote buf w (refused z) buf
wrote_none buf e = rw e (refl, refl)

pub wrote_next : {w : Outcome (ItemCursor × List ℕ)} {c : ItemCursor} {x : List ℕ} (buf : List ℕ) → w ≡ ok (c, x) → Wrote buf w (ok c) x
wrote_next buf e = rw e (refl, refl)

-- the cursor behind a value takes the place after it
abbrev behind : ℕ → Outcome (ℕ × List ℕ) → Outcome (ItemCursor × List ℕ)
behind k w = after w (λ x. ok (item_cursor k x.0, x.1))

behind_answer : (k : ℕ) (w : Outcome (ℕ × List ℕ)) → answer_of (behind k w) ≡ after (answer_of w) (λ n. ok (item_cursor k n))
behind_answer k (ok x) = refl
behind_answer k (refused z) = refl

behind_left : (k : ℕ) (buf : List ℕ) (w : Outcome (ℕ × List ℕ)) → left_of (behind k w) buf ≡ left_of w buf
behind_left k buf (ok x) = refl
behind_left k buf (refused z) = refl

-- a step over slots, told with the next item in place of a column
abbrev told : ItemCursor → Outcome (Cursor × List ℕ) → Outcome (ItemCursor × List ℕ)
told c w = after w (λ x. ok (item_cursor (c.item + 1) x.0.offset, x.1))

told_behind : (c : ItemCursor) (j : ℕ) (w : Outcome (ℕ × List ℕ))
    → told c (after w (λ x. ok (cursor (j + 1) x.0, x.1))) ≡ behind (c.item + 1) w
told_behind c j (ok x) = refl
told_behind c j (refused z) = refl

module _ (plan nulls : List ℕ) (c : ItemCursor) (lent : List ℕ) (v : Value) (buf : List ℕ) where
  abbrev put : Outcome (ItemCursor × List ℕ)
  put = plan_put plan nulls c lent v buf

  pub put_bits : (length nulls ≡ bytes_for (item_count plan) → ⊥) → put ≡ refuse 12 0
  unfolding plan_put
  put_bits n = rw (ne_eqb (length nulls) (bytes_for (item_count plan)) n)

  module _ (e : length nulls ≡ bytes_for (item_count plan)) where
    goes : put ≡ told c (put_over (plan_slots plan nulls c.item) (cursor c.item c.offset) lent v buf)
    unfolding plan_put
    goes = rw (eq-eqb (length nulls) (bytes_for (item_count plan)) e)

    pub put_over_lem : item_count plan ≤ c.item → put ≡ refuse 14 c.item
    unfolding put_over
    put_over_lem l = goes ∙ rw (slots_over plan nulls c.item l)

    module _ (l : c.item < item_count plan) {j : ℕ} (col : j ≡ le_value (take 2 (drop (3 * c.item + 1) plan))) where
      -- NULL for an item whose bit says a value
      pub put_unmarked : is_null (datum_of lent v) ≡ true → bit_lsb0 nulls c.item ≡ false → put ≡ refuse 13 j
      unfolding put_over slot_bytes item_at
      put_unmarked i b = goes ∙ rw (slots_at_lem plan nulls c.item l, i, b, col)

      -- and a value for one whose bit says NULL
      pub put_marked : is_null (datum_of lent v) ≡ false → bit_lsb0 nulls c.item ≡ true → put ≡ refuse 13 j
      unfolding put_over slot_bytes item_at
      put_marked i b = goes ∙ rw (slots_at_lem plan nulls c.item l, i, b, col)

      -- NULL takes no bytes, but the offset must be in the buffer
      put_null : is_null (datum_of lent v) ≡ true → bit_lsb0 nulls c.item ≡ true → put ≡ behind (c.item + 1) (store [] buf c.offset)
      unfolding put_over slot_bytes item_at
      put_null i b = goes ∙ rw (slots_at_lem plan nulls c.item l, i, b, sym col) (told_behind c j (store [] buf c.offset))

      pub put_null_full : is_null (datum_of lent v) ≡ true → bit_lsb0 nulls c.item ≡ true → length buf < c.offset → put ≡ refuse 8 0
      put_null_full i b m = put_null i b ∙ ap (behind (c.item + 1)) (store_full buf [] c.offset (omega arith))

      pub put_null_goes : is_null (datum_of lent v) ≡ true → bit_lsb0 nulls c.item ≡ true → c.offset ≤ length buf
          → put ≡ ok (item_cursor (c.item + 1) c.offset, buf)
      put_null_goes i b m = put_null i b ∙ ap (behind (c.item + 1)) (store_none buf c.offset m)

      -- the value as the op stores it
      module _ (i : is_null (datum_of lent v) ≡ false) (b : bit_lsb0 nulls c.item ≡ false) where
        abbrev written : Outcome (ℕ × List ℕ)
        written = write_value (shape_for (get_or plan (3 * c.item) 0)) j lent v buf c.offset

        put_value : put ≡ behind (c.item + 1) written
        unfolding put_over slot_bytes item_at write_value
        put_value =
            goes
            ∙ rw (slots_at_lem plan nulls c.item l, i, b, sym col)
            (ap (told c) (sym (after_after (stored_bytes (shape_for (get_or plan (3 * c.item) 0)) j lent v) (λ b. store b buf c.offset)
            (λ x. ok (cursor (j + 1) x.0, x.1))))
            ∙ told_behind c j (after (stored_bytes (shape_for (get_or plan (3 * c.item) 0)) j lent v) (λ b. store b buf c.offset)))

        pub put_written : {a : Outcome ℕ} {x : List ℕ} → a ≡ answer_of written → x ≡ left_of written buf
            → Wrote buf put (after a (λ m. ok (item_cursor (c.item + 1) m))) x
        put_written q y = (
          sym (ap answer_of put_value ∙ behind_answer (c.item + 1) written
              ∙ ap (λ (w : Outcome ℕ). after w (λ m. ok (item_cursor (c.item + 1) m))) (sym q)),
          y ∙ sym (ap (λ (o : Outcome (ItemCursor × List ℕ)). left_of o buf) put_value ∙ behind_left (c.item + 1) buf written),
        )

        -- by what the writer answered
        module _ (a : Outcome ℕ) (x : List ℕ) (q : a ≡ answer_of written) (y : x ≡ left_of written buf) where
          pub put_done : (m : ℕ) → a ≡ ok m → Wrote buf put (ok (item_cursor (c.item + 1) m)) x
          put_done m z = put_written (sym z ∙ q) y

          pub put_bad : (w : Refusal) → a ≡ refused w → Wrote buf put (refused w) x
          put_bad w z = put_written (sym z ∙ q) y
