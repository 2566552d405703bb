-- What the image writer answers and leaves, by what the code finds. Assumes nothing.
use Prim.Native.Nat.{ℕ, ◌+◌, ◌-◌, ◌≤◌, ◌<◌}
use mathlib.Core.Path.{◌≡◌, refl, sym, ap, ◌∙◌}
use mathlib.Core.Bool.{Bool, true, false, not, beq}
use mathlib.Core.List.{List, []}
use native.Mathlib.Nat.{add-zero}
use native.Mathlib.Omega.{arith}
use borrow.Author.Tests.{lt-ltb, le-ltb}
use lib.ListN.{length}
use Rattle.wire.specs.declared.refusal.Refusal.{Refusal}
use Rattle.wire.specs.Outcome.{Outcome, ok, refused, refuse, after}
use Rattle.wire.specs.Bits.{bytes_for, bit_lsb0}
use Rattle.wire.specs.Stored.{stored, store, answer_of, left_of}
use Rattle.wire.proofs.Outcomes.{after_after}
use Rattle.wire.proofs.Stores.{store_fits, store_full, stored_none}
use Rattle.value.specs.declared.column.Column.{Column}
use Rattle.value.specs.declared.datum.Value.{Value}
use Rattle.value.specs.Columns.{shape_of}
use Rattle.value.specs.Reading.{datum_of}
use Rattle.value.specs.Storing.{stored_bytes, write_value}
use Rattle.record.specs.Entries.{column_of}
use Rattle.record.specs.Records.{entry_in}
use Rattle.image.specs.declared.cursor.Cursor.{Cursor}
use Rattle.image.specs.declared.cursor.Head.{Head}
use Rattle.image.specs.declared.step.InnerCursor.{InnerCursor}
use Rattle.image.specs.Present.{first_from, shape_at}
use Rattle.image.specs.Split.{cursor, slots_at}
use Rattle.image.specs.Inner.Steps.{Placed, Puts}
use Rattle.image.specs.Rows.{is_null}
use Rattle.image.specs.Puts.{filled, head_nulls, start_image, slot_bytes, put_over, put_from}
use Rattle.image.proofs.CursorLaws.Heads.{Tested, head_tested, placed, nulls_tested}
use Rattle.image.proofs.StepLaws.Steps.{column_below, slots_none, slots_some}
use Rattle.image.proofs.PutLaws.Sorts.{null_anywhere}
use Rattle.image.proofs.PutLaws.Fills.{fill_length}

-- a call whose answer is told and whose buffer is as it was
pub put_refused : {w : Outcome (Cursor × List ℕ)} {z : Refusal} (buf : List ℕ) → w ≡ refused z → Puts buf w (refused z) buf
put_refused buf e = rw e (refl, refl)

pub put_next : {w : Outcome (Cursor × List ℕ)} {c : Cursor} {x : List ℕ} (buf : List ℕ) → w ≡ ok (c, x) → Puts buf w (ok c) x
put_next buf e = rw e (refl, refl)

-- no bytes, stored within the buffer or at its end
pub store_none : (d : List ℕ) (at : ℕ) → at ≤ length d → store [] d at ≡ ok (at, d)
store_none d at h = store_fits d [] at (omega arith) ∙ rw (add-zero at, stored_none d at)

-- ---- the start
module _ (r p nulls buf : List ℕ) {h : Head} (e : head_nulls r p nulls ≡ ok h) where
  tested : Tested r p h
  tested = head_tested r p (nulls_tested r p nulls e).0

  -- the null bits are as many bytes as one for each present column take
  pub nulls_size : length nulls ≡ bytes_for h.present
  nulls_size = (nulls_tested r p nulls e).1 ∙ tested.nulls

  pub nulls_fit : h.nulls ≤ length buf → length nulls ≤ length buf
  nulls_fit l = omega (arith, (nulls_tested r p nulls e).1)

  filled_size : length (filled h.present nulls) ≡ h.nulls
  filled_size = fill_length h.present nulls nulls_size ∙ (nulls_tested r p nulls e).1

  pub start_full : length buf < h.nulls → start_image r p nulls buf ≡ refuse 8 0
  unfolding start_image
  start_full l = rw (e, store_full buf (filled h.present nulls) 0 (omega (arith, filled_size)))

  start_goes : h.nulls ≤ length buf → start_image r p nulls buf ≡ ok (cursor 0 h.nulls, stored (filled h.present nulls) buf 0)
  unfolding start_image
  start_goes l = rw (e, store_fits buf (filled h.present nulls) 0 (omega (arith, filled_size)))

  -- x being the buffer that the code left
  pub start_done : (x : List ℕ) → x ≡ stored (filled h.present nulls) buf 0 → h.nulls ≤ length buf
      → Puts buf (start_image r p nulls buf) (ok (cursor 0 h.nulls)) x
  start_done x y l = put_next buf (start_goes l ∙ ap (λ (b : List ℕ). ok (cursor 0 h.nulls, b)) (sym y))

-- ---- a step
-- value and bit agree on NULL
alike : (a b : Bool) → not (beq a b) ≡ false → a ≡ b
alike true true e = refl
alike true false e = cc
alike false true e = cc
alike false false e = refl

-- the cursor behind a value takes the place after it
abbrev behind : ℕ → Outcome (ℕ × List ℕ) → Outcome (Cursor × List ℕ)
behind j w = after w (λ x. ok (cursor j x.0, x.1))

behind_answer : (j : ℕ) (w : Outcome (ℕ × List ℕ)) → answer_of (behind j w) ≡ after (answer_of w) (λ n. ok (cursor j n))
behind_answer j (ok x) = refl
behind_answer j (refused z) = refl

behind_left : (j : ℕ) (buf : List ℕ) (w : Outcome (ℕ × List ℕ)) → left_of (behind j w) buf ≡ left_of w buf
behind_left j buf (ok x) = refl
behind_left j buf (refused z) = refl

-- f being the first present column from the cursor on
module _
    (nulls lent buf : List ℕ) (v : Value) {r p : List ℕ} {n : ℕ} {s : InnerCursor} (h : Placed r p n s) {f : ℕ}
    (e : f ≡ first_from (n - s.cursor.column) p s.cursor.column) where
  abbrev put : Outcome (Cursor × List ℕ)
  put = put_over (slots_at r p nulls s.cursor.column) s.cursor lent v buf

  pub put_end : f ≡ n → put ≡ refuse 14 s.cursor.column
  unfolding put_over
  put_end u = rw (slots_none h e nulls u)

  module _ (u : f ≡ n → ⊥) where
    -- NULL for a column whose bit says a value
    pub put_unmarked : is_null (datum_of lent v) ≡ true → bit_lsb0 nulls s.rank ≡ false → put ≡ refuse 13 f
    unfolding put_over slot_bytes
    put_unmarked i b = rw (slots_some h e nulls u, i, b)

    -- and a value for one whose bit says NULL
    pub put_marked : is_null (datum_of lent v) ≡ false → bit_lsb0 nulls s.rank ≡ true → put ≡ refuse 13 f
    unfolding put_over slot_bytes
    put_marked i b = rw (slots_some h e nulls u, i, b)

    unlike : (a c : Bool) → is_null (datum_of lent v) ≡ a → bit_lsb0 nulls s.rank ≡ c → not (beq a c) ≡ true → put ≡ refuse 13 f
    unlike true true i b d = cc
    unlike true false i b d = put_unmarked i b
    unlike false true i b d = put_marked i b
    unlike false false i b d = cc

    -- NULL takes no bytes, but the offset must be in the buffer
    null_goes : is_null (datum_of lent v) ≡ true → bit_lsb0 nulls s.rank ≡ true → put ≡ behind (f + 1) (store [] buf s.cursor.offset)
    unfolding put_over slot_bytes
    null_goes i b = rw (slots_some h e nulls u, i, b)

    pub put_null_full : is_null (datum_of lent v) ≡ true → bit_lsb0 nulls s.rank ≡ true → length buf < s.cursor.offset → put ≡ refuse 8 0
    put_null_full i b l = null_goes i b ∙ ap (behind (f + 1)) (store_full buf [] s.cursor.offset (omega arith))

    pub put_null_goes : is_null (datum_of lent v) ≡ true → bit_lsb0 nulls s.rank ≡ true → s.cursor.offset ≤ length buf
        → put ≡ ok (cursor (f + 1) s.cursor.offset, buf)
    put_null_goes i b l = null_goes i b ∙ ap (behind (f + 1)) (store_none buf s.cursor.offset l)

    -- the value as the record's column stores it
    value_goes : is_null (datum_of lent v) ≡ false → bit_lsb0 nulls s.rank ≡ false → {k : Column} → k ≡ column_of (entry_in r f)
        → put ≡ behind (f + 1) (write_value (shape_of k) f lent v buf s.cursor.offset)
    unfolding put_over slot_bytes write_value shape_at
    value_goes i b g =
        rw (slots_some h e nulls u, i, b)
        (sym (after_after (stored_bytes (shape_at r f) f lent v) (λ b. store b buf s.cursor.offset) (λ x. ok (cursor (f + 1) x.0, x.1)))
        ∙ ap (λ (c : Column). behind (f + 1) (after (stored_bytes (shape_of c) f lent v) (λ b. store b buf s.cursor.offset))) (sym g))

    -- a being what a writer of w answered, and x the buffer that it left
    put_wrote : (w : Outcome (ℕ × List ℕ)) → put ≡ behind (f + 1) w → (a : Outcome ℕ) (x : List ℕ) → a ≡ answer_of w → x ≡ left_of w buf
        → Puts buf put (after a (λ m. ok (cursor (f + 1) m))) x
    put_wrote w p a x q y = (
      sym (ap answer_of p ∙ behind_answer (f + 1) w ∙ ap (λ (o : Outcome ℕ). after o (λ m. ok (cursor (f + 1) m))) (sym q)),
      y ∙ sym (ap (λ (o : Outcome (Cursor × List ℕ)). left_of o buf) p ∙ behind_left (f + 1) buf w),
    )

    -- by what the writer of the column's value answered
    module _ (i : is_null (datum_of lent v) ≡ false) (b : bit_lsb0 nulls s.rank ≡ false) {k : Column} (g : k ≡ column_of (entry_in r f))
        (a : Outcome ℕ) (x : List ℕ) (q : a ≡ answer_of (write_value (shape_of k) f lent v buf s.cursor.offset))
        (y : x ≡ left_of (write_value (shape_of k) f lent v buf s.cursor.offset) buf) where
      pub put_done : (m : ℕ) → a ≡ ok m → Puts buf put (ok (cursor (f + 1) m)) x
      put_done m z = put_wrote _ (value_goes i b g) (ok m) x (sym z ∙ q) y

      pub put_bad : (w : Refusal) → a ≡ refused w → Puts buf put (refused w) x
      put_bad w z = put_wrote _ (value_goes i b g) (refused w) x (sym z ∙ q) y

    -- z being whether the value is NULL, and t the null bit
    module _ {z t : Bool} (i : z ≡ is_null (datum_of [] v)) (b : t ≡ bit_lsb0 nulls s.rank) where
      null_is : {y : Bool} → z ≡ y → is_null (datum_of lent v) ≡ y
      null_is k = null_anywhere lent [] v ∙ sym i ∙ k

      bit_is : {y : Bool} → not (beq z t) ≡ false → z ≡ y → bit_lsb0 nulls s.rank ≡ y
      bit_is e k = sym b ∙ sym (alike z t e) ∙ k

      -- NULL for a column whose bit says a value, or a value for one whose bit says NULL
      pub put_unlike : not (beq z t) ≡ true → put ≡ refuse 13 f
      put_unlike d = unlike z t (null_is refl) (sym b) d

      pub put_null : not (beq z t) ≡ false → z ≡ true
          → (a : Outcome ℕ) (x : List ℕ) → a ≡ answer_of (store [] buf s.cursor.offset) → x ≡ left_of (store [] buf s.cursor.offset) buf
          → Puts buf put (after a (λ m. ok (cursor (f + 1) m))) x
      put_null d k = put_wrote _ (null_goes (null_is k) (bit_is d k))

      pub put_value : not (beq z t) ≡ false → z ≡ false → {k : Column} → k ≡ column_of (entry_in r f)
          → (a : Outcome ℕ) (x : List ℕ) → a ≡ answer_of (write_value (shape_of k) f lent v buf s.cursor.offset)
          → x ≡ left_of (write_value (shape_of k) f lent v buf s.cursor.offset) buf
          → Puts buf put (after a (λ m. ok (cursor (f + 1) m))) x
      put_value d k g = put_wrote _ (value_goes (null_is k) (bit_is d k) g)

-- a step from a column above the record's
pub put_above : (r p nulls : List ℕ) (c : Cursor) (lent : List ℕ) (v : Value) (buf : List ℕ) {h : Head} → head_nulls r p nulls ≡ ok h
    → h.columns < c.column
    → put_from r p nulls c lent v buf ≡ refuse 14 c.column
unfolding put_from
put_above r p nulls c lent v buf {h} e l = rw (e, lt-ltb h.columns c.column l)

-- one that passes the tests goes over the slots from its column on
pub put_goes : (r p nulls : List ℕ) (c : Cursor) (lent : List ℕ) (v : Value) (buf : List ℕ) {h : Head} → head_nulls r p nulls ≡ ok h
    → c.column ≤ h.columns
    → put_from r p nulls c lent v buf ≡ put_over (slots_at r p nulls c.column) c lent v buf
unfolding put_from
put_goes r p nulls c lent v buf {h} e l = rw (e, le-ltb h.columns c.column l)

-- what the code goes by: for the start, for a step on what was tested, and for one from any cursor
pub ruleset starting = (nulls_size, nulls_fit, start_done)

pub ruleset putting = (column_below, put_end, put_unlike)

pub ruleset put_anywhere = (placed, nulls_tested, put_above, put_goes)
