-- The room for one image is enough and not too much. No row in the domains takes more, no image that is read took more, and a row takes
-- just that. A writer that is lent it never refuses for want of room, whatever values it is given. Assumes nothing.
use Prim.Native.Nat.{ℕ, suc, ◌+◌, ◌-◌, ◌≤◌}
use mathlib.Core.Path.{◌≡◌, refl, sym, ap, subst, ◌∙◌}
use mathlib.Core.Bool.{Bool, true, false, cond, true≢false}
use mathlib.Core.Logic.{⊎_elim}
use mathlib.Core.List.{List, [], ◌∷◌}
use native.Mathlib.Nat.{sub-zero}
use native.Mathlib.Omega.{arith}
use lib.Dec.{eqb}
use lib.ListN.{length, take, drop, length-append, take-append-drop}
use lib.Seq.{length-take-le}
use Rattle.wire.specs.declared.refusal.Refusal.{Refusal}
use Rattle.wire.specs.Outcome.{Outcome, ok, refused, refuse, why, after}
use Rattle.wire.specs.Number.{Bytes}
use Rattle.wire.specs.Bits.{bytes_for, bit_lsb0}
use Rattle.wire.specs.Stored.{store}
use Rattle.wire.proofs.Inverse.{bytes_drop}
use Rattle.wire.proofs.Outcomes.{after_refuses, test_refuses, same_ok, same_refused, ok_not_refused, both_true}
use Rattle.wire.proofs.Stores.{length_stored, store_fits}
use Rattle.value.specs.declared.shape.Shape.{Shape}
use Rattle.value.specs.declared.datum.Value.{Value}
use Rattle.value.specs.Columns.{is_taken}
use Rattle.value.specs.Data.{Datum}
use Rattle.value.specs.Shapes.{most_of}
use Rattle.value.specs.Reading.{datum_of}
use Rattle.value.specs.Storing.{is_in, stored_bytes}
use Rattle.value.proofs.Laws.{took}
use Rattle.value.proofs.Most.{need_most, bytes_most, fullest, fullest_in, fullest_size}
use Rattle.value.proofs.Writers.{is_in_lem, stored_in, stored_out}
use Rattle.record.specs.Records.{count_of, record_valid, read_record}
use Rattle.image.specs.declared.cursor.Cursor.{Cursor}
use Rattle.image.specs.declared.cursor.Head.{Head}
use Rattle.image.specs.Present.{Present, count_bits, present_from, present}
use Rattle.image.specs.Split.{Slot, slots, slots_at, cursor, head_of, head_with}
use Rattle.image.specs.Walk.{read_slot, answered, read_slots, walk_image}
use Rattle.image.specs.Rows.{Row, is_null, in_domains, row_bytes}
use Rattle.image.specs.Puts.{filled, head_nulls, start_image, slot_bytes, put_over, put_from}
use Rattle.image.specs.WriteRow.{LentValue, put_row, write_row, image_size}
use Rattle.image.specs.Room.{most_of_all, image_room}
use Rattle.image.proofs.CursorLaws.Heads.{Tested, head_tested, nulls_tested}
use Rattle.image.proofs.StepLaws.Slots.{in_cell, cell, not_null}
use Rattle.image.proofs.StepLaws.Splits.{Each, Good}
use Rattle.image.proofs.PresenceLaws.Presents.{present_length, good_from, good_present}
use Rattle.image.proofs.EndLaws.Images.{walk_read, row_length}
use Rattle.image.proofs.EndLaws.Used.{walk_over, walk_used}
use Rattle.image.proofs.PutLaws.Fills.{fill_length}
use Rattle.image.proofs.PutLaws.Puts.{put_goes}
use Rattle.image.proofs.PutLaws.WriteRows.{next_present}

-- ---- a row
cell_most : (c : Present) (d : Datum) → in_cell c d ≡ true → length (cell c d) ≤ most_of c.shape
cell_most c d h = go (is_null d) refl
  where
    go : (b : Bool) → is_null d ≡ b → length (cell c d) ≤ most_of c.shape
    go true e = rw e (omega arith)
    go false e = rw e (bytes_most c.shape d (rw e at h))

row_most : (cs : List Present) (ds : Row) → in_domains cs ds ≡ true → length (row_bytes cs ds) ≤ most_of_all cs
unfolding in_domains row_bytes most_of_all
row_most [] [] h = omega arith
row_most [] (d ∷ ds) h = absurd (true≢false (sym h))
row_most (c ∷ cs) [] h = absurd (true≢false (sym h))
row_most (c ∷ cs) (d ∷ ds) h =
    let w = both_true (in_cell c d) (in_domains cs ds) h in
    omega (arith, length-append (cell c d) (row_bytes cs ds), cell_most c d w.0, row_most cs ds w.1)

-- none in the domains takes more
pub no_more : (r p nulls : List ℕ) (ds : Row) → in_domains (present r p) ds ≡ true → length nulls ≡ bytes_for (length ds)
    → image_size r p nulls ds ≤ image_room r p
unfolding image_room
no_more r p nulls ds h n =
    let e : length nulls ≡ bytes_for (length (present r p)) = n ∙ ap bytes_for (row_length (present r p) ds h) in
    omega (arith, e, row_most (present r p) ds h)

-- ---- the row of the largest values takes just that
unfoldable pub fullest_row : List Present → Row
unfolding fullest
fullest_row [] = []
fullest_row (c ∷ cs) = fullest c.shape ∷ fullest_row cs

pub fullest_row_lem : (cs : List Present) → Each Good cs → in_domains cs (fullest_row cs) ≡ true
unfolding fullest_row in_domains Each
fullest_row_lem [] g = refl
fullest_row_lem (c ∷ cs) g =
    let i = fullest_in c.shape g.0.sized g.0.taken in
    rw (not_null c.shape (fullest c.shape) i, i) (fullest_row_lem cs g.1)

fullest_bytes : (cs : List Present) → Each Good cs → length (row_bytes cs (fullest_row cs)) ≡ most_of_all cs
unfolding fullest_row row_bytes most_of_all Each
fullest_bytes [] g = refl
fullest_bytes (c ∷ cs) g =
    let d = fullest c.shape in
    let i = fullest_in c.shape g.0.sized g.0.taken in
    let n : length (cell c d) ≡ most_of c.shape =
    rw (not_null c.shape d i) (fullest_size c.shape g.0.sized g.0.taken) in
    omega (arith, length-append (cell c d) (row_bytes cs (fullest_row cs)), n, fullest_bytes cs g.1)

pub reached : (r p nulls : List ℕ) → record_valid r ≡ true → length nulls ≡ bytes_for (length (fullest_row (present r p)))
    → image_size r p nulls (fullest_row (present r p)) ≡ image_room r p
unfolding image_room
reached r p nulls v n =
    let g = good_present r p v in
    let e : length nulls ≡ bytes_for (length (present r p)) =
    n ∙ ap bytes_for (row_length (present r p) (fullest_row (present r p)) (fullest_row_lem (present r p) g)) in
    omega (arith, e, fullest_bytes (present r p) g)

-- ---- an image that is read
-- a slot
pub slot_most : (i : Slot) (s : List ℕ) (d : Datum) (n : ℕ) → Bytes s → read_slot i s ≡ ok (d, n) → n ≤ most_of i.present.shape
unfolding read_slot
slot_most i s d n b e = go i.null refl
  where
    go : (t : Bool) → i.null ≡ t → n ≤ most_of i.present.shape
    go true q =
        let z : 0 ≡ n = ap (λ (x : Datum × ℕ). x.1) (same_ok (rw q at e)) in
        omega arith
    go false q =
        omega (arith, (took i.present.shape i.present.column s d n (rw q at e)).size, need_most i.present.shape s b)

-- the slots of these columns, one after the other
pub slots_most : (cs : List Present) (k : ℕ) (nulls s : List ℕ) (o u : ℕ) → Bytes s → (read_slots (slots cs k nulls) s o).how ≡ ok u
    → u ≤ o + most_of_all cs
unfolding read_slots slots most_of_all
slots_most [] k nulls s o u b e = let z : o ≡ u = same_ok e in omega arith
slots_most (c ∷ cs) k nulls s o u b e =
    go (λ n. slots_most cs (suc k) nulls (drop n s) (o + n) u (bytes_drop n s b)) (read_slot i s) refl e
  where
    i : Slot
    i = record { present = c; null = bit_lsb0 nulls k }

    go : ((n : ℕ) → (read_slots (slots cs (suc k) nulls) (drop n s) (o + n)).how ≡ ok u → u ≤ o + n + most_of_all cs)
        → (x : Outcome (Datum × ℕ)) → read_slot i s ≡ x
        → (answered c.column (λ n. read_slots (slots cs (suc k) nulls) (drop n s) (o + n)) x).how ≡ ok u
        → u ≤ o + (most_of c.shape + most_of_all cs)
    go f (ok x) q e = omega (arith, f x.1 e, slot_most i s x.0 x.1 b q)
    go f (refused w) q e = absurd (ok_not_refused (sym e))

-- the walk
pub walked_most : (r p im : List ℕ) (u : ℕ) → Bytes im → (walk_image r p im).how ≡ ok u → u ≤ image_room r p
unfolding image_room
walked_most r p im u b e =
    let o = bytes_for (length (present r p)) in
    let v = walk_over r p im u e in
    let h = walk_used r p im u e in
    let l : length (take o im) ≡ o = length-take-le o im (omega (arith, h.0, h.1)) in
    let q = sym (take-append-drop o im) in
    let m = slots_most (present r p) 0 (take o im) (drop o im) (length (take o im)) u (bytes_drop o im b)
    (sym (ap (λ (x : List ℕ). (walk_image r p x).how) q ∙ ap (λ w. w.how) (walk_read r p (take o im) (drop o im) v l)) ∙ e) in
    omega (arith, m, l)

-- ---- the writer: what is left of the buffer is enough for the columns that are left
abbrev NotFull : Refusal → Type 0
NotFull w = w.number ≡ 8 → ⊥

-- the bytes of a slot are few, or refused for another reason
abbrev Few : ℕ → Outcome (List ℕ) → Type 0
Few m (ok b) = length b ≤ m
Few m (refused w) = NotFull w

not_taken : (m j : ℕ) → Few m (refuse 13 j)
not_taken m j e = let x : ◌≡◌ {A = ℕ} 13 8 = e in omega arith

few_stored : (sh : Shape) (j : ℕ) (lent : List ℕ) (v : Value) → is_taken sh ≡ true → Few (most_of sh) (stored_bytes sh j lent v)
few_stored sh j lent v t = go (is_in sh lent v) refl
  where
    go : (b : Bool) → is_in sh lent v ≡ b → Few (most_of sh) (stored_bytes sh j lent v)
    go true e = rw (stored_in sh j lent v t e) (bytes_most sh (datum_of lent v) (is_in_lem sh lent v e).1)
    go false e = rw (stored_out sh j lent v t e) (not_taken (most_of sh) j)

few_cases : (a b : Bool) (m j : ℕ) (x : Outcome (List ℕ)) → Few m x
    → Few m (cond a (cond b (ok []) (refuse 13 j)) (cond b (refuse 13 j) x))
few_cases true true m j x f = omega arith
few_cases true false m j x f = not_taken m j
few_cases false true m j x f = not_taken m j
few_cases false false m j x f = f

few_slot : (i : Slot) (lent : List ℕ) (v : Value) → is_taken i.present.shape ≡ true
    → Few (most_of i.present.shape) (slot_bytes i lent v)
unfolding slot_bytes
few_slot i lent v t =
    few_cases (is_null (datum_of lent v)) i.null (most_of i.present.shape) i.present.column
    (stored_bytes i.present.shape i.present.column lent v)
    (few_stored i.present.shape i.present.column lent v t)

module _ (r p nulls : List ℕ) {h : Head} (head : head_nulls r p nulls ≡ ok h) where
  tested : Tested r p h
  tested = head_tested r p (nulls_tested r p nulls head).0

  record Roomy (c : Cursor) (buf : List ℕ) : Type 0 where
    column : c.column ≤ count_of r
    room : c.offset + most_of_all (present_from (count_of r - c.column) r p c.column) ≤ length buf

  abbrev Still : Outcome (Cursor × List ℕ) → Type 0
  Still (ok x) = Roomy x.0 x.1
  Still (refused w) = NotFull w

  -- a step over the columns that are left
  over : (cs : List Present) (c : Cursor) (lent : List ℕ) (v : Value) (buf : List ℕ) → c.column ≤ count_of r
      → present_from (count_of r - c.column) r p c.column ≡ cs → Each Good cs → c.offset + most_of_all cs ≤ length buf
      → (k : ℕ) → Still (put_over (slots cs k nulls) c lent v buf)
  unfolding put_over slots Each most_of_all
  over [] c lent v buf n q g l k = λ e. let x : ◌≡◌ {A = ℕ} 14 8 = e in omega arith
  over (d ∷ cs) c lent v buf n q g l k = go (slot_bytes i lent v) (few_slot i lent v g.0.taken)
    where
      i : Slot
      i = record { present = d; null = bit_lsb0 nulls k }

      go : (x : Outcome (List ℕ)) → Few (most_of d.shape) x
          → Still (after x (λ b. after (store b buf c.offset) (λ y. ok (cursor (d.column + 1) y.0, y.1))))
      go (ok b) f =
          let s : c.offset + length b ≤ length buf = omega arith in
          let t = next_present r p c.column d cs n q in
          let z = length_stored buf c.offset b s in
          rw (store_fits buf b c.offset s) (record {
            column = omega (arith, t.0);
            room =
                rw t.1 (omega (arith, z));
          })
      go (refused w) f = f

  step_roomy : (c : Cursor) (lent : List ℕ) (v : Value) (buf : List ℕ) → Roomy c buf → Still (put_from r p nulls c lent v buf)
  unfolding slots_at
  step_roomy c lent v buf m =
      let n = tested.columns in
      rw (put_goes r p nulls c lent v buf head (omega (arith, n, m.column)))
      (over _ c lent v buf m.column refl
      (good_from (count_of r - c.column) r p c.column tested.valid (omega (arith, m.column)))
      m.room (count_bits p c.column))

  row_roomy : (gs : List LentValue) (c : Cursor) (buf : List ℕ) (w : Refusal) → Roomy c buf → put_row r p nulls gs c buf ≡ refused w
      → NotFull w
  unfolding put_row
  row_roomy [] c buf w m e = absurd (ok_not_refused e)
  row_roomy (g ∷ gs) c buf w m e =
      let s = step_roomy c g.lent g.value buf m in
      ⊎_elim
      (λ (q : put_from r p nulls c g.lent g.value buf ≡ refused w). subst Still q s)
      (λ x. row_roomy gs x.0.0 x.0.1 w (subst Still x.1 s) x.2)
      (after_refuses (put_from r p nulls c g.lent g.value buf) _ w e)

  -- from the start on
  start_roomy : (buf : List ℕ) → image_room r p ≤ length buf → Still (start_image r p nulls buf)
  unfolding start_image image_room
  start_roomy buf l =
      let t = tested in
      let n : h.columns ≡ count_of r = t.columns in
      let k : h.present ≡ length (present r p) = t.present ∙ ap (count_bits p) n ∙ sym (present_length r p) in
      let m : h.nulls ≡ bytes_for (length (present r p)) = t.nulls ∙ ap bytes_for k in
      let f = filled h.present nulls in
      let z : length f ≡ h.nulls =
      fill_length h.present nulls ((nulls_tested r p nulls head).1 ∙ t.nulls) ∙ (nulls_tested r p nulls head).1 in
      let s : 0 + length f ≤ length buf = omega arith in
      rw (head, store_fits buf f 0 s) (record {
        column = omega arith;
        room =
            rw (sub-zero (count_of r)) (omega (arith, length_stored buf 0 f s));
      })

  good_head : (gs : List LentValue) (buf : List ℕ) (w : Refusal) → image_room r p ≤ length buf → write_row r p nulls gs buf ≡ refused w
      → NotFull w
  unfolding write_row
  good_head gs buf w l e =
      let s = start_roomy buf l in
      ⊎_elim
      (λ (q : start_image r p nulls buf ≡ refused w). subst Still q s)
      (λ x. row_roomy gs x.0.0 x.0.1 w (subst Still x.1 s) x.2)
      (after_refuses (start_image r p nulls buf) _ w e)

-- the tests before it refuse with 11 or 12
head_refuses : (r p nulls : List ℕ) (w : Refusal) → head_nulls r p nulls ≡ refused w → NotFull w
unfolding head_nulls head_of read_record
head_refuses r p nulls w e =
    ⊎_elim
    (λ (q : head_of r p ≡ refused w).
    ⊎_elim
    (λ (a : read_record r ≡ refused w).
    let t = (test_refuses (record_valid r) (count_of r) (why 11 0) w a).1 in
    λ (n : w.number ≡ 8). let x : ◌≡◌ {A = ℕ} 11 8 = ap (λ (y : Refusal). y.number) t ∙ n in omega arith)
    (λ a.
    let t = (test_refuses (eqb (length p) (bytes_for a.0)) (head_with a.0 (count_bits p a.0)) (why 12 0) w a.2).1 in
    λ (n : w.number ≡ 8). let x : ◌≡◌ {A = ℕ} 12 8 = ap (λ (y : Refusal). y.number) t ∙ n in omega arith)
    (after_refuses (read_record r) _ w q))
    (λ b.
    let t = (test_refuses (eqb (length nulls) b.0.nulls) b.0 (why 12 0) w b.2).1 in
    λ (n : w.number ≡ 8). let x : ◌≡◌ {A = ℕ} 12 8 = ap (λ (y : Refusal). y.number) t ∙ n in omega arith)
    (after_refuses (head_of r p) _ w e)

pub never_for_room : (r p nulls : List ℕ) (gs : List LentValue) (buf : List ℕ) (w : Refusal) → image_room r p ≤ length buf
    → write_row r p nulls gs buf ≡ refused w → w.number ≡ 8 → ⊥
unfolding write_row start_image
never_for_room r p nulls gs buf w l e = go (head_nulls r p nulls) refl
  where
    go : (x : Outcome Head) → head_nulls r p nulls ≡ x → NotFull w
    go (ok h) q = good_head r p nulls q gs buf w l e
    go (refused v) q =
        let z : v ≡ w = same_refused (rw q at e) in
        head_refuses r p nulls w (q ∙ ap refused z)
