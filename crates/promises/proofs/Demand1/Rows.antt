-- The refusals of row images, read and written. Under a valid record no column is one that there is not, so neither 4 nor 5 is among them.
-- Assumes nothing.
use Prim.Native.Nat.{ℕ, suc, ◌+◌, ◌-◌, ◌≤◌, ◌<◌}
use mathlib.Core.Path.{◌≡◌, refl, subst}
use mathlib.Core.Bool.{Bool, true, false, cond}
use mathlib.Core.List.{List, [], ◌∷◌}
use native.Mathlib.Omega.{arith}
use borrow.Author.Tests.{lt-ltb, le-ltb, ltb-true, ltb-false, eq-eqb}
use lib.ListN.{length, drop}
use lib.Dec.{ltb, eqb}
use Rattle.wire.specs.Bits.{bytes_for}
use Rattle.wire.specs.Outcome.{Outcome, ok, refused, refuse, why}
use Rattle.wire.specs.Stored.{store}
use Rattle.wire.proofs.Outcomes.{after_is_ok, same_ok}
use Rattle.value.specs.declared.datum.Value.{Value}
use Rattle.value.specs.Columns.{is_taken}
use Rattle.value.specs.Reading.{read_value, datum_of}
use Rattle.value.specs.Storing.{stored_bytes}
use Rattle.record.specs.Records.{count_of, record_valid, read_record}
use Rattle.record.proofs.Valid.{valid_column}
use Rattle.image.specs.declared.cursor.Cursor.{Cursor}
use Rattle.image.specs.Present.{Present, count_bits, shape_at, present_from}
use Rattle.image.specs.Split.{Slot, slots, slots_at, cursor, head_of, first_cursor, step_over, slots_left, step_from}
use Rattle.image.specs.Walk.{RowWalked, going_on, read_slot, read_slots, walk_from, walk_image}
use Rattle.image.specs.Rows.{is_null}
use Rattle.image.specs.Puts.{filled, head_nulls, start_image, slot_bytes, put_over, put_from}
use Rattle.image.specs.Room.{read_room}
use Rattle.image.proofs.CursorLaws.Heads.{head_tested, nulls_tested}
use Rattle.image.proofs.StepLaws.Steps.{left_stands}
use Rattle.image.proofs.StepLaws.Splits.{Each}
use Rattle.image.proofs.PresenceLaws.Presents.{each_from}
use Rattle.promises.specs.Refusals.{Line, OneOf}
use Rattle.promises.proofs.Demand1.Only.{Listed, done, stop, hand, chain, test, room, Tens}
use Rattle.promises.proofs.Demand2.Values.{there_taken, datum_read, value_read, value_stored}

-- ---- the tests before a call goes on
pub record_read : {ls : List Line} (r : List ℕ) → OneOf ls (why 11 0) → Listed ls (read_record r)
unfolding read_record
record_read r eleven = test (record_valid r) (λ u. done _) (λ u. stop eleven)

module _ {ls : List Line} (eleven : OneOf ls (why 11 0)) (twelve : OneOf ls (why 12 0)) (r p : List ℕ) where
  pub head_read : Listed ls (head_of r p)
  unfolding head_of
  head_read = chain (read_record r) _ (record_read r eleven) (λ n e. test (eqb (length p) (bytes_for n)) (λ u. done _) (λ u. stop twelve))

  pub first_read : Listed ls (first_cursor r p)
  unfolding first_cursor
  first_read = chain (head_of r p) _ head_read (λ h e. done _)

  pub room_told : Listed ls (read_room r p)
  unfolding read_room
  room_told = chain (head_of r p) _ head_read (λ h e. done _)

  nulls_read : (nulls : List ℕ) → Listed ls (head_nulls r p nulls)
  unfolding head_nulls
  nulls_read nulls = chain (head_of r p) _ head_read (λ h e. test (eqb (length nulls) h.nulls) (λ u. done _) (λ u. stop twelve))

-- ---- the columns of slots: those of the record, and there is such a column
pub record Fine (r : List ℕ) (c : Present) : Type 0 where
  pub column : c.column < count_of r
  pub there : is_taken c.shape ≡ true

-- what holds of the column of each slot
unfoldable pub EachSlot : (Present → Type 0) → List Slot → Type 0
EachSlot P [] = Unit {0}
EachSlot P (i ∷ is) = P i.present × EachSlot P is

pub each_slot : (P : Present → Type 0) (cs : List Present) (k : ℕ) (nulls : List ℕ) → Each P cs → EachSlot P (slots cs k nulls)
unfolding slots Each EachSlot
each_slot P [] k nulls e = tt
each_slot P (c ∷ cs) k nulls e = (e.0, each_slot P cs (suc k) nulls e.1)

pub slots_fine : (r p nulls : List ℕ) (j : ℕ) → record_valid r ≡ true → j ≤ count_of r → EachSlot (Fine r) (slots_at r p nulls j)
unfolding slots_at shape_at
slots_fine r p nulls j v h =
    each_slot (Fine r) (present_from (count_of r - j) r p j) (count_bits p j) nulls
    (each_from (Fine r) (count_of r - j) r p j (λ i a b. record { column = omega arith; there = valid_column r i v (omega arith) }))

-- ---- a step
step_over_lem : {ls : List Line} (r : List ℕ) → ((j : ℕ) → j < count_of r → OneOf ls (why 9 j)) → ((j : ℕ) → j < count_of r → Tens ls j)
    → (is : List Slot) (im : List ℕ) (o : ℕ) → EachSlot (Fine r) is → Listed ls (step_over is im o)
unfolding step_over EachSlot
step_over_lem r nine ten [] im o f = done _
step_over_lem r nine ten (i ∷ is) im o f =
    let c = i.present in
    test i.null (λ u. done _)
    (λ u. chain (read_value c.shape c.column im o) _
    (value_read c.shape c.column im o (there_taken c.shape c.column f.0.there) (nine c.column f.0.column)
    (ten c.column f.0.column))
    (λ x e. done _))

-- the tests of a cursor
left_read : {ls : List Line} (r p im : List ℕ) (c : Cursor) → OneOf ls (why 11 0) → OneOf ls (why 12 0)
    → ((n : ℕ) → n < c.column → OneOf ls (why 14 c.column)) → OneOf ls (why 9 0)
    → OneOf ls (why 9 c.column) → Listed ls (slots_left r p im c)
unfolding slots_left
left_read r p im c eleven twelve fourteen none past =
    chain (head_of r p) _ (head_read eleven twelve r p) (λ h e.
    test (ltb h.columns c.column) (λ u. stop (fourteen h.columns (ltb-true h.columns c.column u)))
    (λ u. test (ltb (length im) h.nulls) (λ u. stop none)
    (λ u. test (ltb (length im) c.offset) (λ u. stop past) (λ u. done _))))

-- the slots that are left are the record's
left_fine : (r p im : List ℕ) (c : Cursor) (is : List Slot) → slots_left r p im c ≡ ok is → EachSlot (Fine r) is
left_fine r p im c is e =
    let s = left_stands r p im c is e in
    let t = head_tested r p s.tested in
    subst (EachSlot (Fine r)) s.slots (slots_fine r p im c.column t.valid (omega (arith, t.columns, s.column)))

pub image_stepped : {ls : List Line} (r p im : List ℕ) (c : Cursor) → OneOf ls (why 11 0) → OneOf ls (why 12 0)
    → OneOf ls (why 14 c.column) → OneOf ls (why 9 0)
    → OneOf ls (why 9 c.column) → ((j : ℕ) → j < count_of r → OneOf ls (why 9 j)) → ((j : ℕ) → j < count_of r → Tens ls j)
    → Listed ls (step_from r p im c)
unfolding step_from
image_stepped r p im c eleven twelve fourteen none past nine ten =
    chain (slots_left r p im c) _ (left_read r p im c eleven twelve (λ n l. fourteen) none past)
    (λ is e. step_over_lem r nine ten is im c.offset (left_fine r p im c is e))

-- ---- the whole walk
walk_read : {A : Type 0} {ls : List Line} (o : Outcome A) (f : A → RowWalked) → Listed ls o → ((a : A) → o ≡ ok a → Listed ls (f a).how)
    → Listed ls (going_on f o).how
walk_read (ok a) f h k = k a refl
walk_read (refused w) f h k = hand (refused w) w h refl

slots_read : {ls : List Line} (r : List ℕ) → ((j : ℕ) → j < count_of r → OneOf ls (why 9 j)) → ((j : ℕ) → j < count_of r → Tens ls j)
    → (is : List Slot) (s : List ℕ) (o : ℕ) → EachSlot (Fine r) is → Listed ls (read_slots is s o).how
unfolding read_slots read_slot EachSlot
slots_read r nine ten [] s o f = done _
slots_read r nine ten (i ∷ is) s o f =
    let c = i.present in
    walk_read (read_slot i s) _
    (test i.null (λ u. done _)
    (λ u. datum_read c.shape c.column s (there_taken c.shape c.column f.0.there) (nine c.column f.0.column)
    (ten c.column f.0.column)))
    (λ x e. slots_read r nine ten is (drop x.1 s) (o + x.1) f.1)

pub walk_ended : {ls : List Line} (r p im : List ℕ) → OneOf ls (why 11 0) → OneOf ls (why 12 0) → OneOf ls (why 9 0)
    → ((j : ℕ) → j < count_of r → OneOf ls (why 9 j))
    → ((j : ℕ) → j < count_of r → Tens ls j) → Listed ls (walk_image r p im).how
unfolding walk_image walk_from first_cursor
walk_ended {ls} r p im eleven twelve none nine ten =
    walk_read (first_cursor r p) (walk_from r p im) (first_read eleven twelve r p) (λ c e.
    let a = after_is_ok (head_of r p) _ c e in
    let z = cursor 0 a.0.nulls in
    subst (λ (c : Cursor). Listed ls (walk_from r p im c).how) (same_ok a.2)
    (walk_read (slots_left r p im z) _ (left_read r p im z eleven twelve (λ n l. absurd (omega arith)) none none)
    (λ is e. slots_read r nine ten is (drop z.offset im) z.offset (left_fine r p im z is e))))

-- ---- the writer: a start, and a step
pub image_started : {ls : List Line} (r p nulls buf : List ℕ) → OneOf ls (why 11 0) → OneOf ls (why 12 0) → OneOf ls (why 8 0)
    → Listed ls (start_image r p nulls buf)
unfolding start_image
image_started r p nulls buf eleven twelve eight =
    chain (head_nulls r p nulls) _ (nulls_read eleven twelve r p nulls) (λ h e.
    chain (store (filled h.present nulls) buf 0) _ (room buf 0 (filled h.present nulls) eight) (λ x f. done _))

put_over_lem : {ls : List Line} (r : List ℕ) (c : Cursor) → OneOf ls (why 14 c.column) → ((j : ℕ) → j < count_of r → OneOf ls (why 13 j))
    → OneOf ls (why 8 0)
    → (is : List Slot) (lent : List ℕ) (v : Value) (buf : List ℕ) → EachSlot (Fine r) is → Listed ls (put_over is c lent v buf)
unfolding put_over slot_bytes EachSlot
put_over_lem r c fourteen thirteen eight [] lent v buf f = stop fourteen
put_over_lem r c fourteen thirteen eight (i ∷ is) lent v buf f =
    let k = i.present in
    let bad = thirteen k.column f.0.column in
    chain (slot_bytes i lent v) _
    (test (is_null (datum_of lent v)) (λ u. test i.null (λ u. done _) (λ u. stop bad))
    (λ u. test i.null (λ u. stop bad)
    (λ u. value_stored k.shape k.column lent v (there_taken k.shape k.column f.0.there) bad)))
    (λ b e. chain (store b buf c.offset) _ (room buf c.offset b eight) (λ x g. done _))

pub image_put : {ls : List Line} (r p nulls : List ℕ) (c : Cursor) (lent : List ℕ) (v : Value) (buf : List ℕ) → OneOf ls (why 11 0)
    → OneOf ls (why 12 0)
    → OneOf ls (why 14 c.column) → ((j : ℕ) → j < count_of r → OneOf ls (why 13 j)) → OneOf ls (why 8 0)
    → Listed ls (put_from r p nulls c lent v buf)
unfolding put_from
image_put r p nulls c lent v buf eleven twelve fourteen thirteen eight =
    chain (head_nulls r p nulls) _ (nulls_read eleven twelve r p nulls) (λ h e.
    let t = head_tested r p (nulls_tested r p nulls e).0 in
    test (ltb h.columns c.column) (λ u. stop fourteen)
    (λ u.
    let l = ltb-false h.columns c.column u in
    put_over_lem r c fourteen thirteen eight (slots_at r p nulls c.column) lent v buf
    (slots_fine r p nulls c.column t.valid (omega (arith, t.columns)))))

-- ---- what is told where
-- an offset past the image, its null bits whole
pub past_refused : (r p im : List ℕ) (c : Cursor) → record_valid r ≡ true → length p ≡ bytes_for (count_of r) → c.column ≤ count_of r
    → bytes_for (count_bits p (count_of r)) ≤ length im → length im < c.offset → step_from r p im c ≡ refuse 9 c.column
unfolding step_from slots_left head_of read_record
past_refused r p im c v b l w h =
    let n = bytes_for (count_bits p (count_of r)) in
    let a = eq-eqb (length p) (bytes_for (count_of r)) b in
    rw (v, a, le-ltb (count_of r) c.column l, le-ltb (length im) n w, lt-ltb (length im) c.offset h)

-- a value and a bit that disagree on NULL
slot_refused : (i : Slot) (lent : List ℕ) (v : Value) → (is_null (datum_of lent v) ≡ i.null → ⊥)
    → slot_bytes i lent v ≡ refuse 13 i.present.column
unfolding slot_bytes
slot_refused i lent v h = go (is_null (datum_of lent v)) i.null h
  where
    go : (a b : Bool) → (a ≡ b → ⊥)
        → cond a (cond b (ok []) (refuse 13 i.present.column))
        (cond b (refuse 13 i.present.column) (stored_bytes i.present.shape i.present.column lent v))
        ≡ refuse 13 i.present.column
    go true true h = absurd (h refl)
    go true false h = refl
    go false true h = refl
    go false false h = absurd (h refl)

pub null_refused : (r p nulls : List ℕ) (c : Cursor) (i : Slot) (is : List Slot) (lent : List ℕ) (v : Value) (buf : List ℕ)
    → record_valid r ≡ true
    → length p ≡ bytes_for (count_of r) → length nulls ≡ bytes_for (count_bits p (count_of r)) → c.column ≤ count_of r
    → slots_at r p nulls c.column ≡ i ∷ is
    → (is_null (datum_of lent v) ≡ i.null → ⊥) → put_from r p nulls c lent v buf ≡ refuse 13 i.present.column
unfolding put_from head_nulls head_of read_record put_over
null_refused r p nulls c i is lent v buf k b n l e h =
    let m = bytes_for (count_bits p (count_of r)) in
    let a = eq-eqb (length p) (bytes_for (count_of r)) b in
    rw (k, a, eq-eqb (length nulls) m n, le-ltb (count_of r) c.column l, e, slot_refused i lent v h)
