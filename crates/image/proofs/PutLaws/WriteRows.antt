-- A row written by steps is one store of its image, or refused for want of room and for nothing else; and the walk reads it back. Assumes
-- nothing.
use Prim.Native.Nat.{ℕ, suc, ◌+◌, ◌-◌, ◌≤◌, ◌<◌}
use mathlib.Core.Path.{◌≡◌, refl, sym, ap, subst, ◌∙◌}
use mathlib.Core.Bool.{Bool, true, false, true≢false}
use mathlib.Core.Logic.{dite, ⊎_elim}
use mathlib.Core.List.{List, [], ◌∷◌, ◌++◌, append_assoc, nil≢cons, head-eq_of_cons-eq, tail-eq_of_cons-eq}
use native.Mathlib.Nat.{zero-add, sub-zero}
use native.Mathlib.Numerals.{add-one}
use native.Mathlib.Decide.{dec_le}
use native.Mathlib.Omega.{arith}
use borrow.Author.Tests.{eq-eqb}
use lib.ListN.{length, take, drop, length-append}
use lib.Seq.{take_at}
use Rattle.wire.specs.Outcome.{Outcome, ok, refused, refuse, after, why}
use Rattle.wire.specs.Bits.{bytes_for, bit_lsb0}
use Rattle.wire.specs.Stored.{stored, store}
use Rattle.wire.proofs.Outcomes.{after_is_ok, after_refuses, same_ok, ok_not_refused, both_true}
use Rattle.wire.proofs.Stores.{length_stored, stored_none, stored_stored, store_fits, store_full}
use Rattle.value.specs.declared.datum.Value.{Value}
use Rattle.value.specs.Domains.{domain}
use Rattle.value.specs.Reading.{datum_of}
use Rattle.value.specs.Storing.{is_lent, is_in, stored_bytes}
use Rattle.value.proofs.Facts.{taken_domain}
use Rattle.record.specs.Records.{count_of}
use Rattle.image.specs.declared.cursor.Cursor.{Cursor}
use Rattle.image.specs.Present.{Present, count_bits, first_from, present_from, present}
use Rattle.image.specs.Split.{Slot, slots, slots_at, cursor, head_with}
use Rattle.image.specs.Walk.{walk_image}
use Rattle.image.specs.Rows.{Row, is_null, in_domains, row_bytes, answers_of, Marks}
use Rattle.image.specs.Puts.{filled, head_nulls, start_image, slot_bytes, put_over, put_from}
use Rattle.image.specs.WriteRow.{LentValue, row_of, are_lent, Fit, put_row, write_row, put_left, write_left, image_size, Wrote, Stopped}
use Rattle.image.specs.WriteRow.{at_start, at_value}
use Rattle.image.proofs.PresenceLaws.Firsts.{first_is, present_end, present_first, count_set, count_none}
use Rattle.image.proofs.CursorLaws.Heads.{Over, null_bytes, head_is}
use Rattle.image.proofs.StepLaws.Slots.{in_cell, cell}
use Rattle.image.proofs.PresenceLaws.Presents.{present_length}
use Rattle.image.proofs.EndLaws.Images.{row_length, every_row}
use Rattle.image.proofs.PutLaws.Fills.{fill_length, fill_kept}
use Rattle.image.proofs.PutLaws.Puts.{store_none, put_goes}

-- ---- stores one behind the other are one store
store_more : (d a b : List ℕ) (at : ℕ) → at + length a ≤ length d → store b (stored a d at) (at + length a) ≡ store (a ++ b) d at
store_more d a b at h =
    let n : length (stored a d at) ≡ length d = length_stored d at a h in
    let l : length (a ++ b) ≡ length a + length b = length-append a b in
    let e : at + length a + length b ≡ at + length (a ++ b) = omega arith in
    dite (dec_le (at + length (a ++ b)) (length d))
    (λ (m : at + length (a ++ b) ≤ length d).
    store_fits (stored a d at) b (at + length a) (omega arith)
    ∙ ap (λ (x : ℕ). ok (x, stored b (stored a d at) (at + length a))) e
    ∙ ap (λ (x : List ℕ). ok (at + length (a ++ b), x)) (stored_stored d at a b h)
    ∙ sym (store_fits d (a ++ b) at m))
    (λ m. store_full (stored a d at) b (at + length a) (omega arith) ∙ sym (store_full d (a ++ b) at (omega arith)))

-- and whatever goes on behind a store as the next store does
store_then : (d a b : List ℕ) (at : ℕ) (f : ℕ × List ℕ → Outcome (ℕ × List ℕ))
    → (at + length a ≤ length d → f (at + length a, stored a d at) ≡ store b (stored a d at) (at + length a))
    → after (store a d at) f ≡ store (a ++ b) d at
store_then d a b at f e =
    dite (dec_le (at + length a) (length d))
    (λ (h : at + length a ≤ length d). rw (store_fits d a at h) (e h ∙ store_more d a b at h))
    (λ h.
    let l = length-append a b in
    rw (store_full d a at (omega arith)) (sym (store_full d (a ++ b) at (omega arith))))

-- ---- a step
-- what it counts on
pub record Lent (r p nulls : List ℕ) : Type 0 where
  pub over : Over r p
  pub size : length nulls ≡ null_bytes r p

nulls_is : (r p nulls : List ℕ) → Lent r p nulls → head_nulls r p nulls ≡ ok (head_with (count_of r) (count_bits p (count_of r)))
unfolding head_nulls
nulls_is r p nulls u = rw (head_is r p u.over, eq-eqb (length nulls) (null_bytes r p) u.size)

-- the bytes that a column takes for one of a row
slot_bytes_lem : (i : Slot) (lent : List ℕ) (v : Value) → in_cell i.present (datum_of lent v) ≡ true → i.null ≡ is_null (datum_of lent v)
    → is_lent lent v ≡ true
    → slot_bytes i lent v ≡ ok (cell i.present (datum_of lent v))
unfolding slot_bytes stored_bytes is_in
slot_bytes_lem i lent v h e l = go (is_null (datum_of lent v)) refl
  where
    go : (b : Bool) → is_null (datum_of lent v) ≡ b → slot_bytes i lent v ≡ ok (cell i.present (datum_of lent v))
    go true n = rw (e, n)
    go false n =
        let x : domain i.present.shape (datum_of lent v) ≡ true = rw n at h in
        rw (e, n, taken_domain i.present.shape (datum_of lent v) i.present.column x, l, x)

put_over_lem : (i : Slot) (is : List Slot) (c : Cursor) (g : LentValue) (buf : List ℕ) → let d = datum_of g.lent g.value in
    in_cell i.present d ≡ true → i.null ≡ is_null d → is_lent g.lent g.value ≡ true
    → put_over (i ∷ is) c g.lent g.value buf
    ≡ after (store (cell i.present d) buf c.offset) (λ x. ok (cursor (i.present.column + 1) x.0, x.1))
unfolding put_over
put_over_lem i is c g buf h e l = rw (slot_bytes_lem i g.lent g.value h e l)

-- the columns from j on, and those behind the first of them
pub next_present : (r p : List ℕ) (j : ℕ) (c : Present) (cs : List Present) → j ≤ count_of r → present_from (count_of r - j) r p j ≡ c ∷ cs
    → (c.column < count_of r) × (present_from (count_of r - (c.column + 1)) r p (c.column + 1) ≡ cs)
    × (count_bits p (c.column + 1) ≡ suc (count_bits p j))
next_present r p j c cs h e =
    let n = count_of r in
    let f = first_from (n - j) p j in
    let i = first_is (n - j) p j in
    dite (dec_le n f)
    (λ (a : n ≤ f). absurd (nil≢cons (sym (present_end (n - j) r p j (omega arith)) ∙ e)))
    (λ a.
    let l : f < n = omega arith in
    let z = sym (present_first (n - j) r p j (omega arith)) ∙ e in
    let x : f ≡ c.column = ap (λ (y : Present). y.column) (head-eq_of_cons-eq z) in
    let k : n - (f + 1) ≡ j + (n - j) - suc f = omega arith in
    let s : f + 1 ≡ suc f = add-one f in
    rw (← x) (
      l,
      ap (λ (y : ℕ). present_from y r p (f + 1)) k ∙ ap (present_from (j + (n - j) - suc f) r p) s ∙ tail-eq_of_cons-eq z,
      ap (count_bits p) s ∙ count_set p f (i.found (omega arith)) ∙ ap suc i.rank,
    ))

-- what a step for one of a row does
put_one : (g : LentValue) (c : Present) (cs : List Present) (r p nulls : List ℕ) (j o : ℕ) (buf : List ℕ) →
    let d = datum_of g.lent g.value in
    Lent r p nulls → j ≤ count_of r → present_from (count_of r - j) r p j ≡ c ∷ cs → in_cell c d ≡ true
    → bit_lsb0 nulls (count_bits p j) ≡ is_null d → is_lent g.lent g.value ≡ true
    → put_from r p nulls (cursor j o) g.lent g.value buf
    ≡ after (store (cell c d) buf o) (λ x. ok (cursor (c.column + 1) x.0, x.1))
unfolding slots_at slots
put_one g c cs r p nulls j o buf u h e d m l =
    let i : Slot = record { present = c; null = bit_lsb0 nulls (count_bits p j) } in
    rw (put_goes r p nulls (cursor j o) g.lent g.value buf (nulls_is r p nulls u) h, e)
    (put_over_lem i (slots cs (suc (count_bits p j)) nulls) (cursor j o) g buf d m l)

-- ---- the row
-- what a writer of several values has used, and the buffer
abbrev pub used : Outcome (Cursor × List ℕ) → Outcome (ℕ × List ℕ)
used w = after w (λ x. ok (x.0.offset, x.1))

used_after : (w : Outcome (ℕ × List ℕ)) (c : ℕ × List ℕ → Cursor × List ℕ) (f : Cursor × List ℕ → Outcome (Cursor × List ℕ))
    → used (after (after w (λ x. ok (c x))) f) ≡ after w (λ x. used (f (c x)))
used_after (ok x) c f = refl
used_after (refused v) c f = refl

put_row_lem : (gs : List LentValue) (cs : List Present) (r p nulls : List ℕ) (j o : ℕ) (buf : List ℕ) → Lent r p nulls → j ≤ count_of r
    → present_from (count_of r - j) r p j ≡ cs
    → in_domains cs (row_of gs) ≡ true → Marks nulls (count_bits p j) (row_of gs) → are_lent gs ≡ true → o ≤ length buf
    → used (put_row r p nulls gs (cursor j o) buf) ≡ store (row_bytes cs (row_of gs)) buf o
unfolding put_row row_of are_lent in_domains Marks row_bytes
put_row_lem [] [] r p nulls j o buf u h e d m l b = sym (store_none buf o b)
put_row_lem [] (c ∷ cs) r p nulls j o buf u h e d m l b = absurd (true≢false (sym d))
put_row_lem (g ∷ gs) [] r p nulls j o buf u h e d m l b = absurd (true≢false (sym d))
put_row_lem (g ∷ gs) (c ∷ cs) r p nulls j o buf u h e d m l b =
    let x = datum_of g.lent g.value in
    let w = both_true (in_cell c x) (in_domains cs (row_of gs)) d in
    let t = both_true (is_lent g.lent g.value) (are_lent gs) l in
    let n = next_present r p j c cs h e in
    rw (put_one g c cs r p nulls j o buf u h e w.0 m.0 t.0)
    (used_after (store (cell c x) buf o) (λ y. (cursor (c.column + 1) y.0, y.1)) (λ y. put_row r p nulls gs y.0 y.1)
    ∙ store_then buf (cell c x) (row_bytes cs (row_of gs)) o (λ y. used (put_row r p nulls gs (cursor (c.column + 1) y.0) y.1))
    (λ f.
    let k = length_stored buf o (cell c x) f in
    put_row_lem gs cs r p nulls (c.column + 1) (o + length (cell c x)) (stored (cell c x) buf o) u (omega (arith, n.0)) n.1 w.1
    (subst (λ (y : ℕ). Marks nulls y (row_of gs)) (sym n.2) m.1) t.1 (omega arith)))

-- the start and the row
write_lent : (r p nulls : List ℕ) (gs : List LentValue) (buf : List ℕ) → Lent r p nulls → Fit r p nulls gs
    → let n = count_bits p (count_of r) in
    length (filled n nulls) ≡ null_bytes r p
    → used (write_row r p nulls gs buf) ≡ store (filled n nulls ++ row_bytes (present r p) (row_of gs)) buf 0
unfolding write_row start_image
write_lent r p nulls gs buf u w e =
    let f = filled (count_bits p (count_of r)) nulls in
    let bs = row_bytes (present r p) (row_of gs) in
    let z : 0 + length f ≡ null_bytes r p = zero-add (length f) ∙ e in
    rw (nulls_is r p nulls u)
    (used_after (store f buf 0) (λ y. (cursor 0 (null_bytes r p), y.1)) (λ y. put_row r p nulls gs y.0 y.1)
    ∙ store_then buf f bs 0 (λ y. used (put_row r p nulls gs (cursor 0 (null_bytes r p)) y.1))
    (λ h.
    let k = length_stored buf 0 f h in
    put_row_lem gs (present r p) r p nulls 0 (null_bytes r p) (stored f buf 0) u (omega arith)
    (ap (λ (x : ℕ). present_from x r p 0) (sub-zero (count_of r))) w.row
    (subst (λ (y : ℕ). Marks nulls y (row_of gs)) (sym (count_none p)) w.marks) w.lent (omega arith)
    ∙ ap (λ (x : ℕ). store bs (stored f buf 0) x) (sym z)))

-- the whole image is one store
pub write_row_lem : (r p nulls : List ℕ) (gs : List LentValue) (buf : List ℕ) → Fit r p nulls gs
    → used (write_row r p nulls gs buf) ≡ store (filled (length (row_of gs)) nulls ++ row_bytes (present r p) (row_of gs)) buf 0
write_row_lem r p nulls gs buf w =
    let n : count_bits p (count_of r) ≡ length (row_of gs) = sym (row_length (present r p) (row_of gs) w.row ∙ present_length r p) in
    let s : length nulls ≡ null_bytes r p = w.size ∙ ap bytes_for (sym n) in
    let u : Lent r p nulls = record { over = record { valid = w.valid; bits = w.bits }; size = s } in
    write_lent r p nulls gs buf u w (fill_length (count_bits p (count_of r)) nulls s ∙ s)
    ∙ ap (λ (k : ℕ). store (filled k nulls ++ row_bytes (present r p) (row_of gs)) buf 0) n

-- ---- with room it is written, and read back
pub marks_same : (ds : Row) (k : ℕ) (a b : List ℕ) → ((i : ℕ) → k ≤ i → i < k + length ds → bit_lsb0 b i ≡ bit_lsb0 a i) → Marks a k ds
    → Marks b k ds
unfolding Marks
marks_same [] k a b h m = tt
marks_same (d ∷ ds) k a b h m =
    (h k (omega arith) (omega arith) ∙ m.0, marks_same ds (suc k) a b (λ i g l. h i (omega arith) (omega arith)) m.1)

-- the bytes used are the image
taken_whole : (im left buf : List ℕ) (n : ℕ) → left ≡ stored im buf 0 → length im ≡ n → take n left ≡ im
unfolding stored
taken_whole im left buf n e l = ap (take n) e ∙ take_at im (drop (0 + length im) buf) n l

stored_image : (nulls bs buf : List ℕ) → stored (nulls ++ bs) buf 0 ≡ nulls ++ (bs ++ drop (length (nulls ++ bs)) buf)
unfolding stored
stored_image nulls bs buf = rw (zero-add (length (nulls ++ bs))) (append_assoc nulls bs (drop (length (nulls ++ bs)) buf))

image_size_lem : (r p nulls : List ℕ) (gs : List LentValue) → Fit r p nulls gs
    → 0 + length (filled (length (row_of gs)) nulls ++ row_bytes (present r p) (row_of gs)) ≡ image_size r p nulls (row_of gs)
image_size_lem r p nulls gs w =
    let f = filled (length (row_of gs)) nulls in
    let l = fill_length (length (row_of gs)) nulls w.size in
    omega (arith, length-append f (row_bytes (present r p) (row_of gs)))

pub written : (r p nulls : List ℕ) (gs : List LentValue) (buf : List ℕ) → Fit r p nulls gs → image_size r p nulls (row_of gs) ≤ length buf
    → Wrote r p nulls (row_of gs) buf (write_row r p nulls gs buf)
written r p nulls gs buf w h =
    let ds = row_of gs in
    let f = filled (length ds) nulls in
    let bs = row_bytes (present r p) ds in
    let l : length f ≡ length nulls = fill_length (length ds) nulls w.size in
    let s = image_size_lem r p nulls gs w in
    let a =
    after_is_ok (write_row r p nulls gs buf) (λ x. ok (x.0.offset, x.1)) _
    (write_row_lem r p nulls gs buf w ∙ store_fits buf (f ++ bs) 0 (omega arith)) in
    let e = same_ok a.2 in
    let o : a.0.0.offset ≡ length nulls + length bs = ap (λ (x : ℕ × List ℕ). x.0) e ∙ s in
    let k : a.0.1 ≡ stored (f ++ bs) buf 0 = ap (λ (x : ℕ × List ℕ). x.1) e in
    let m : Marks f 0 ds = marks_same ds 0 nulls f (λ i g j. fill_kept (length ds) nulls w.size i (omega arith)) w.marks in
    record {
      last = a.0.0;
      left = a.0.1;
      is = a.1;
      offset = o;
      buffer = k;
      walked =
          ap (walk_image r p) (k ∙ stored_image f bs buf)
          ∙ every_row r p f (drop (length (f ++ bs)) buf) ds w.valid w.bits w.row m (l ∙ w.size)
          ∙ ap (λ (x : ℕ). record { answers = answers_of (present r p) ds; how = ok x }) (ap (λ (x : ℕ). x + length bs) l ∙ sym o);
      anywhere = λ rest.
          ap (λ (x : List ℕ). walk_image r p (x ++ rest)) (taken_whole (f ++ bs) a.0.1 buf a.0.0.offset k (omega (arith, o, s)))
          ∙ ap (walk_image r p) (append_assoc f bs rest)
          ∙ every_row r p f rest ds w.valid w.bits w.row m (l ∙ w.size)
          ∙ ap (λ (x : ℕ). record { answers = answers_of (present r p) ds; how = ok x }) (ap (λ (x : ℕ). x + length bs) l ∙ sym o);
    }

-- ---- and without room it is refused, 8 at 0
pub not_written : (r p nulls : List ℕ) (gs : List LentValue) (buf : List ℕ) → Fit r p nulls gs → length buf < image_size r p nulls (row_of gs)
    → write_row r p nulls gs buf ≡ refuse 8 0
not_written r p nulls gs buf w h =
    let bytes = filled (length (row_of gs)) nulls ++ row_bytes (present r p) (row_of gs) in
    let s = image_size_lem r p nulls gs w in
    ⊎_elim (λ (e : write_row r p nulls gs buf ≡ refuse 8 0). e) (λ x. absurd (ok_not_refused x.2))
    (after_refuses (write_row r p nulls gs buf) (λ x. ok (x.0.offset, x.1)) (why 8 0)
    (write_row_lem r p nulls gs buf w ∙ store_full buf bytes 0 (omega arith)))

-- ---- what it leaves then
-- of the values, from an offset on that the buffer has: the first k of them had room, and the next had none
put_left_lem : (gs : List LentValue) (cs : List Present) (r p nulls : List ℕ) (j o : ℕ) (buf : List ℕ) → Lent r p nulls → j ≤ count_of r
    → present_from (count_of r - j) r p j ≡ cs → in_domains cs (row_of gs) ≡ true → Marks nulls (count_bits p j) (row_of gs) → are_lent gs ≡ true
    → o ≤ length buf → length buf < o + length (row_bytes cs (row_of gs))
    → (k : ℕ) × (o + length (row_bytes cs (take k (row_of gs))) ≤ length buf)
    × (length buf < o + length (row_bytes cs (take (suc k) (row_of gs))))
    × (put_left r p nulls gs (cursor j o) buf ≡ stored (row_bytes cs (take k (row_of gs))) buf o)
unfolding put_left row_of are_lent in_domains Marks row_bytes
put_left_lem [] [] r p nulls j o buf u h e d m l b f = absurd (omega arith)
put_left_lem [] (c ∷ cs) r p nulls j o buf u h e d m l b f = absurd (true≢false (sym d))
put_left_lem (g ∷ gs) [] r p nulls j o buf u h e d m l b f = absurd (true≢false (sym d))
put_left_lem (g ∷ gs) (c ∷ cs) r p nulls j o buf u h e d m l b f =
    let x = datum_of g.lent g.value in
    let bs = cell c x in
    let w = both_true (in_cell c x) (in_domains cs (row_of gs)) d in
    let t = both_true (is_lent g.lent g.value) (are_lent gs) l in
    let n = next_present r p j c cs h e in
    let one = put_one g c cs r p nulls j o buf u h e w.0 m.0 t.0 in
    dite (dec_le (o + length bs) (length buf))
    (λ (q : o + length bs ≤ length buf).
    let y = stored bs buf o in
    let z = length_stored buf o bs q in
    let a = length-append bs (row_bytes cs (row_of gs)) in
    let i = put_left_lem gs cs r p nulls (c.column + 1) (o + length bs) y u (omega (arith, n.0)) n.1 w.1
    (subst (λ (k : ℕ). Marks nulls k (row_of gs)) (sym n.2) m.1) t.1 (omega arith) (omega (arith, z, a, f)) in
    let k = i.0 in
    let s = length-append bs (row_bytes cs (take k (row_of gs))) in
    let s' = length-append bs (row_bytes cs (take (suc k) (row_of gs))) in (
      suc k,
      omega (arith, z, s, i.1),
      omega (arith, z, s', i.2),
      rw (one, store_fits buf bs o q) (i.3 ∙ stored_stored buf o bs (row_bytes cs (take k (row_of gs))) q),
    ))
    (λ q.
    let s = length-append bs (row_bytes cs (take 0 (row_of gs))) in (
      0,
      omega arith,
      omega (arith, s),
      rw (one, store_full buf bs o (omega arith)) (sym (stored_none buf o)),
    ))

left_lent : (r p nulls : List ℕ) (gs : List LentValue) (buf : List ℕ) → Lent r p nulls → Fit r p nulls gs →
    let n = count_bits p (count_of r) in
    length (filled n nulls) ≡ null_bytes r p → length nulls ≡ null_bytes r p → n ≡ length (row_of gs)
    → length buf < image_size r p nulls (row_of gs)
    → Stopped (present r p) nulls (row_of gs) buf (write_left r p nulls gs buf)
unfolding write_left start_image
left_lent r p nulls gs buf u w e s n l =
    let f = filled (count_bits p (count_of r)) nulls in
    let cs = present r p in
    let ds = row_of gs in
    dite (dec_le (length nulls) (length buf))
    (λ (q : length nulls ≤ length buf).
    let y = stored f buf 0 in
    let fits : 0 + length f ≤ length buf = omega arith in
    let z = length_stored buf 0 f fits in
    let i = put_left_lem gs cs r p nulls 0 (null_bytes r p) y u (omega arith)
    (ap (λ (x : ℕ). present_from x r p 0) (sub-zero (count_of r))) w.row
    (subst (λ (k : ℕ). Marks nulls k ds) (sym (count_none p)) w.marks) w.lent (omega arith) (omega arith) in
    let k = i.0 in
    let o : 0 + length f ≡ null_bytes r p = zero-add (length f) ∙ e in
    let x : write_left r p nulls gs buf ≡ stored (filled (length ds) nulls ++ row_bytes cs (take k ds)) buf 0 =
    rw (nulls_is r p nulls u, store_fits buf f 0 fits)
    (i.3 ∙ ap (λ (j : ℕ). stored (row_bytes cs (take k ds)) y j) (sym o) ∙ stored_stored buf 0 f (row_bytes cs (take k ds)) fits
    ∙ ap (λ (j : ℕ). stored (filled j nulls ++ row_bytes cs (take k ds)) buf 0) n) in
    subst (Stopped cs nulls ds buf) (sym x) (at_value k (omega (arith, z, i.1)) (omega (arith, z, i.2))))
    (λ q.
    let x : write_left r p nulls gs buf ≡ buf = rw (nulls_is r p nulls u, store_full buf f 0 (omega arith)) in
    subst (Stopped cs nulls ds buf) (sym x) (at_start (omega arith)))

pub stopped : (r p nulls : List ℕ) (gs : List LentValue) (buf : List ℕ) → Fit r p nulls gs → length buf < image_size r p nulls (row_of gs)
    → Stopped (present r p) nulls (row_of gs) buf (write_left r p nulls gs buf)
stopped r p nulls gs buf w h =
    let n : count_bits p (count_of r) ≡ length (row_of gs) = sym (row_length (present r p) (row_of gs) w.row ∙ present_length r p) in
    let s : length nulls ≡ null_bytes r p = w.size ∙ ap bytes_for (sym n) in
    let u : Lent r p nulls = record { over = record { valid = w.valid; bits = w.bits }; size = s } in
    left_lent r p nulls gs buf u w (fill_length (count_bits p (count_of r)) nulls s ∙ s) s n h
