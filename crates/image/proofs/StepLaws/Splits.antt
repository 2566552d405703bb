-- Present columns read one after the other: whatever the bytes are, they get the answers that they must get, and no bytes get others.
-- Assumes nothing.
use Prim.Native.Nat.{ℕ, suc, ◌+◌}
use mathlib.Core.Path.{◌≡◌, refl, sym, ap, subst, ◌∙◌}
use mathlib.Core.Bool.{true, false, true≢false}
use mathlib.Core.List.{List, [], ◌∷◌, ◌++◌, append_assoc, append-nil}
use native.Mathlib.Nat.{add-zero, add_assoc}
use native.Mathlib.Omega.{arith}
use lib.ListN.{length, take, drop, length-append, take-append-drop}
use lib.Seq.{length-take-le, drop-append_seam}
use Rattle.wire.specs.declared.refusal.Refusal.{Refusal}
use Rattle.wire.specs.Outcome.{Outcome, ok, refused}
use Rattle.wire.specs.Number.{Bytes}
use Rattle.wire.specs.Bits.{bit_lsb0}
use Rattle.wire.proofs.Inverse.{bytes_drop}
use Rattle.wire.proofs.Outcomes.{both_true}
use Rattle.value.specs.Data.{Datum}
use Rattle.value.specs.Columns.{is_taken}
use Rattle.value.specs.Inner.Shapes.{Sized}
use Rattle.value.specs.Reading.{Fails}
use Rattle.image.specs.Present.{Present}
use Rattle.image.specs.Split.{Slot, slots}
use Rattle.image.specs.Walk.{RowWalked, row_stopped, with_answer, read_slot, answered, read_slots}
use Rattle.image.specs.Rows.{Row, in_domains, row_bytes, answers_of, Marks}
use Rattle.image.proofs.StepLaws.Slots.{in_cell, cell, slot_back, Held, slot_sound, slot_fails, slot_fails_back}

-- what the bytes s, which stand at offset o, must be for the answers that they get: the values of the columns one after the other; or up to
-- a column whose bytes are no value
pub data Split (cs : List Present) (k : ℕ) (nulls s : List ℕ) (o : ℕ) : RowWalked → Type 0 where
  through : (ds : Row) (rest : List ℕ) → in_domains cs ds ≡ true → Marks nulls k ds → s ≡ row_bytes cs ds ++ rest
      → Split cs k nulls s o (record { answers = answers_of cs ds; how = ok (o + length (row_bytes cs ds)) })
  stops : (before : List Present) (c : Present) (behind : List Present) (ds : Row) (rest : List ℕ) (w : Refusal)
      → cs ≡ before ++ (c ∷ behind)
      → in_domains before ds ≡ true → Marks nulls k ds → bit_lsb0 nulls (k + length before) ≡ false → s ≡ row_bytes before ds ++ rest
      → Fails c.shape rest c.column w
      → Split cs k nulls s o (record { answers = answers_of before ds; how = refused w })

-- what holds of each present column
unfoldable pub Each : (Present → Type 0) → List Present → Type 0
Each P [] = Unit {0}
Each P (c ∷ cs) = P c × Each P cs

pub each_at : (P : Present → Type 0) (before : List Present) (c : Present) (behind : List Present) → Each P (before ++ (c ∷ behind)) → P c
unfolding Each
each_at P [] c behind e = e.0
each_at P (b ∷ before) c behind e = each_at P before c behind e.1

-- as in a valid record: accepted, and of a width that there is
pub record Good (c : Present) : Type 0 where
  pub sized : Sized c.shape
  pub taken : is_taken c.shape ≡ true

-- ---- every list of bytes
-- the bytes of one value and then a row's
joined : (b s x rest : List ℕ) (n : ℕ) → b ≡ take n s → drop n s ≡ x ++ rest → s ≡ (b ++ x) ++ rest
joined b s x rest n e q =
    sym (take-append-drop n s) ∙ ap (λ (y : List ℕ). y ++ drop n s) (sym e) ∙ ap (λ (y : List ℕ). b ++ y) q ∙ sym (append_assoc b x rest)

split_more : (c : Present) (cs : List Present) (k : ℕ) (nulls s : List ℕ) (o : ℕ) (d : Datum) (n : ℕ) (w : RowWalked)
    → Held (record { present = c; null = bit_lsb0 nulls k }) s d n → Split cs (suc k) nulls (drop n s) (o + n) w
    → Split (c ∷ cs) k nulls s o (with_answer (c.column, d) w)
unfolding in_domains row_bytes answers_of Marks
split_more c cs k nulls s o d n _ h (through ds rest g m q) =
    let b = cell c d in
    let z : o + n + length (row_bytes cs ds) ≡ o + length (b ++ row_bytes cs ds) =
    rw (length-append b (row_bytes cs ds), h.bytes, length-take-le n s h.fits) (add_assoc o n (length (row_bytes cs ds))) in
    subst (λ (x : ℕ). Split (c ∷ cs) k nulls s o (record { answers = (c.column, d) ∷ answers_of cs ds; how = ok x })) (sym z)
    (through (d ∷ ds) rest (rw h.inside g) (h.marked, m) (joined b s (row_bytes cs ds) rest n h.bytes q))
split_more c cs k nulls s o d n _ h (stops before c' behind ds rest m e g marks v q z) =
    let j : suc k + length before ≡ k + suc (length before) = omega arith in
    stops (c ∷ before) c' behind (d ∷ ds) rest m (ap (λ (l : List Present). c ∷ l) e) (rw h.inside g) (h.marked, marks) (rw j at v)
    (joined (cell c d) s (row_bytes before ds) rest n h.bytes q) z

split_stops : (c : Present) (cs : List Present) (k : ℕ) (nulls s : List ℕ) (o : ℕ) (w : Refusal) → bit_lsb0 nulls k ≡ false
    → Fails c.shape s c.column w → Split (c ∷ cs) k nulls s o (row_stopped (refused w))
unfolding in_domains row_bytes answers_of Marks
split_stops c cs k nulls s o w e z = stops [] c cs [] s w refl refl tt (rw add-zero e) refl z

pub read_split : (cs : List Present) (k : ℕ) (nulls s : List ℕ) (o : ℕ) → Each Good cs → Bytes s
    → Split cs k nulls s o (read_slots (slots cs k nulls) s o)
unfolding read_slots slots Each in_domains row_bytes answers_of Marks
read_split [] k nulls s o g h = subst (λ (x : ℕ). Split [] k nulls s o (row_stopped (ok x))) (add-zero o) (through [] s refl tt refl)
read_split (c ∷ cs) k nulls s o g h = go (λ n. read_split cs (suc k) nulls (drop n s) (o + n) g.1 (bytes_drop n s h)) (read_slot i s) refl
  where
    i : Slot
    i = record { present = c; null = bit_lsb0 nulls k }

    go : ((n : ℕ) → Split cs (suc k) nulls (drop n s) (o + n) (read_slots (slots cs (suc k) nulls) (drop n s) (o + n)))
        → (x : Outcome (Datum × ℕ)) → read_slot i s ≡ x
        → Split (c ∷ cs) k nulls s o (answered c.column (λ n. read_slots (slots cs (suc k) nulls) (drop n s) (o + n)) x)
    go f (ok x) e = split_more c cs k nulls s o x.0 x.1 _ (slot_sound i s x.0 x.1 g.0.sized h e) (f x.1)
    go f (refused w) e =
        let v = slot_fails i s w g.0.taken e in
        split_stops c cs k nulls s o w v.0 v.1

-- ---- and the other way
-- answers, and behind them those of a walk
abbrev with_answers : List (ℕ × Datum) → RowWalked → RowWalked
with_answers a w = record { answers = a ++ w.answers; how = w.how }

-- the bytes of a row are read back, and then the columns behind it
read_row : (cs more : List Present) (ds : Row) (k : ℕ) (nulls rest : List ℕ) (o : ℕ) → in_domains cs ds ≡ true → Marks nulls k ds
    → read_slots (slots (cs ++ more) k nulls) (row_bytes cs ds ++ rest) o
    ≡ with_answers (answers_of cs ds) (read_slots (slots more (k + length cs) nulls) rest (o + length (row_bytes cs ds)))
unfolding read_slots slots in_domains Marks row_bytes answers_of
read_row [] more [] k nulls rest o h m = rw (add-zero k, add-zero o)
read_row [] more (d ∷ ds) k nulls rest o h m = absurd (true≢false (sym h))
read_row (c ∷ cs) more [] k nulls rest o h m = absurd (true≢false (sym h))
read_row (c ∷ cs) more (d ∷ ds) k nulls rest o h m =
    let w = both_true (in_cell c d) (in_domains cs ds) h in
    let b = cell c d in
    let j : k + suc (length cs) ≡ suc k + length cs = omega arith in
    let n : o + length (b ++ row_bytes cs ds) ≡ o + length b + length (row_bytes cs ds) = omega (arith, length-append b (row_bytes cs ds)) in
    rw (
      append_assoc b (row_bytes cs ds) rest,
      slot_back (record { present = c; null = bit_lsb0 nulls k }) d (row_bytes cs ds ++ rest) w.0 m.0,
      drop-append_seam b (row_bytes cs ds ++ rest),
      read_row cs more ds (suc k) nulls rest (o + length b) w.1 m.1,
      j,
      n,
    )

pub split_back : (cs : List Present) (k : ℕ) (nulls s : List ℕ) (o : ℕ) (w : RowWalked) → Each Good cs → Split cs k nulls s o w
    → read_slots (slots cs k nulls) s o ≡ w
unfolding read_slots slots
split_back cs k nulls s o _ g (through ds rest h m q) =
    ap (λ (l : List Present). read_slots (slots l k nulls) s o) (sym (append-nil cs))
    ∙ ap (λ (l : List ℕ). read_slots (slots (cs ++ []) k nulls) l o) q
    ∙ read_row cs [] ds k nulls rest o h m
    ∙ ap (λ (a : List (ℕ × Datum)). record { answers = a; how = ok (o + length (row_bytes cs ds)) }) (append-nil (answers_of cs ds))
split_back cs k nulls s o _ g (stops before c behind ds rest w e h m v q z) =
    let t = (each_at Good before c behind (subst (Each Good) e g)).taken in
    ap (λ (l : List Present). read_slots (slots l k nulls) s o) e
    ∙ ap (λ (l : List ℕ). read_slots (slots (before ++ (c ∷ behind)) k nulls) l o) q
    ∙ read_row before (c ∷ behind) ds k nulls rest o h m
    ∙ rw (slot_fails_back (record { present = c; null = bit_lsb0 nulls (k + length before) }) rest w t v z)
    (ap (λ (a : List (ℕ × Datum)). record { answers = a; how = refused w }) (append-nil (answers_of before ds)))
