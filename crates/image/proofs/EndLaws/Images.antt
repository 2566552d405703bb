-- Demand 3, of the definitions. Under a valid record and presence bits of its length the walk over any image gives the answers that the
-- split of the image into null bits and values says, or stops where it says, and nothing else; and every row in the domains is read back.
-- Assumes nothing.
use Prim.Native.Nat.{ℕ, suc, ◌+◌, ◌-◌, ◌≤◌, ◌<◌}
use mathlib.Core.Path.{◌≡◌, refl, sym, ap, subst, ◌∙◌}
use mathlib.Core.Bool.{true, true≢false}
use mathlib.Core.Logic.{dite}
use mathlib.Core.List.{List, [], ◌∷◌, ◌++◌}
use native.Mathlib.Nat.{zero-add}
use native.Mathlib.Decide.{dec_le}
use native.Mathlib.Omega.{arith}
use borrow.Author.Tests.{le-ltb, lt-ltb}
use lib.ListN.{length, take, drop, length-append, take-append-drop}
use lib.Seq.{length-take-le, drop-append_seam}
use Rattle.wire.specs.declared.refusal.Refusal.{Refusal}
use Rattle.wire.specs.Outcome.{ok, refused, refuse}
use Rattle.wire.specs.Number.{Bytes}
use Rattle.wire.specs.Bits.{bytes_for, bit_lsb0}
use Rattle.wire.proofs.Inverse.{bytes_drop}
use Rattle.wire.proofs.Outcomes.{same_refused, ok_not_refused, both_true}
use Rattle.value.specs.declared.shape.Shape.{Shape}
use Rattle.value.specs.Shapes.{need, fault}
use Rattle.value.specs.Reading.{Fails, short as cut, range}
use Rattle.value.proofs.Laws.{fault_most}
use Rattle.record.specs.Records.{count_of, record_valid}
use Rattle.image.specs.declared.cursor.Cursor.{Cursor}
use Rattle.image.specs.Present.{Present, count_bits, present_from, present}
use Rattle.image.specs.Split.{Slot, slots, slots_at, cursor, slots_left, first_cursor}
use Rattle.image.specs.Walk.{RowWalked, read_slots, walk_from, walk_image}
use Rattle.image.specs.Rows.{Row, in_domains, row_bytes, answers_of, Marks, Says, read, short, broken, Among, WalkRefusal, in_nulls}
use Rattle.image.specs.Rows.{ends_early, out_of_range}
use Rattle.image.proofs.CursorLaws.Heads.{Over, null_bytes, head_is}
use Rattle.image.proofs.StepLaws.Slots.{in_cell}
use Rattle.image.proofs.StepLaws.Splits.{Split, through, stops, Each, each_at, read_split, split_back}
use Rattle.image.proofs.PresenceLaws.Presents.{present_length, good_from, good_present, among_present, present_same, slots_same}
use Rattle.image.proofs.PresenceLaws.Presents.{slots_front, slots_all}
use Rattle.image.proofs.StepLaws.Walks.{walk_goes}

-- ---- the whole walk, without cursors
pub walk_read : (r p nulls s : List ℕ) → Over r p → length nulls ≡ bytes_for (length (present r p))
    → walk_image r p (nulls ++ s) ≡ read_slots (slots (present r p) 0 nulls) s (length nulls)
unfolding walk_image first_cursor
walk_read r p nulls s u l =
    let im = nulls ++ s in
    let cs = present r p in
    let e : null_bytes r p ≡ length nulls = ap bytes_for (sym (present_length r p)) ∙ sym l in
    let g : length nulls ≤ length im = simp length-append (omega arith) in
    let w : null_bytes r p ≤ length im = omega arith in
    rw (head_is r p u)
    (walk_goes r p im (cursor 0 (null_bytes r p)) (head_is r p u) (omega arith) w w
    ∙ rw (slots_all r p im, slots_front cs nulls s (omega arith), e, drop-append_seam nulls s))

-- null bits that are not whole
pub walk_short : (r p im : List ℕ) → Over r p → length im < bytes_for (length (present r p))
    → walk_image r p im ≡ record { answers = []; how = refuse 9 0 }
unfolding walk_image first_cursor walk_from slots_left
walk_short r p im u l =
    let s : length im < null_bytes r p = subst (λ (n : ℕ). length im < bytes_for n) (present_length r p) l in
    rw (head_is r p u, head_is r p u, le-ltb (count_of r) 0 (omega arith), lt-ltb (length im) (null_bytes r p) s)

-- ---- every image
says : (cs : List Present) (nulls s im : List ℕ) (w : RowWalked) → length nulls ≡ bytes_for (length cs) → im ≡ nulls ++ s
    → Split cs 0 nulls s (length nulls) w → Says cs im w
says cs nulls s im _ l e (through ds rest d m q) = read nulls rest ds l d m (e ∙ ap (λ (x : List ℕ). nulls ++ x) q)
says cs nulls s im _ l e (stops before c behind ds rest n x d m v q f) =
    broken nulls rest before c behind ds n x l d m (rw zero-add at v) (e ∙ ap (λ (y : List ℕ). nulls ++ y) q) f

pub every_image : (r p im : List ℕ) → record_valid r ≡ true → length p ≡ bytes_for (count_of r) → Bytes im
    → Says (present r p) im (walk_image r p im)
every_image r p im v b y =
    let cs = present r p in
    let o = bytes_for (length cs) in
    let u : Over r p = record { valid = v; bits = b } in
    dite (dec_le o (length im))
    (λ (h : o ≤ length im).
    let l = length-take-le o im h in
    let e = sym (take-append-drop o im) in
    says cs (take o im) (drop o im) im (walk_image r p im) l e
    (rw (ap (walk_image r p) e ∙ walk_read r p (take o im) (drop o im) u l)
    (read_split cs 0 (take o im) (drop o im) (length (take o im)) (good_present r p v) (bytes_drop o im y))))
    (λ h.
    let s : length im < o = omega arith in
    rw (walk_short r p im u s) (short s))

-- the same from a cursor, made up or not, that stands within the image
pub every_cursor : (r p im : List ℕ) (c : Cursor) → Over r p → null_bytes r p ≤ length im → c.column ≤ count_of r → c.offset ≤ length im
    → Bytes im
    → Split (present_from (count_of r - c.column) r p c.column) (count_bits p c.column) im (drop c.offset im) c.offset
    (walk_from r p im c)
unfolding slots_at
every_cursor r p im c u w h b y =
    let n = count_of r in
    rw (walk_goes r p im c (head_is r p u) h w b)
    (read_split (present_from (n - c.column) r p c.column) (count_bits p c.column) im (drop c.offset im) c.offset
    (good_from (n - c.column) r p c.column u.valid (omega arith))
    (bytes_drop c.offset im y))

-- ---- and no other answers
pub only_says : (r p im : List ℕ) (w : RowWalked) → record_valid r ≡ true → length p ≡ bytes_for (count_of r) → Says (present r p) im w
    → walk_image r p im ≡ w
only_says r p im _ v b (read nulls rest ds l d m e) =
    let u : Over r p = record { valid = v; bits = b } in
    ap (walk_image r p) e
    ∙ walk_read r p nulls (row_bytes (present r p) ds ++ rest) u l
    ∙ split_back (present r p) 0 nulls _ (length nulls) _ (good_present r p v) (through ds rest d m refl)
only_says r p im _ v b (short l) = walk_short r p im (record { valid = v; bits = b }) l
only_says r p im _ v b (broken nulls rest before c behind ds n x l d m k e f) =
    let u : Over r p = record { valid = v; bits = b } in
    ap (walk_image r p) e
    ∙ walk_read r p nulls (row_bytes before ds ++ rest) u l
    ∙ split_back (present r p) 0 nulls _ (length nulls) _ (good_present r p v)
    (stops before c behind ds rest n x d m (rw zero-add k) refl f)

-- ---- every row
pub row_length : (cs : List Present) (ds : Row) → in_domains cs ds ≡ true → length ds ≡ length cs
unfolding in_domains
row_length [] [] h = refl
row_length [] (d ∷ ds) h = absurd (true≢false (sym h))
row_length (c ∷ cs) [] h = absurd (true≢false (sym h))
row_length (c ∷ cs) (d ∷ ds) h = ap suc (row_length cs ds (both_true (in_cell c d) (in_domains cs ds) h).1)

pub every_row : (r p nulls rest : List ℕ) (ds : Row) → record_valid r ≡ true → length p ≡ bytes_for (count_of r)
    → in_domains (present r p) ds ≡ true → Marks nulls 0 ds
    → length nulls ≡ bytes_for (length ds)
    → walk_image r p (nulls ++ (row_bytes (present r p) ds ++ rest))
    ≡ record { answers = answers_of (present r p) ds; how = ok (length nulls + length (row_bytes (present r p) ds)) }
every_row r p nulls rest ds v b d m l =
    only_says r p _ _ v b (read nulls rest ds (l ∙ ap bytes_for (row_length (present r p) ds d)) d m refl)

-- what a value that fails is told as
fails_told : {r p im s : List ℕ} {sh : Shape} {j : ℕ} {w : Refusal} → Fails sh s j w → Among r p j → WalkRefusal r p im w
fails_told {j = j} (cut l) a = ends_early j a
fails_told {s = s} {sh = sh} {j = j} (range h e) a =
    let l = fault_most sh (take (need sh s) s) in
    out_of_range j (fault sh (take (need sh s) s)) (omega (arith, e)) l a

pub no_other : (r p im : List ℕ) (v : Refusal) → record_valid r ≡ true → length p ≡ bytes_for (count_of r) → Bytes im
    → (walk_image r p im).how ≡ refused v → WalkRefusal r p im v
no_other r p im v h b y e = go (every_image r p im h b y) e
  where
    go : {w : RowWalked} → Says (present r p) im w → w.how ≡ refused v → WalkRefusal r p im v
    go (read nulls rest ds l d m q) e = absurd (ok_not_refused e)
    go (short l) e = subst (WalkRefusal r p im) (same_refused e) (in_nulls l)
    go (broken nulls rest before c behind ds n x l d m k q f) e =
        let a = each_at (λ c. Among r p c.column) before c behind (subst (Each (λ c. Among r p c.column)) x (among_present r p)) in
        subst (WalkRefusal r p im) (same_refused e) (fails_told f a)

-- ---- spare bits are ignored: those of the presence bits, and those of the null bits
pub spare_presence : (r p q im : List ℕ) → record_valid r ≡ true → length p ≡ bytes_for (count_of r) → length q ≡ length p
    → ((i : ℕ) → i < count_of r → bit_lsb0 p i ≡ bit_lsb0 q i) → Bytes im → walk_image r q im ≡ walk_image r p im
spare_presence r p q im v b l h y =
    only_says r q im (walk_image r p im) v (l ∙ b)
    (subst (λ (cs : List Present). Says cs im (walk_image r p im)) (present_same r p q h) (every_image r p im v b y))

pub spare_nulls : (r p nulls nulls' s : List ℕ) → record_valid r ≡ true → length p ≡ bytes_for (count_of r)
    → length nulls ≡ bytes_for (length (present r p)) → length nulls' ≡ length nulls
    → ((i : ℕ) → i < length (present r p) → bit_lsb0 nulls i ≡ bit_lsb0 nulls' i) → walk_image r p (nulls' ++ s) ≡ walk_image r p (nulls ++ s)
spare_nulls r p nulls nulls' s v b l e h =
    let cs = present r p in
    let u : Over r p = record { valid = v; bits = b } in
    walk_read r p nulls' s u (e ∙ l)
    ∙ ap (read_slots (slots cs 0 nulls') s) e
    ∙ ap (λ (is : List Slot). read_slots is s (length nulls)) (slots_same cs 0 nulls' nulls (λ i k. sym (h i (omega arith))))
    ∙ sym (walk_read r p nulls s u l)
