-- The record of columns: each entry is read back from where it stands, and the record is valid if each may be there. Entries are named by
-- their index; z is what there would be past the last. Assumes nothing.
use Prim.Native.Nat.{ℕ, zero, suc, ◌+◌, ◌*◌, ◌≤◌, ◌<◌, ◌^◌}
use mathlib.Core.Path.{◌≡◌, refl, sym, ap, ◌∙◌}
use mathlib.Core.Bool.{true}
use mathlib.Core.List.{List, [], ◌∷◌, ◌++◌}
use native.Mathlib.Omega.{arith}
use borrow.Author.Tests.{le-leb, eq-eqb}
use lib.ListN.{length, get_or, take, drop, drop_of_length-le, length-drop}
use lib.Seq.{drop-append-add, drop-drop}
use Rattle.wire.specs.Outcome.{ok}
use Rattle.wire.specs.Number.{Bytes, le_value, le_bytes}
use Rattle.wire.proofs.Inverse.{bytes_append, bytes_drop, bytes_take, le_bytes_bytes, le_back, le_sound}
use Rattle.record.specs.declared.entry.Entry.{Entry}
use Rattle.record.specs.Entries.{entry_holds, entry_of, entry_bytes}
use Rattle.record.specs.Records.{most_columns, kind_for, count_of, entry_at, entry_in, entries_in, head_holds, record_valid}
use Rattle.record.specs.Records.{read_record, head_bytes, entries_bytes, record_bytes}
use Rattle.record.proofs.Looks.{entry_back}
use Rattle.record.proofs.Heads.{kind_most}
use Rattle.record.proofs.Turns.{all_hold}
use Rattle.record.proofs.Valid.{Head, valid_head}

-- ---- lengths
entries_length : (es : List Entry) → length (entries_bytes es) ≡ 6 * length es
unfolding entries_bytes entry_bytes le_bytes
entries_length [] = refl
entries_length (e ∷ es) = omega (arith, entries_length es)

pub made_length : (es : List Entry) → length (record_bytes es) ≡ entry_at (length es)
unfolding record_bytes head_bytes le_bytes
made_length es = omega (arith, entries_length es)

pub made_count : (es : List Entry) → length es ≤ most_columns → count_of (record_bytes es) ≡ length es
unfolding count_of record_bytes head_bytes le_bytes
made_count es h = le_back 2 (length es) (omega arith)

-- ---- an entry is read where it stands
entries_at : (es : List Entry) (z : Entry) (j : ℕ) → j < length es
    → drop (6 * j) (entries_bytes es) ≡ entry_bytes (get_or es j z) ++ entries_bytes (drop (suc j) es)
unfolding entries_bytes entry_bytes le_bytes
entries_at [] z j h = absurd (omega arith)
entries_at (e ∷ es) z zero h = refl
entries_at (e ∷ es) z (suc j) h =
    let n : 6 * suc j ≡ suc (suc (suc (suc (suc (suc (6 * j)))))) = omega arith in
    rw n (entries_at es z j (omega arith))

-- an entry and what comes behind it, by its place in the record
pub made_at : (es : List Entry) (z : Entry) (j : ℕ) → j < length es
    → drop (entry_at j) (record_bytes es) ≡ entry_bytes (get_or es j z) ++ entries_bytes (drop (suc j) es)
unfolding record_bytes head_bytes le_bytes
made_at es z j h = drop-append-add (head_bytes (length es)) (entries_bytes es) (6 * j) ∙ entries_at es z j h

pub made_back : (es : List Entry) (z : Entry) (j : ℕ) → j < length es → (get_or es j z).charset < 2 ^ 16
    → entry_in (record_bytes es) j ≡ get_or es j z
unfolding entry_in
made_back es z j h c = ap entry_of (made_at es z j h) ∙ entry_back (get_or es j z) (entries_bytes (drop (suc j) es)) c

-- ---- validity: an entry that a record may have, and whose charset its two bytes hold
pub record Kept (e : Entry) : Type 0 where
  pub holds : entry_holds e ≡ true
  pub charset_fits : e.charset < 2 ^ 16

-- the head says what it should
made_announced : (es : List Entry) → length es ≤ most_columns → le_value (take 2 (record_bytes es)) ≡ entry_at (length es)
unfolding record_bytes head_bytes le_bytes
made_announced es h = le_back 2 (entry_at (length es)) (omega arith)

made_kind : (es : List Entry) → le_value (take 2 (drop 2 (record_bytes es))) ≡ kind_for (length es)
unfolding record_bytes head_bytes le_bytes
made_kind es = le_back 2 (kind_for (length es)) (omega (arith, kind_most (length es)))

made_head : (es : List Entry) → length es ≤ most_columns → head_holds (record_bytes es) ≡ true
unfolding head_holds
made_head es h =
    let n : length (record_bytes es) ≡ entry_at (length es) = made_length es in
    let l : 6 ≤ length (record_bytes es) = omega arith in
    rw (
      le-leb _ _ l,
      eq-eqb _ _ (made_announced es h ∙ sym n),
      made_count es h,
      eq-eqb _ _ (made_kind es),
      le-leb _ _ h,
      eq-eqb _ _ n,
    )

pub made_valid : (es : List Entry) (z : Entry) → length es ≤ most_columns → ((j : ℕ) → j < length es → Kept (get_or es j z))
    → record_valid (record_bytes es) ≡ true
unfolding record_valid
made_valid es z h k = rw (made_head es h, made_count es h) (all_hold (length es) (record_bytes es) 0 holds)
  where
    holds : (i : ℕ) → i < length es → entry_holds (entry_in (record_bytes es) (0 + i)) ≡ true
    holds i l =
        let e : 0 + i ≡ i = omega arith in
        ap (λ (j : ℕ). entry_holds (entry_in (record_bytes es) j)) e ∙ ap entry_holds (made_back es z i l (k i l).charset_fits) ∙ (k i l).holds

pub made_read : (es : List Entry) (z : Entry) → length es ≤ most_columns → ((j : ℕ) → j < length es → Kept (get_or es j z))
    → read_record (record_bytes es) ≡ ok (length es)
unfolding read_record
made_read es z h k = rw (made_valid es z h k, made_count es h)

-- ---- the record is bytes: of the charset two bytes are written, whatever it is
pub record ByteParts (e : Entry) : Type 0 where
  pub real_byte : e.real < 256
  pub flags_byte : e.flags < 256
  pub m0_byte : e.m0 < 256
  pub m1_byte : e.m1 < 256

entry_is_bytes : (e : Entry) → ByteParts e → Bytes (entry_bytes e)
unfolding entry_bytes
entry_is_bytes e b zero = b.real_byte
entry_is_bytes e b (suc zero) = b.flags_byte
entry_is_bytes e b (suc (suc zero)) = b.m0_byte
entry_is_bytes e b (suc (suc (suc zero))) = b.m1_byte
entry_is_bytes e b (suc (suc (suc (suc i)))) = le_bytes_bytes 2 e.charset i

entries_are_bytes : (es : List Entry) (z : Entry) → ((j : ℕ) → j < length es → ByteParts (get_or es j z)) → Bytes (entries_bytes es)
unfolding entries_bytes
entries_are_bytes [] z b i = omega arith
entries_are_bytes (e ∷ es) z b i =
    bytes_append (entry_bytes e) (entries_bytes es) (entry_is_bytes e (b 0 (omega arith)))
    (entries_are_bytes es z (λ j l. b (suc j) (omega arith))) i

head_is_bytes : (n : ℕ) → Bytes (head_bytes n)
unfolding head_bytes
head_is_bytes n =
    bytes_append (le_bytes 2 (entry_at n)) (le_bytes 2 (kind_for n) ++ le_bytes 2 n) (le_bytes_bytes 2 (entry_at n))
    (bytes_append (le_bytes 2 (kind_for n)) (le_bytes 2 n) (le_bytes_bytes 2 (kind_for n)) (le_bytes_bytes 2 n))

pub made_bytes : (es : List Entry) (z : Entry) → ((j : ℕ) → j < length es → ByteParts (get_or es j z)) → Bytes (record_bytes es)
unfolding record_bytes
made_bytes es z b = bytes_append (head_bytes (length es)) (entries_bytes es) (head_is_bytes (length es)) (entries_are_bytes es z b)

-- ---- the other way: a valid record is the record of its own entries
-- an entry's six bytes say nothing but the entry
entry_whole : (b : List ℕ) → Bytes b → 6 ≤ length b → entry_bytes (entry_of b) ++ drop 6 b ≡ b
unfolding entry_bytes entry_of
entry_whole [] h l = absurd (omega arith)
entry_whole (k ∷ []) h l = absurd (omega arith)
entry_whole (k ∷ f ∷ []) h l = absurd (omega arith)
entry_whole (k ∷ f ∷ m ∷ []) h l = absurd (omega arith)
entry_whole (k ∷ f ∷ m ∷ n ∷ []) h l = absurd (omega arith)
entry_whole (k ∷ f ∷ m ∷ n ∷ x ∷ []) h l = absurd (omega arith)
entry_whole (k ∷ f ∷ m ∷ n ∷ x ∷ y ∷ rest) h l =
    let s = le_sound (x ∷ y ∷ []) (bytes_take 2 (x ∷ y ∷ rest) (λ i. h (suc (suc (suc (suc i)))))) in
    ap (λ (c : List ℕ). k ∷ f ∷ m ∷ n ∷ (c ++ rest)) s

entries_whole : (m : ℕ) (r : List ℕ) (j : ℕ) → Bytes r → length r ≡ entry_at (j + m) → entries_bytes (entries_in m r j) ≡ drop (entry_at j) r
unfolding entries_bytes entries_in entry_in
entries_whole zero r j h e = sym (drop_of_length-le r {i = entry_at j} (omega arith))
entries_whole (suc m) r j h e =
    let n : entry_at (suc j) ≡ entry_at j + 6 = omega arith in
    let l : 6 ≤ length (drop (entry_at j) r) = omega (arith, length-drop (entry_at j) r) in
    let t : entries_bytes (entries_in m r (suc j)) ≡ drop 6 (drop (entry_at j) r) =
    entries_whole m r (suc j) h (omega arith) ∙ ap (λ (k : ℕ). drop k r) n ∙ sym (drop-drop 6 (entry_at j) r) in
    rw t (entry_whole (drop (entry_at j) r) (bytes_drop (entry_at j) r h) l)

entries_count : (m : ℕ) (r : List ℕ) (j : ℕ) → length (entries_in m r j) ≡ m
unfolding entries_in
entries_count zero r j = refl
entries_count (suc m) r j = ap suc (entries_count m r (suc j))

-- nor do the six before the entries say anything but three numbers
numbers_whole : (r : List ℕ) → Bytes r → 6 ≤ length r
    → (le_bytes 2 (le_value (take 2 r)) ++ (le_bytes 2 (le_value (take 2 (drop 2 r))) ++ le_bytes 2 (le_value (take 2 (drop 4 r))))) ++ drop 6 r
    ≡ r
numbers_whole [] h l = absurd (omega arith)
numbers_whole (a ∷ []) h l = absurd (omega arith)
numbers_whole (a ∷ b ∷ []) h l = absurd (omega arith)
numbers_whole (a ∷ b ∷ c ∷ []) h l = absurd (omega arith)
numbers_whole (a ∷ b ∷ c ∷ d ∷ []) h l = absurd (omega arith)
numbers_whole (a ∷ b ∷ c ∷ d ∷ e ∷ []) h l = absurd (omega arith)
numbers_whole (a ∷ b ∷ c ∷ d ∷ e ∷ f ∷ rest) h l =
    let n = le_sound (e ∷ f ∷ []) (bytes_take 2 (e ∷ f ∷ rest) (λ i. h (suc (suc (suc (suc i)))))) in
    let k = le_sound (c ∷ d ∷ []) (bytes_take 2 (c ∷ d ∷ e ∷ f ∷ rest) (λ i. h (suc (suc i)))) in
    let s = le_sound (a ∷ b ∷ []) (bytes_take 2 (a ∷ b ∷ c ∷ d ∷ e ∷ f ∷ rest) h) in
    ap (λ (x : List ℕ). (x ++ (le_bytes 2 (le_value (c ∷ d ∷ [])) ++ le_bytes 2 (le_value (e ∷ f ∷ [])))) ++ rest) s
    ∙ ap (λ (x : List ℕ). ((a ∷ b ∷ []) ++ (x ++ le_bytes 2 (le_value (e ∷ f ∷ [])))) ++ rest) k
    ∙ ap (λ (x : List ℕ). ((a ∷ b ∷ []) ++ ((c ∷ d ∷ []) ++ x)) ++ rest) n

head_whole : (r : List ℕ) → Bytes r → Head r → head_bytes (count_of r) ++ drop 6 r ≡ r
unfolding head_bytes count_of le_bytes
head_whole r h v = rw (← v.whole, ← v.announced, ← v.kind) (numbers_whole r h (omega (arith, v.whole)))

pub valid_made : (r : List ℕ) → Bytes r → record_valid r ≡ true → record_bytes (entries_in (count_of r) r 0) ≡ r
unfolding record_bytes
valid_made r h v =
    let t = valid_head r v in
    let n : length (entries_in (count_of r) r 0) ≡ count_of r = entries_count (count_of r) r 0 in
    rw (n, entries_whole (count_of r) r 0 h (omega (arith, t.whole))) (head_whole r h t)
