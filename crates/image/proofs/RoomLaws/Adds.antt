-- The room for one image, added up column by column, and that it is a small number. Assumes nothing.
use Prim.Native.Nat.{ℕ, zero, suc, ◌+◌, ◌-◌, ◌*◌, ◌≤◌, ◌<◌}
use mathlib.Core.Path.{◌≡◌, refl, sym, ap, ◌∙◌}
use mathlib.Core.Bool.{Bool, true, false, cond}
use mathlib.Core.List.{List, [], ◌∷◌, ◌++◌}
use native.Mathlib.Nat.{zero-add, sub-zero}
use native.Mathlib.Numerals.{add-one}
use native.Mathlib.Omega.{arith}
use lib.ListN.{length}
use Rattle.wire.specs.declared.refusal.Refusal.{Refusal}
use Rattle.wire.specs.Outcome.{ok, refused}
use Rattle.wire.specs.Bits.{bytes_for, bit_lsb0}
use Rattle.value.specs.declared.shape.Shape.TheVariants.{Counted}
use Rattle.value.specs.Shapes.{most_of}
use Rattle.value.proofs.Tables.{most_few}
use Rattle.record.specs.Entries.{column_of}
use Rattle.record.specs.Records.{count_of, entry_in, record_valid}
use Rattle.record.proofs.Valid.{valid_few}
use Rattle.image.specs.declared.cursor.Head.{Head}
use Rattle.image.specs.Present.{Present, count_bits, shape_at, present_from, present}
use Rattle.image.specs.Split.{head_of}
use Rattle.image.specs.Room.{most_of_all, image_room, read_room}
use Rattle.image.proofs.PresenceLaws.Firsts.{present_at, count_set, count_none, count_at_most}
use Rattle.image.proofs.PresenceLaws.Presents.{present_length}
use Rattle.image.proofs.CursorLaws.Heads.{head_tested}

-- ---- what a column adds
unfoldable pub column_room : List ℕ → List ℕ → ℕ → ℕ
unfolding bit_lsb0 most_of shape_at
column_room r p j = cond (bit_lsb0 p j) (most_of (shape_at r j)) 0

pub shape_few : (r : List ℕ) (j : ℕ) → most_of (shape_at r j) ≤ 4294967299
unfolding shape_at
shape_few r j = most_few (column_of (entry_in r j))

column_few : (r p : List ℕ) (j : ℕ) → column_room r p j ≤ 4294967299
unfolding column_room
column_few r p j = go (bit_lsb0 p j)
  where
    go : (b : Bool) → cond b (most_of (shape_at r j)) 0 ≤ 4294967299
    go true = shape_few r j
    go false = omega arith

-- ---- of the columns from j on
all_or_not : (b : Bool) (c : Present) (cs : List Present) → most_of_all (cond b (c ∷ cs) cs) ≡ cond b (most_of c.shape) 0 + most_of_all cs
unfolding most_of_all
all_or_not true c cs = refl
all_or_not false c cs = sym (zero-add (most_of_all cs))

most_more : (m : ℕ) (r p : List ℕ) (j : ℕ)
    → most_of_all (present_from (suc m) r p j) ≡ column_room r p j + most_of_all (present_from m r p (suc j))
unfolding present_from column_room
most_more m r p j = all_or_not (bit_lsb0 p j) (present_at r j) (present_from m r p (suc j))

most_none : (r p : List ℕ) (j : ℕ) → most_of_all (present_from 0 r p j) ≡ 0
unfolding present_from most_of_all
most_none r p j = refl

pub most_on : (n : ℕ) (r p : List ℕ) (j : ℕ) → j < n
    → most_of_all (present_from (n - j) r p j) ≡ column_room r p j + most_of_all (present_from (n - (j + 1)) r p (j + 1))
most_on n r p j h =
    let k : n - j ≡ suc (n - (j + 1)) = omega arith in
    ap (λ (m : ℕ). most_of_all (present_from m r p j)) k ∙ most_more (n - (j + 1)) r p j
    ∙ ap (λ (i : ℕ). column_room r p j + most_of_all (present_from (n - (j + 1)) r p i)) (sym (add-one j))

-- of columns and of those behind them
pub most_append : (cs ds : List Present) → most_of_all (cs ++ ds) ≡ most_of_all cs + most_of_all ds
unfolding most_of_all
most_append [] ds = sym (zero-add (most_of_all ds))
most_append (c ∷ cs) ds = omega (arith, most_append cs ds)

-- ---- it is small: no more than 4,096 columns, each with a length of four bytes and what it can count
most_small : (m : ℕ) (r p : List ℕ) (j : ℕ) → most_of_all (present_from m r p j) ≤ m * 4294967299
most_small zero r p j = omega (arith, most_none r p j)
most_small (suc m) r p j = omega (arith, most_more m r p j, column_few r p j, most_small m r p (suc j))

pub room_small : (r p : List ℕ) → record_valid r ≡ true → image_room r p ≤ 512 + 4096 * 4294967299
unfolding image_room
room_small r p v =
    omega (arith, most_small (count_of r) r p 0, present_length r p, count_at_most p (count_of r), valid_few r v)

-- and such a record takes just that, all its columns being LONGBLOB and present
all_widest : (m : ℕ) (r p : List ℕ) (j : ℕ) → ((i : ℕ) → i < j + m → column_room r p i ≡ 4294967299)
    → most_of_all (present_from m r p j) ≡ m * 4294967299
all_widest zero r p j h = omega (arith, most_none r p j)
all_widest (suc m) r p j h =
    omega (arith, most_more m r p j, h j (omega arith), all_widest m r p (suc j) (λ i l. h i (omega arith)))

all_set : (n : ℕ) (p : List ℕ) → ((i : ℕ) → i < n → bit_lsb0 p i ≡ true) → count_bits p n ≡ n
all_set zero p h = count_none p
all_set (suc n) p h = count_set p n (h n (omega arith)) ∙ ap suc (all_set n p (λ i l. h i (omega arith)))

widest_column : (r p : List ℕ) (i : ℕ) → bit_lsb0 p i ≡ true → shape_at r i ≡ Counted 4 → column_room r p i ≡ 4294967299
unfolding column_room most_of
widest_column r p i b s = rw (b, s)

pub room_widest : (r p : List ℕ) → count_of r ≡ 4096 → ((i : ℕ) → i < 4096 → (bit_lsb0 p i ≡ true) × (shape_at r i ≡ Counted 4))
    → image_room r p ≡ 512 + 4096 * 4294967299
unfolding image_room
room_widest r p n h =
    let m = all_widest (count_of r) r p 0
    (λ i l. let k : i < 4096 = omega arith in widest_column r p i (h i k).0 (h i k).1) in
    let c = all_set (count_of r) p (λ i l. (h i (omega arith)).0) in
    omega (arith, m, c, present_length r p)

-- no present column adds nothing
nothing : (cs : List Present) → length cs ≡ 0 → most_of_all cs ≡ 0
unfolding most_of_all
nothing [] e = refl
nothing (c ∷ cs) e = absurd (omega arith)

pub room_none : (r p : List ℕ) → count_bits p (count_of r) ≡ 0 → image_room r p ≡ 0
unfolding image_room
room_none r p z =
    let l : length (present r p) ≡ 0 = present_length r p ∙ z in
    omega (arith, l, nothing (present r p) l)

-- ---- the loop: what is told so far and what the columns from j on add is all of it, and it is small
pub record Adding (r p : List ℕ) (n j bytes : ℕ) : Type 0 where
  pub few : n ≤ 4096
  pub at : j ≤ n
  pub rest : bytes + most_of_all (present_from (n - j) r p j) ≡ image_room r p
  pub small : bytes ≤ 512 + j * 4294967299

module _ (r p : List ℕ) {h : Head} (e : head_of r p ≡ ok h) where
  pub adding_first : Adding r p h.columns 0 h.nulls
  unfolding image_room
  adding_first =
      let t = head_tested r p e in
      let n : h.columns ≡ count_of r = t.columns in
      let k : h.present ≡ length (present r p) = t.present ∙ ap (count_bits p) n ∙ sym (present_length r p) in
      let f = valid_few r t.valid in
      let m : h.nulls ≡ bytes_for (length (present r p)) = t.nulls ∙ ap bytes_for k in
      record {
        few = omega arith;
        at = omega arith;
        rest =
            ap (λ (x : ℕ). h.nulls + most_of_all (present_from x r p 0)) (sub-zero h.columns ∙ n)
            ∙ ap (λ (x : ℕ). x + most_of_all (present r p)) m;
        small = omega (arith, t.nulls, t.present, count_at_most p h.columns);
      }

  pub room_read : (bytes : ℕ) → bytes ≡ image_room r p → ok bytes ≡ read_room r p
  unfolding read_room
  room_read bytes q = rw (e, q)

pub room_refused : (r p : List ℕ) {w : Refusal} → head_of r p ≡ refused w → refused w ≡ read_room r p
unfolding read_room
room_refused r p e = rw e

pub adding_next : (r p : List ℕ) (n j bytes x : ℕ) → Adding r p n j bytes → j < n → x ≡ column_room r p j → Adding r p n (j + 1) (bytes + x)
adding_next r p n j bytes x a l e =
    let m = most_on n r p j l in
    record {
      few = a.few;
      at = omega arith;
      rest = omega (arith, m, a.rest, e);
      small = omega (arith, a.small, e, column_few r p j);
    }

pub adding_end : (r p : List ℕ) (n j bytes : ℕ) → Adding r p n j bytes → n ≤ j → bytes ≡ image_room r p
adding_end r p n j bytes a l =
    let k : n - j ≡ 0 = omega arith in
    let z : most_of_all (present_from (n - j) r p j) ≡ 0 = ap (λ (m : ℕ). most_of_all (present_from m r p j)) k ∙ most_none r p j in
    omega (arith, z, a.rest)
