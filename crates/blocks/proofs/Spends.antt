-- How many bytes an image can have used up to a column. Assumes nothing.
use Prim.Native.Nat.{ℕ, zero, suc, ◌+◌, ◌-◌, ◌≤◌}
use mathlib.Core.Path.{◌≡◌, refl, ap, ◌∙◌}
use mathlib.Core.Bool.{Bool, true, false, cond}
use mathlib.Core.List.{List}
use native.Mathlib.Nat.{add-zero}
use native.Mathlib.Omega.{arith}
use lib.ListN.{length}
use Rattle.wire.specs.Bits.{bytes_for, bit_lsb0}
use Rattle.record.specs.Records.{count_of}
use Rattle.image.specs.Present.{shape_at, present_from, present}
use Rattle.value.specs.Shapes.{most_of}
use Rattle.image.specs.Room.{most_of_all, image_room}
use Rattle.image.proofs.CursorLaws.Heads.{null_bytes}
use Rattle.image.proofs.PresenceLaws.Presents.{present_length}

-- the largest values of the present columns before j
unfoldable pub most_to : List ℕ → List ℕ → ℕ → ℕ
unfolding most_of shape_at
most_to r p zero = 0
most_to r p (suc j) = most_to r p j + cond (bit_lsb0 p j) (most_of (shape_at r j)) 0

pub most_next : (r p : List ℕ) (j : ℕ) → bit_lsb0 p j ≡ true → most_to r p (j + 1) ≡ most_to r p j + most_of (shape_at r j)
unfolding most_to
most_next r p j e = let z : j + 1 ≡ suc j = omega arith in rw (z, e)

most_on : (r p : List ℕ) (j : ℕ) (b : Bool) → bit_lsb0 p j ≡ b → most_to r p (suc j) ≡ most_to r p j + cond b (most_of (shape_at r j)) 0
unfolding most_to
most_on r p j b e = rw e

most_count : (m : ℕ) (r p : List ℕ) (j : ℕ) → most_to r p j + most_of_all (present_from m r p j) ≡ most_to r p (j + m)
unfolding present_from most_of_all
most_count zero r p j = let e : j + 0 ≡ j = omega arith in rw (e, add-zero)
most_count (suc m) r p j = go (most_count m r p (suc j)) (bit_lsb0 p j) refl
  where
    go : most_to r p (suc j) + most_of_all (present_from m r p (suc j)) ≡ most_to r p (suc j + m) → (b : Bool) → bit_lsb0 p j ≡ b
        → most_to r p j + most_of_all (present_from (suc m) r p j) ≡ most_to r p (j + suc m)
    go i true e =
        let n : j + suc m ≡ suc j + m = omega arith in
        rw (n, e) (omega (arith, i, most_on r p j true e))
    go i false e =
        let n : j + suc m ≡ suc j + m = omega arith in
        rw (n, e) (omega (arith, i, most_on r p j false e))

pub most_mono : (r p : List ℕ) (j k : ℕ) → j ≤ k → most_to r p j ≤ most_to r p k
most_mono r p j k h =
    let e : j + (k - j) ≡ k = omega arith in
    omega (arith, most_count (k - j) r p j ∙ ap (most_to r p) e)

pub most_none : (r p : List ℕ) → most_to r p 0 ≡ 0
unfolding most_to
most_none r p = refl

pub room_is : (r p : List ℕ) → image_room r p ≡ null_bytes r p + most_to r p (count_of r)
unfolding image_room
room_is r p =
    let c = most_count (count_of r) r p 0 in
    let e : bytes_for (length (present r p)) ≡ null_bytes r p = ap bytes_for (present_length r p) in
    let z : 0 + count_of r ≡ count_of r = omega arith in
    omega (arith, e, c ∙ ap (most_to r p) z, most_none r p)
