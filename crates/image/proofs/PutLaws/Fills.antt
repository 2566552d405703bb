-- Null bits with the spare bits of the last byte set: the bits themselves are kept. Assumes nothing.
use Prim.Native.Nat.{ℕ, suc, ◌+◌, ◌-◌, ◌*◌, ◌/◌, ◌%◌, ◌^◌, ◌≤◌, ◌<◌}
use mathlib.Core.Path.{◌≡◌, refl, sym, ap, ◌∙◌}
use mathlib.Core.Bool.{Bool, true, false}
use mathlib.Core.List.{List, [], ◌∷◌, ◌++◌, append_assoc}
use native.Mathlib.Nat.{pow-suc, mod-lt}
use native.Mathlib.Omega.{arith}
use native.Mathlib.Decide.{dec_le}
use mathlib.Core.Logic.{dite}
use borrow.Author.Tests.{eq-eqb, ne_eqb, eqb-true, eqb-false}
use lib.ListN.{length, take, drop, get_or, set, length-append, get_or-append}
use lib.Seq.{length-take-le, get_or-take, get_or_at, take-append-le, drop_at, set_split}
use lib.Dec.{eqb}
use lib.Pow.{pow_pos, pow_mono, field, mod-mod-pow, shr-shr, low, high, ones_lt, ones_split, high_ones}
use Rattle.wire.specs.Bits.{bytes_for, digit, bit_lsb0}
use Rattle.wire.specs.Stored.{stored, store, left_of}
use Rattle.wire.proofs.Stores.{store_fits}
use Rattle.image.specs.Puts.{spare_set, filled}

-- ---- a byte: its low digits are kept, the others set
-- 256 less a power below it, as the digits above that power
above : (u : ℕ) → u < 8 → 256 - 2 ^ u ≡ (2 ^ (8 - u) - 1) * 2 ^ u
above u h =
    let e : 8 - u + u ≡ 8 = omega arith in
    ap (λ (k : ℕ). 2 ^ k - 2 ^ u) (sym e) ∙ high_ones (8 - u) u

spare_split : (u b : ℕ) → u < 8 → spare_set u b ≡ (2 ^ (8 - u) - 1) * 2 ^ u + b % 2 ^ u
spare_split u b h = omega (arith, above u h)

-- the digits below u go by what is left of u digits
digit_low : (x u j : ℕ) → j < u → digit x j ≡ digit (x % 2 ^ u) j
unfolding digit
digit_low x u j h =
    let m = u - suc j in
    let e : m + 1 + j ≡ u = omega arith in
    let f : x % 2 ^ u / 2 ^ j ≡ x / 2 ^ j % 2 ^ (m + 1) = ap (λ (k : ℕ). x % 2 ^ k / 2 ^ j) (sym e) ∙ field x (m + 1) j in
    ap (λ (y : ℕ). eqb y 1) (sym (ap (λ (y : ℕ). y % 2) f ∙ mod-mod-pow (x / 2 ^ j) m 1))

spare_low : (u b j : ℕ) → u < 8 → j < u → digit (spare_set u b) j ≡ digit b j
spare_low u b j h l =
    digit_low (spare_set u b) u j l
    ∙ ap (λ (x : ℕ). digit x j) (ap (λ (x : ℕ). x % 2 ^ u) (spare_split u b h) ∙ low (2 ^ (8 - u) - 1) u (mod-lt b (pow_pos u)))
    ∙ sym (digit_low b u j l)

-- all digits of a number of ones are set
ones_digit : (m i : ℕ) → (2 ^ (suc m + i) - 1) / 2 ^ i % 2 ≡ 1
ones_digit m i =
    let e : (2 ^ (suc m + i) - 1) / 2 ^ i ≡ 2 ^ suc m - 1 =
    ap (λ (x : ℕ). x / 2 ^ i) (ones_split (suc m) i) ∙ high (2 ^ suc m - 1) i (ones_lt i) in
    rw e (omega (arith, pow-suc 2 m, pow_pos m))

spare_high : (u b j : ℕ) → u ≤ j → j < 8 → digit (spare_set u b) j ≡ true
unfolding digit
spare_high u b j h l =
    let i = j - u in
    let m = 7 - j in
    let a : u + i ≡ j = omega arith in
    let c : 8 - u ≡ suc m + i = omega arith in
    let e : spare_set u b / 2 ^ u ≡ 2 ^ (8 - u) - 1 =
    ap (λ (x : ℕ). x / 2 ^ u) (spare_split u b (omega arith)) ∙ high (2 ^ (8 - u) - 1) u (mod-lt b (pow_pos u)) in
    let f : spare_set u b / 2 ^ j ≡ (2 ^ (suc m + i) - 1) / 2 ^ i =
    ap (λ (k : ℕ). spare_set u b / 2 ^ k) (sym a) ∙ sym (shr-shr (spare_set u b) u i)
    ∙ ap (λ (x : ℕ). x / 2 ^ i) (e ∙ ap (λ (k : ℕ). 2 ^ k - 1) c) in
    rw f (rw (ones_digit m i))

-- what the code makes a byte's low digits of
pub unit_is : (u : ℕ) → u < 8 → (1 ≤ 2 ^ u) × (2 ^ u ≤ 128)
unit_is u h =
    let l : u ≤ 7 = omega arith in
    (pow_pos u, pow_mono l)

-- ---- the bits
module _ (n : ℕ) (nulls : List ℕ) (h : length nulls ≡ bytes_for n) where
  abbrev front : List ℕ
  front = take (n / 8) nulls

  abbrev last_byte : ℕ
  last_byte = spare_set (n % 8) (get_or nulls (n / 8) 0)

  -- no spare bits, or some in the last byte
  pub fill_whole : n % 8 ≡ 0 → filled n nulls ≡ nulls
  unfolding filled
  fill_whole e = rw (eq-eqb (n % 8) 0 e)

  pub fill_last : eqb (n % 8) 0 ≡ false → filled n nulls ≡ front ++ (last_byte ∷ [])
  unfolding filled
  fill_last e = rw e

  front_length : length front ≡ n / 8
  front_length = length-take-le (n / 8) nulls (omega arith)

  pub fill_length : length (filled n nulls) ≡ length nulls
  fill_length = go (eqb (n % 8) 0) refl
    where
      go : (b : Bool) → eqb (n % 8) 0 ≡ b → length (filled n nulls) ≡ length nulls
      go true e = ap length (fill_whole (eqb-true (n % 8) 0 e))
      go false e =
          let w : n % 8 ≡ 0 → ⊥ = eqb-false (n % 8) 0 e in
          ap length (fill_last e) ∙ length-append front (last_byte ∷ []) ∙ omega (arith, front_length)

  -- the byte that the spare bits are in
  last_is : (i : ℕ) → i ≡ n / 8 → get_or (front ++ (last_byte ∷ [])) i 0 ≡ last_byte
  last_is i e = get_or_at front last_byte [] 0 i (front_length ∙ sym e)

  front_is : (i : ℕ) → i < n / 8 → get_or (front ++ (last_byte ∷ [])) i 0 ≡ get_or nulls i 0
  front_is i l = get_or-append front (last_byte ∷ []) 0 i (omega (arith, front_length)) ∙ get_or-take (n / 8) nulls i 0 l

  -- each of the n bits is what it was
  pub fill_kept : (k : ℕ) → k < n → bit_lsb0 (filled n nulls) k ≡ bit_lsb0 nulls k
  unfolding bit_lsb0
  fill_kept k l = go (eqb (n % 8) 0) refl
    where
      in_last : n / 8 ≤ k / 8 → digit (get_or (front ++ (last_byte ∷ [])) (k / 8) 0) (k % 8) ≡ digit (get_or nulls (k / 8) 0) (k % 8)
      in_last m =
          let i : k / 8 ≡ n / 8 = omega arith in
          let j : k % 8 < n % 8 = omega arith in
          ap (λ (x : ℕ). digit x (k % 8)) (last_is (k / 8) i) ∙ spare_low (n % 8) (get_or nulls (n / 8) 0) (k % 8) (omega arith) j
          ∙ ap (λ (x : ℕ). digit (get_or nulls x 0) (k % 8)) (sym i)

      go : (t : Bool) → eqb (n % 8) 0 ≡ t → digit (get_or (filled n nulls) (k / 8) 0) (k % 8) ≡ digit (get_or nulls (k / 8) 0) (k % 8)
      go true e = rw (fill_whole (eqb-true (n % 8) 0 e))
      go false e =
          rw (fill_last e) (dite (dec_le (n / 8) (k / 8)) in_last (λ m. ap (λ (x : ℕ). digit x (k % 8)) (front_is (k / 8) (omega arith))))

  -- and each behind them, to the end of the last byte, is set
  pub fill_spare : (k : ℕ) → n ≤ k → k < 8 * length nulls → bit_lsb0 (filled n nulls) k ≡ true
  unfolding bit_lsb0
  fill_spare k l m = go (eqb (n % 8) 0) refl
    where
      go : (t : Bool) → eqb (n % 8) 0 ≡ t → digit (get_or (filled n nulls) (k / 8) 0) (k % 8) ≡ true
      go true e =
          let w : n % 8 ≡ 0 = eqb-true (n % 8) 0 e in
          absurd (omega arith)
      go false e =
          let w : n % 8 ≡ 0 → ⊥ = eqb-false (n % 8) 0 e in
          let i : k / 8 ≡ n / 8 = omega arith in
          let j : n % 8 ≤ k % 8 = omega arith in
          rw (fill_last e, last_is (k / 8) i) (spare_high (n % 8) (get_or nulls (n / 8) 0) (k % 8) j (omega arith))

-- ---- a list stored at a buffer's head, and then its last element anew
pub last_set : (d l : List ℕ) (k x : ℕ) → length l ≡ k + 1 → length l ≤ length d
    → set (stored l d 0) k x ≡ stored (take k l ++ (x ∷ [])) d 0
unfolding stored
last_set d l k x h m =
    let z : 0 + length l ≡ length l = omega arith in
    let f : length (take k l) ≡ k = length-take-le k l (omega arith) in
    let q : length (take k l ++ (x ∷ [])) ≡ k + 1 = length-append (take k l) (x ∷ []) ∙ ap (λ (y : ℕ). y + 1) f in
    let w : length (l ++ drop (length l) d) ≡ length l + length (drop (length l) d) = length-append l (drop (length l) d) in
    let s : length l ≡ suc k = omega arith in
    let y : 0 + length (take k l ++ (x ∷ [])) ≡ length l = omega arith in
    rw z (set_split (l ++ drop (length l) d) k x (omega arith))
    ∙ ap (λ (a : List ℕ). a ++ (x ∷ drop (suc k) (l ++ drop (length l) d))) (take-append-le k l (drop (length l) d) (omega arith))
    ∙ ap (λ (a : List ℕ). take k l ++ (x ∷ a)) (drop_at l (drop (length l) d) (suc k) s)
    ∙ sym (append_assoc (take k l) (x ∷ []) (drop (length l) d))
    ∙ ap (λ (j : ℕ). (take k l ++ (x ∷ [])) ++ drop j d) (sym y)

-- ---- null bits at a buffer's head, as the code puts them there: as they are, and then the last byte anew if it has spare bits
module _ (d nulls : List ℕ) (n : ℕ) (h : length nulls ≡ bytes_for n) (m : length nulls ≤ length d) where
  left_stored : left_of (store nulls d 0) d ≡ stored nulls d 0
  left_stored = rw (store_fits d nulls 0 (omega arith))

  pub put_whole : n % 8 ≡ 0 → left_of (store nulls d 0) d ≡ stored (filled n nulls) d 0
  put_whole e = left_stored ∙ ap (λ (b : List ℕ). stored b d 0) (sym (fill_whole n nulls h e))

  pub put_spare : (n % 8 ≡ 0 → ⊥)
      → set (left_of (store nulls d 0) d) (n / 8) (spare_set (n % 8) (get_or nulls (n / 8) 0)) ≡ stored (filled n nulls) d 0
  put_spare e =
      rw (left_stored, fill_last n nulls h (ne_eqb (n % 8) 0 e))
      (last_set d nulls (n / 8) (spare_set (n % 8) (get_or nulls (n / 8) 0)) (omega arith) m)
