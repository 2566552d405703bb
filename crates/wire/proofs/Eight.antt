-- The eight bytes of a u64, which std makes and reads, and the fewer bytes that stand in them. Assumes nothing.
use Prim.Native.Nat.{ℕ, zero, suc, ◌+◌, ◌-◌, ◌/◌, ◌%◌, ◌^◌, ◌≤◌}
use mathlib.Core.Path.{◌≡◌, refl, sym, ap, ◌∙◌}
use mathlib.Core.List.{List, [], ◌∷◌, ◌++◌, append-nil, reverse, reverse-append}
use native.Mathlib.Nat.{pow-suc, div-div-eq-div-mul, div-one, sub-zero}
use native.Mathlib.Omega.{arith}
use native.Mathlib.Numerals.{add-one}
use lib.ListN.{length, take, drop, length-append, length-replicate, replicate}
use lib.Seq.{take_all}
use borrow.Rule.Slice.PartMut.{put_mid}
use Rattle.std.specs.Int.{w64, from_le_bytes, from_be_bytes, to_le_bytes, to_be_bytes, bytes_low_first, bytes_high_first, byte_at}
use Rattle.wire.specs.Number.{le_value, be_value, le_bytes, be_bytes}
use Rattle.wire.proofs.Bytes.{le_step, be_step, be_bytes_length}
use Rattle.wire.proofs.Inverse.{le_join, be_join}

-- ---- the number of eight bytes
pub le_eight : (s : List ℕ) → length s ≡ 8 → from_le_bytes w64 s ≡ le_value s
unfolding le_value
le_eight s n =
    let t : take 8 (drop 0 s) ≡ s = take_all 8 s (omega arith) in
    let v = ap le_value t in
    omega (
      arith,
      v,
      le_step s 0 7 (omega arith),
      le_step s 1 6 (omega arith),
      le_step s 2 5 (omega arith),
      le_step s 3 4 (omega arith),
      le_step s 4 3 (omega arith),
      le_step s 5 2 (omega arith),
      le_step s 6 1 (omega arith),
      le_step s 7 0 (omega arith),
    )

pub be_eight : (s : List ℕ) → length s ≡ 8 → from_be_bytes w64 s ≡ be_value s
unfolding be_value le_value
be_eight s n =
    let t : take 8 s ≡ s = take_all 8 s (omega arith) in
    let v = ap be_value t in
    omega (
      arith,
      v,
      be_step s 0 (omega arith),
      be_step s 1 (omega arith),
      be_step s 2 (omega arith),
      be_step s 3 (omega arith),
      be_step s 4 (omega arith),
      be_step s 5 (omega arith),
      be_step s 6 (omega arith),
      be_step s 7 (omega arith),
    )

-- ---- zeros beside bytes add nothing
le_zeros : (n : ℕ) → le_value (replicate n 0) ≡ 0
unfolding le_value
le_zeros zero = refl
le_zeros (suc n) = omega (arith, le_zeros n)

be_zeros : (n : ℕ) → be_value (replicate n 0) ≡ 0
unfolding be_value le_value
be_zeros zero = refl
be_zeros (suc n) = be_join (0 ∷ []) (replicate n 0) ∙ omega (arith, be_zeros n)

pub le_padded : (s : List ℕ) (n : ℕ) → le_value (s ++ replicate n 0) ≡ le_value s
le_padded s n = le_join s (replicate n 0) ∙ rw le_zeros (omega arith)

pub be_padded : (n : ℕ) (s : List ℕ) → be_value (replicate n 0 ++ s) ≡ be_value s
be_padded n s = be_join (replicate n 0) s ∙ rw be_zeros (omega arith)

drop_zeros : (k n : ℕ) → k ≤ n → drop {A = ℕ} k (replicate n 0) ≡ replicate (n - k) 0
drop_zeros zero n h = rw sub-zero refl
drop_zeros (suc k) zero h = absurd (omega arith)
drop_zeros (suc k) (suc n) h =
    let e : suc n - suc k ≡ n - k = omega arith in
    rw e (drop_zeros k n (omega arith))

take_zeros : (k n : ℕ) → k ≤ n → take {A = ℕ} k (replicate n 0) ≡ replicate k 0
take_zeros zero n h = refl
take_zeros (suc k) zero h = absurd (omega arith)
take_zeros (suc k) (suc n) h = ap (λ (l : List ℕ). 0 ∷ l) (take_zeros k n (omega arith))

-- the number of fewer bytes, from the eight that they were put in
pub le_in_eight : (s x : List ℕ) → length s ≤ 8 → x ≡ s → from_le_bytes w64 (x ++ drop (length s) (replicate 8 0)) ≡ le_value s
le_in_eight s x h e =
    let n : length (s ++ replicate (8 - length s) 0) ≡ 8 = simp (length-append, length-replicate) (omega arith) in
    rw (e, drop_zeros (length s) 8 h) (le_eight (s ++ replicate (8 - length s) 0) n ∙ le_padded s (8 - length s))

pub be_in_eight : (s x : List ℕ) → length s ≤ 8 → x ≡ s
    → from_be_bytes w64 (put_mid (8 - length s) (8 - (8 - length s)) (replicate 8 0) x) ≡ be_value s
be_in_eight s x h e =
    let k : 8 - length s ≤ 8 = omega arith in
    let m : 8 - (8 - length s) ≡ length s = omega arith in
    let j : length s ≤ 8 - (8 - length s) = omega arith in
    let z : 8 - (8 - length s) - length s ≡ 0 = omega arith in
    let n : length (replicate (8 - length s) 0 ++ s) ≡ 8 = simp (length-append, length-replicate) (omega arith) in
    rw (e, m, take_zeros (8 - length s) 8 k, drop_zeros (8 - length s) 8 k, drop_zeros (length s) (8 - (8 - length s)) j, z, append-nil)
    (be_eight (replicate (8 - length s) 0 ++ s) n ∙ be_padded (8 - length s) s)

-- ---- the bytes of a number
low_first_is : (i k n : ℕ) → bytes_low_first i k n ≡ le_bytes k (n / 256 ^ i)
unfolding le_bytes
low_first_is i zero n = refl
low_first_is zero (suc k) n =
    let e : n / 256 ^ 0 ≡ n = div-one n in
    rw e (ap (λ (l : List ℕ). n % 256 ∷ l) (low_first_is 1 k n))
low_first_is (suc i) (suc k) n =
    let e : n / 256 ^ suc i / 256 ≡ n / 256 ^ suc (suc i) = div-div-eq-div-mul n (256 ^ suc i) 256 ∙ ap (λ (d : ℕ). n / d) (sym (pow-suc 256 (suc i))) in
    rw e (ap (λ (l : List ℕ). n / 256 ^ suc i % 256 ∷ l) (low_first_is (suc (suc i)) k n))

pub to_le_eight : (v : ℕ) → to_le_bytes w64 v ≡ le_bytes 8 v
to_le_eight v = low_first_is 0 8 v ∙ ap (le_bytes 8) (div-one v)

-- the first k of more of them are the k low bytes
pub le_bytes_take : (k n v : ℕ) → k ≤ n → take k (le_bytes n v) ≡ le_bytes k v
unfolding le_bytes
le_bytes_take zero n v h = refl
le_bytes_take (suc k) zero v h = absurd (omega arith)
le_bytes_take (suc k) (suc n) v h = ap (λ (l : List ℕ). v % 256 ∷ l) (le_bytes_take k n (v / 256) (omega arith))

-- the most significant first: the last k of them
le_more : (k v : ℕ) → le_bytes (suc k) v ≡ le_bytes k v ++ (byte_at k v ∷ [])
unfolding le_bytes
le_more zero v = refl
le_more (suc k) v = ap (λ (l : List ℕ). v % 256 ∷ l) (le_more k (v / 256) ∙ ap (λ (b : ℕ). le_bytes k (v / 256) ++ (b ∷ [])) (next_byte k v))
  where
    next_byte : (k v : ℕ) → byte_at k (v / 256) ≡ byte_at (suc k) v
    next_byte zero v = refl
    next_byte (suc k) v =
        let e : v / 256 / 256 ^ suc k ≡ v / 256 ^ suc (suc k) = div-div-eq-div-mul v 256 (256 ^ suc k) ∙ ap (λ (d : ℕ). v / d) (omega (arith, pow-suc 256 (suc k))) in
        rw e refl

high_first_is : (k n : ℕ) → bytes_high_first k n ≡ be_bytes k n
unfolding be_bytes le_bytes
high_first_is zero n = refl
high_first_is (suc k) n =
    ap (λ (l : List ℕ). byte_at k n ∷ l) (high_first_is k n)
    ∙ sym (ap (λ (l : List ℕ). reverse l) (le_more k n) ∙ reverse-append (le_bytes k n) (byte_at k n ∷ []))

pub to_be_eight : (v : ℕ) → to_be_bytes w64 v ≡ be_bytes 8 v
to_be_eight v = high_first_is 8 v

high_first_drop : (j k n : ℕ) → drop j (bytes_high_first (j + k) n) ≡ bytes_high_first k n
high_first_drop zero k n =
    let e : 0 + k ≡ k = omega arith in
    ap (λ (i : ℕ). bytes_high_first i n) e
high_first_drop (suc j) k n =
    let e : suc j + k ≡ suc (j + k) = omega arith in
    ap (λ (i : ℕ). drop (suc j) (bytes_high_first i n)) e ∙ high_first_drop j k n

pub be_bytes_last : (k v : ℕ) → k ≤ 8 → take (8 - (8 - k)) (drop (8 - k) (be_bytes 8 v)) ≡ be_bytes k v
be_bytes_last k v h =
    let e : 8 - k + k ≡ 8 = omega arith in
    let d : drop (8 - k) (be_bytes 8 v) ≡ be_bytes k v =
    ap (drop (8 - k)) (sym (high_first_is 8 v)) ∙ ap (λ (i : ℕ). drop (8 - k) (bytes_high_first i v)) (sym e)
    ∙ high_first_drop (8 - k) k v ∙ high_first_is k v in
    rw d (take_all _ (be_bytes k v) (rw be_bytes_length (omega arith)))

-- a byte and the first k of eight behind it
pub form_taken : (first k v : ℕ) (x : List ℕ) → k ≤ 8 → x ≡ le_bytes 8 v → take (k + 1) (first ∷ (x ++ [])) ≡ first ∷ le_bytes k v
form_taken first k v x h e = rw (add-one, append-nil, e) (ap (λ (l : List ℕ). first ∷ l) (le_bytes_take k 8 v h))
