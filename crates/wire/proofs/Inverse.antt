-- Numbers and bytes, both ways, over every width. What is said of the least significant byte first is said of the most significant first by
-- the reversed list. Assumes nothing.
use Prim.Native.Nat.{ℕ, zero, suc, ◌+◌, ◌*◌, ◌/◌, ◌%◌, ◌^◌, ◌≤◌, ◌<◌}
use mathlib.Core.Path.{◌≡◌, refl, sym, ap, ◌∙◌, subst}
use mathlib.Core.Bool.{true}
use mathlib.Core.List.{List, [], ◌∷◌, ◌++◌, reverse, reverse-cons, reverse-append, reverse-reverse}
use native.Mathlib.Nat.{pow-suc, div-lt_iff_lt-mul, zero-lt-suc}
use native.Mathlib.Omega.{arith}
use borrow.Author.Tests.{lt-ltb, ltb-true}
use lib.ListN.{length, take, drop, get_or, length-drop, length-reverse}
use lib.Seq.{get_or-drop, drop-cons, drop-drop, take-add, length-take-le}
use lib.Dec.{ltb}
use Rattle.wire.specs.Number.{Bytes, are_bytes, le_value, le_bytes, be_value, be_bytes}
use Rattle.wire.proofs.Outcomes.{both_true}
use Rattle.wire.proofs.Bytes.{more}

-- ---- the test for bytes says that they are bytes, and passes where they are
pub are_bytes_lem : (l : List ℕ) → are_bytes l ≡ true → Bytes l
unfolding are_bytes
are_bytes_lem [] h i = omega arith
are_bytes_lem (b ∷ l) h zero = ltb-true b 256 (both_true (ltb b 256) (are_bytes l) h).0
are_bytes_lem (b ∷ l) h (suc i) = are_bytes_lem l (both_true (ltb b 256) (are_bytes l) h).1 i

pub bytes_are : (l : List ℕ) → Bytes l → are_bytes l ≡ true
unfolding are_bytes
bytes_are [] h = refl
bytes_are (b ∷ l) h = rw (lt-ltb b 256 (h 0)) (bytes_are l (λ i. h (suc i)))

-- ---- lists of bytes: their parts are too
pub bytes_append : (l m : List ℕ) → Bytes l → Bytes m → Bytes (l ++ m)
bytes_append [] m h k i = k i
bytes_append (b ∷ l) m h k zero = h 0
bytes_append (b ∷ l) m h k (suc i) = bytes_append l m (λ j. h (suc j)) k i

-- what is left of bytes
pub bytes_drop : (n : ℕ) (l : List ℕ) → Bytes l → Bytes (drop n l)
bytes_drop n l h i = rw get_or-drop (h (n + i))

-- the first of bytes
pub bytes_take : (n : ℕ) (l : List ℕ) → Bytes l → Bytes (take n l)
bytes_take zero l h i = omega arith
bytes_take (suc n) [] h i = h i
bytes_take (suc n) (b ∷ l) h zero = h 0
bytes_take (suc n) (b ∷ l) h (suc i) = bytes_take n l (λ j. h (suc j)) i

-- one byte
pub bytes_one : (b : ℕ) → b < 256 → Bytes (b ∷ [])
bytes_one b h zero = h
bytes_one b h (suc i) = omega arith

-- bytes the other way round
pub bytes_reverse : (l : List ℕ) → Bytes l → Bytes (reverse l)
bytes_reverse [] h = h
bytes_reverse (b ∷ l) h = rw (reverse-cons b l) (bytes_append (reverse l) (b ∷ []) (bytes_reverse l (λ j. h (suc j))) (bytes_one b (h 0)))

-- the bytes of a number are bytes
pub le_bytes_bytes : (k v : ℕ) → Bytes (le_bytes k v)
unfolding le_bytes
le_bytes_bytes zero v i = omega arith
le_bytes_bytes (suc k) v zero = omega arith
le_bytes_bytes (suc k) v (suc i) = le_bytes_bytes k (v / 256) i

-- the most significant first
pub be_bytes_bytes : (k v : ℕ) → Bytes (be_bytes k v)
unfolding be_bytes
be_bytes_bytes k v = bytes_reverse (le_bytes k v) (le_bytes_bytes k v)

-- ---- the number of a number's bytes
pub le_back : (k v : ℕ) → v < 256 ^ k → le_value (le_bytes k v) ≡ v
unfolding le_value le_bytes
le_back zero v h = omega arith
le_back (suc k) v h =
    let p : v < 256 ^ k * 256 = rw pow-suc at h in
    rw (le_back k (v / 256) ((div-lt_iff_lt-mul {k = 256} (zero-lt-suc 255)).1 p)) (omega arith)

-- the most significant first
pub be_back : (k v : ℕ) → v < 256 ^ k → be_value (be_bytes k v) ≡ v
unfolding be_value be_bytes
be_back k v h = ap le_value (reverse-reverse (le_bytes k v)) ∙ le_back k v h

-- ---- the bytes of a number of bytes
pub le_sound : (l : List ℕ) → Bytes l → le_bytes (length l) (le_value l) ≡ l
unfolding le_value le_bytes
le_sound [] h = refl
le_sound (b ∷ l) h =
    let g = h 0 in
    let q : (b + 256 * le_value l) / 256 ≡ le_value l = omega arith in
    let r : (b + 256 * le_value l) % 256 ≡ b = omega arith in
    rw (q, r, le_sound l (λ i. h (suc i)))

-- the most significant first
pub be_sound : (l : List ℕ) → Bytes l → be_bytes (length l) (be_value l) ≡ l
unfolding be_value be_bytes
be_sound l h =
    ap (λ (n : ℕ). reverse (le_bytes n (le_value (reverse l)))) (sym (length-reverse l))
    ∙ ap (λ (m : List ℕ). reverse m) (le_sound (reverse l) (bytes_reverse l h))
    ∙ reverse-reverse l

-- ---- a number of k bytes is below 256 ^ k
pub le_bound : (l : List ℕ) → Bytes l → le_value l < 256 ^ length l
unfolding le_value
le_bound [] h = omega arith
le_bound (b ∷ l) h = omega (arith, more (length l) (le_value l) b (le_bound l (λ i. h (suc i))) (h 0))

-- the most significant first
pub be_bound : (l : List ℕ) → Bytes l → be_value l < 256 ^ length l
unfolding be_value
be_bound l h = subst (λ (n : ℕ). le_value (reverse l) < 256 ^ n) (length-reverse l) (le_bound (reverse l) (bytes_reverse l h))

-- ---- the number of two runs of bytes
pub le_join : (x y : List ℕ) → le_value (x ++ y) ≡ le_value x + 256 ^ length x * le_value y
unfolding le_value
le_join [] y = omega arith
le_join (b ∷ x) y =
    let p = le_join x y in
    let e : 256 ^ suc (length x) ≡ 256 ^ length x * 256 = pow-suc 256 (length x) in
    let q : 256 ^ length x * 256 * le_value y ≡ 256 * (256 ^ length x * le_value y) = omega arith in
    rw e (omega arith)

-- the most significant first: what a packed number of a whole part and a fraction is
pub be_join : (x y : List ℕ) → be_value (x ++ y) ≡ be_value x * 256 ^ length y + be_value y
unfolding be_value
be_join x y =
    let p = le_join (reverse y) (reverse x) in
    let e = length-reverse y in
    ap le_value (reverse-append x y) ∙ p ∙ rw e (omega arith)

-- ---- the number of the bytes at a place, in two runs
pub le_runs : (s : List ℕ) (at j i : ℕ) → at + j ≤ length s
    → le_value (take (j + i) (drop at s)) ≡ le_value (take j (drop at s)) + 256 ^ j * le_value (take i (drop (at + j) s))
le_runs s at j i h =
    let n : length (take j (drop at s)) ≡ j = length-take-le j (drop at s) (rw length-drop (omega arith)) in
    rw (take-add j i (drop at s), le_join, n, drop-drop j at s)

-- the most significant first
pub be_runs : (s : List ℕ) (at j i : ℕ) → at + j + i ≤ length s
    → be_value (take (j + i) (drop at s)) ≡ be_value (take j (drop at s)) * 256 ^ i + be_value (take i (drop (at + j) s))
be_runs s at j i h =
    let n : length (take i (drop (at + j) s)) ≡ i = length-take-le i (drop (at + j) s) (rw length-drop (omega arith)) in
    rw (take-add j i (drop at s), be_join, drop-drop j at s, n)

-- a run of one byte
pub le_one : (s : List ℕ) (at : ℕ) → at < length s → le_value (take 1 (drop at s)) ≡ get_or s at 0
unfolding le_value
le_one s at h = rw (drop-cons s at 0 h) (omega arith)

pub be_one : (s : List ℕ) (at : ℕ) → at < length s → be_value (take 1 (drop at s)) ≡ get_or s at 0
unfolding be_value le_value
be_one s at h = rw (drop-cons s at 0 h) (omega arith)
