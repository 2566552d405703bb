-- Document 01's words for TIME2, over ℤ, are the definition in sign and magnitude. Assumes nothing.
use Prim.Native.Nat.{ℕ, zero, suc, ◌+◌, ◌-◌, ◌*◌, ◌/◌, ◌%◌, ◌^◌, ◌≤◌, ◌<◌}
use mathlib.Core.Path.{◌≡◌, refl, sym, ap, ◌∙◌}
use mathlib.Core.Logic.{dite}
use mathlib.Core.Bool.{Bool, true, cond}
use native.Mathlib.Decide.{dec_le}
use native.Mathlib.Nat.{zero-mul, not-suc-le-zero, add-zero, sub-zero}
use native.Mathlib.Omega.{arith}
use borrow.Author.Tests.{le-leb, lt-leb, lt-ltb, le-ltb, eq-eqb, ne_eqb}
use mathlib.Core.List.{List}
use lib.ListN.{length, take, drop, length-drop, take-append-drop}
use Rattle.wire.specs.Number.{Bytes, be_value}
use Rattle.wire.proofs.Inverse.{be_bound, be_join, bytes_drop}
use lib.IntN.{ℤ, pos, negsuc, neg_ℤ, ◌+ℤ◌, ◌-ℤ◌, ◌*ℤ◌, +ℤ_idr, neg_ℤ-+ℤ}
use Rattle.temporal.specs.Fraction.{fraction_bytes, unit_of}
use Rattle.temporal.specs.Times.{time_by, signed_time, time2_of}
use Rattle.temporal.specs.declared.storage.Storage.TheVariants.{Time2}
use Rattle.temporal.specs.declared.parts.Temporal.{Temporal}
use Rattle.temporal.specs.Storage.{temporal_of, is_big, whole_bytes, fraction_size}
use Rattle.temporal.specs.Reading.{temporal_size, whole_in, units_in, temporal_decode}
use Rattle.temporal.specs.Words.{split, words, words6, worded}
use Rattle.temporal.proofs.Units.{widths, unit_some}

-- ---- ℤ, by magnitude
minus : (a m : ℕ) → a < m → pos a -ℤ pos m ≡ negsuc (m - suc a)
minus a zero h = absurd (not-suc-le-zero h)
minus a (suc m) h = simp (lt-ltb a (suc m) h)

minus_le : (a m : ℕ) → m ≤ a → pos a -ℤ pos m ≡ pos (a - m)
minus_le a zero h = rw (add-zero, sub-zero)
minus_le a (suc m) h = simp (le-ltb a (suc m) h)

up : (k : ℕ) → negsuc k +ℤ pos 1 ≡ neg_ℤ (pos k)
up zero = refl
up (suc k) = let e : suc (suc k) - 2 ≡ k = omega arith in simp (lt-ltb 1 (suc (suc k)) (omega arith), e)

neg_mul : (x y : ℕ) → neg_ℤ (pos x) *ℤ pos y ≡ neg_ℤ (pos (x * y))
neg_mul zero y = rw zero-mul
neg_mul (suc x) y = refl

neg_add : (x y : ℕ) → neg_ℤ (pos x) +ℤ neg_ℤ (pos y) ≡ neg_ℤ (pos (x + y))
neg_add x y = sym (neg_ℤ-+ℤ (pos x) (pos y))

split_neg : (x : ℕ) → 0 < x → split (neg_ℤ (pos x)) ≡ time_by 64 true (x / 16777216) (x % 16777216)
unfolding split
split_neg zero h = absurd (not-suc-le-zero h)
split_neg (suc x) h = refl

-- fewer than three bytes of units stay below 2^24 microseconds
small : (f w : ℕ) → w ≤ 3 → w ≤ 2 → f ≤ 256 ^ w → 0 < w → f * unit_of w < 16777216
unfolding unit_of
small f =
    widths (λ w. w ≤ 2 → f ≤ 256 ^ w → 0 < w → f * unit_of w < 16777216) (λ a b c. omega arith) (λ a b c. omega arith) (λ a b c. omega arith)
    (λ a b c. omega arith)

none : (f w : ℕ) → w ≡ 0 → f < 256 ^ w → f ≡ 0
none f w e h = let p : f < 256 ^ 0 = rw e at h in omega arith

module _ (w a f : ℕ) (h : w ≤ 2) (l : f < 256 ^ w) where
  low : f * unit_of w < 16777216
  low = dite (dec_le w 0)
      (λ z. let e = none f w (omega arith) l in rw (e, zero-mul) (omega arith))
      (λ z. small f w (omega arith) h (omega arith) (omega arith))

  -- not negative
  above : 8388608 ≤ a → words w a f ≡ time2_of w a f
  unfolding words split time2_of signed_time
  above p =
      let g = low in
      let n = a - 8388608 in
      let e : pos a -ℤ pos 8388608 ≡ pos n = minus_le a 8388608 p in
      let x : (n * 16777216 + f * unit_of w) / 16777216 ≡ n = omega arith in
      let y : (n * 16777216 + f * unit_of w) % 16777216 ≡ f * unit_of w = omega arith in
      rw (e, le-leb 8388608 a p, x, y)

  -- negative, with no fraction
  whole : a < 8388608 → f ≡ 0 → words w a f ≡ time2_of w a f
  unfolding words time2_of signed_time
  whole p z =
      let n = 8388608 - a in
      let e : pos a -ℤ pos 8388608 ≡ negsuc (8388608 - suc a) = minus a 8388608 p in
      let k : n ≡ suc (8388608 - suc a) = omega arith in
      let i : negsuc (8388608 - suc a) ≡ neg_ℤ (pos n) = ap (λ (m : ℕ). neg_ℤ (pos m)) (sym k) in
      let q : negsuc (8388608 - suc a) *ℤ pos 16777216 +ℤ pos f *ℤ pos (unit_of w) ≡ neg_ℤ (pos (n * 16777216)) =
      rw (z, zero-mul) (+ℤ_idr _ ∙ ap (λ (m : ℕ). neg_ℤ (pos (m * 16777216))) (sym k)) in
      let x : n * 16777216 / 16777216 ≡ n = omega arith in
      let y : n * 16777216 % 16777216 ≡ 0 = omega arith in
      rw (e, eq-eqb f 0 z, lt-leb 8388608 a p, q) (split_neg (n * 16777216) (omega arith) ∙ rw (x, y))

  -- negative, with a fraction
  part : a < 8388608 → 0 < f → words w a f ≡ time2_of w a f
  unfolding words time2_of signed_time
  part p z =
      let n = 8388608 - a - 1 in
      let u = 256 ^ w - f in
      let k : 8388608 - suc a ≡ n = omega arith in
      let e : pos a -ℤ pos 8388608 ≡ negsuc n = minus a 8388608 p ∙ ap negsuc k in
      let j : u ≡ suc (256 ^ w - suc f) = omega arith in
      let d : pos f -ℤ pos (256 ^ w) ≡ neg_ℤ (pos u) = minus f (256 ^ w) l ∙ ap (λ (m : ℕ). neg_ℤ (pos m)) (sym j) in
      let s = unit_some u w (omega arith) (omega arith) in
      let g : u * unit_of w < 16777216 = dite (dec_le w 0) (λ y. let b = none f w (omega arith) l in absurd (omega arith))
      (λ y. small u w (omega arith) h (omega arith) (omega arith)) in
      let q : (negsuc n +ℤ pos 1) *ℤ pos 16777216 +ℤ neg_ℤ (pos u) *ℤ pos (unit_of w) ≡ neg_ℤ (pos (n * 16777216 + u * unit_of w)) =
      ap (λ (m : ℤ). m *ℤ pos 16777216 +ℤ neg_ℤ (pos u) *ℤ pos (unit_of w)) (up n)
      ∙ ap (λ (m : ℤ). m +ℤ neg_ℤ (pos u) *ℤ pos (unit_of w)) (neg_mul n 16777216)
      ∙ ap (λ (m : ℤ). neg_ℤ (pos (n * 16777216)) +ℤ m) (neg_mul u (unit_of w))
      ∙ neg_add (n * 16777216) (u * unit_of w) in
      let x : (n * 16777216 + u * unit_of w) / 16777216 ≡ n = omega arith in
      let y : (n * 16777216 + u * unit_of w) % 16777216 ≡ u * unit_of w = omega arith in
      rw (e, ne_eqb f 0 (λ b. omega arith), lt-leb 8388608 a p, d)
      (ap split q ∙ split_neg (n * 16777216 + u * unit_of w) (omega arith) ∙ rw (x, y))

  -- m0 0..4
  pub as_words : words w a f ≡ time2_of w a f
  as_words =
      dite (dec_le 8388608 a) above (λ p. dite (dec_le f 0) (λ z. whole (omega arith) (omega arith)) (λ z. part (omega arith) (omega arith)))

-- m0 5..6
pub as_words_6 : (a f : ℕ) → f < 16777216 → words6 (a * 16777216 + f) ≡ time2_of 3 a f
unfolding words6 split time2_of signed_time unit_of
as_words_6 a f l =
    let n = a * 16777216 + f in
    dite (dec_le 8388608 a)
    (λ p.
    let e : pos n -ℤ pos 140737488355328 ≡ pos (n - 140737488355328) = minus_le n 140737488355328 (omega arith) in
    let x : (n - 140737488355328) / 16777216 ≡ a - 8388608 = omega arith in
    let y : (n - 140737488355328) % 16777216 ≡ f * 1 = omega arith in
    rw (e, x, y, le-leb 8388608 a p))
    (λ p.
    let m = 140737488355328 - n in
    let k : m ≡ suc (140737488355328 - suc n) = omega arith in
    let e : pos n -ℤ pos 140737488355328 ≡ neg_ℤ (pos m) = minus n 140737488355328 (omega arith) ∙ ap (λ (j : ℕ). neg_ℤ (pos j)) (sym k) in
    dite (dec_le f 0)
    (λ z.
    let x : m / 16777216 ≡ 8388608 - a = omega arith in
    let y : m % 16777216 ≡ 0 = omega arith in
    ap split e ∙ split_neg m (omega arith) ∙ rw (x, y, lt-leb 8388608 a (omega arith), eq-eqb f 0 (omega arith)))
    (λ z.
    let x : m / 16777216 ≡ 8388608 - a - 1 = omega arith in
    let y : m % 16777216 ≡ (16777216 - f) * 1 = omega arith in
    ap split e ∙ split_neg m (omega arith) ∙ rw (x, y, lt-leb 8388608 a (omega arith), ne_eqb f 0 (λ b. omega arith))))

-- ---- of the stored bytes, whatever m0
narrow : (m : ℕ) → m ≤ 4 → fraction_bytes m ≤ 2
unfolding fraction_bytes
narrow m h =
    dite (dec_le m 0)
    (λ l. rw (eq-eqb m 0 (omega arith)) (omega arith))
    (λ l. rw (ne_eqb m 0 (λ e. omega arith)) (dite (dec_le m 2)
    (λ n. rw (le-leb m 2 n) (omega arith))
    (λ n. rw (lt-leb m 2 (omega arith), le-leb m 4 h) (omega arith))))

three : (m : ℕ) → 4 < m → fraction_bytes m ≡ 3
unfolding fraction_bytes
three m h = rw (ne_eqb m 0 (λ e. omega arith), lt-leb m 2 (omega arith), lt-leb m 4 h)

-- what the bytes of a TIME2 are read as is what the paper says of them
pub as_worded : (m0 : ℕ) (b : List ℕ) → length b ≡ temporal_size (Time2 m0) → Bytes b
    → temporal_decode (Time2 m0) b ≡ Temporal.Time (worded m0 b)
unfolding temporal_decode temporal_of whole_in units_in is_big whole_bytes temporal_size fraction_size worded
as_worded m0 b e h =
    let w = fraction_bytes m0 in
    let a = be_value (take 3 b) in
    let f = be_value (drop 3 b) in
    let n : length (drop 3 b) ≡ w = length-drop 3 b ∙ omega arith in
    let l : be_value (drop 3 b) < 256 ^ w = rw n at (be_bound (drop 3 b) (bytes_drop 3 b h)) in
    dite (dec_le m0 4)
    (λ p. ap Temporal.Time (sym (as_words w a f (narrow m0 p) l)
    ∙ sym (ap (λ (t : Bool). cond t (words w a f) (words6 (be_value b))) (le-leb m0 4 p))))
    (λ p.
    let t : w ≡ 3 = three m0 (omega arith) in
    let l₁ : be_value (drop 3 b) < 256 ^ 3 = rw t at l in
    let j : be_value b ≡ be_value (take 3 b) * 256 ^ 3 + be_value (drop 3 b) =
    ap be_value (sym (take-append-drop 3 b)) ∙ be_join (take 3 b) (drop 3 b)
    ∙ ap (λ (k : ℕ). be_value (take 3 b) * 256 ^ k + be_value (drop 3 b)) (n ∙ t) in
    ap Temporal.Time
    (ap (λ (v : ℕ). time2_of v a f) t
    ∙ sym (as_words_6 a f l₁)
    ∙ sym (ap words6 j)
    ∙ sym (ap (λ (t : Bool). cond t (words w a f) (words6 (be_value b))) (lt-leb m0 4 (omega arith)))))
