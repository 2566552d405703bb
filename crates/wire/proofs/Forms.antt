-- Packed integers: what is written is read back, wherever it stands; what was read stands there in one of four forms; the written form is
-- the shortest, and the only one of its length. Assumes nothing.
use Prim.Native.Nat.{ℕ, suc, ◌+◌, ◌-◌, ◌^◌, ◌≤◌, ◌<◌}
use mathlib.Core.Path.{◌≡◌, refl, sym, subst, ◌∙◌}
use mathlib.Core.Bool.{Bool, true, false, cond}
use mathlib.Core.Logic.{dite, ◌⊎◌, inl, inr}
use mathlib.Core.List.{List, [], ◌∷◌, ◌++◌}
use native.Mathlib.Numerals.{add-one}
use native.Mathlib.Decide.{dec_le, dec_lt}
use native.Mathlib.Omega.{arith}
use borrow.Author.Tests.{lt-ltb, le-ltb, le-leb, lt-leb, leb-true, leb-false, eqb-true, eqb-false}
use lib.ListN.{length, take, drop, get_or, length-append, length-drop}
use lib.Seq.{length-take-le, drop-append-add, drop-cons, get_or-append_seam, take_at}
use lib.Dec.{leb, eqb}
use Rattle.wire.specs.declared.refusal.Refusal.{Refusal}
use Rattle.wire.specs.Outcome.{ok, refused, refuse, why}
use Rattle.wire.specs.Number.{Bytes, le_value, le_bytes}
use Rattle.wire.specs.Packed.{packed_bytes, read_packed, packed_form, long_form}
use Rattle.wire.specs.Layouts.{Precedes, two as two', three as three', eight as eight', IntegerCut, no_byte, few_behind}
use Rattle.wire.specs.Layouts.{IntegerRefused}
use Rattle.wire.specs.Stored.{stored}
use Rattle.wire.proofs.Outcomes.{by_test, test_is_ok, test_refuses, ok_not_refused, same_ok, same_refused}
use Rattle.wire.proofs.Bytes.{le_bytes_length, wider}
use Rattle.wire.proofs.Inverse.{le_back, le_sound, le_bound, bytes_take, bytes_drop}

-- the first bytes that precede a longer form, how many bytes it has, and the least value that needs it
pub data Tag : ℕ → ℕ → ℕ → Type 0 where
  two : Tag 252 2 251
  three : Tag 253 3 65536
  eight : Tag 254 8 16777216

pub tag_width : {first k least : ℕ} → Tag first k least → (2 ≤ k) × (k ≤ 8)
tag_width two = (omega arith, omega arith)
tag_width three = (omega arith, omega arith)
tag_width eight = (omega arith, omega arith)

-- the width tells the first byte
same_first : {f k l f' k' l' : ℕ} → Tag f k l → Tag f' k' l' → k' ≡ k → f' ≡ f
same_first two two e = refl
same_first two three e = absurd (omega arith)
same_first two eight e = absurd (omega arith)
same_first three two e = absurd (omega arith)
same_first three three e = refl
same_first three eight e = absurd (omega arith)
same_first eight two e = absurd (omega arith)
same_first eight three e = absurd (omega arith)
same_first eight eight e = refl

-- a value of k bytes needs no more
not_longer : {f k l f' k' l' v : ℕ} → Tag f k l → Tag f' k' l' → v < 256 ^ k → l' ≤ v → k' ≤ k
not_longer two two h g = omega arith
not_longer two three h g = absurd (omega arith)
not_longer two eight h g = absurd (omega arith)
not_longer three two h g = omega arith
not_longer three three h g = omega arith
not_longer three eight h g = absurd (omega arith)
not_longer eight two h g = omega arith
not_longer eight three h g = omega arith
not_longer eight eight h g = omega arith

-- ---- the form that is written
pub data Shortest (v : ℕ) : List ℕ → Type 0 where
  itself : v ≤ 250 → Shortest v (v ∷ [])
  behind : (first k least : ℕ) → Tag first k least → least ≤ v → (v < 2 ^ 64 → v < 256 ^ k) → Shortest v (first ∷ le_bytes k v)

-- which form is the shortest, by the value
pub shortest : (v : ℕ) → Shortest v (packed_bytes v)
unfolding packed_bytes
shortest v =
    dite (dec_le v 250)
    (λ a. rw (le-leb v 250 a) (itself a))
    (λ a.
    let h : 250 < v = omega arith in
    dite (dec_lt v 65536)
    (λ b. rw (lt-leb v 250 h, lt-ltb v 65536 b) (behind 252 2 251 two h (λ m. b)))
    (λ b.
    let l : 65536 ≤ v = omega arith in
    dite (dec_lt v 16777216)
    (λ d. rw (lt-leb v 250 h, le-ltb v 65536 l, lt-ltb v 16777216 d) (behind 253 3 65536 three l (λ m. d)))
    (λ d.
    let m : 16777216 ≤ v = omega arith in
    rw (lt-leb v 250 h, le-ltb v 65536 l, le-ltb v 16777216 m) (behind 254 8 16777216 eight m (λ n. n)))))

one_byte_lem : (v : ℕ) → v ≤ 250 → packed_bytes v ≡ v ∷ []
unfolding packed_bytes
one_byte_lem v h = rw (le-leb v 250 h)

-- a value of k bytes is written in no more than the form of k bytes, and in that form where it is as long
length_bound : {first k least : ℕ} (v : ℕ) → Tag first k least → v < 256 ^ k → length (packed_bytes v) ≤ 1 + k
length_bound {first} {k} {least} v t h = go (shortest v)
  where
    go : {bs : List ℕ} → Shortest v bs → length bs ≤ 1 + k
    go (itself b) = omega arith
    go (behind f' k' l' t' g m) = omega (arith, le_bytes_length k' v, not_longer t t' h g)

of_length : {first k least : ℕ} (v : ℕ) → Tag first k least → length (packed_bytes v) ≡ 1 + k → packed_bytes v ≡ first ∷ le_bytes k v
of_length {first} {k} {least} v t n = go (shortest v) n
  where
    go : {bs : List ℕ} → Shortest v bs → length bs ≡ 1 + k → bs ≡ first ∷ le_bytes k v
    go (itself b) e = absurd (omega (arith, (tag_width t).0))
    go (behind f' k' l' t' g m) e =
        let d : k' ≡ k = omega (arith, le_bytes_length k' v) in
        rw (d, same_first t t' d)

-- ---- the form that is read
pub data Form (s : List ℕ) (at : ℕ) : ℕ → ℕ → Type 0 where
  itself : at < length s → get_or s at 0 ≤ 250 → Form s at (get_or s at 0) (at + 1)
  behind : (first k least : ℕ) → Tag first k least → get_or s at 0 ≡ first → at + 1 + k ≤ length s
      → Form s at (le_value (take k (drop (at + 1) s))) (at + 1 + k)

long_form_lem : {first k least : ℕ} (s : List ℕ) (at v next : ℕ) → Tag first k least → get_or s at 0 ≡ first → long_form s at k ≡ ok (v, next)
    → Form s at v next
unfolding long_form
long_form_lem {first} {k} {least} s at v next t b e =
    let w = test_is_ok (leb (at + 1 + k) (length s)) (le_value (take k (drop (at + 1) s)), at + 1 + k) (why 1 at) (v, next) e in
    subst (λ (x : ℕ × ℕ). Form s at x.0 x.1) w.1 (behind first k least t b (leb-true (at + 1 + k) (length s) w.0))

form_of : (s : List ℕ) (at b v next : ℕ) → at < length s → get_or s at 0 ≡ b → packed_form s at b ≡ ok (v, next) → Form s at v next
unfolding packed_form
form_of s at b v next h g e =
    by_test (leb b 250) _ _ _ e
    (λ t e₁. subst (λ (x : ℕ × ℕ). Form s at x.0 x.1) (same_ok e₁)
    (subst (λ (y : ℕ). Form s at y (at + 1)) g (itself h (omega (arith, leb-true b 250 t)))))
    (λ t₀ e₀. by_test (eqb b 252) _ _ _ e₀ (λ t e₁. long_form_lem s at v next two (g ∙ eqb-true b 252 t) e₁)
    (λ t₁ e₁. by_test (eqb b 253) _ _ _ e₁ (λ t e₂. long_form_lem s at v next three (g ∙ eqb-true b 253 t) e₂)
    (λ t₂ e₂. by_test (eqb b 254) _ _ _ e₂ (λ t e₃. long_form_lem s at v next eight (g ∙ eqb-true b 254 t) e₃)
    (λ t₃ e₃. absurd (ok_not_refused (sym e₃))))))

-- what was read stands there in one of these forms
pub read_form : (s : List ℕ) (at v next : ℕ) → read_packed s at ≡ ok (v, next) → Form s at v next
unfolding read_packed
read_form s at v next e =
    by_test (leb (length s) at) _ _ _ e
    (λ t e₁. absurd (ok_not_refused (sym e₁)))
    (λ t e₁. form_of s at (get_or s at 0) v next (leb-false (length s) at t) refl e₁)

-- reading moves on, and never ends past the bytes
pub read_moves : (s : List ℕ) (at v next : ℕ) → read_packed s at ≡ ok (v, next) → (at < next) × (next ≤ length s)
read_moves s at v next e = go (read_form s at v next e)
  where
    go : {v next : ℕ} → Form s at v next → (at < next) × (next ≤ length s)
    go (itself h b) = (omega arith, omega arith)
    go (behind first k least t b h) = (omega arith, h)

-- the number that k bytes of s are
part_bound : (s : List ℕ) (p k : ℕ) → Bytes s → p + k ≤ length s → le_value (take k (drop p s)) < 256 ^ k
part_bound s p k h l =
    let n : length (take k (drop p s)) ≡ k = length-take-le k (drop p s) (rw length-drop (omega arith)) in
    subst (λ (j : ℕ). le_value (take k (drop p s)) < 256 ^ j) n (le_bound (take k (drop p s)) (bytes_take k (drop p s) (bytes_drop p s h)))

-- what is read fits 64 bits
pub read_fits : (s : List ℕ) (at v next : ℕ) → Bytes s → read_packed s at ≡ ok (v, next) → v < 2 ^ 64
read_fits s at v next h e = go (read_form s at v next e)
  where
    go : {v next : ℕ} → Form s at v next → v < 2 ^ 64
    go (itself l b) = omega arith
    go (behind first k least t b l) = wider k 8 _ (tag_width t).1 (part_bound s (at + 1) k h l)

-- the shortest form is shortest: no form that is read has fewer bytes than the one that is written for its value
pub read_shortest : (s : List ℕ) (at v next : ℕ) → Bytes s → read_packed s at ≡ ok (v, next) → at + length (packed_bytes v) ≤ next
read_shortest s at v next h e = go (read_form s at v next e)
  where
    go : {v next : ℕ} → Form s at v next → at + length (packed_bytes v) ≤ next
    go (itself l b) = rw (one_byte_lem (get_or s at 0) b) (omega arith)
    go (behind first k least t b l) = omega (arith, length_bound (le_value (take k (drop (at + 1) s))) t (part_bound s (at + 1) k h l))

-- and it is the only one of its length: what was read in as many bytes is what is written
pub read_only : (s : List ℕ) (at v next : ℕ) → Bytes s → read_packed s at ≡ ok (v, next) → next ≡ at + length (packed_bytes v)
    → take (next - at) (drop at s) ≡ packed_bytes v
read_only s at v next h e = go (read_form s at v next e)
  where
    go : {v next : ℕ} → Form s at v next → next ≡ at + length (packed_bytes v) → take (next - at) (drop at s) ≡ packed_bytes v
    go (itself l b) n =
        let o : at + 1 - at ≡ 1 = omega arith in
        rw (o, one_byte_lem (get_or s at 0) b, drop-cons s at 0)
    go (behind first k least t b l) n =
        let v = le_value (take k (drop (at + 1) s)) in
        let o : at + 1 + k - at ≡ suc k = omega arith in
        let p : at < length s = omega arith in
        let m : length (take k (drop (at + 1) s)) ≡ k = length-take-le k (drop (at + 1) s) (rw length-drop (omega arith)) in
        let bytes : le_bytes k v ≡ take k (drop (at + 1) s) =
        rw m at (le_sound (take k (drop (at + 1) s)) (bytes_take k (drop (at + 1) s) (bytes_drop (at + 1) s h))) in
        rw (o, drop-cons s at 0, b, of_length v t (omega arith), bytes, add-one)

-- ---- what is written is read back
long_back : (pre rest : List ℕ) (t k v : ℕ) → v < 256 ^ k
    → long_form (pre ++ (t ∷ (le_bytes k v ++ rest))) (length pre) k ≡ ok (v, length pre + 1 + k)
unfolding long_form
long_back pre rest t k v h =
    let f : length pre + 1 + k ≤ length (pre ++ (t ∷ (le_bytes k v ++ rest))) = simp (length-append, le_bytes_length) (omega arith) in
    rw (le-leb _ _ f, drop-append-add, take_at (le_bytes k v) rest k (le_bytes_length k v), le_back k v h)

pub tag_form : {first k least : ℕ} → Tag first k least → (s : List ℕ) (at : ℕ) → packed_form s at first ≡ long_form s at k
unfolding packed_form
tag_form two s at = refl
tag_form three s at = refl
tag_form eight s at = refl

-- at any place, with anything behind
pub read_back : (pre rest : List ℕ) (v : ℕ) → v < 2 ^ 64
    → read_packed (pre ++ (packed_bytes v ++ rest)) (length pre) ≡ ok (v, length pre + length (packed_bytes v))
unfolding read_packed packed_form
read_back pre rest v h = go (shortest v)
  where
    go : {bs : List ℕ} → Shortest v bs → read_packed (pre ++ (bs ++ rest)) (length pre) ≡ ok (v, length pre + length bs)
    go (itself b) =
        let l : length pre < length (pre ++ (v ∷ rest)) = simp length-append (omega arith) in
        rw (lt-leb _ _ l, get_or-append_seam, le-leb v 250 b)
    go (behind first k least t g m) =
        let l : length pre < length (pre ++ (first ∷ (le_bytes k v ++ rest))) = simp length-append (omega arith) in
        let n : length pre + 1 + k ≡ length pre + suc (length (le_bytes k v)) = rw le_bytes_length (omega arith) in
        rw (lt-leb _ _ l, get_or-append_seam)
        (tag_form t (pre ++ (first ∷ (le_bytes k v ++ rest))) (length pre) ∙ long_back pre rest first k v (m h) ∙ rw n)

-- and from a buffer that it was written into
pub read_stored : (d : List ℕ) (at v : ℕ) → v < 2 ^ 64 → at + length (packed_bytes v) ≤ length d
    → read_packed (stored (packed_bytes v) d at) at ≡ ok (v, at + length (packed_bytes v))
unfolding stored
read_stored d at v h r =
    let n : length (take at d) ≡ at = length-take-le at d (omega arith) in
    rw n at (read_back (take at d) (drop (at + length (packed_bytes v)) d) v h)

-- ---- which refusals there are, and where
precedes : {first k least : ℕ} → Tag first k least → Precedes first k
precedes two = two'
precedes three = three'
precedes eight = eight'

pub data Refuses (s : List ℕ) (at : ℕ) : Refusal → Type 0 where
  short : IntegerCut s at → Refuses s at (why 1 at)
  none : IntegerRefused s at → Refuses s at (why 2 at)

cut_refuses : {first k least : ℕ} (s : List ℕ) (at : ℕ) (w : Refusal) → Tag first k least → get_or s at 0 ≡ first
    → long_form s at k ≡ refused w → Refuses s at w
unfolding long_form
cut_refuses {first} {k} {least} s at w t b e =
    let x = test_refuses (leb (at + 1 + k) (length s)) (le_value (take k (drop (at + 1) s)), at + 1 + k) (why 1 at) w e in
    subst (Refuses s at) x.1
    (short (few_behind (subst (λ (y : ℕ). Precedes y k) (sym b) (precedes t)) (leb-false (at + 1 + k) (length s) x.0)))

form_refuses : (s : List ℕ) (at b : ℕ) (w : Refusal) → at < length s → get_or s at 0 ≡ b → packed_form s at b ≡ refused w → Refuses s at w
unfolding packed_form
form_refuses s at b w h g e =
    by_test (leb b 250) _ _ _ e (λ t e₁. absurd (ok_not_refused e₁))
    (λ t₀ e₀. by_test (eqb b 252) _ _ _ e₀ (λ t e₁. cut_refuses s at w two (g ∙ eqb-true b 252 t) e₁)
    (λ t₁ e₁. by_test (eqb b 253) _ _ _ e₁ (λ t e₂. cut_refuses s at w three (g ∙ eqb-true b 253 t) e₂)
    (λ t₂ e₂. by_test (eqb b 254) _ _ _ e₂ (λ t e₃. cut_refuses s at w eight (g ∙ eqb-true b 254 t) e₃)
    (λ t₃ e₃.
    let n₀ : 250 < b = leb-false b 250 t₀ in
    let n₁ : b ≡ 252 → ⊥ = eqb-false b 252 t₁ in
    let n₂ : b ≡ 253 → ⊥ = eqb-false b 253 t₂ in
    let n₃ : b ≡ 254 → ⊥ = eqb-false b 254 t₃ in
    subst (Refuses s at) (same_refused e₃)
    (none (record { there = h; first = λ l. dite (dec_le b 251) (λ y. inl (g ∙ omega arith)) (λ y. inr (g ∙ omega (arith, l, g))) }))))))

-- what was refused, and why: no other number, no other place
pub read_refuses : (s : List ℕ) (at : ℕ) (w : Refusal) → read_packed s at ≡ refused w → Refuses s at w
unfolding read_packed
read_refuses s at w e =
    by_test (leb (length s) at) _ _ _ e
    (λ t e₁. subst (Refuses s at) (same_refused e₁) (short (no_byte (leb-true (length s) at t))))
    (λ t e₁. form_refuses s at (get_or s at 0) w (leb-false (length s) at t) refl e₁)

-- ---- and the other way: an integer that ends early is told so, and so is one whose first byte is 251 or 255
precedes_form : (s : List ℕ) (at b : ℕ) {k : ℕ} → Precedes b k → packed_form s at b ≡ long_form s at k
unfolding packed_form
precedes_form s at b two' = refl
precedes_form s at b three' = refl
precedes_form s at b eight' = refl

pub cut_told : {s : List ℕ} {at : ℕ} → IntegerCut s at → read_packed s at ≡ refuse 1 at
unfolding read_packed long_form
cut_told {s} {at} (no_byte h) = rw (le-leb (length s) at h)
cut_told {s} {at} (few_behind {k} p h) = go (leb (length s) at)
  where
    go : (t : Bool) → cond t (refuse 1 at) (packed_form s at (get_or s at 0)) ≡ refuse 1 at
    go true = refl
    go false = precedes_form s at (get_or s at 0) p ∙ rw (lt-leb (at + 1 + k) (length s) h)

pub none_told : {s : List ℕ} {at : ℕ} → get_or s at 0 < 256 → IntegerRefused s at → read_packed s at ≡ refuse 2 at
unfolding read_packed packed_form
none_told {s} {at} b x = go (x.first b)
  where
    go : (get_or s at 0 ≡ 251) ⊎ (get_or s at 0 ≡ 255) → cond (leb (length s) at) (refuse 1 at) (packed_form s at (get_or s at 0)) ≡ refuse 2 at
    go (inl e) = rw (lt-leb (length s) at x.there, e)
    go (inr e) = rw (lt-leb (length s) at x.there, e)
