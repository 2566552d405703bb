-- A step over the images of a rows event: what it tells, and that the walk ends. Of two images in turn one takes a byte at least. Assumes
-- nothing.
use Rattle.std.specs.Prelude.{Option, Some, None}
use Prim.Native.Nat.{ℕ, zero, suc, ◌+◌, ◌-◌, ◌*◌, ◌≤◌, ◌<◌}
use mathlib.Core.Path.{◌≡◌, refl, sym, ap, subst, ◌∙◌}
use mathlib.Core.Bool.{Bool, true, false, cond, ◌&&◌, not, true≢false}
use mathlib.Core.Logic.{dite}
use mathlib.Core.List.{List, []}
use native.Mathlib.Nat.{add-zero}
use native.Mathlib.Decide.{dec_le}
use native.Mathlib.Omega.{arith}
use borrow.Author.Tests.{eq-eqb, ne_eqb, ltb-false}
use lib.ListN.{length, drop, length-drop}
use lib.Dec.{ltb, eqb}
use Rattle.wire.specs.declared.part.Part.{Part}
use Rattle.wire.specs.Outcome.{Outcome, ok, refused, refuse, after}
use Rattle.wire.specs.Bits.{bytes_for, lsb0, bit_lsb0}
use Rattle.wire.specs.Parts.{part}
use Rattle.wire.proofs.Digits.{digit_none}
use Rattle.record.specs.Records.{count_of}
use Rattle.image.specs.Present.{count_bits}
use Rattle.image.specs.Walk.{walk_image}
use Rattle.image.proofs.PresenceLaws.Presents.{present_length}
use Rattle.image.proofs.EndLaws.Used.{walk_used}
use Rattle.rows_event.specs.declared.event.Rows.{Rows}
use Rattle.rows_event.specs.declared.images.Images.{Images}
use Rattle.rows_event.specs.Images.{is_there, in_pairs, set_of, is_empty, image_met, end, is_second, behind_image, next_image, ImagesWalked}
use Rattle.rows_event.specs.Images.{with_image, met_image, images_onward, image_steps, images_from}

-- how many columns are present under a set
abbrev pub counted : List ℕ → Rows → List ℕ → Bool → ℕ
counted r w s second = count_bits (set_of w s second) (count_of r)

-- ---- of two images in turn one takes a byte
abbrev weight : ℕ → ℕ
weight k = cond (eqb k 0) 1 0

weight_some : (k : ℕ) → weight (suc k) ≡ 0
weight_some k = rw (ne_eqb (suc k) 0 (λ e. omega arith))

weight_most : (k : ℕ) → weight k ≤ 1
weight_most zero = omega arith
weight_most (suc k) = omega (arith, weight_some k)

-- k columns are present under an image's set, and k' under the next one's: n bytes are left, and the image takes u of them
lessens : (n u k k' : ℕ) → u ≤ n → bytes_for k ≤ u → (k ≡ 0 → k' ≡ 0 → ⊥) → 2 * (n - u) + weight k' < 2 * n + weight k
lessens n u zero zero f b h = absurd (h refl refl)
lessens n u zero (suc k') f b h = omega (arith, weight_some k')
lessens n u (suc k) k' f b h = omega (arith, weight_most k', weight_some k)

not_both : (a b : ℕ) → (eqb a 0 && eqb b 0) ≡ false → a ≡ 0 → b ≡ 0 → ⊥
not_both a b e x y = true≢false (sym (rw (eq-eqb a 0 x, eq-eqb b 0 y)) ∙ e)

-- no bit is set where there are no bytes
count_empty : (n : ℕ) → count_bits [] n ≡ 0
unfolding count_bits bit_lsb0
count_empty zero = refl
count_empty (suc n) = rw (count_empty n, digit_none (lsb0 n))

-- an event without a second set has no bits in it
none_second : (r : List ℕ) (w : Rows) (s : List ℕ) → in_pairs w ≡ false → counted r w s true ≡ 0
none_second r w s e = go w.after refl e
  where
    go : (x : Option Part) → w.after ≡ x → is_there x ≡ false → counted r w s true ≡ 0
    go None q e = rw q (count_empty (count_of r))
    go (Some p) q e = absurd (true≢false e)

-- the set of the next image has a column where that of this one has none
turned : (r : List ℕ) (w : Rows) (s : List ℕ) (second : Bool) → is_empty r w s ≡ false → (in_pairs w ≡ false → second ≡ false)
    → counted r w s second ≡ 0 → counted r w s (in_pairs w && not second) ≡ 0 → ⊥
unfolding is_empty
turned r w s second e h a b = go (in_pairs w) refl second refl
  where
    go : (t : Bool) → in_pairs w ≡ t → (x : Bool) → second ≡ x → ⊥
    go true p true q = not_both _ _ e (rw (p, q) at b) (rw q at a)
    go true p false q = not_both _ _ e (rw q at a) (rw (p, q) at b)
    go false p x q = not_both _ _ e (rw (h p) at a) (none_second r w s p)

-- what a walk has before it: two steps for each byte that is left, and one where the next image takes none
abbrev pub left : List ℕ → Rows → List ℕ → Images → ℕ
left r w s c = 2 * (length s - c.at) + weight (counted r w s (is_second w c))

pub falls : (r : List ℕ) (w : Rows) (s : List ℕ) (c : Images) (u : ℕ) → c.at ≤ length s
    → (walk_image r (set_of w s (is_second w c)) (drop c.at s)).how ≡ ok u → is_empty r w s ≡ false
    → left r w s (behind_image w (c.at + u) (is_second w c)) < left r w s c
falls r w s c u l e n =
    let b = is_second w c in
    let x = walk_used r (set_of w s b) (drop c.at s) u e in
    let k : bytes_for (counted r w s b) ≤ u = subst (λ (j : ℕ). bytes_for j ≤ u) (present_length r (set_of w s b)) x.0 in
    let f : u ≤ length s - c.at = omega (arith, x.1, length-drop c.at s) in
    let g : length s - (c.at + u) ≡ length s - c.at - u = omega arith in
    rw (g, twice (in_pairs w) b)
    (lessens (length s - c.at) u (counted r w s b) (counted r w s (in_pairs w && not b)) f k (turned r w s b n (λ p. rw p)))
  where
    twice : (a b : Bool) → (a && (a && not b)) ≡ (a && not b)
    twice true b = refl
    twice false b = refl

-- ---- the walk is its steps
-- two ways on that agree wherever a step can lead agree behind the step
agree : (r : List ℕ) (w : Rows) (s : List ℕ) (c : Images) (f g : Images → ImagesWalked)
    → ((c' : Images) → left r w s c' < left r w s c → f c' ≡ g c')
    → images_onward f r w s (next_image r w s c) ≡ images_onward g r w s (next_image r w s c)
unfolding next_image
agree r w s c f g h = go (ltb (length s) c.at) refl
  where
    told : (u : ℕ) (t : Bool) → is_empty r w s ≡ t → c.at ≤ length s → (walk_image r (set_of w s (is_second w c)) (drop c.at s)).how ≡ ok u
        → images_onward f r w s (cond t (refuse 9 0)
        (ok (image_met (part c.at u) (is_second w c) (behind_image w (c.at + u) (is_second w c)))))
        ≡ images_onward g r w s (cond t (refuse 9 0)
        (ok (image_met (part c.at u) (is_second w c) (behind_image w (c.at + u) (is_second w c)))))
    told u true n l e = refl
    told u false n l e =
        ap (with_image (met_image r w s (part c.at u) (is_second w c)))
        (h (behind_image w (c.at + u) (is_second w c)) (falls r w s c u l e n))

    read : (x : Outcome ℕ) → c.at ≤ length s → (walk_image r (set_of w s (is_second w c)) (drop c.at s)).how ≡ x
        → images_onward f r w s (after x
        (λ used. cond (is_empty r w s) (refuse 9 0)
        (ok (image_met (part c.at used) (is_second w c) (behind_image w (c.at + used) (is_second w c))))))
        ≡ images_onward g r w s (after x
        (λ used. cond (is_empty r w s) (refuse 9 0)
        (ok (image_met (part c.at used) (is_second w c) (behind_image w (c.at + used) (is_second w c))))))
    read (ok u) l e = told u (is_empty r w s) refl l e
    read (refused v) l e = refl

    ends : (t : Bool) → c.at ≤ length s
        → images_onward f r w s (cond t (ok end)
        (after (walk_image r (set_of w s (is_second w c)) (drop c.at s)).how
        (λ used. cond (is_empty r w s) (refuse 9 0)
        (ok (image_met (part c.at used) (is_second w c) (behind_image w (c.at + used) (is_second w c)))))))
        ≡ images_onward g r w s (cond t (ok end)
        (after (walk_image r (set_of w s (is_second w c)) (drop c.at s)).how
        (λ used. cond (is_empty r w s) (refuse 9 0)
        (ok (image_met (part c.at used) (is_second w c) (behind_image w (c.at + used) (is_second w c)))))))
    ends true l = refl
    ends false l = read (walk_image r (set_of w s (is_second w c)) (drop c.at s)).how l refl

    go : (t : Bool) → ltb (length s) c.at ≡ t → images_onward f r w s (next_image r w s c) ≡ images_onward g r w s (next_image r w s c)
    go true q = rw q
    go false q = rw q (ends (eqb c.at (length s) && not (is_second w c)) (ltb-false (length s) c.at q))

-- more steps than enough change nothing
enough : (m : ℕ) (r : List ℕ) (w : Rows) (s : List ℕ) (c : Images) → left r w s c < m → image_steps m r w s c ≡ image_steps (suc m) r w s c
unfolding image_steps
enough zero r w s c l = absurd (omega arith)
enough (suc m) r w s c l =
    agree r w s c (λ c'. image_steps m r w s c') (λ c'. image_steps (suc m) r w s c') (λ c' b. enough m r w s c' (omega arith))

steps_more : (k m : ℕ) (r : List ℕ) (w : Rows) (s : List ℕ) (c : Images) → left r w s c < m
    → image_steps m r w s c ≡ image_steps (m + k) r w s c
steps_more zero m r w s c l = rw add-zero
steps_more (suc k) m r w s c l =
    let e : m + suc k ≡ suc (m + k) = omega arith in
    steps_more k m r w s c l ∙ enough (m + k) r w s c (omega arith) ∙ ap (λ (j : ℕ). image_steps j r w s c) (sym e)

steps_same : (m n : ℕ) (r : List ℕ) (w : Rows) (s : List ℕ) (c : Images) → left r w s c < m → m ≤ n
    → image_steps m r w s c ≡ image_steps n r w s c
steps_same m n r w s c l h =
    let e : m + (n - m) ≡ n = omega arith in
    steps_more (n - m) m r w s c l ∙ ap (λ (j : ℕ). image_steps j r w s c) e

-- from any cursor, made up or not: the step's answer, and then the walk from the step's cursor
pub images_on : (r : List ℕ) (w : Rows) (s : List ℕ) (c : Images)
    → images_from r w s c ≡ images_onward (λ c'. images_from r w s c') r w s (next_image r w s c)
unfolding image_steps
images_on r w s c =
    let n = 2 * (length s - c.at) in
    let e : n + 2 ≡ suc (n + 1) = omega arith in
    ap (λ (j : ℕ). image_steps j r w s c) e
    ∙ agree r w s c (λ c'. image_steps (n + 1) r w s c') (λ c'. images_from r w s c') (λ c' b.
    let m = 2 * (length s - c'.at) in
    let a : left r w s c' < n + 1 = omega (arith, weight_most (counted r w s (is_second w c))) in
    let d : left r w s c' < m + 2 = omega (arith, weight_most (counted r w s (is_second w c'))) in
    dite (dec_le (n + 1) (m + 2))
    (λ (h : n + 1 ≤ m + 2). steps_same (n + 1) (m + 2) r w s c' a h)
    (λ h. sym (steps_same (m + 2) (n + 1) r w s c' d (omega arith))))

-- ---- as the code finds out whether no set has a column: n is the number of columns, k and k' are counted under the first set and under
-- the second
pub not_empty : (r : List ℕ) (w : Rows) (s : List ℕ) (n k : ℕ) → n ≡ count_of r → k ≡ count_bits (set_of w s false) n → (k ≡ 0 → ⊥)
    → false ≡ is_empty r w s
unfolding is_empty
not_empty r w s n k e q h = sym (rw (ne_eqb (counted r w s false) 0 (λ z. h (q ∙ ap (count_bits (set_of w s false)) e ∙ z))))

pub second_empty : (r : List ℕ) (w : Rows) (s : List ℕ) (n k k' : ℕ) → n ≡ count_of r → k ≡ count_bits (set_of w s false) n → k ≡ 0
    → k' ≡ count_bits (set_of w s true) n → eqb k' 0 ≡ is_empty r w s
unfolding is_empty
second_empty r w s n k k' e q z q' =
    let a : counted r w s false ≡ 0 = ap (count_bits (set_of w s false)) (sym e) ∙ sym q ∙ z in
    let b : k' ≡ counted r w s true = q' ∙ ap (count_bits (set_of w s true)) e in
    rw (b, eq-eqb (counted r w s false) 0 a)
