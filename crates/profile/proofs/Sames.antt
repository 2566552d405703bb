-- Lists compared: of other lengths, element by element, and by std. The program stands on `compared` alone; the four laws before it,
-- `other_lengths`, `same_here`, `other_here` and `all_same`, are kept as laws. Assumes nothing.
use Prim.Native.Nat.{ℕ, suc, ◌+◌, ◌≤◌, ◌<◌}
use mathlib.Core.Path.{◌≡◌, refl, ap, ◌∙◌}
use mathlib.Core.Bool.{Bool, true, false, ◌&&◌}
use mathlib.Core.List.{List, [], ◌∷◌}
use native.Mathlib.Numerals.{add-one}
use borrow.Author.Tests.{eq-eqb, ne_eqb}
use lib.ListN.{length, drop, get_or, drop_of_length-le}
use lib.Seq.{drop-cons}
use lib.Dec.{eqb}
use Rattle.std.specs.Str.{bytes_eq}
use Rattle.profile.specs.Words.{same_bytes}

and_false : (t : Bool) → (t && false) ≡ false
and_false true = refl
and_false false = refl

pub other_lengths : (a b : List ℕ) → (length a ≡ length b → ⊥) → same_bytes a b ≡ false
unfolding same_bytes
other_lengths [] [] h = absurd (h refl)
other_lengths [] (y ∷ b) h = refl
other_lengths (x ∷ a) [] h = refl
other_lengths (x ∷ a) (y ∷ b) h = rw (other_lengths a b (λ e. h (ap suc e))) (and_false (eqb x y))

step : (a b : List ℕ) (i : ℕ) → i < length a → i < length b
    → same_bytes (drop i a) (drop i b) ≡ eqb (get_or a i 0) (get_or b i 0) && same_bytes (drop (i + 1) a) (drop (i + 1) b)
unfolding same_bytes
step a b i h k = rw (drop-cons a i 0 h, drop-cons b i 0 k, add-one)

pub same_here : (a b : List ℕ) (i : ℕ) → i < length a → i < length b → get_or a i 0 ≡ get_or b i 0
    → same_bytes (drop i a) (drop i b) ≡ same_bytes (drop (i + 1) a) (drop (i + 1) b)
same_here a b i h k e = step a b i h k ∙ rw (eq-eqb (get_or a i 0) (get_or b i 0) e)

pub other_here : (a b : List ℕ) (i : ℕ) → i < length a → i < length b → (get_or a i 0 ≡ get_or b i 0 → ⊥)
    → same_bytes (drop i a) (drop i b) ≡ false
other_here a b i h k e = step a b i h k ∙ rw (ne_eqb (get_or a i 0) (get_or b i 0) e)

pub all_same : (a b : List ℕ) (i : ℕ) → length a ≤ i → length b ≤ i → same_bytes (drop i a) (drop i b) ≡ true
unfolding same_bytes
all_same a b i h k = rw (drop_of_length-le a {i = i} h, drop_of_length-le b {i = i} k) refl

-- what std's `==` says of two texts is what `same_bytes` says of them
pub compared : (a b : List ℕ) → bytes_eq a b ≡ same_bytes a b
unfolding same_bytes
compared [] [] = refl
compared [] (y ∷ b) = refl
compared (x ∷ a) [] = refl
compared (x ∷ a) (y ∷ b) = ap (λ t. eqb x y && t) (compared a b)
