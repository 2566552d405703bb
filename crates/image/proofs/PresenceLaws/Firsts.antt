-- Which present column comes first from a column on, and which come after it; how many bits are set. Assumes nothing.
use Prim.Native.Nat.{ℕ, zero, suc, ◌+◌, ◌-◌, ◌≤◌, ◌<◌, max}
use mathlib.Core.Path.{◌≡◌, refl, sym, ap, ◌∙◌}
use mathlib.Core.Bool.{Bool, true, false, cond}
use mathlib.Core.Logic.{dite}
use mathlib.Core.List.{List, [], ◌∷◌}
use native.Mathlib.Decide.{dec_le}
use native.Mathlib.Nat.{add-zero}
use native.Mathlib.Numerals.{add-one}
use native.Mathlib.Omega.{arith}
use Rattle.std.specs.Prelude.{Option, Some, None}
use Rattle.std.specs.Option.{MatchOption, unwrap_or}
use Rattle.wire.specs.Bits.{bit_lsb0}
use Rattle.record.specs.Records.{count_of}
use Rattle.image.specs.Present.{Present, count_bits, first_from, shape_at, present_from}
use Rattle.image.specs.Split.{Slot, slots, slots_at}

abbrev pub present_at : List ℕ → ℕ → Present
present_at r f = record { column = f; shape = shape_at r f }

pub count_set : (p : List ℕ) (j : ℕ) → bit_lsb0 p j ≡ true → count_bits p (suc j) ≡ suc (count_bits p j)
unfolding count_bits
count_set p j e = rw e (add-one (count_bits p j))

pub count_not : (p : List ℕ) (j : ℕ) → bit_lsb0 p j ≡ false → count_bits p (suc j) ≡ count_bits p j
unfolding count_bits
count_not p j e = rw e (add-zero (count_bits p j))

first_end : (s : List ℕ) (j : ℕ) → first_from 0 s j ≡ j
unfolding first_from
first_end s j = refl

first_here : (m : ℕ) (s : List ℕ) (j : ℕ) → bit_lsb0 s j ≡ true → first_from (suc m) s j ≡ j
unfolding first_from
first_here m s j e = rw e

first_on : (m : ℕ) (s : List ℕ) (j : ℕ) → bit_lsb0 s j ≡ false → first_from (suc m) s j ≡ first_from m s (suc j)
unfolding first_from
first_on m s j e = rw e

-- what is true of the first one
pub record IsFirst (m : ℕ) (p : List ℕ) (j f : ℕ) : Type 0 where
  pub low : j ≤ f
  pub high : f ≤ j + m
  pub rank : count_bits p f ≡ count_bits p j
  pub found : f < j + m → bit_lsb0 p f ≡ true

pub first_is : (m : ℕ) (p : List ℕ) (j : ℕ) → IsFirst m p j (first_from m p j)
first_is zero p j = rw (first_end p j) (record { low = omega arith; high = omega arith; rank = refl; found = λ h. absurd (omega arith) })
first_is (suc m) p j = go (first_is m p (suc j)) (bit_lsb0 p j) refl
  where
    go : IsFirst m p (suc j) (first_from m p (suc j)) → (b : Bool) → bit_lsb0 p j ≡ b → IsFirst (suc m) p j (first_from (suc m) p j)
    go i true e = rw (first_here m p j e) (record { low = omega arith; high = omega arith; rank = refl; found = λ h. e })
    go i false e =
        rw (first_on m p j e) (record {
          low =
              omega (arith, i.low);
          high = omega (arith, i.high);
          rank = i.rank ∙ count_not p j e;
          found = λ h. i.found (omega arith);
        })

-- one that is not where they end is before that
pub first_below : (p : List ℕ) {n j f : ℕ} → j ≤ n → f ≡ first_from (n - j) p j → (f ≡ n → ⊥) → f < n
first_below p {n} {j} {f} h e u =
    let l : f ≤ j + (n - j) = rw e (first_is (n - j) p j).high in
    omega (arith, l)

-- no column is left
pub present_end : (m : ℕ) (r p : List ℕ) (j : ℕ) → j + m ≤ first_from m p j → present_from m r p j ≡ []
unfolding present_from
present_end zero r p j h = refl
present_end (suc m) r p j h = go (present_end m r p (suc j)) (bit_lsb0 p j) refl
  where
    go : (suc j + m ≤ first_from m p (suc j) → present_from m r p (suc j) ≡ []) → (b : Bool) → bit_lsb0 p j ≡ b
        → present_from (suc m) r p j ≡ []
    go i true e = let w = rw (first_here m p j e) at h in absurd (omega arith)
    go i false e = let w = rw (first_on m p j e) at h in rw e (i (omega arith))

-- the first present column, and those after it
pub present_first : (m : ℕ) (r p : List ℕ) (j : ℕ) → first_from m p j < j + m
    → present_from m r p j ≡ present_at r (first_from m p j) ∷ present_from (j + m - suc (first_from m p j)) r p (suc (first_from m p j))
unfolding present_from
present_first zero r p j h = let w = rw (first_end p j) at h in absurd (omega arith)
present_first (suc m) r p j h = go (present_first m r p (suc j)) (bit_lsb0 p j) refl
  where
    go : (first_from m p (suc j) < suc j + m
        → present_from m r p (suc j)
        ≡ present_at r (first_from m p (suc j)) ∷ present_from (suc j + m - suc (first_from m p (suc j))) r p (suc (first_from m p (suc j))))
        → (b : Bool) → bit_lsb0 p j ≡ b
        → present_from (suc m) r p j
        ≡ present_at r (first_from (suc m) p j) ∷ present_from (j + suc m - suc (first_from (suc m) p j)) r p (suc (first_from (suc m) p j))
    go i true e =
        let n : j + suc m - suc j ≡ m = omega arith in
        rw (first_here m p j e, n, e)
    go i false e =
        let w = rw (first_on m p j e) at h in
        let n : j + suc m ≡ suc j + m = omega arith in
        rw (first_on m p j e, n, e) (i (omega arith))

-- ---- as a search goes
pub first_stop : (n j : ℕ) (s : List ℕ) → j < n → bit_lsb0 s j ≡ true → first_from (n - j) s j ≡ j
first_stop n j s h e =
    let k : n - j ≡ suc (n - (j + 1)) = omega arith in
    ap (λ (m : ℕ). first_from m s j) k ∙ first_here (n - (j + 1)) s j e

pub first_step : (n j : ℕ) (s : List ℕ) → j < n → bit_lsb0 s j ≡ false → first_from (n - j) s j ≡ first_from (n - (j + 1)) s (j + 1)
first_step n j s h e =
    let k : n - j ≡ suc (n - (j + 1)) = omega arith in
    ap (λ (m : ℕ). first_from m s j) k ∙ first_on (n - (j + 1)) s j e ∙ ap (first_from (n - (j + 1)) s) (sym (add-one j))

pub first_done : (n j : ℕ) (s : List ℕ) → n ≤ j → first_from (n - j) s j ≡ j
first_done n j s h =
    let k : n - j ≡ 0 = omega arith in
    ap (λ (m : ℕ). first_from m s j) k ∙ first_end s j

-- bits that are not set are passed
first_past : (m j : ℕ) (s : List ℕ) (f : ℕ) → j ≤ f → f ≤ j + m → ((k : ℕ) → j ≤ k → k < f → bit_lsb0 s k ≡ false)
    → first_from m s j ≡ first_from (j + m - f) s f
first_past zero j s f l h u =
    let e : j ≡ f = omega arith in
    let z : j + 0 - f ≡ 0 = omega arith in
    ap (first_from 0 s) e ∙ ap (λ (m : ℕ). first_from m s f) (sym z)
first_past (suc m) j s f l h u =
    dite (dec_le f j)
    (λ (a : f ≤ j).
    let e : j ≡ f = omega arith in
    let z : j + suc m - f ≡ suc m = omega arith in
    ap (first_from (suc m) s) e ∙ ap (λ (m : ℕ). first_from m s f) (sym z))
    (λ a.
    let z : suc j + m - f ≡ j + suc m - f = omega arith in
    first_on m s j (u j (omega arith) (omega arith)) ∙ first_past m (suc j) s f (omega arith) (omega arith) (λ k b c. u k (omega arith) c)
    ∙ ap (λ (m : ℕ). first_from m s f) z)

-- what a search of the bits below n tells
pub first_told : (s : List ℕ) (from n : ℕ) (r : Option ℕ)
    → MatchOption r ((k : ℕ) → from ≤ k → k < n → bit_lsb0 s k ≡ false)
    (λ i. (from ≤ i) × (i < n) × (bit_lsb0 s i ≡ true) × ((k : ℕ) → from ≤ k → k < i → bit_lsb0 s k ≡ false))
    → unwrap_or r (max from n) ≡ first_from (n - from) s from
first_told s from n None h =
    let f = max from n in
    let z : from + (n - from) - f ≡ 0 = omega arith in
    sym (first_past (n - from) from s f (omega arith) (omega arith) (λ k a b. h k a (omega arith))
    ∙ ap (λ (m : ℕ). first_from m s f) z ∙ first_end s f)
first_told s from n (Some i) (a, b, e, h) =
    let z : from + (n - from) - i ≡ n - i = omega arith in
    sym (first_past (n - from) from s i a (omega arith) h ∙ ap (λ (m : ℕ). first_from m s i) z ∙ first_stop n i s b e)

pub count_none : (s : List ℕ) → count_bits s 0 ≡ 0
unfolding count_bits
count_none s = refl

pub count_more : (s : List ℕ) (n : ℕ) → count_bits s (n + 1) ≡ count_bits s n + cond (bit_lsb0 s n) 1 0
unfolding count_bits
count_more s n = rw add-one

weight_small : (b : Bool) → cond b 1 0 ≤ 1
weight_small true = omega arith
weight_small false = omega arith

pub count_at_most : (s : List ℕ) (n : ℕ) → count_bits s n ≤ n
unfolding count_bits
count_at_most s zero = omega arith
count_at_most s (suc n) = omega (arith, count_at_most s n, weight_small (bit_lsb0 s n))

-- what a count goes by
pub ruleset counting = (count_none, count_more, count_at_most)

-- ---- with their null bits
abbrev pub slot_at : List ℕ → List ℕ → List ℕ → ℕ → Slot
slot_at r p im f = record { present = present_at r f; null = bit_lsb0 im (count_bits p f) }

pub slots_end : (r p im : List ℕ) (j : ℕ) → j ≤ count_of r → count_of r ≤ first_from (count_of r - j) p j → slots_at r p im j ≡ []
unfolding slots_at slots
slots_end r p im j h l = rw (present_end (count_of r - j) r p j (omega arith))

pub slots_first : (r p im : List ℕ) (j : ℕ) → j ≤ count_of r → first_from (count_of r - j) p j < count_of r
    → slots_at r p im j ≡ slot_at r p im (first_from (count_of r - j) p j) ∷ slots_at r p im (first_from (count_of r - j) p j + 1)
unfolding slots_at slots
slots_first r p im j h l =
    let n = count_of r in
    let f = first_from (n - j) p j in
    let i = first_is (n - j) p j in
    let e : j + (n - j) - suc f ≡ n - suc f = omega arith in
    let s : f + 1 ≡ suc f = add-one f in
    rw (present_first (n - j) r p j (omega arith), e, s, count_set p f (i.found (omega arith)), i.rank)
