-- Tests that antt computes: one that passes at each key of an arm of a match passes at any of them. So an arm that serves several families
-- tells what they have in common. Assumes nothing.
use Prim.Native.Nat.{ℕ}
use mathlib.Core.Bool.{Bool, true, false, ◌&&◌, beq}
use mathlib.Core.List.{List, [], ◌∷◌}
use mathlib.Core.Path.{◌≡◌, refl, sym, subst, ◌∙◌}
use mathlib.Core.Logic.{inl, inr}
use lib.Dec.{T}
use lib.ListN.{get_or}
use types.Run.{OneOf}
use denote.Enum.Declared.{tag_of}
use Rattle.wire.proofs.Each.{left, right}
use Rattle.value.specs.declared.types.Family.{Family}
use Rattle.value.specs.contracts.types.Family.{the_type}
use Rattle.value.specs.declared.types.Family.TheVariants.{Integer, Float, Double, Year, Timestamp, Date, Time, Datetime, Timestamp2}
use Rattle.value.specs.declared.types.Family.TheVariants.{Datetime2, Time2, Varchar, Char, Blob, Json, Bit, Decimal, Enum, Set}
use Rattle.value.specs.declared.types.Family.TheVariants.{Unknown}

-- ---- tests
-- a test passes at each of a list, and so at whatever is one of it
abbrev pub every : (ℕ → Bool) → List ℕ → Bool
every f [] = true
every f (x ∷ xs) = f x && every f xs

at_keys : (f : ℕ → Bool) (ks : List ℕ) (x : ℕ) → T (every f ks) → OneOf ks x → T (f x)
at_keys f [] x t e = absurd e
at_keys f (k ∷ []) x t e = subst (λ (y : ℕ). T (f y)) (sym e) (left (f k) true t)
at_keys f (k ∷ (l ∷ ks)) x t (inl e) = subst (λ (y : ℕ). T (f y)) (sym e) (left (f k) (every f (l ∷ ks)) t)
at_keys f (k ∷ (l ∷ ks)) x t (inr e) = at_keys f (l ∷ ks) x (right (f k) (every f (l ∷ ks)) t) e

-- ---- tags
-- a family of each tag
abbrev pub sample : ℕ → Family
sample n =
    get_or
    (Integer 0 ∷ Float ∷ Double ∷ Year ∷ Timestamp ∷ Date ∷ Time ∷ Datetime ∷ Timestamp2 ∷
    Datetime2 ∷ Time2 ∷ Varchar ∷ Char ∷ Blob ∷ Json ∷ Bit ∷ Decimal ∷ Enum ∷ Set ∷ [])
    n Unknown

-- what does not depend on an integer's width is told by the tag
by_tag : {A : Type 0} (g : Family → A) → ((k : ℕ) → g (Integer k) ≡ g (Integer 0)) → (f : Family) → g f ≡ g (sample (tag_of the_type f))
by_tag g h (Integer k) = h k
by_tag g h Float = refl
by_tag g h Double = refl
by_tag g h Year = refl
by_tag g h Timestamp = refl
by_tag g h Date = refl
by_tag g h Time = refl
by_tag g h Datetime = refl
by_tag g h Timestamp2 = refl
by_tag g h Datetime2 = refl
by_tag g h Time2 = refl
by_tag g h Varchar = refl
by_tag g h Char = refl
by_tag g h Blob = refl
by_tag g h Json = refl
by_tag g h Bit = refl
by_tag g h Decimal = refl
by_tag g h Enum = refl
by_tag g h Set = refl
by_tag g h Unknown = refl

-- so an arm that has the same answer at each of its keys, by a test of answers, has it at the family
pub at_arm :
    {A : Type 0} (eq : A → A → Bool) → ((a b : A) → T (eq a b) → a ≡ b) →
    (g : Family → A) (a : A) (ks : List ℕ) (f : Family) → ((k : ℕ) → g (Integer k) ≡ g (Integer 0)) →
    T (every (λ (t : ℕ). eq (g (sample t)) a) ks) → OneOf ks (tag_of the_type f) → g f ≡ a
at_arm eq eq→ g a ks f w t o =
    let x = tag_of the_type f in
    by_tag g w f ∙ eq→ (g (sample x)) a (at_keys (λ (t : ℕ). eq (g (sample t)) a) ks x t o)

-- the test of answers that are truth values
pub beq→eq : (a b : Bool) → T (beq a b) → a ≡ b
beq→eq true true t = refl
beq→eq true false t = absurd t
beq→eq false true t = absurd t
beq→eq false false t = refl
