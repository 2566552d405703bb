-- What an accepted column is for the record: the one table takes it by its real type, flagged unsigned or not, and its real type is numeric
-- exactly if its type is. Assumes nothing.
use Prim.Native.Nat.{ℕ}
use mathlib.Core.Path.{◌≡◌, refl, sym, ap, ◌∙◌}
use mathlib.Core.Bool.{Bool, true, false, cond, ◌&&◌, ◌||◌}
use mathlib.Core.List.{List}
use borrow.Author.Tests.{eqb-true}
use lib.Dec.{eqb}
use Rattle.wire.proofs.Outcomes.{by_test, both_true}
use Rattle.value.specs.declared.types.Family.{Family}
use Rattle.value.specs.declared.types.Family.TheVariants.{Integer, Float, Double, Year, Timestamp, Date, Time, Datetime, Timestamp2}
use Rattle.value.specs.declared.types.Family.TheVariants.{Datetime2, Time2, Varchar, Char, Blob, Json, Bit, Decimal, Enum, Set, Unknown}
use Rattle.value.specs.declared.shape.Shape.TheVariants.{Unsigned, Signed, NotTaken}
use Rattle.value.specs.Types.{family_of, or30, real_type, is_numeric}
use Rattle.value.specs.Columns.{shape_if, shape_in, shape_of, is_taken}
use Rattle.map_check.specs.declared.declare.Declared.{Declared}
use Rattle.map_check.specs.Columns.{meta_byte, declared, is_real, real_column, is_accepted}

-- ---- the sign of a column decides nothing of whether it is taken
by_sign : (t u v : Bool) (k : ℕ)
    → is_taken (shape_if t (cond u (Unsigned k) (Signed k))) ≡ is_taken (shape_if t (cond v (Unsigned k) (Signed k)))
unfolding is_taken
by_sign true true true k = refl
by_sign true true false k = refl
by_sign true false true k = refl
by_sign true false false k = refl
by_sign false u v k = refl

sign_free_in : (f : Family) (m0 m1 : ℕ) (u v : Bool) → is_taken (shape_in f m0 m1 u) ≡ is_taken (shape_in f m0 m1 v)
unfolding shape_in
sign_free_in (Integer k) m0 m1 u v = by_sign (eqb m0 0 && eqb m1 0) u v k
sign_free_in Float m0 m1 u v = refl
sign_free_in Double m0 m1 u v = refl
sign_free_in Year m0 m1 u v = refl
sign_free_in Timestamp m0 m1 u v = refl
sign_free_in Date m0 m1 u v = refl
sign_free_in Time m0 m1 u v = refl
sign_free_in Datetime m0 m1 u v = refl
sign_free_in Timestamp2 m0 m1 u v = refl
sign_free_in Datetime2 m0 m1 u v = refl
sign_free_in Time2 m0 m1 u v = refl
sign_free_in Varchar m0 m1 u v = refl
sign_free_in Char m0 m1 u v = refl
sign_free_in Blob m0 m1 u v = refl
sign_free_in Json m0 m1 u v = refl
sign_free_in Bit m0 m1 u v = refl
sign_free_in Decimal m0 m1 u v = refl
sign_free_in Enum m0 m1 u v = refl
sign_free_in Set m0 m1 u v = refl
sign_free_in Unknown m0 m1 u v = refl

pub sign_free : (kind m0 m1 : ℕ) (u v : Bool)
    → is_taken (shape_of (record { real = kind; m0 = m0; m1 = m1; unsigned = u }))
    ≡ is_taken (shape_of (record { real = kind; m0 = m0; m1 = m1; unsigned = v }))
unfolding shape_of
sign_free kind m0 m1 u v = go (eqb kind 10)
  where
    go : (t : Bool) → is_taken (cond t (NotTaken 4) (shape_in (family_of kind) m0 m1 u))
        ≡ is_taken (cond t (NotTaken 4) (shape_in (family_of kind) m0 m1 v))
    go true = refl
    go false = sign_free_in (family_of kind) m0 m1 u v

pub accepted_taken : (c : Declared) (unsigned : Bool) → is_accepted c ≡ true → is_taken (shape_of (real_column c unsigned)) ≡ true
unfolding is_accepted
accepted_taken c unsigned e = sign_free c.real c.m0 c.m1 unsigned false ∙ (both_true (is_real c.kind c.real) _ e).1

-- ---- a type and its real type are of one class
pub one_of : {P : Type 0} (a b : Bool) → (a || b) ≡ true → (a ≡ true → P) → (b ≡ true → P) → P
one_of true b e f g = f refl
one_of false b e f g = g e

-- what 254 may be
not_numeric_lem : (real : ℕ) → (eqb real 247 || (eqb real 248 || eqb real 254)) ≡ true → is_numeric (family_of real) ≡ false
unfolding family_of is_numeric
not_numeric_lem real e =
    one_of (eqb real 247) _ e (λ a. rw (eqb-true real 247 a) refl)
    (λ e2. one_of (eqb real 248) (eqb real 254) e2 (λ a. rw (eqb-true real 248 a) refl) (λ a. rw (eqb-true real 254 a) refl))

numeric_real : (kind m0 real : ℕ) → real_type kind m0 ≡ real → is_real kind real ≡ true
    → is_numeric (family_of kind) ≡ is_numeric (family_of real)
unfolding real_type is_real family_of is_numeric
numeric_real kind m0 real e h =
    by_test (eqb kind 10) 14 (cond (eqb kind 254) (or30 m0) kind) real e
    (λ ten e1. rw (eqb-true kind 10 ten, sym e1) refl)
    (λ other e1.
    by_test (eqb kind 254) (or30 m0) kind real e1
    (λ char e2. rw (eqb-true kind 254 char) (sym (not_numeric_lem real (rw char at h))))
    (λ itself e2. ap (λ (k : ℕ). is_numeric (family_of k)) e2))

pub accepted_numeric : (kind : ℕ) (meta : List ℕ) → is_accepted (declared kind meta) ≡ true
    → is_numeric (family_of (declared kind meta).kind) ≡ is_numeric (family_of (declared kind meta).real)
unfolding is_accepted declared
accepted_numeric kind meta e =
    numeric_real kind (meta_byte 0 kind meta) (real_type kind (meta_byte 0 kind meta)) refl
    (both_true (is_real kind (real_type kind (meta_byte 0 kind meta))) _ e).0
