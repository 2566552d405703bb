-- A value read and told as numbers: what the readers of each shape answer. Assumes nothing.
use Prim.Native.Nat.{ℕ, ◌+◌, ◌≤◌, ◌<◌, ◌^◌}
use mathlib.Core.Path.{◌≡◌, refl, sym, ap, ◌∙◌}
use mathlib.Core.Bool.{Bool, true, false, cond}
use mathlib.Core.List.{List}
use borrow.Author.Tests.{leb-true, leb-false}
use lib.Dec.{leb}
use native.Mathlib.Omega.{arith}
use lib.ListN.{length, take, drop, length-drop}
use Rattle.wire.specs.Number.{le_value}
use Rattle.wire.specs.Signed.{signed_of, twos_of}
use Rattle.wire.specs.Outcome.{Outcome, ok, refused, refuse, after}
use Rattle.wire.proofs.Outcomes.{after_is_ok, same_ok}
use Rattle.temporal.specs.declared.storage.Storage.{Storage}
use Rattle.temporal.specs.declared.parts.Temporal.{Temporal}
use Rattle.temporal.specs.Reading.{read_temporal}
use Rattle.value.specs.declared.shape.Shape.{Shape}
use Rattle.value.specs.declared.shape.Shape.TheVariants.{Unsigned, Signed, Timed}
use Rattle.value.specs.declared.datum.Value.{Value}
use Rattle.value.specs.declared.datum.Value.TheVariants.{Int, Uint}
use Rattle.value.specs.Columns.{is_taken}
use Rattle.value.specs.Ops.{shape_for}
use Rattle.value.specs.Shapes.{need, decode, fault}
use Rattle.value.specs.Data.{Datum, null, int, uint, float, double, year, temporal, bytes}
use Rattle.value.specs.Reading.{read_datum, read_value, placed}
use Rattle.value.proofs.Laws.{took}
use Rattle.value.proofs.Readers.{got, ends_early_lem, timed}
use Rattle.image.proofs.EndLaws.Ends.{value_within}
use Rattle.row_plan.specs.Runs.{value_numbers}
use Rattle.row_plan.specs.Inner.Numbers.{numbered, one_listed, integer_in, start_in}

-- ---- by another name of its op or its shape a value has the same numbers
pub at_op : (by p : ℕ) (s : List ℕ) (at : ℕ) {op o : ℕ} → op ≡ o
    → numbered by (read_value (shape_for op) p s at) ≡ numbered by (read_value (shape_for o) p s at)
at_op by p s at e = rw e

pub at_shape : (by p : ℕ) (s : List ℕ) (at : ℕ) {x y : Shape} → x ≡ y
    → numbered by (read_value x p s at) ≡ numbered by (read_value y p s at)
at_shape by p s at e = rw e

-- ---- integers: their numbers hang on no place
pub unsigned_short : (k by p : ℕ) (s : List ℕ) (at : ℕ) → 0 < k → length s < at + k
    → refuse 9 p ≡ numbered by (read_value (Unsigned k) p s at)
unfolding is_taken need
unsigned_short k by p s at z h = ap (numbered by) (ends_early_lem (Unsigned k) p s at refl (omega arith))

pub signed_short : (k by p : ℕ) (s : List ℕ) (at : ℕ) → 0 < k → length s < at + k
    → refuse 9 p ≡ numbered by (read_value (Signed k) p s at)
unfolding is_taken need
signed_short k by p s at z h = ap (numbered by) (ends_early_lem (Signed k) p s at refl (omega arith))

pub unsigned_got : (k by p : ℕ) (s : List ℕ) (at x : ℕ) → at + k ≤ length s → x ≡ le_value (take k (drop at s))
    → ok (one_listed 3 x, at + k) ≡ numbered by (read_value (Unsigned k) p s at)
unfolding is_taken need decode fault placed value_numbers
unsigned_got k by p s at x h e =
    ap (numbered by) (got (Unsigned k) p s at k (Uint x) (at + k) refl refl (omega arith) refl (ap Uint e) refl)

pub signed_got : (k by p : ℕ) (s : List ℕ) (at x : ℕ) → at + k ≤ length s
    → x ≡ twos_of (2 ^ 64) (signed_of (256 ^ k) (le_value (take k (drop at s))))
    → ok (one_listed 2 x, at + k) ≡ numbered by (read_value (Signed k) p s at)
unfolding is_taken need decode fault placed value_numbers
signed_got k by p s at x h e =
    let v = Int (signed_of (256 ^ k) (le_value (take k (drop at s)))) in
    ap (λ (n : ℕ). ok (one_listed 2 n, at + k)) e
    ∙ ap (numbered by) (got (Signed k) p s at k v (at + k) refl refl (omega arith) refl refl refl)

-- what is made of an integer that was read
abbrev pub made : (ℕ → List ℕ) → Outcome (ℕ × ℕ) → Outcome (List ℕ × ℕ)
made f o = after o (λ x. ok (f x.0, x.1))

-- a reader of integers, where they are there and where they are not
by_room : (f : ℕ → List ℕ) (k p : ℕ) (s : List ℕ) (at : ℕ) (r : Outcome (List ℕ × ℕ))
    → (at + k ≤ length s → ok (f (le_value (take k (drop at s))), at + k) ≡ r) → (length s < at + k → refuse 9 p ≡ r)
    → made f (integer_in k s at p) ≡ r
by_room f k p s at r there short = go (leb (at + k) (length s)) refl
  where
    go : (b : Bool) → leb (at + k) (length s) ≡ b → made f (cond b (ok (le_value (take k (drop at s)), at + k)) (refuse 9 p)) ≡ r
    go true e = there (leb-true (at + k) (length s) e)
    go false e = short (leb-false (at + k) (length s) e)

pub unsigned_read : (k by p : ℕ) (s : List ℕ) (at : ℕ) {o : Outcome (ℕ × ℕ)} → 0 < k → o ≡ integer_in k s at p
    → made (one_listed 3) o ≡ numbered by (read_value (Unsigned k) p s at)
unfolding is_taken need
unsigned_read k by p s at z e =
    ap (made (one_listed 3)) e
    ∙ by_room (one_listed 3) k p s at _ (λ h. unsigned_got k by p s at _ h refl)
    (unsigned_short k by p s at z)

pub signed_read : (k by p : ℕ) (s : List ℕ) (at : ℕ) {o : Outcome (ℕ × ℕ)} → 0 < k → o ≡ integer_in k s at p
    → made (λ x. one_listed 2 (twos_of (2 ^ 64) (signed_of (256 ^ k) x))) o ≡ numbered by (read_value (Signed k) p s at)
unfolding is_taken need
signed_read k by p s at z e =
    ap (made (λ x. one_listed 2 (twos_of (2 ^ 64) (signed_of (256 ^ k) x)))) e
    ∙ by_room (λ x. one_listed 2 (twos_of (2 ^ 64) (signed_of (256 ^ k) x))) k p s at _ (λ h. signed_got k by p s at _ h refl)
    (signed_short k by p s at z)

-- ---- a temporal, read as its own crate says
abbrev valued : Outcome (Temporal × ℕ) → Outcome (Value × ℕ)
valued o = after o (λ x. ok (Value.Temporal x.0, x.1))

pub timed_told : (k : Storage) (by p : ℕ) (s : List ℕ) (at : ℕ) {o : Outcome (Temporal × ℕ)} → o ≡ read_temporal k p s at
    → after o (λ x. ok (value_numbers by (Value.Temporal x.0), x.1)) ≡ numbered by (read_value (Timed k) p s at)
timed_told k by p s at {o} e = through o ∙ sym (ap (numbered by) (timed k p s at ∙ ap valued (sym e)))
  where
    through : (o : Outcome (Temporal × ℕ)) → after o (λ x. ok (value_numbers by (Value.Temporal x.0), x.1)) ≡ numbered by (valued o)
    through (ok x) = refl
    through (refused w) = refl

-- ---- a value that was read starts and ends within the bytes
starts : (e : ℕ) (d : Datum) → start_in (placed e d) ≤ e
unfolding placed
starts e null = omega arith
starts e (int z) = omega arith
starts e (uint n) = omega arith
starts e (float n) = omega arith
starts e (double n) = omega arith
starts e (year n) = omega arith
starts e (temporal t) = omega arith
starts e (bytes b) = omega arith

pub record Inside (s : List ℕ) (x : Value × ℕ) : Type 0 where
  pub start : start_in x.0 ≤ length s
  pub end : x.1 ≤ length s

pub value_inside : (sh : Shape) (p : ℕ) (s : List ℕ) (at : ℕ) (x : Value × ℕ) → at ≤ length s → read_value sh p s at ≡ ok x → Inside s x
unfolding read_value
value_inside sh p s at x l e =
    let a = after_is_ok (read_datum sh p (drop at s)) _ x e in
    let t = took sh p (drop at s) a.0.0 a.0.1 a.1 in
    let q = same_ok a.2 in
    let n : at + a.0.1 ≡ x.1 = ap (λ (y : Value × ℕ). y.1) q in
    let v : start_in (placed (at + a.0.1) a.0.0) ≡ start_in x.0 = ap (λ (y : Value × ℕ). start_in y.0) q in
    let b = starts (at + a.0.1) a.0.0 in
    record {
      start = omega (arith, t.fits, length-drop at s);
      end = value_within sh p s at x l e;
    }
