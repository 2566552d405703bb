-- Bytes put behind a value: what a shape needs is told by its own bytes, so only a refusal 9 may change. Assumes nothing.
use Prim.Native.Nat.{ℕ, ◌+◌, ◌≤◌, ◌<◌}
use mathlib.Core.Path.{◌≡◌, refl, ap}
use mathlib.Core.Bool.{Bool, true, false}
use mathlib.Core.Logic.{dite}
use mathlib.Core.List.{List, ◌++◌}
use native.Mathlib.Decide.{dec_le}
use native.Mathlib.Omega.{arith}
use borrow.Author.Tests.{le-leb, lt-leb}
use lib.ListN.{length, drop, length-append}
use lib.Seq.{take-append-le, drop-append-le}
use Rattle.wire.specs.Outcome.{refuse, why, Stays, ended}
use Rattle.wire.specs.Number.{le_value}
use Rattle.wire.proofs.Appends.{stays_eq, stays_after}
use Rattle.value.specs.declared.shape.Shape.{Shape}
use Rattle.value.specs.declared.shape.Shape.TheVariants.{Unsigned, Signed, FloatBits, DoubleBits, YearByte, Timed, Fixed, Counted}
use Rattle.value.specs.declared.shape.Shape.TheVariants.{NotTaken}
use Rattle.value.specs.Shapes.{need, prefix}
use Rattle.value.specs.Columns.{is_taken}
use Rattle.value.specs.Reading.{taken, cut, read_datum, placed, read_value}

-- ---- the bytes that tell the length
-- they are part of the value
pub prefix_within : (sh : Shape) (s : List ℕ) → prefix sh ≤ need sh s
unfolding prefix need
prefix_within (Unsigned k) s = omega arith
prefix_within (Signed k) s = omega arith
prefix_within FloatBits s = omega arith
prefix_within DoubleBits s = omega arith
prefix_within YearByte s = omega arith
prefix_within (Timed k) s = omega arith
prefix_within (Fixed n) s = omega arith
prefix_within (Counted k) s = omega arith
prefix_within (NotTaken n) s = omega arith

-- once they are there the need is told
pub need_front : (sh : Shape) (s t : List ℕ) → prefix sh ≤ length s → need sh (s ++ t) ≡ need sh s
unfolding prefix need
need_front (Unsigned k) s t h = refl
need_front (Signed k) s t h = refl
need_front FloatBits s t h = refl
need_front DoubleBits s t h = refl
need_front YearByte s t h = refl
need_front (Timed k) s t h = refl
need_front (Fixed n) s t h = refl
need_front (Counted k) s t h = ap (λ (x : List ℕ). k + le_value x) (take-append-le k s t h)
need_front (NotTaken n) s t h = refl

pub need_more : (sh : Shape) (s t : List ℕ) → need sh s ≤ length s → need sh (s ++ t) ≡ need sh s
need_more sh s t h = need_front sh s t (omega (arith, prefix_within sh s))

-- before they are there more is needed than there is
pub need_beyond : (sh : Shape) (s : List ℕ) → length s < prefix sh → length s < need sh s
need_beyond sh s h = omega (arith, prefix_within sh s)

-- ---- the value
-- bytes that are all there are cut out as before
pub cut_more : (sh : Shape) (p : ℕ) (s t : List ℕ) → need sh s ≤ length s → cut sh p (s ++ t) ≡ cut sh p s
unfolding cut
cut_more sh p s t h =
    let m = length-append s t in
    rw (
      need_more sh s t h,
      le-leb (need sh s) (length (s ++ t)) (omega arith),
      le-leb (need sh s) (length s) h,
      take-append-le (need sh s) s t h,
    )

pub cut_short : (sh : Shape) (p : ℕ) (s : List ℕ) → length s < need sh s → cut sh p s ≡ refuse 9 p
unfolding cut
cut_short sh p s h = rw (lt-leb (need sh s) (length s) h)

pub datum_more : (sh : Shape) (p : ℕ) (s t : List ℕ) → Stays 9 (read_datum sh p s) (read_datum sh p (s ++ t))
unfolding read_datum taken
datum_more sh p s t = go (is_taken sh) refl
  where
    go : (b : Bool) → is_taken sh ≡ b → Stays 9 (read_datum sh p s) (read_datum sh p (s ++ t))
    go false e = stays_eq _ _ (rw e)
    go true e =
        dite (dec_le (need sh s) (length s))
        (λ (h : need sh s ≤ length s). stays_eq _ _ (rw (e, cut_more sh p s t h)))
        (λ h. rw (e, cut_short sh p s (omega arith)) (ended (why 9 p) _ refl))

-- the same at a place
pub value_more : (sh : Shape) (p : ℕ) (s t : List ℕ) (at : ℕ) → at ≤ length s → Stays 9 (read_value sh p s at) (read_value sh p (s ++ t) at)
unfolding read_value
value_more sh p s t at h =
    rw (drop-append-le at s t h) (stays_after (λ x. (placed (at + x.1) x.0, at + x.1)) (datum_more sh p (drop at s) t))
