-- A value is told by its own bytes, wherever they stand and whatever stands around them, and so is one that is out of range. Assumes
-- nothing.
use Prim.Native.Nat.{ℕ, ◌+◌, ◌≤◌}
use mathlib.Core.Path.{◌≡◌, refl, sym, ap, ◌∙◌}
use mathlib.Core.Bool.{Bool, true, false}
use mathlib.Core.List.{List, ◌++◌}
use native.Mathlib.Omega.{arith}
use borrow.Author.Tests.{le-leb}
use lib.ListN.{length, take, drop, length-drop, take-append-drop}
use lib.Seq.{length-take-le}
use Rattle.wire.specs.Outcome.{ok}
use Rattle.wire.specs.Parts.{Moved}
use Rattle.value.specs.declared.shape.Shape.{Shape}
use Rattle.value.specs.Data.{Datum}
use Rattle.value.specs.Shapes.{need}
use Rattle.value.specs.Columns.{is_taken}
use Rattle.value.specs.Reading.{taken, cut, read_datum, placed, read_value}
use Rattle.value.proofs.Facts.{need_take}
use Rattle.value.proofs.Laws.{took}
use Rattle.value.proofs.Appends.{need_more}

-- what is needed is told by the bytes that are needed
pub need_moved : (sh : Shape) (s t : List ℕ) → need sh s ≤ length s → need sh s ≤ length t → take (need sh s) t ≡ take (need sh s) s
    → need sh t ≡ need sh s
need_moved sh s t h l e =
    let n = need sh s in
    let b = take n s in
    let m : need sh b ≡ n = need_take sh s h in
    let w : need sh b ≤ length b = omega (arith, m, length-take-le n s h) in
    ap (need sh) (sym (take-append-drop n t))
    ∙ ap (λ (x : List ℕ). need sh (x ++ drop n t)) e
    ∙ need_more sh b (drop n t) w
    ∙ m

cut_moved : (sh : Shape) (p : ℕ) (s t : List ℕ) → need sh s ≤ length s → need sh s ≤ length t → take (need sh s) t ≡ take (need sh s) s
    → cut sh p t ≡ cut sh p s
unfolding cut
cut_moved sh p s t h l e = rw (need_moved sh s t h l e, le-leb (need sh s) (length s) h, le-leb (need sh s) (length t) l, e)

-- so bytes that are all there are read the same, whether they are a value or out of range
pub datum_moved : (sh : Shape) (p : ℕ) (s t : List ℕ) → need sh s ≤ length s → need sh s ≤ length t
    → take (need sh s) t ≡ take (need sh s) s
    → read_datum sh p t ≡ read_datum sh p s
unfolding read_datum taken
datum_moved sh p s t h l e = go (is_taken sh) refl
  where
    go : (b : Bool) → is_taken sh ≡ b → read_datum sh p t ≡ read_datum sh p s
    go false q = rw q
    go true q = rw (q, cut_moved sh p s t h l e)

-- a value that was read, at another place
pub value_moved : (sh : Shape) (p : ℕ) (s : List ℕ) (at : ℕ) (d : Datum) (n : ℕ) (t : List ℕ) (to : ℕ)
    → read_datum sh p (drop at s) ≡ ok (d, n)
    → Moved n s at t to
    → read_value sh p t to ≡ ok (placed (to + n) d, to + n)
unfolding read_value
value_moved sh p s at d n t to e m =
    let w = took sh p (drop at s) d n e in
    let l : n ≤ length (drop to t) = rw length-drop (omega (arith, m.whole)) in
    rw (datum_moved_by n w.size w.fits l m.same, e)
  where
    datum_moved_by : (k : ℕ) → k ≡ need sh (drop at s) → k ≤ length (drop at s) → k ≤ length (drop to t)
        → take k (drop to t) ≡ take k (drop at s)
        → read_datum sh p (drop to t) ≡ read_datum sh p (drop at s)
    datum_moved_by k q a b c =
        datum_moved sh p (drop at s) (drop to t) (omega (arith, a, q)) (omega (arith, b, q))
        (ap (λ (x : ℕ). take x (drop to t)) (sym q) ∙ c ∙ ap (λ (x : ℕ). take x (drop at s)) q)
