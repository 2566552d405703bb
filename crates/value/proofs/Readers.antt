-- What the readers of the code use: a reading at a place that goes well, or ends early; and a width that writers share. Assumes nothing.
use Prim.Native.Nat.{ℕ, ◌+◌, ◌-◌, ◌≤◌, ◌<◌, min}
use mathlib.Core.Path.{◌≡◌, refl, ◌∙◌}
use mathlib.Core.Bool.{Bool, true, false, cond}
use mathlib.Core.Logic.{dite}
use mathlib.Core.List.{List}
use native.Mathlib.Decide.{dec_le}
use native.Mathlib.Omega.{arith}
use borrow.Author.Tests.{le-leb, lt-leb}
use lib.Dec.{eqb}
use lib.ListN.{length, take, drop, length-drop}
use lib.Seq.{length-take-le}
use Rattle.wire.specs.Outcome.{Outcome, ok, refuse, after, refused, why, out_of}
use Rattle.temporal.specs.declared.storage.Storage.{Storage}
use Rattle.temporal.specs.declared.parts.Temporal.{Temporal}
use Rattle.temporal.specs.Reading.{temporal_size, read_temporal, temporal_fault, temporal_decode}
use Rattle.temporal.proofs.Forms.{size_least}
use Rattle.value.specs.declared.shape.Shape.{Shape}
use Rattle.value.specs.declared.shape.Shape.TheVariants.{Timed, NotTaken}
use Rattle.value.specs.declared.datum.Value.{Value}
use Rattle.value.specs.Columns.{is_taken}
use Rattle.value.specs.Shapes.{need, decode, fault}
use Rattle.value.specs.Reading.{taken, cut, judged, read_datum, read_value, placed, short}
use Rattle.value.specs.Data.{Datum, temporal}
use Rattle.value.proofs.Laws.{reads, fails_back}

pub got : (sh : Shape) (p : ℕ) (s : List ℕ) (at n : ℕ) (v : Value) (next : ℕ) → is_taken sh ≡ true → need sh (drop at s) ≡ n
    → n ≤ length s - at
    → fault sh (take n (drop at s)) ≡ 0 → v ≡ placed (at + n) (decode sh (take n (drop at s))) → next ≡ at + n
    → ok (v, next) ≡ read_value sh p s at
unfolding read_value
got sh p s at n v next t e h z d m = rw (reads sh p (drop at s) n t e (rw length-drop h) z, d, m)

pub ends_early_lem : (sh : Shape) (p : ℕ) (s : List ℕ) (at : ℕ) → is_taken sh ≡ true → length s - at < need sh (drop at s)
    → refuse 9 p ≡ read_value sh p s at
unfolding read_value
ends_early_lem sh p s at t h = rw (fails_back sh p (drop at s) (why 9 p) t (short (rw length-drop h)))

-- a width of at most 8 is taken as it is
pub narrow : (k : ℕ) → k ≤ 8 → min k 8 ≡ k
narrow k h = omega arith

-- how long the n bytes at a place are, and those behind the first k of k + n
pub part_length : (s : List ℕ) (at n : ℕ) → n ≤ length s - at → length (take n (drop at s)) ≡ n
part_length s at n h = length-take-le n (drop at s) (rw length-drop h)

pub behind_length : (s : List ℕ) (at k n : ℕ) → k + n ≤ length s - at → length (drop k (take (k + n) (drop at s))) ≡ n
behind_length s at k n h = length-drop k (take (k + n) (drop at s)) ∙ rw (part_length s at (k + n) h) (omega arith)

-- a shape that there is not
pub no_column_lem : (n p : ℕ) (s : List ℕ) (at : ℕ) → refuse n p ≡ read_value (NotTaken n) p s at
unfolding read_value read_datum taken
no_column_lem n p s at = refl

-- the same judgement, of a temporal alone and of a temporal among values
judged_same : (b : Bool) (t : Temporal) (at m n p q : ℕ) → m ≡ n
    → after {B = Value × ℕ} (after {B = Datum × ℕ} (cond b (ok (temporal t)) (refused (out_of p q))) (λ d. ok (d, m)))
    (λ x. ok (placed (at + x.1) x.0, at + x.1))
    ≡ after {B = Value × ℕ} (cond {A = Outcome (Temporal × ℕ)} b (ok (t, at + n)) (refused (out_of p q)))
    (λ x. ok (Value.Temporal x.0, x.1))
unfolding placed
judged_same true t at m n p q e = rw e
judged_same false t at m n p q e = refl

-- a temporal: read as its own crate says
pub timed : (k : Storage) (p : ℕ) (s : List ℕ) (at : ℕ)
    → read_value (Timed k) p s at ≡ after (read_temporal k p s at) (λ x. ok (Value.Temporal x.0, x.1))
unfolding read_value read_datum taken cut judged need decode fault placed read_temporal
timed k p s at =
    dite (dec_le (at + temporal_size k) (length s))
    (λ h.
    let l : temporal_size k ≤ length (drop at s) = rw length-drop (omega arith) in
    let b = take (temporal_size k) (drop at s) in
    let n : length b ≡ temporal_size k = length-take-le (temporal_size k) (drop at s) l in
    rw (le-leb (temporal_size k) (length (drop at s)) l, le-leb (at + temporal_size k) (length s) h)
    (judged_same (eqb (temporal_fault k b) 0) (temporal_decode k b) at (length b) (temporal_size k) p (temporal_fault k b) n))
    (λ h.
    let l : length (drop at s) < temporal_size k = rw length-drop (omega (arith, size_least k)) in
    rw (lt-leb (temporal_size k) (length (drop at s)) l, lt-leb (at + temporal_size k) (length s) (omega arith)))

-- what a reader of the code answers with
pub ruleset reading = (got, ends_early_lem, part_length, behind_length, timed)
