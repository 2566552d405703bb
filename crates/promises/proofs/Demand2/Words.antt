-- TIME2 in document 01's words. Assumes nothing.
use Prim.Native.Nat.{ℕ, ◌+◌, ◌≤◌}
use mathlib.Core.Path.{◌≡◌, refl, ap, ◌∙◌}
use mathlib.Core.Bool.{Bool, true, false, cond}
use mathlib.Core.List.{List}
use native.Mathlib.Omega.{arith}
use borrow.Author.Tests.{le-leb}
use lib.ListN.{length, take, drop, length-drop}
use lib.Seq.{length-take-le}
use lib.Dec.{eqb}
use Rattle.wire.specs.Outcome.{ok, after, refused, out_of}
use Rattle.wire.specs.Number.{Bytes}
use Rattle.wire.proofs.Inverse.{bytes_drop, bytes_take}
use Rattle.temporal.specs.declared.parts.Time.{Time}
use Rattle.temporal.specs.declared.parts.Temporal.{Temporal}
use Rattle.temporal.specs.declared.storage.Storage.{Storage}
use Rattle.temporal.specs.declared.storage.Storage.TheVariants.{Time2}
use Rattle.temporal.specs.Fraction.{fraction_bytes}
use Rattle.temporal.specs.Ranges.{clock_fault}
use Rattle.temporal.specs.Times.{time_fault}
use Rattle.temporal.specs.Storage.{time_in}
use Rattle.temporal.specs.Reading.{temporal_size, temporal_decode, temporal_fault}
use Rattle.temporal.specs.Words.{worded}
use Rattle.temporal.proofs.Words.{as_worded}
use Rattle.temporal.proofs.Ranges.{clock_same}
use Rattle.value.specs.declared.datum.Value.{Value}
use Rattle.value.specs.declared.shape.Shape.TheVariants.{Timed}
use Rattle.value.specs.Columns.{shape_of}
use Rattle.value.specs.Data.{Datum, temporal}
use Rattle.value.specs.Reading.{placed, read_value}
use Rattle.promises.specs.Tables.{column}
use Rattle.promises.specs.Demand2.{in_range}

-- a temporal whose bytes are all there: its parts are judged, and the place after it is told
judged_so : (t : Bool) (v : Temporal) (n m o p q : ℕ) → n ≡ m
    → after {A = Datum × ℕ} {B = Value × ℕ}
    (after {A = Datum} {B = Datum × ℕ} (cond t (ok (temporal v)) (refused (out_of p q))) (λ d. ok (d, n)))
    (λ x. ok (placed (o + x.1) x.0, o + x.1))
    ≡ cond t (ok (Value.Temporal v, o + m)) (refused (out_of p q))
unfolding placed
judged_so true v n m o p q e = rw e
judged_so false v n m o p q e = refl

there : (n o : ℕ) (s : List ℕ) → o + n ≤ length s → n ≤ length (drop o s)
there n o s h = let l = length-drop o s in omega arith

read_timed : (k : Storage) (p : ℕ) (s : List ℕ) (o : ℕ) → o + temporal_size k ≤ length s
    → read_value (Timed k) p s o
    ≡ cond (eqb (temporal_fault k (take (temporal_size k) (drop o s))) 0)
    (ok (Value.Temporal (temporal_decode k (take (temporal_size k) (drop o s))), o + temporal_size k))
    (refused (out_of p (temporal_fault k (take (temporal_size k) (drop o s)))))
unfolding read_value
read_timed k p s o h =
    let l = there (temporal_size k) o s h in
    let b = take (temporal_size k) (drop o s) in
    rw (le-leb (temporal_size k) (length (drop o s)) l)
    (judged_so (eqb (temporal_fault k b) 0) (temporal_decode k b) _ (temporal_size k) o p (temporal_fault k b)
    (length-take-le (temporal_size k) (drop o s) l))

-- its parts and the first out of range are those of the words
fault_worded : (m0 : ℕ) (b : List ℕ) → temporal_decode (Time2 m0) b ≡ Temporal.Time (worded m0 b)
    → temporal_fault (Time2 m0) b ≡ time_fault (worded m0 b)
unfolding temporal_decode temporal_fault time_in clock_fault
fault_worded m0 b e = ap (λ (t : Temporal). time_fault (time_in t)) e

in_words : (k : Storage) (t : Time) (p n : ℕ) (b : List ℕ) → temporal_decode k b ≡ Temporal.Time t → temporal_fault k b ≡ time_fault t
    → cond (eqb (temporal_fault k b) 0) (ok (Value.Temporal (temporal_decode k b), n)) (refused (out_of p (temporal_fault k b))) ≡ in_range p n t
in_words k t p n b d f = rw (d, f, clock_same 838 t.hours t.minutes t.seconds t.micros)

pub time2_worded : (m0 p : ℕ) (s : List ℕ) (o : ℕ) → Bytes s → m0 ≤ 6 → o + (3 + fraction_bytes m0) ≤ length s
    → read_value (shape_of (column 19 m0 0)) p s o
    ≡ in_range p (o + (3 + fraction_bytes m0)) (worded m0 (take (3 + fraction_bytes m0) (drop o s)))
unfolding shape_of temporal_size
time2_worded m0 p s o h l g =
    let n = 3 + fraction_bytes m0 in
    let b = take n (drop o s) in
    let d = as_worded m0 b (length-take-le n (drop o s) (there n o s g)) (bytes_take n (drop o s) (bytes_drop o s h)) in
    rw (le-leb m0 6 l) (read_timed (Time2 m0) p s o g ∙ in_words (Time2 m0) (worded m0 b) p (o + n) b d (fault_worded m0 b d))
