-- For all shapes at once: every value of a domain is read back from its bytes, whatever stands behind them; whatever is read is in the
-- domain and had just these bytes; and bytes are refused exactly where they end early (9) or have a part out of range (10). Assumes
-- nothing.
use Prim.Native.Nat.{ℕ, ◌+◌, ◌≤◌}
use mathlib.Core.Path.{◌≡◌, refl, sym, ap, ◌∙◌, subst}
use mathlib.Core.Bool.{true, false}
use mathlib.Core.Logic.{⊎_elim}
use mathlib.Core.List.{List, ◌++◌}
use native.Mathlib.Omega.{arith}
use borrow.Author.Tests.{le-leb, lt-leb, leb-true, leb-false, eq-eqb, ne_eqb, eqb-true, eqb-false}
use lib.ListN.{length, take, drop, length-append}
use lib.Seq.{take_at, length-take-le}
use lib.Dec.{leb, eqb}
use Rattle.wire.specs.declared.refusal.Refusal.{Refusal}
use Rattle.wire.specs.Outcome.{ok, refused, why, after, out_of}
use Rattle.wire.specs.Number.{Bytes}
use Rattle.wire.proofs.Outcomes.{after_is_ok, after_refuses, test_is_ok, test_refuses, same_ok, ok_not_refused}
use Rattle.wire.proofs.Inverse.{bytes_take}
use Rattle.temporal.proofs.Firsts.{fault_most as timed_most}
use Rattle.value.specs.declared.shape.Shape.{Shape}
use Rattle.value.specs.declared.shape.Shape.TheVariants.{Unsigned, Signed, FloatBits, DoubleBits, YearByte, Timed, Fixed, Counted}
use Rattle.value.specs.declared.shape.Shape.TheVariants.{NotTaken}
use Rattle.value.specs.Data.{Datum}
use Rattle.value.specs.Domains.{domain}
use Rattle.value.specs.Shapes.{bytes_of, need, decode, fault}
use Rattle.value.specs.Inner.Shapes.{Sized}
use Rattle.value.specs.Columns.{is_taken, refusal_of}
use Rattle.value.specs.Reading.{taken, cut, judged, read_datum, placed, datum_of, Fails, short, range}
use Rattle.value.proofs.Facts.{need_bytes, decode_bytes, fault_bytes, taken_domain, whole, need_take, said}

-- read-back
pub back : (sh : Shape) (d : Datum) (p : ℕ) (rest : List ℕ) → domain sh d ≡ true
    → read_datum sh p (bytes_of sh d ++ rest) ≡ ok (d, length (bytes_of sh d))
unfolding read_datum cut judged
back sh d p rest h =
    let b = bytes_of sh d in
    let n = need_bytes sh d rest h in
    let l : length b ≤ length (b ++ rest) = simp length-append (omega arith) in
    rw (
      taken_domain sh d p h,
      n,
      le-leb (length b) (length (b ++ rest)) l,
      take_at b rest (length b) refl,
      decode_bytes sh d h,
      eq-eqb (fault sh b) 0 (fault_bytes sh d h),
    )

-- a shape that there is, is there at every place
pub taken_at : (sh : Shape) (p : ℕ) → is_taken sh ≡ true → taken sh p ≡ ok sh
unfolding taken
taken_at sh p h = rw h

-- and what is taken is the shape itself
pub taken_same : (sh sh' : Shape) (p : ℕ) → taken sh p ≡ ok sh' → (sh' ≡ sh) × (is_taken sh ≡ true)
unfolding taken
taken_same sh sh' p e =
    let t = test_is_ok (is_taken sh) sh (why (refusal_of sh) p) sh' e in
    (sym t.1, t.0)

-- what a reading that went well says
pub record Took (sh : Shape) (s : List ℕ) (d : Datum) (n : ℕ) : Type 0 where
  pub there : is_taken sh ≡ true
  pub size : n ≡ need sh s
  pub fits : n ≤ length s
  pub kept : fault sh (take n s) ≡ 0
  pub says : d ≡ decode sh (take n s)

pub took : (sh : Shape) (p : ℕ) (s : List ℕ) (d : Datum) (n : ℕ) → read_datum sh p s ≡ ok (d, n) → Took sh s d n
unfolding read_datum cut judged
took sh p s d n e =
    let a = after_is_ok (taken sh p) _ _ e in
    let i = taken_same sh a.0 p a.1 in
    let a₂ =
    subst (λ (x : Shape). after {B = Datum × ℕ} (cut x p s) (λ b. after {B = Datum × ℕ} (judged x p b) (λ d. ok (d, length b)))
    ≡ ok (d, n)) i.0 a.2 in
    let b = after_is_ok (cut sh p s) _ _ a₂ in
    let c = after_is_ok (judged sh p b.0) _ _ b.2 in
    let j = test_is_ok (leb (need sh s) (length s)) (take (need sh s) s) (why 9 p) b.0 b.1 in
    let k = test_is_ok (eqb (fault sh b.0) 0) (decode sh b.0) (out_of p (fault sh b.0)) c.0 c.1 in
    let f : need sh s ≤ length s = leb-true (need sh s) (length s) j.0 in
    let o = same_ok c.2 in
    let nn : length b.0 ≡ n = ap (λ (x : Datum × ℕ). x.1) o in
    let l : length b.0 ≡ need sh s = ap length (sym j.1) ∙ length-take-le (need sh s) s f in
    let bb : b.0 ≡ take n s = sym j.1 ∙ ap (λ (x : ℕ). take x s) (sym l ∙ nn) in
    record {
      there = i.1;
      size = sym nn ∙ l;
      fits = omega arith;
      kept = ap (fault sh) (sym bb) ∙ eqb-true (fault sh b.0) 0 k.0;
      says = sym (ap (λ (x : Datum × ℕ). x.0) o) ∙ sym k.1 ∙ ap (decode sh) bb;
    }

-- soundness: the stored form of a value is unique
pub sound : (sh : Shape) (p : ℕ) (s : List ℕ) (d : Datum) (n : ℕ) → Sized sh → Bytes s → read_datum sh p s ≡ ok (d, n)
    → (domain sh d ≡ true) × (n ≤ length s) × (bytes_of sh d ≡ take n s)
sound sh p s d n z h e =
    let t = took sh p s d n e in
    let b = take n s in
    let m : need sh b ≡ length b =
    ap (λ (j : ℕ). need sh (take j s)) t.size ∙ need_take sh s (omega arith) ∙ sym t.size ∙ sym (length-take-le n s t.fits) in
    let w = whole sh b z (bytes_take n s h) m t.kept (taken_at sh 0 t.there) in
    (subst (λ (x : Datum). domain sh x ≡ true) (sym t.says) w.0, t.fits, ap (bytes_of sh) t.says ∙ w.1)

-- a value that was read says what its place in the bytes says
pub said_read : (sh : Shape) (p : ℕ) (s : List ℕ) (at : ℕ) (d : Datum) (n : ℕ) → read_datum sh p (drop at s) ≡ ok (d, n)
    → datum_of s (placed (at + n) d) ≡ d
said_read sh p s at d n e =
    let t = took sh p (drop at s) d n e in
    ap (λ (x : Datum). datum_of s (placed (at + n) x)) t.says ∙ said sh s at n (sym t.size) t.fits ∙ sym t.says

-- ---- a shape that there is refuses exactly so
fails_9 : (sh : Shape) (p : ℕ) (s : List ℕ) (w : Refusal) → leb (need sh s) (length s) ≡ false → why 9 p ≡ w → Fails sh s p w
fails_9 sh p s w h e = subst (Fails sh s p) e (short (leb-false (need sh s) (length s) h))

fails_10 : (sh : Shape) (p : ℕ) (s b : List ℕ) (w : Refusal) → leb (need sh s) (length s) ≡ true → take (need sh s) s ≡ b
    → eqb (fault sh b) 0 ≡ false → out_of p (fault sh b) ≡ w → Fails sh s p w
fails_10 sh p s b w h f r e =
    let z : fault sh (take (need sh s) s) ≡ 0 → ⊥ = λ y. eqb-false (fault sh b) 0 r (ap (fault sh) (sym f) ∙ y) in
    let q : out_of p (fault sh (take (need sh s) s)) ≡ w = ap (λ (x : List ℕ). out_of p (fault sh x)) f ∙ e in
    subst (Fails sh s p) q (range (leb-true (need sh s) (length s) h) z)

pub fails : (sh : Shape) (p : ℕ) (s : List ℕ) (w : Refusal) → is_taken sh ≡ true → read_datum sh p s ≡ refused w → Fails sh s p w
unfolding read_datum cut judged
fails sh p s w t e =
    let e' = rw (taken_at sh p t) at e in
    ⊎_elim
    (λ (x : cut sh p s ≡ refused w).
    let r = test_refuses (leb (need sh s) (length s)) (take (need sh s) s) (why 9 p) w x in
    fails_9 sh p s w r.0 r.1)
    (λ x.
    ⊎_elim
    (λ (y : judged sh p x.0 ≡ refused w).
    let r = test_refuses (eqb (fault sh x.0) 0) (decode sh x.0) (out_of p (fault sh x.0)) w y in
    let v = test_is_ok (leb (need sh s) (length s)) (take (need sh s) s) (why 9 p) x.0 x.1 in
    fails_10 sh p s x.0 w v.0 v.1 r.0 r.1)
    (λ y. absurd (ok_not_refused y.2))
    (after_refuses (judged sh p x.0) _ w x.2))
    (after_refuses (cut sh p s) _ w e')

-- and the other way: bytes that fail are refused so
pub fails_back : (sh : Shape) (p : ℕ) (s : List ℕ) (w : Refusal) → is_taken sh ≡ true → Fails sh s p w → read_datum sh p s ≡ refused w
unfolding read_datum cut judged
fails_back sh p s _ t (short h) = rw (taken_at sh p t, lt-leb (need sh s) (length s) h)
fails_back sh p s _ t (range h r) = rw (taken_at sh p t, le-leb (need sh s) (length s) h, ne_eqb (fault sh (take (need sh s) s)) 0 r)

-- bytes that are all there, with no part out of range, are read
pub reads : (sh : Shape) (p : ℕ) (s : List ℕ) (n : ℕ) → is_taken sh ≡ true → need sh s ≡ n → n ≤ length s → fault sh (take n s) ≡ 0
    → read_datum sh p s ≡ ok (decode sh (take n s), n)
unfolding read_datum cut judged
reads sh p s n t e h z = rw (taken_at sh p t, e, le-leb n (length s) h, eq-eqb (fault sh (take n s)) 0 z, length-take-le n s h)

-- ---- no part has a greater number than 8
pub fault_most : (sh : Shape) (b : List ℕ) → fault sh b ≤ 8
unfolding fault
fault_most (Unsigned k) b = omega arith
fault_most (Signed k) b = omega arith
fault_most FloatBits b = omega arith
fault_most DoubleBits b = omega arith
fault_most YearByte b = omega arith
fault_most (Timed k) b = timed_most k b
fault_most (Fixed n) b = omega arith
fault_most (Counted k) b = omega arith
fault_most (NotTaken n) b = omega arith
