-- What the bytes at hand say of a value stays so when more come. Assumes nothing.
use Prim.Native.Nat.{ℕ, ◌+◌, ◌-◌, ◌≤◌, ◌<◌}
use mathlib.Core.Path.{◌≡◌, sym, ap, subst, ◌∙◌}
use mathlib.Core.Bool.{true, false}
use mathlib.Core.List.{List, ◌++◌}
use native.Mathlib.Omega.{arith}
use borrow.Author.Tests.{le-leb, leb-true, lt-ltb, ltb-true, ltb-false}
use lib.ListN.{length, take, drop, length-append, length-take, take-append-drop}
use lib.Seq.{length-take-le}
use lib.Dec.{leb, ltb, eqb}
use Rattle.wire.specs.Outcome.{ok, after, out_of}
use Rattle.wire.proofs.Outcomes.{both_true, by_test, test_is_ok}
use Rattle.value.specs.declared.shape.Shape.{Shape}
use Rattle.value.specs.declared.shape.Shape.TheVariants.{Unsigned, Signed, FloatBits, DoubleBits, YearByte, Timed, Fixed, Counted}
use Rattle.value.specs.declared.shape.Shape.TheVariants.{NotTaken}
use Rattle.value.specs.Data.{Datum}
use Rattle.value.specs.Columns.{is_taken}
use Rattle.value.specs.Shapes.{need, decode, fault, prefix}
use Rattle.value.specs.Inner.Shapes.{Sized}
use Rattle.value.specs.Reading.{cut, judged, read_datum, placed, datum_of}
use Rattle.value.proofs.Facts.{need_take, said}
use Rattle.value.proofs.Laws.{taken_at}
use Rattle.value.proofs.Appends.{need_front, need_more, cut_more}
use Rattle.blocks.specs.Turns.{TurnSaid, wait, long, whole, too_long, turn_of}

-- ---- too long
pub record TooLong (room : ℕ) (sh : Shape) (x : List ℕ) : Type 0 where
  pub there : prefix sh ≤ length x
  pub over : room < need sh x

pub is_long_lem : (room : ℕ) (sh : Shape) (x : List ℕ) → too_long room sh x ≡ true → TooLong room sh x
unfolding too_long
is_long_lem room sh x e =
    let w = both_true (leb (prefix sh) (length x)) (ltb room (need sh x)) e in
    record { there = leb-true (prefix sh) (length x) w.0; over = ltb-true room (need sh x) w.1 }

pub long_is : (room : ℕ) (sh : Shape) (x : List ℕ) → prefix sh ≤ length x → room < need sh x → too_long room sh x ≡ true
unfolding too_long
long_is room sh x h l = rw (le-leb (prefix sh) (length x) h, lt-ltb room (need sh x) l)

pub not_long : (room : ℕ) (sh : Shape) (x : List ℕ) → too_long room sh x ≡ false → prefix sh ≤ length x → need sh x ≤ room
unfolding too_long
not_long room sh x e h =
    let f : ltb room (need sh x) ≡ false = rw (le-leb (prefix sh) (length x) h) at e in
    ltb-false room (need sh x) f

-- ---- what a turn says
-- it is one of three, which crates above cannot name
pub each_turn : (P : TurnSaid → Type 1) (t : TurnSaid) → P wait → ((n : ℕ) → P (long n)) → ((n : ℕ) → P (whole n)) → P t
each_turn P wait waits longs wholes = waits
each_turn P (long n) waits longs wholes = longs n
each_turn P (whole n) waits longs wholes = wholes n

module _ (room : ℕ) (sh : Shape) (x : List ℕ) where
  turn_by_cases : {P : Type 0} (t : TurnSaid) → turn_of room sh x ≡ t
      → (too_long room sh x ≡ true → long (need sh x - prefix sh) ≡ t → P)
      → (too_long room sh x ≡ false → length x < need sh x → wait ≡ t → P)
      → (too_long room sh x ≡ false → need sh x ≤ length x → whole (need sh x) ≡ t → P) → P
  unfolding turn_of
  turn_by_cases t e f g h =
      by_test (too_long room sh x) _ _ _ e f
      (λ u v.
      by_test (ltb (length x) (need sh x)) _ _ _ v (λ l w. g u (ltb-true (length x) (need sh x) l) w)
      (λ l w. h u (ltb-false (length x) (need sh x) l) w))

  pub turn_wait : turn_of room sh x ≡ wait → (too_long room sh x ≡ false) × (length x < need sh x)
  turn_wait e = turn_by_cases wait e (λ u v. absurd (cc)) (λ u l v. (u, l)) (λ u l v. absurd (cc))

  pub turn_long : (n : ℕ) → turn_of room sh x ≡ long n → TooLong room sh x × (need sh x - prefix sh ≡ n)
  turn_long n e =
      turn_by_cases (long n) e (λ u v. (is_long_lem room sh x u, cc)) (λ u l v. absurd (cc)) (λ u l v. absurd (cc))

  pub turn_whole : (n : ℕ) → turn_of room sh x ≡ whole n → (too_long room sh x ≡ false) × (need sh x ≤ length x) × (need sh x ≡ n)
  turn_whole n e = turn_by_cases (whole n) e (λ u v. absurd (cc)) (λ u l v. absurd (cc)) (λ u l v. (u, l, cc))

-- once the length is told
pub long_front : (room : ℕ) (sh : Shape) (x t : List ℕ) → prefix sh ≤ length x → too_long room sh (x ++ t) ≡ too_long room sh x
unfolding too_long
long_front room sh x t h =
    let m = length-append x t in
    rw (need_front sh x t h, le-leb (prefix sh) (length x) h, le-leb (prefix sh) (length (x ++ t)) (omega arith))

-- no length has more than 4 bytes
pub prefix_most : (sh : Shape) → Sized sh → prefix sh ≤ 4
unfolding prefix
prefix_most (Unsigned k) z = omega arith
prefix_most (Signed k) z = omega arith
prefix_most FloatBits z = omega arith
prefix_most DoubleBits z = omega arith
prefix_most YearByte z = omega arith
prefix_most (Timed k) z = omega arith
prefix_most (Fixed n) z = omega arith
prefix_most (Counted k) z = z
prefix_most (NotTaken n) z = omega arith

-- ---- a value whose bytes are all there: read as from its bytes alone
pub read_whole : (sh : Shape) (j : ℕ) (x t : List ℕ) → is_taken sh ≡ true → need sh x ≤ length x
    → read_datum sh j (x ++ t) ≡ after (judged sh j (take (need sh x) x)) (λ d. ok (d, need sh x))
unfolding read_datum cut
read_whole sh j x t e h =
    let n = need sh x in
    rw (taken_at sh j e, cut_more sh j x t h, le-leb n (length x) h, length-take-le n x h)

-- and where it stands in the carry c, behind nb bytes
pub said_whole : (sh : Shape) (j nb : ℕ) (c x : List ℕ) (d : Datum) → need sh x ≤ length x → take (need sh x) (drop nb c)
    ≡ take (need sh x) x → judged sh j (take (need sh x) x) ≡ ok d
    → datum_of c (placed (nb + need sh x) d) ≡ d
unfolding judged
said_whole sh j nb c x d h e q =
    let n = need sh x in
    let z = drop nb c in
    let l : length (take n z) ≡ n = ap length e ∙ length-take-le n x h in
    let m : n ≤ length z = omega (arith, length-take n z) in
    let k : length (take n x) ≡ n = length-take-le n x h in
    let v : need sh (take n x) ≡ n = need_take sh x h in
    let w : need sh z ≡ n =
    ap (need sh) (sym (take-append-drop n z)) ∙ ap (λ (s : List ℕ). need sh (s ++ drop n z)) e ∙ need_more sh (take n x) (drop n z)
    (omega arith) ∙ v in
    let a = said sh c nb n w m in
    let i : decode sh (take n z) ≡ d = ap (decode sh) e ∙ (test_is_ok (eqb (fault sh (take n x)) 0) (decode sh (take n x))
    (out_of j (fault sh (take n x))) d q).1 in
    subst (λ (b : Datum). datum_of c (placed (nb + n) b) ≡ b) i a
