-- What each shape owes, a clause for each shape. (1) A value's bytes tell their own length, whatever follows. (2) They say the value. (3)
-- Bytes that are as many as they tell are those of the value that they say, and it is in the domain. (4) How many bytes a value takes is
-- told by those bytes. (5) A value's bytes are the last of its stored bytes. Assumes nothing.
use Prim.Native.Nat.{ℕ, zero, suc, ◌+◌, ◌-◌, ◌^◌, ◌≤◌, ◌<◌}
use mathlib.Core.Path.{◌≡◌, refl, sym, ap, ◌∙◌, subst}
use mathlib.Core.Bool.{Bool, true, ◌&&◌, false≢true}
use mathlib.Core.List.{List, ◌++◌, append_assoc}
use native.Mathlib.Omega.{arith}
use borrow.Author.Tests.{lt-ltb, le-leb, ltb-true, leb-true, eq-eqb, ne_eqb, eqb-true}
use lib.ListN.{length, take, drop, length-append, length-drop, take-append-drop}
use lib.Seq.{take_at, drop_at, take-take, take-add, drop-drop, length-take-le}
use lib.Dec.{leb, ltb, eqb}
use Rattle.wire.specs.Outcome.{ok}
use Rattle.wire.specs.Number.{Bytes, are_bytes, le_value, le_bytes}
use Rattle.wire.specs.Signed.{signed_of, twos_of}
use Rattle.wire.proofs.Outcomes.{ok_not_refused, both_true}
use Rattle.wire.proofs.Bytes.{le_bytes_length}
use Rattle.wire.proofs.Inverse.{le_back, le_sound, le_bound, bytes_take, bytes_drop, bytes_are}
use Rattle.wire.proofs.Signs.{signs_back, signs_sound, bytes_even}
use Rattle.temporal.proofs.Forms.{sized as timed_sized, back as timed_back, sound as timed_sound}
use Rattle.value.specs.declared.shape.Shape.{Shape}
use Rattle.value.specs.declared.shape.Shape.TheVariants.{Unsigned, Signed, FloatBits, DoubleBits, YearByte, Timed, Fixed, Counted}
use Rattle.value.specs.declared.shape.Shape.TheVariants.{NotTaken}
use Rattle.value.specs.Data.{Datum, null, int, uint, float, double, year, temporal, bytes, tag, int_in, number_in, temporal_in, bytes_in}
use Rattle.value.specs.Years.{year_of, byte_of_year, in_years}
use Rattle.value.specs.Domains.{domain}
use Rattle.value.specs.Shapes.{bytes_of, need, decode, fault}
use Rattle.value.specs.Inner.Shapes.{Sized}
use Rattle.value.specs.Reading.{taken, placed, datum_of}

-- ---- a value by its sort: what it holds, put back
abbrev pub made : ℕ → Datum → Datum
made zero d = null
made (suc zero) d = int (int_in d)
made (suc (suc zero)) d = uint (number_in d)
made (suc (suc (suc zero))) d = float (number_in d)
made (suc (suc (suc (suc zero)))) d = double (number_in d)
made (suc (suc (suc (suc (suc zero))))) d = year (number_in d)
made (suc (suc (suc (suc (suc (suc zero)))))) d = temporal (temporal_in d)
made (suc (suc (suc (suc (suc (suc (suc n))))))) d = bytes (bytes_in d)

pub is_made : (d : Datum) → made (tag d) d ≡ d
unfolding tag int_in number_in temporal_in bytes_in
is_made null = refl
is_made (int z) = refl
is_made (uint n) = refl
is_made (float n) = refl
is_made (double n) = refl
is_made (year n) = refl
is_made (temporal t) = refl
is_made (bytes b) = refl

-- a value whose sort is known
pub sorted : (d : Datum) (n : ℕ) (b : Bool) → (eqb (tag d) n && b) ≡ true → (made n d ≡ d) × (b ≡ true)
sorted d n b e =
    let w = both_true (eqb (tag d) n) b e in
    (ap (λ (k : ℕ). made k d) (sym (eqb-true (tag d) n w.0)) ∙ is_made d, w.1)

-- ---- (1)
counted_need : (k : ℕ) (b rest : List ℕ) → length b < 256 ^ k
    → k + le_value (take k ((le_bytes k (length b) ++ b) ++ rest)) ≡ length (le_bytes k (length b) ++ b)
counted_need k b rest h =
    let l = le_bytes_length k (length b) in
    let e : take k ((le_bytes k (length b) ++ b) ++ rest) ≡ le_bytes k (length b) =
    ap (take k) (append_assoc (le_bytes k (length b)) b rest) ∙ take_at (le_bytes k (length b)) (b ++ rest) k l in
    ap (λ (x : List ℕ). k + le_value x) e
    ∙ ap (λ (x : ℕ). k + x) (le_back k (length b) h)
    ∙ sym (length-append (le_bytes k (length b)) b ∙ ap (λ (x : ℕ). x + length b) l)

pub need_bytes : (sh : Shape) (d : Datum) (rest : List ℕ) → domain sh d ≡ true → need sh (bytes_of sh d ++ rest) ≡ length (bytes_of sh d)
unfolding need bytes_of domain
need_bytes (Unsigned k) d rest h = sym (le_bytes_length k (number_in d))
need_bytes (Signed k) d rest h = sym (le_bytes_length k (twos_of (256 ^ k) (int_in d)))
need_bytes FloatBits d rest h = sym (le_bytes_length 4 (number_in d))
need_bytes DoubleBits d rest h = sym (le_bytes_length 8 (number_in d))
need_bytes YearByte d rest h = sym (le_bytes_length 1 (byte_of_year (number_in d)))
need_bytes (Timed k) d rest h = sym (timed_sized k (temporal_in d))
need_bytes (Fixed n) d rest h = sym (eqb-true (length (bytes_in d)) n (both_true (are_bytes (bytes_in d)) _ (sorted d 7 _ h).1).1)
need_bytes (Counted k) d rest h =
    counted_need k (bytes_in d) rest (ltb-true (length (bytes_in d)) (256 ^ k) (both_true (are_bytes (bytes_in d)) _ (sorted d 7 _ h).1).1)
need_bytes (NotTaken n) d rest h = refl

-- ---- (2), and no part of a value in the domain is out of range
year_back : (n : ℕ) → in_years n ≡ true → year_of (le_value (le_bytes 1 (byte_of_year n))) ≡ n
unfolding le_bytes le_value
year_back zero h = refl
year_back (suc n) h =
    let w = both_true (leb 1901 (suc n)) (leb (suc n) 2155) (rw (ne_eqb (suc n) 0 (λ e. omega arith)) at h) in
    let a : 1901 ≤ suc n = leb-true 1901 (suc n) w.0 in
    let b : suc n ≤ 2155 = leb-true (suc n) 2155 w.1 in
    rw (le_back 1 (suc n - 1900) (omega arith), ne_eqb (suc n - 1900) 0 (λ e. omega arith)) (omega arith)

-- a year that there is is no later than 2155
pub year_most : (n : ℕ) → in_years n ≡ true → n ≤ 2155
year_most zero h = omega arith
year_most (suc n) h =
    leb-true (suc n) 2155 (both_true (leb 1901 (suc n)) (leb (suc n) 2155) (rw (ne_eqb (suc n) 0 (λ e. omega arith)) at h)).1

pub decode_bytes : (sh : Shape) (d : Datum) → domain sh d ≡ true → decode sh (bytes_of sh d) ≡ d
unfolding decode bytes_of domain
decode_bytes (Unsigned k) d h = let w = sorted d 2 _ h in ap uint (le_back k (number_in d) (ltb-true (number_in d) (256 ^ k) w.1)) ∙ w.0
decode_bytes (Signed k) d h =
    let w = sorted d 1 _ h in
    let s = signs_back (256 ^ k) (int_in d) w.1 in
    ap (λ (x : ℕ). int (signed_of (256 ^ k) x)) (le_back k (twos_of (256 ^ k) (int_in d)) s.0) ∙ ap int s.1 ∙ w.0
decode_bytes FloatBits d h = let w = sorted d 3 _ h in ap float (le_back 4 (number_in d) (ltb-true (number_in d) (256 ^ 4) w.1)) ∙ w.0
decode_bytes DoubleBits d h = let w = sorted d 4 _ h in ap double (le_back 8 (number_in d) (ltb-true (number_in d) (256 ^ 8) w.1)) ∙ w.0
decode_bytes YearByte d h = let w = sorted d 5 _ h in ap year (year_back (number_in d) w.1) ∙ w.0
decode_bytes (Timed k) d h = let w = sorted d 6 _ h in ap temporal (timed_back k (temporal_in d) w.1).1 ∙ w.0
decode_bytes (Fixed n) d h = (sorted d 7 _ h).0
decode_bytes (Counted k) d h =
    ap bytes (drop_at (le_bytes k (length (bytes_in d))) (bytes_in d) k (le_bytes_length k (length (bytes_in d)))) ∙ (sorted d 7 _ h).0
decode_bytes (NotTaken n) d h = absurd (false≢true h)

pub fault_bytes : (sh : Shape) (d : Datum) → domain sh d ≡ true → fault sh (bytes_of sh d) ≡ 0
unfolding fault bytes_of domain
fault_bytes (Unsigned k) d h = refl
fault_bytes (Signed k) d h = refl
fault_bytes FloatBits d h = refl
fault_bytes DoubleBits d h = refl
fault_bytes YearByte d h = refl
fault_bytes (Timed k) d h = (timed_back k (temporal_in d) (sorted d 6 _ h).1).0
fault_bytes (Fixed n) d h = refl
fault_bytes (Counted k) d h = refl
fault_bytes (NotTaken n) d h = refl

-- a shape with a domain is one that there is
pub taken_domain : (sh : Shape) (d : Datum) (p : ℕ) → domain sh d ≡ true → taken sh p ≡ ok sh
unfolding domain taken
taken_domain (Unsigned k) d p h = refl
taken_domain (Signed k) d p h = refl
taken_domain FloatBits d p h = refl
taken_domain DoubleBits d p h = refl
taken_domain YearByte d p h = refl
taken_domain (Timed k) d p h = refl
taken_domain (Fixed n) d p h = refl
taken_domain (Counted k) d p h = refl
taken_domain (NotTaken n) d p h = absurd (false≢true h)

-- ---- (3)
-- a number of k bytes is in range, and its bytes are those
number_whole : (k : ℕ) (b : List ℕ) → Bytes b → k ≡ length b → (le_value b < 256 ^ k) × (le_bytes k (le_value b) ≡ b)
number_whole k b h n =
    (subst (λ (j : ℕ). le_value b < 256 ^ j) (sym n) (le_bound b h), ap (λ (j : ℕ). le_bytes j (le_value b)) n ∙ le_sound b h)

year_whole : (n : ℕ) → n < 256 → (in_years (year_of n) ≡ true) × (byte_of_year (year_of n) ≡ n)
year_whole zero h = (refl, refl)
year_whole (suc n) h =
    let e = ne_eqb (suc n) 0 (λ e. omega arith) in (
      rw (
        e,
        ne_eqb (1900 + suc n) 0 (λ e. omega arith),
        le-leb 1901 (1900 + suc n) (omega arith),
        le-leb (1900 + suc n) 2155 (omega arith),
      ),
      rw e (omega arith),
    )

counted_whole : (k : ℕ) (b : List ℕ) → Bytes b → k + le_value (take k b) ≡ length b
    → ((are_bytes (drop k b) && ltb (length (drop k b)) (256 ^ k)) ≡ true) × (le_bytes k (length (drop k b)) ++ drop k b ≡ b)
counted_whole k b h n =
    let l : length (drop k b) ≡ le_value (take k b) = length-drop k b ∙ omega arith in
    let m : length (take k b) ≡ k = length-take-le k b (omega arith) in
    let w = number_whole k (take k b) (bytes_take k b h) (sym m) in (
      rw (bytes_are (drop k b) (bytes_drop k b h)) (lt-ltb (length (drop k b)) (256 ^ k) (subst (λ (j : ℕ). j < 256 ^ k) (sym l) w.0)),
      ap (λ (x : ℕ). le_bytes k x ++ drop k b) l ∙ ap (λ (x : List ℕ). x ++ drop k b) w.1 ∙ take-append-drop k b,
    )

pub whole : (sh : Shape) (b : List ℕ) → Sized sh → Bytes b → need sh b ≡ length b → fault sh b ≡ 0 → taken sh 0 ≡ ok sh
    → (domain sh (decode sh b) ≡ true) × (bytes_of sh (decode sh b) ≡ b)
unfolding need decode fault domain bytes_of taken tag int_in number_in temporal_in bytes_in
whole (Unsigned k) b z h n r t = let w = number_whole k b h n in (lt-ltb (le_value b) (256 ^ k) w.0, w.1)
whole (Signed k) b z h n r t =
    let w = number_whole k b h n in
    let s = signs_sound (256 ^ k) (le_value b) (bytes_even k z.0) w.0 in
    (s.0, ap (le_bytes k) s.1 ∙ w.1)
whole FloatBits b z h n r t = let w = number_whole 4 b h n in (lt-ltb (le_value b) (256 ^ 4) w.0, w.1)
whole DoubleBits b z h n r t = let w = number_whole 8 b h n in (lt-ltb (le_value b) (256 ^ 8) w.0, w.1)
whole YearByte b z h n r t =
    let w = number_whole 1 b h n in
    let y = year_whole (le_value b) w.0 in
    (y.0, ap (le_bytes 1) y.1 ∙ w.1)
whole (Timed k) b z h n r t = timed_sound k b (sym n) h r
whole (Fixed n) b z h e r t = (rw (bytes_are b h) (eq-eqb (length b) n (sym e)), refl)
whole (Counted k) b z h n r t = counted_whole k b h n
whole (NotTaken n) b z h e r t = absurd (ok_not_refused (sym t))

-- ---- (4)
pub need_take : (sh : Shape) (s : List ℕ) → need sh s ≤ length s → need sh (take (need sh s) s) ≡ need sh s
unfolding need
need_take (Unsigned k) s h = refl
need_take (Signed k) s h = refl
need_take FloatBits s h = refl
need_take DoubleBits s h = refl
need_take YearByte s h = refl
need_take (Timed k) s h = refl
need_take (Fixed n) s h = refl
need_take (Counted k) s h = ap (λ (x : List ℕ). k + le_value x) (take-take k (k + le_value (take k s)) s (omega arith))
need_take (NotTaken n) s h = refl

-- ---- (5)
-- the bytes behind the first k of the n at a place
said_bytes : (s : List ℕ) (at k n : ℕ) → k ≤ n → n ≤ length (drop at s)
    → take (length (drop k (take n (drop at s)))) (drop (at + n - length (drop k (take n (drop at s)))) s) ≡ drop k (take n (drop at s))
said_bytes s at k n m h =
    let t = drop at s in
    let l : length (drop k (take n t)) ≡ n - k = length-drop k (take n t) ∙ ap (λ (x : ℕ). x - k) (length-take-le n t h) in
    let p : at + n - (n - k) ≡ at + k = omega arith in
    let w : n ≡ k + (n - k) = omega arith in
    let r : drop k (take n t) ≡ take (n - k) (drop (at + k) s) =
    ap (λ (x : ℕ). drop k (take x t)) w ∙ ap (drop k) (take-add k (n - k) t)
    ∙ drop_at (take k t) (take (n - k) (drop k t)) k (length-take-le k t (omega arith)) ∙ ap (take (n - k)) (drop-drop k at s) in
    ap (λ (x : ℕ). take x (drop (at + n - x) s)) l ∙ ap (λ (x : ℕ). take (n - k) (drop x s)) p ∙ sym r

pub said : (sh : Shape) (s : List ℕ) (at n : ℕ) → need sh (drop at s) ≡ n → n ≤ length (drop at s)
    → datum_of s (placed (at + n) (decode sh (take n (drop at s)))) ≡ decode sh (take n (drop at s))
unfolding datum_of placed decode need
said (Unsigned k) s at n e h = refl
said (Signed k) s at n e h = refl
said FloatBits s at n e h = refl
said DoubleBits s at n e h = refl
said YearByte s at n e h = refl
said (Timed k) s at n e h = refl
said (Fixed k) s at n e h = ap bytes (said_bytes s at 0 n (omega arith) h)
said (Counted k) s at n e h = ap bytes (said_bytes s at k n (omega arith) h)
said (NotTaken k) s at n e h = refl
