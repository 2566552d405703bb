-- What the functions over the bytes at hand use. Assumes nothing.
use Prim.Native.Nat.{ℕ, ◌+◌, ◌-◌, ◌*◌, ◌/◌, ◌%◌, ◌^◌, ◌≤◌, ◌<◌, min}
use mathlib.Core.Path.{◌≡◌, refl, sym, ap, subst, ◌∙◌}
use mathlib.Core.Logic.{dite}
use mathlib.Core.List.{List, ◌++◌}
use native.Mathlib.Nat.{pow-le-pow_right, zero-lt-suc}
use native.Mathlib.Decide.{dec_le}
use native.Mathlib.Omega.{arith}
use borrow.Author.Tests.{lt-ltb, lt-leb}
use lib.ListN.{length, get_or, take, drop, length-drop, get_or-append}
use lib.Seq.{length-take-le, get_or-take, get_or-drop, get_or-append-add, ext_get_or}
use Rattle.wire.specs.Bits.{digit, bit_lsb0}
use Rattle.wire.specs.Number.{le_value}
use Rattle.value.specs.declared.shape.Shape.TheVariants.{Unsigned, Signed, FloatBits, DoubleBits, YearByte, Timed, Fixed, Counted}
use Rattle.value.specs.declared.shape.Shape.TheVariants.{NotTaken}
use Rattle.value.specs.declared.shape.Shape.{Shape}
use Rattle.value.specs.Shapes.{need, prefix}
use Rattle.value.specs.Inner.Shapes.{Sized}
use Rattle.value.proofs.Appends.{prefix_within}
use Rattle.blocks.specs.Turns.{too_long, turn_of}
use Rattle.blocks.specs.Inner.Hands.{turn_by, Heads}

pub bit_front : (h b : List ℕ) (i : ℕ) → i / 8 < length h → bit_lsb0 h i ≡ bit_lsb0 (h ++ b) i
unfolding bit_lsb0
bit_front h b i l = ap (λ (x : ℕ). digit x (i % 8)) (sym (get_or-append h b 0 (i / 8) l))

pub bit_behind : (h b : List ℕ) (i : ℕ) → length h ≤ i / 8 → bit_lsb0 b (i - 8 * length h) ≡ bit_lsb0 (h ++ b) i
unfolding bit_lsb0
bit_behind h b i l =
    let k = i / 8 - length h in
    let d : (i - 8 * length h) / 8 ≡ k = omega arith in
    let m : (i - 8 * length h) % 8 ≡ i % 8 = omega arith in
    let n : length h + k ≡ i / 8 = omega arith in
    rw (d, m) (ap (λ (x : ℕ). digit x (i % 8))
    (sym (get_or-append-add h b k 0) ∙ ap (λ (j : ℕ). get_or (h ++ b) j 0) n))

-- ---- a counted value
pub count_small : (k v : ℕ) → k ≤ 4 → v < 256 ^ min k 8 → k + v < 18446744073709551616
count_small k v h l =
    let m : min k 8 ≡ k = omega arith in
    let p : 256 ^ k ≤ 256 ^ 4 = pow-le-pow_right (zero-lt-suc 255) h in
    let w : v < 256 ^ k = subst (λ (n : ℕ). v < 256 ^ n) m l in
    omega arith

pub count_is : (k : ℕ) (s : List ℕ) → k ≤ 4 → k + le_value (take (min k 8) (drop 0 s)) ≡ need (Counted k) s
unfolding need
count_is k s h = let m : min k 8 ≡ k = omega arith in rw m

-- no other value has length bytes
pub no_prefix : (sh : Shape) → ((k : ℕ) → sh ≡ Counted k → ⊥) → prefix sh ≡ 0
unfolding prefix
no_prefix (Unsigned k) h = refl
no_prefix (Signed k) h = refl
no_prefix FloatBits h = refl
no_prefix DoubleBits h = refl
no_prefix YearByte h = refl
no_prefix (Timed k) h = refl
no_prefix (Fixed n) h = refl
no_prefix (Counted k) h = absurd (h k refl)
no_prefix (NotTaken n) h = refl

-- ---- the first eight bytes of what is at hand
-- as many of them as there are
pub heads_take : (y : List ℕ) (from : ℕ) (head : List ℕ) (k : ℕ) → Heads y from head 8 → k ≤ 8 → from + k ≤ length y → take k head
    ≡ take k (drop from y)
heads_take y from head k h a b =
    let l : length (take k head) ≡ k = length-take-le k head (omega (arith, h.size)) in
    let m : length (take k (drop from y)) ≡ k = length-take-le k (drop from y) (rw length-drop (omega arith)) in
    ext_get_or 0 (take k head) (take k (drop from y)) (l ∙ sym m) (λ i c.
    let d : i < k = omega arith in
    get_or-take k head i 0 d ∙ h.each i (omega arith) ∙ sym (get_or-drop from y i 0) ∙ sym (get_or-take k (drop from y) i 0 d))

-- so they tell a value's need, once its length is there
pub need_head : (sh : Shape) (y : List ℕ) (from : ℕ) (head : List ℕ) → Sized sh → Heads y from head 8 → from + prefix sh ≤ length y
    → need sh head ≡ need sh (drop from y)
unfolding need prefix
need_head (Unsigned k) y from head z h l = refl
need_head (Signed k) y from head z h l = refl
need_head FloatBits y from head z h l = refl
need_head DoubleBits y from head z h l = refl
need_head YearByte y from head z h l = refl
need_head (Timed k) y from head z h l = refl
need_head (Fixed n) y from head z h l = refl
need_head (Counted k) y from head z h l = ap (λ (x : List ℕ). k + le_value x) (heads_take y from head k h (omega (arith, z)) l)
need_head (NotTaken n) y from head z h l = refl

-- ---- what the turn says of the first eight bytes it says of all
pub turn_head : (room : ℕ) (sh : Shape) (y : List ℕ) (from : ℕ) (head : List ℕ) → Sized sh → Heads y from head 8 → from ≤ length y
    → turn_by room (prefix sh) (length (drop from y)) (need sh head) ≡ turn_of room sh (drop from y)
unfolding turn_by turn_of too_long
turn_head room sh y from head z h l =
    let x = drop from y in
    let n = length-drop from y in
    dite (dec_le (prefix sh) (length x))
    (λ (a : prefix sh ≤ length x). rw (need_head sh y from head z h (omega arith)))
    (λ a.
    rw (
      lt-leb (prefix sh) (length x) (omega arith),
      lt-ltb (length x) (need sh head) (omega (arith, prefix_within sh head)),
      lt-ltb
          (length x) (need sh x) (omega (arith, prefix_within sh x)),
    ))
