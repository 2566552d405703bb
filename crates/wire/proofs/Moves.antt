-- What was read is told by its own bytes, wherever they stand and whatever stands around them. Assumes nothing.
use Prim.Native.Nat.{ℕ, ◌+◌, ◌-◌, ◌≤◌, ◌<◌}
use mathlib.Core.Path.{◌≡◌, sym, ap, ◌∙◌}
use mathlib.Core.List.{List, ◌++◌}
use native.Mathlib.Nat.{add-zero}
use native.Mathlib.Omega.{arith}
use borrow.Author.Tests.{le-leb, lt-leb}
use lib.ListN.{length, get_or, take, drop, length-append, length-drop}
use lib.Seq.{length-take-le, take-take, take-add, drop_at, drop-drop, get_or-take, get_or-drop}
use Rattle.wire.specs.Outcome.{ok}
use Rattle.wire.specs.Parts.{Moved}
use Rattle.wire.specs.Packed.{long_form, packed_form, read_packed}
use Rattle.wire.proofs.Forms.{Form, itself, behind, tag_form, read_form}
use Rattle.wire.proofs.Appends.{part_more}

-- ---- bytes that are the same
-- k bytes behind i, of n that are the same
pub front_part : (a b : List ℕ) (n i k : ℕ) → i + k ≤ n → n ≤ length a → n ≤ length b → take n a ≡ take n b
    → take k (drop i a) ≡ take k (drop i b)
front_part a b n i k h l m e =
    let f : take (i + k) a ≡ take (i + k) b = sym (take-take (i + k) n a h) ∙ ap (take (i + k)) e ∙ take-take (i + k) n b h in
    let cut : (x : List ℕ) → n ≤ length x → drop i (take (i + k) x) ≡ take k (drop i x) =
    λ x q. ap (drop i) (take-add i k x) ∙ drop_at (take i x) (take k (drop i x)) i (length-take-le i x (omega arith)) in
    sym (cut a l) ∙ ap (drop i) f ∙ cut b m

-- of bytes that were moved a part was
pub moved_part : {n : ℕ} {s : List ℕ} {at : ℕ} {t : List ℕ} {to : ℕ} → Moved n s at t to → at + n ≤ length s → (i k : ℕ) → i + k ≤ n
    → Moved k s (at + i) t (to + i)
moved_part {n} {s} {at} {t} {to} m h i k l =
    let a : n ≤ length (drop to t) = rw length-drop (omega (arith, m.whole)) in
    let b : n ≤ length (drop at s) = rw length-drop (omega arith) in
    record {
      whole = omega (arith, m.whole);
      same =
          ap (take k) (sym (drop-drop i to t)) ∙ front_part (drop to t) (drop at s) n i k l a b m.same ∙ ap (take k) (drop-drop i at s);
    }

-- and a byte
pub moved_byte : {n : ℕ} {s : List ℕ} {at : ℕ} {t : List ℕ} {to : ℕ} → Moved n s at t to → 0 < n → get_or t to 0 ≡ get_or s at 0
moved_byte {n} {s} {at} {t} {to} m h =
    let first : (x : List ℕ) (p : ℕ) → get_or (take n (drop p x)) 0 0 ≡ get_or x p 0 =
    λ x p. get_or-take n (drop p x) 0 0 h ∙ get_or-drop p x 0 0 ∙ ap (λ (q : ℕ). get_or x q 0) (add-zero p) in
    sym (first t to) ∙ ap (λ (x : List ℕ). get_or x 0 0) m.same ∙ first s at

-- with bytes behind them they stand where they stood
pub moved_more : (s t : List ℕ) (at n : ℕ) → at + n ≤ length s → Moved n s at (s ++ t) at
moved_more s t at n h = record { whole = omega (arith, length-append s t); same = part_more s t at n h }

-- ---- packed integers
pub packed_moved : (s : List ℕ) (at v next : ℕ) (t : List ℕ) (to : ℕ) → read_packed s at ≡ ok (v, next) → Moved (next - at) s at t to
    → read_packed t to ≡ ok (v, to + (next - at))
unfolding read_packed packed_form long_form
packed_moved s at v next t to e = go (read_form s at v next e)
  where
    go : {v next : ℕ} → Form s at v next → Moved (next - at) s at t to → read_packed t to ≡ ok (v, to + (next - at))
    go (itself h b) m =
        let o : at + 1 - at ≡ 1 = omega arith in
        let l : to < length t = omega (arith, m.whole) in
        rw (o, lt-leb (length t) to l, moved_byte m (omega arith), le-leb (get_or s at 0) 250 b)
    go (behind first k least g b h) m =
        let o : at + 1 + k - at ≡ 1 + k = omega arith in
        let l : to + 1 + k ≤ length t = omega (arith, m.whole) in
        let p : to + (1 + k) ≡ to + 1 + k = omega arith in
        let q : take k (drop (to + 1) t) ≡ take k (drop (at + 1) s) = (moved_part m (omega arith) 1 k (omega arith)).same in
        rw (o, p, lt-leb (length t) to (omega arith), moved_byte m (omega arith), b)
        (tag_form g t to ∙ rw (le-leb (to + 1 + k) (length t) l, q))
