-- Bytes of a number taken one after the other, and writers and readers by the width that a program found: what each turn of such a loop
-- comes to, at every width k. The code of this crate has no such loop any more. Assumes nothing.
use Prim.Native.Nat.{ℕ, zero, suc, ◌+◌, ◌-◌, ◌*◌, ◌/◌, ◌%◌, ◌^◌, ◌≤◌, ◌<◌, min}
use mathlib.Core.Path.{◌≡◌, refl, sym, ap, ◌∙◌, subst}
use mathlib.Core.Bool.{Bool, true, false}
use mathlib.Core.Logic.{dite}
use mathlib.Core.List.{List, [], ◌∷◌, ◌++◌, reverse-cons}
use native.Mathlib.Nat.{add-zero}
use native.Mathlib.Decide.{dec_le}
use native.Mathlib.Omega.{arith}
use native.Mathlib.Numerals.{add-one}
use lib.Dec.{leb}
use lib.ListN.{length, take, drop, get_or, set, length-drop, take-append-drop}
use lib.Seq.{take-suc, take_all, get_or-drop, take-suc-set, take-set-le, drop-set-lt, append_snoc, set_split, drop_at, length-take-le}
use Rattle.wire.specs.declared.refusal.Refusal.{Refusal}
use Rattle.wire.specs.Outcome.{Outcome, ok, refused, why}
use Rattle.wire.specs.Number.{le_value, be_value, le_bytes, be_bytes}
use Rattle.wire.specs.Parts.{within}
use Rattle.wire.specs.Packed.{read_fixed}
use Rattle.wire.specs.Stored.{stored}
use Rattle.wire.proofs.Bytes.{more, wider, le_step, be_snoc}
use Rattle.wire.proofs.Stores.{Wrote, wrote, not_wrote, room, no_room}

-- a turn of a reader: one more byte after n < 8 bytes fits 64 bits
pub turn_fits : (n acc b : ℕ) → n < 8 → acc < 256 ^ n → b < 256 → acc * 256 + b < 2 ^ 64
turn_fits n acc b h l m = wider (suc n) 8 (acc * 256 + b) h (more n acc b l m)

-- as many bytes as there are, of those asked for
pub take_there : (w n : ℕ) (l : List ℕ) → length l ≡ n → take (min w n) l ≡ take w l
take_there w n l e =
    dite (dec_le w n)
    (λ h. let m : min w n ≡ w = omega arith in rw m)
    (λ h. let m : min w n ≡ n = omega arith in rw m (take_all n l (omega arith) ∙ sym (take_all w l (omega arith))))

-- a turn of the loop of `le`
pub le_turn : (s : List ℕ) (at k i acc : ℕ) → 0 < i → i ≤ k → k ≤ length s - at → acc ≡ le_value (take (k - i) (drop (at + i) s))
    → acc * 256 + get_or s (at + (i - 1)) 0 ≡ le_value (take (k - (i - 1)) (drop (at + (i - 1)) s))
le_turn s at k i acc h l m e =
    let n : k - (i - 1) ≡ suc (k - i) = omega arith in
    let p : at + i ≡ suc (at + (i - 1)) = omega arith in
    let e' : acc ≡ le_value (take (k - i) (drop (suc (at + (i - 1))) s)) = rw p at e in
    let q : at + (i - 1) < length s = omega arith in
    rw (n, le_step s (at + (i - 1)) (k - i) q) (omega arith)

-- a turn of the loop of `be`
pub be_turn : (s : List ℕ) (at k i acc : ℕ) → i < k → k ≤ length s - at → acc ≡ be_value (take i (drop at s))
    → acc * 256 + get_or s (at + i) 0 ≡ be_value (take (i + 1) (drop at s))
be_turn s at k i acc h m e =
    let q : i < length (drop at s) = rw length-drop (omega arith) in
    rw (add-one, take-suc (drop at s) i 0, be_snoc, get_or-drop) (rw e)

-- a buffer as a loop leaves it, which knows the length of what it stored by another name
pub is_stored : (d bs : List ℕ) (at k : ℕ) → length bs ≡ k → take at d ++ (bs ++ drop (at + k) d) ≡ stored bs d at
unfolding stored
is_stored d bs at k e = rw e

-- ---- stored, the least significant first: what is still to be stored, the k - i bytes of the rest r, stands in the middle
pub put_le_turn : (d : List ℕ) (at k i r : ℕ) → i < k → at + k ≤ length d
    → take (at + (i + 1)) (set d (at + i) (r % 256)) ++ (le_bytes (k - (i + 1)) (r / 256) ++ drop (at + k) (set d (at + i) (r % 256)))
    ≡ take (at + i) d ++ (le_bytes (k - i) r ++ drop (at + k) d)
unfolding le_bytes
put_le_turn d at k i r h m =
    let e : at + (i + 1) ≡ suc (at + i) = omega arith in
    let n : k - i ≡ suc (k - (i + 1)) = omega arith in
    let p : at + i < length d = omega arith in
    let q : at + i < at + k = omega arith in
    rw (e, take-suc-set d (at + i) (r % 256) p, drop-set-lt (at + k) d (at + i) (r % 256) q, n, append_snoc)

-- the end of the loop of `put_le`
pub put_le_done : (d goal : List ℕ) (at k i r : ℕ) → i ≤ k → k ≤ i → take (at + i) d ++ (le_bytes (k - i) r ++ drop (at + k) d) ≡ goal
    → d ≡ goal
unfolding le_bytes
put_le_done d goal at k i r h m e =
    let z : k - i ≡ 0 = omega arith in
    let j : i ≡ k = omega arith in
    rw (z, j, take-append-drop) at e

-- ---- stored, the most significant first, from the last byte down: what is still to be stored, the i bytes of the rest r, stands in front
be_more : (k v : ℕ) → be_bytes (suc k) v ≡ be_bytes k (v / 256) ++ (v % 256 ∷ [])
unfolding be_bytes le_bytes
be_more k v = reverse-cons (v % 256) (le_bytes k (v / 256))

set_drop : (d : List ℕ) (p x : ℕ) → p < length d → drop p (set d p x) ≡ x ∷ drop (suc p) d
set_drop d p x h =
    let n : length (take p d) ≡ p = length-take-le p d (omega arith) in
    rw (set_split d p x, drop_at (take p d) (x ∷ drop (suc p) d) p n)

-- a turn of the loop of `put_be`
pub put_be_turn : (d : List ℕ) (at i r : ℕ) → 0 < i → at + i ≤ length d
    → take at (set d (at + (i - 1)) (r % 256)) ++ (be_bytes (i - 1) (r / 256) ++ drop (at + (i - 1)) (set d (at + (i - 1)) (r % 256)))
    ≡ take at d ++ (be_bytes i r ++ drop (at + i) d)
put_be_turn d at i r h m =
    let p = at + (i - 1) in
    let n : i ≡ suc (i - 1) = omega arith in
    let e : at + i ≡ suc p = omega arith in
    let q : p < length d = omega arith in
    let l : at ≤ p = omega arith in
    let b : be_bytes i r ≡ be_bytes (i - 1) (r / 256) ++ (r % 256 ∷ []) = ap (λ (j : ℕ). be_bytes j r) n ∙ be_more (i - 1) r in
    rw (take-set-le at d p (r % 256) l, set_drop d p (r % 256) q, b, e, append_snoc)

-- the end of the loop of `put_be`
pub put_be_done : (d goal : List ℕ) (at i r : ℕ) → i ≤ 0 → take at d ++ (be_bytes i r ++ drop (at + i) d) ≡ goal → d ≡ goal
unfolding be_bytes le_bytes
put_be_done d goal at i r h e =
    let z : i ≡ 0 = omega arith in
    rw (z, add-zero, take-append-drop) at e

-- both for a writer of a number, in bytes of either order: w is the width that its code found, and k that of its contract
pub wrote_number : (bytes : ℕ → ℕ → List ℕ) → ((k v : ℕ) → length (bytes k v) ≡ k) → (d x : List ℕ) (at w k v : ℕ) (t : Bool)
    → w ≡ k → t ≡ leb (at + w) (length d) → t ≡ true → x ≡ stored (bytes w v) d at → Wrote d at (bytes k v) (ok (at + w)) x
wrote_number bytes size d x at w k v t e f h q =
    subst (λ (k : ℕ). Wrote d at (bytes k v) (ok (at + w)) x) e
    (wrote d (bytes w v) x at w (at + w) (size w v) (room t at w (length d) f h) refl q)

pub not_wrote_number : (bytes : ℕ → ℕ → List ℕ) → ((k v : ℕ) → length (bytes k v) ≡ k)
    → (d : List ℕ) (at w k v : ℕ) (t : Bool) (r : Refusal)
    → w ≡ k → t ≡ leb (at + w) (length d) → t ≡ false → r ≡ why 8 0 → Wrote d at (bytes k v) (refused r) d
not_wrote_number bytes size d at w k v t r e f h q =
    subst (λ (k : ℕ). Wrote d at (bytes k v) (refused r) d) e
    (not_wrote d (bytes w v) at w r (size w v) (no_room t at w (length d) f h) q)

-- ---- the number of k bytes at a place
-- as the code reads it, in a width w that it found
pub fixed_read : (k w : ℕ) (s : List ℕ) (at v next : ℕ) → w ≡ k → within s at w at ≡ ok next → v ≡ le_value (take w (drop at s))
    → ok (v, next) ≡ read_fixed k s at
unfolding read_fixed
fixed_read k w s at v next e q p = rw (← e, q, p)

pub fixed_not : (k w : ℕ) (s : List ℕ) (at : ℕ) (r : Refusal) → w ≡ k → within s at w at ≡ refused r → refused r ≡ read_fixed k s at
unfolding read_fixed
fixed_not k w s at r e q = rw (← e, q)
