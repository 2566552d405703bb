-- Parts of the lent bytes: where they end, and numbers read at a place. Assumes nothing.
use Prim.Native.Nat.{ℕ, ◌+◌, ◌^◌, ◌≤◌, ◌<◌}
use mathlib.Core.Path.{◌≡◌, refl, sym, ap, subst, ◌∙◌}
use mathlib.Core.Bool.{Bool, true, false, cond}
use mathlib.Core.Logic.{◌⊎◌, inl, inr}
use mathlib.Core.List.{List, [], ◌++◌}
use native.Mathlib.Omega.{arith}
use borrow.Author.Tests.{le-leb, lt-leb, leb-true, leb-false}
use lib.ListN.{length, take, drop, length-append, length-drop}
use lib.Seq.{length-take-le, take_at, drop-append-add}
use lib.Dec.{leb}
use Rattle.wire.specs.declared.refusal.Refusal.{Refusal}
use Rattle.wire.specs.declared.part.Part.{Part}
use Rattle.wire.specs.Outcome.{Outcome, ok, refused, refuse, why}
use Rattle.wire.specs.Number.{Bytes, le_value, le_bytes}
use Rattle.wire.specs.Parts.{part_of, lent_part, within}
use Rattle.wire.specs.Packed.{read_fixed}
use Rattle.wire.proofs.Outcomes.{test_is_ok, test_refuses, after_is_ok, after_refuses, ok_not_refused, same_ok}
use Rattle.wire.proofs.Bytes.{le_bytes_length}
use Rattle.wire.proofs.Inverse.{le_back, le_bound, bytes_take, bytes_drop}

-- ---- bytes that are all there
pub within_fits : (s : List ℕ) (at n place : ℕ) → at + n ≤ length s → within s at n place ≡ ok (at + n)
unfolding within
within_fits s at n place h = rw (le-leb _ _ h)

pub within_ok : (s : List ℕ) (at n place next : ℕ) → within s at n place ≡ ok next → (next ≡ at + n) × (next ≤ length s)
unfolding within
within_ok s at n place next e =
    let t = test_is_ok (leb (at + n) (length s)) (at + n) (why 1 place) next e in
    let h = leb-true (at + n) (length s) t.0 in
    (sym t.1, rw (sym t.1) h)

-- and such as are not
pub within_short : (s : List ℕ) (at n place : ℕ) → length s < at + n → within s at n place ≡ refuse 1 place
unfolding within
within_short s at n place h = rw (lt-leb _ _ h)

pub within_refuses : (s : List ℕ) (at n place : ℕ) (w : Refusal) → within s at n place ≡ refused w → (length s < at + n) × (w ≡ why 1 place)
unfolding within
within_refuses s at n place w e =
    let t = test_refuses (leb (at + n) (length s)) (at + n) (why 1 place) w e in
    (leb-false (at + n) (length s) t.0, sym t.1)

-- ---- the bytes of a part
pub part_length : (s : List ℕ) (p : Part) → p.start + p.len ≤ length s → length (part_of s p) ≡ p.len
part_length s p h = length-take-le p.len (drop p.start s) (rw length-drop (omega arith))

-- of one that ends within those lent, all are lent
pub lent_is : (s : List ℕ) (p : Part) → p.start + p.len ≤ length s → lent_part s p ≡ part_of s p
lent_is s p h = rw (le-leb _ _ h)

-- whatever it is, none are lent, or they end within those lent
pub lent_ends : (s : List ℕ) (p : Part) → (length (lent_part s p) ≡ 0) ⊎ (p.start + length (lent_part s p) ≤ length s)
lent_ends s p = go (leb (p.start + p.len) (length s)) refl
  where
    go : (t : Bool) → leb (p.start + p.len) (length s) ≡ t
        → (length (cond t (part_of s p) []) ≡ 0) ⊎ (p.start + length (cond t (part_of s p) []) ≤ length s)
    go true e =
        let l = leb-true (p.start + p.len) (length s) e in
        let n = part_length s p l in
        inr (omega (arith, l, n))
    go false e = inl refl

-- ---- the number of k bytes at a place
-- where all of them are there
pub fixed_fits : (k : ℕ) (s : List ℕ) (at : ℕ) → at + k ≤ length s → read_fixed k s at ≡ ok (le_value (take k (drop at s)), at + k)
unfolding read_fixed
fixed_fits k s at h = rw (within_fits s at k at h)

-- what was read, where, and where it ends: within the bytes
pub record Fixed (k : ℕ) (s : List ℕ) (at v next : ℕ) : Type 0 where
  pub value : v ≡ le_value (take k (drop at s))
  pub next_is : next ≡ at + k
  pub ends : next ≤ length s

pub fixed_ok : (k : ℕ) (s : List ℕ) (at v next : ℕ) → read_fixed k s at ≡ ok (v, next) → Fixed k s at v next
unfolding read_fixed
fixed_ok k s at v next e =
    let x = after_is_ok (within s at k at) _ _ e in
    let w = within_ok s at k at x.0 x.1 in
    let q = same_ok x.2 in
    let n : x.0 ≡ next = ap (λ (y : ℕ × ℕ). y.1) q in
    record { value = sym (ap (λ (y : ℕ × ℕ). y.0) q); next_is = sym n ∙ w.0; ends = subst (λ (y : ℕ). y ≤ length s) n w.1 }

-- it is below 256^k
pub fixed_bound : (k : ℕ) (s : List ℕ) (at v next : ℕ) → Bytes s → read_fixed k s at ≡ ok (v, next) → v < 256 ^ k
fixed_bound k s at v next h e =
    let f = fixed_ok k s at v next e in
    let n : length (take k (drop at s)) ≡ k = length-take-le k (drop at s) (rw length-drop (omega (arith, f.next_is, f.ends))) in
    let b =
    subst (λ (j : ℕ). le_value (take k (drop at s)) < 256 ^ j) n
    (le_bound (take k (drop at s)) (bytes_take k (drop at s) (bytes_drop at s h))) in
    subst (λ (y : ℕ). y < 256 ^ k) (sym f.value) b

-- it is refused where the bytes end early, and at its place
pub fixed_short : (k : ℕ) (s : List ℕ) (at : ℕ) → length s < at + k → read_fixed k s at ≡ refuse 1 at
unfolding read_fixed
fixed_short k s at h = rw (within_short s at k at h)

pub fixed_refuses : (k : ℕ) (s : List ℕ) (at : ℕ) (w : Refusal) → read_fixed k s at ≡ refused w → (length s < at + k) × (w ≡ why 1 at)
unfolding read_fixed
fixed_refuses k s at w e = go (after_refuses (within s at k at) _ _ e)
  where
    go : (within s at k at ≡ refused w)
        ⊎ ((a : ℕ) × (within s at k at ≡ ok a) × ◌≡◌ {A = Outcome (ℕ × ℕ)} (ok (le_value (take k (drop at s)), a)) (refused w))
        → (length s < at + k) × (w ≡ why 1 at)
    go (inl r) = within_refuses s at k at w r
    go (inr x) = absurd (ok_not_refused x.2)

-- a number that was written is read back, at any place and with anything behind it
pub fixed_back : (pre rest : List ℕ) (k v : ℕ) → v < 256 ^ k
    → read_fixed k (pre ++ (le_bytes k v ++ rest)) (length pre) ≡ ok (v, length pre + k)
fixed_back pre rest k v h =
    let s = pre ++ (le_bytes k v ++ rest) in
    let f : length pre + k ≤ length s = simp (length-append, le_bytes_length) (omega arith) in
    let d : drop (length pre + 0) s ≡ le_bytes k v ++ rest = drop-append-add pre (le_bytes k v ++ rest) 0 in
    let z : length pre + 0 ≡ length pre = omega arith in
    let e : le_value (take k (drop (length pre) s)) ≡ v =
    rw (rw z at d, take_at (le_bytes k v) rest k (le_bytes_length k v)) (le_back k v h) in
    fixed_fits k s (length pre) f ∙ ap (λ (x : ℕ). ok (x, length pre + k)) e
