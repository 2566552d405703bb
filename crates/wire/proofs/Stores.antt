-- Buffers with bytes stored in them. Assumes nothing.
use Prim.Native.Nat.{ℕ, ◌+◌, ◌≤◌, ◌<◌, ◌^◌}
use mathlib.Core.Path.{◌≡◌, refl, sym, ap, ◌∙◌}
use mathlib.Core.List.{List, [], ◌∷◌, ◌++◌, append_assoc}
use mathlib.Core.Bool.{Bool, true, false}
use native.Mathlib.Nat.{add-zero, add_assoc}
use native.Mathlib.Numerals.{add-one}
use native.Mathlib.Omega.{arith}
use borrow.Author.Tests.{le-leb, lt-leb, leb-true, leb-false}
use lib.ListN.{length, take, drop, set, length-append, length-take, length-drop, take-append-drop}
use lib.Seq.{length-take-le, take_at, drop_at, drop-append-add, drop-drop, set_split, take-length, paste}
use lib.Dec.{leb}
use borrow.Rule.Slice.PartMut.{put_mid}
use Rattle.wire.specs.declared.refusal.Refusal.{Refusal}
use Rattle.wire.specs.Outcome.{Outcome, ok, refused, refuse, why}
use Rattle.wire.specs.Stored.{stored, store, answer_of, left_of}
use Rattle.wire.specs.Number.{Bytes, le_value, be_value, le_bytes, be_bytes}
use Rattle.wire.proofs.Bytes.{le_bytes_length, be_bytes_length}
use Rattle.wire.proofs.Inverse.{le_back, be_back, bytes_append, bytes_take, bytes_drop}

-- a buffer keeps its length
pub length_stored : (d : List ℕ) (at : ℕ) (w : List ℕ) → at + length w ≤ length d → length (stored w d at) ≡ length d
unfolding stored
length_stored d at w h = simp (length-append, length-take, length-drop) (omega arith)

-- a buffer of bytes stays one
pub stored_bytes_lem : (d : List ℕ) (at : ℕ) (w : List ℕ) → Bytes d → Bytes w → Bytes (stored w d at)
unfolding stored
stored_bytes_lem d at w h k = bytes_append (take at d) _ (bytes_take at d h) (bytes_append w _ k (bytes_drop (at + length w) d h))

-- nothing stored changes nothing
pub stored_none : (d : List ℕ) (at : ℕ) → stored [] d at ≡ d
unfolding stored
stored_none d at = rw add-zero (take-append-drop at d)

-- one byte
pub stored_one : (d : List ℕ) (at x : ℕ) → at < length d → set d at x ≡ stored (x ∷ []) d at
unfolding stored
stored_one d at x h = set_split d at x h ∙ ap (λ (k : ℕ). take at d ++ (x ∷ drop k d)) (sym (add-one at))

-- a copy, as the kit says it
pub paste_stored : (d : List ℕ) (at : ℕ) (w : List ℕ) → paste d at w (length w) ≡ stored w d at
unfolding stored
paste_stored d at w = rw take-length (append_assoc (take at d) w (drop (at + length w) d))

-- a part that was written over
pub part_stored : (d bs x : List ℕ) (at k : ℕ) → x ≡ bs → k ≡ length bs → put_mid at k d x ≡ stored bs d at
unfolding stored
part_stored d bs x at k e h = rw (e, h, drop-drop (length bs) at d)

-- a store at the end of a store is one store
pub stored_stored : (d : List ℕ) (at : ℕ) (v w : List ℕ) → at + length v ≤ length d
    → stored w (stored v d at) (at + length v) ≡ stored (v ++ w) d at
unfolding stored
stored_stored d at v w h =
    let p = take at d ++ v in
    let q = drop (at + length v) d in
    let n = at + length v in
    let lp : length p ≡ n = length-append (take at d) v ∙ ap (λ (k : ℕ). k + length v) (length-take-le at d (omega arith)) in
    let whole : take at d ++ (v ++ q) ≡ p ++ q = sym (append_assoc (take at d) v q) in
    ap (λ (l : List ℕ). take n l ++ (w ++ drop (n + length w) l)) whole
    ∙ ap (λ (l : List ℕ). l ++ (w ++ drop (n + length w) (p ++ q))) (take_at p q n lp)
    ∙ ap (λ (k : ℕ). p ++ (w ++ drop (k + length w) (p ++ q))) (sym lp)
    ∙ ap (λ (l : List ℕ). p ++ (w ++ l)) (drop-append-add p q (length w) ∙ drop-drop (length w) n d)
    ∙ append_assoc (take at d) v (w ++ drop (n + length w) d)
    ∙ ap (λ (l : List ℕ). take at d ++ l) (sym (append_assoc v w (drop (n + length w) d)))
    ∙ ap (λ (k : ℕ). take at d ++ ((v ++ w) ++ drop k d))
    (add_assoc at (length v) (length w) ∙ ap (λ (k : ℕ). at + k) (sym (length-append v w)))

-- a byte set, and bytes stored behind it
pub stored_first : (d : List ℕ) (at x : ℕ) (w : List ℕ) → at + 1 + length w ≤ length d
    → stored w (set d at x) (at + 1) ≡ stored (x ∷ w) d at
stored_first d at x w h = rw (stored_one d at x (omega arith)) (stored_stored d at (x ∷ []) w (omega arith))

-- what stands before a store is kept, and from its place on stand its bytes and what stood behind them: so whatever reads a place and what
-- is behind it reads what was stored
pub stored_front : (d : List ℕ) (at : ℕ) (w : List ℕ) → at ≤ length d → take at (stored w d at) ≡ take at d
unfolding stored
stored_front d at w h = take_at (take at d) (w ++ drop (at + length w) d) at (length-take-le at d h)

-- so a reader that goes by the rest of a list reads on from a store
pub stored_from : (d : List ℕ) (at : ℕ) (w : List ℕ) → at ≤ length d → drop at (stored w d at) ≡ w ++ drop (at + length w) d
unfolding stored
stored_from d at w h = drop_at (take at d) (w ++ drop (at + length w) d) at (length-take-le at d h)

-- and a reader that goes by a part gets just what was stored
pub stored_part : (d : List ℕ) (at : ℕ) (w : List ℕ) → at ≤ length d → take (length w) (drop at (stored w d at)) ≡ w
stored_part d at w h = rw (stored_from d at w h) (take_at w (drop (at + length w) d) (length w) refl)

-- a number is read back from where it was written, whatever stands around it
pub le_stored : (d : List ℕ) (at k v : ℕ) → at ≤ length d → v < 256 ^ k → le_value (take k (drop at (stored (le_bytes k v) d at))) ≡ v
le_stored d at k v h l = rw (le_bytes_length k v) at (ap le_value (stored_part d at (le_bytes k v) h)) ∙ le_back k v l

-- the most significant first
pub be_stored : (d : List ℕ) (at k v : ℕ) → at ≤ length d → v < 256 ^ k → be_value (take k (drop at (stored (be_bytes k v) d at))) ≡ v
be_stored d at k v h l = rw (be_bytes_length k v) at (ap be_value (stored_part d at (be_bytes k v) h)) ∙ be_back k v l

-- ---- a writer's two ways, from the length n of the bytes bs that it writes
pub store_fits : (d bs : List ℕ) (at : ℕ) → at + length bs ≤ length d → store bs d at ≡ ok (at + length bs, stored bs d at)
unfolding store
store_fits d bs at h = rw (le-leb _ _ h)

-- where the bytes do not fit
pub store_full : (d bs : List ℕ) (at : ℕ) → length d < at + length bs → store bs d at ≡ refuse 8 0
unfolding store
store_full d bs at h = rw (lt-leb _ _ h)

-- the answer r and the buffer x of a writer of bs: done, or refused
abbrev pub Wrote : List ℕ → ℕ → List ℕ → Outcome ℕ → List ℕ → Type 0
Wrote d at bs r x = (r ≡ answer_of (store bs d at)) × (x ≡ left_of (store bs d at) d)

-- for a writer that has written: its `returns`, from the length n that its code knows
pub wrote : (d bs x : List ℕ) (at n next : ℕ) → length bs ≡ n → at + n ≤ length d → next ≡ at + n → x ≡ stored bs d at
    → Wrote d at bs (ok next) x
wrote d bs x at n next e h p q =
    let s = store_fits d bs at (omega arith) in
    let m : next ≡ at + length bs = omega arith in
    rw s (ap ok m, q)

-- for a writer that has no room: its `returns`
pub not_wrote : (d bs : List ℕ) (at n : ℕ) (w : Refusal) → length bs ≡ n → length d < at + n → w ≡ why 8 0 → Wrote d at bs (refused w) d
not_wrote d bs at n w e h p =
    let s = store_full d bs at (omega arith) in
    rw (s, p) (refl, refl)

-- what the test for room says
pub room : (b : Bool) (at n len : ℕ) → b ≡ leb (at + n) len → b ≡ true → at + n ≤ len
room b at n len e t = leb-true (at + n) len (sym e ∙ t)

-- and what its failure says
pub no_room : (b : Bool) (at n len : ℕ) → b ≡ leb (at + n) len → b ≡ false → len < at + n
no_room b at n len e t = leb-false (at + n) len (sym e ∙ t)

-- a write of a, m bytes long, in which there is room for b too, and then a write of b behind it: one write of both
pub wrote_two : (d a b x₁ x : List ℕ) (at m : ℕ) (r : Outcome ℕ) → length a ≡ m → at + (m + length b) ≤ length d
    → x₁ ≡ left_of (store a d at) d
    → Wrote x₁ (at + m) b r x → Wrote d at (a ++ b) r x
wrote_two d a b x₁ x at m r e h p w =
    let s = store_fits d a at (omega arith) in
    let q : x₁ ≡ stored a d at = p ∙ rw s in
    let n : length x₁ ≡ length d = ap length q ∙ length_stored d at a (omega arith) in
    let t = store_fits x₁ b (at + m) (omega arith) in
    let l : length (a ++ b) ≡ m + length b = length-append a b ∙ ap (λ (k : ℕ). k + length b) e in
    let u = store_fits d (a ++ b) at (omega arith) in
    let o : at + m + length b ≡ at + length (a ++ b) = omega arith in
    let y : stored b x₁ (at + m) ≡ stored (a ++ b) d at = rw (q, ← e) (stored_stored d at a b (omega arith)) in
    rw u (w.0 ∙ rw t (ap ok o), w.1 ∙ rw t y)
