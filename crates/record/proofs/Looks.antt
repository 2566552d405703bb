-- The entry of a column, by the bytes where it stands. Assumes nothing.
use Prim.Native.Nat.{ℕ, zero, suc, ◌+◌, ◌*◌, ◌/◌, ◌≤◌, ◌<◌, ◌^◌}
use mathlib.Core.Path.{◌≡◌, refl, ap, ◌∙◌}
use mathlib.Core.List.{List, [], ◌∷◌, ◌++◌}
use native.Mathlib.Omega.{arith}
use lib.ListN.{length, get_or, take, drop, length-take, drop_of_length-le}
use lib.Seq.{get_or-drop, get_or-take, drop-drop}
use Rattle.wire.specs.Number.{Bytes, le_value, le_bytes}
use Rattle.wire.proofs.Inverse.{le_back, bytes_take}
use Rattle.record.specs.declared.entry.Entry.{Entry}
use Rattle.record.specs.Entries.{entry_of, entry_bytes}
use Rattle.record.specs.Records.{entry_at, entry_in}

-- past the record's end there are zeros
pub entry_past : (r : List ℕ) (j : ℕ) → length r ≤ entry_at j → entry_in r j ≡ record { real = 0; flags = 0; m0 = 0; m1 = 0; charset = 0 }
unfolding entry_in entry_of le_value
entry_past r j h =
    let e : drop (entry_at j) r ≡ [] = drop_of_length-le r h in
    rw e refl

-- by its bytes
pub entry_bytes_lem : (r : List ℕ) (at : ℕ)
    → entry_of (drop at r)
    ≡ record {
      real =
          get_or r at 0;
      flags =
          get_or r (at + 1) 0;
      m0 = get_or r (at + 2) 0;
      m1 = get_or r (at + 3) 0;
      charset = le_value (take 2 (drop (at + 4) r));
    }
unfolding entry_of
entry_bytes_lem r at =
    let z : at + 0 ≡ at = omega arith in
    rw (get_or-drop, get_or-drop, get_or-drop, get_or-drop, drop-drop 4 at r, z)

-- an entry is read back from its bytes
pub entry_back : (e : Entry) (rest : List ℕ) → e.charset < 2 ^ 16 → entry_of (entry_bytes e ++ rest) ≡ e
unfolding entry_of entry_bytes le_bytes
entry_back e rest h =
    ap (λ (v : ℕ). record { real = e.real; flags = e.flags; m0 = e.m0; m1 = e.m1; charset = v }) (le_back 2 e.charset (omega arith))

-- ---- the eight bytes of a number of fewer bytes begin with these, and zeros follow
zeros : (n i : ℕ) → get_or (le_bytes n 0) i 0 ≡ 0
unfolding le_bytes
zeros zero i = refl
zeros (suc n) zero = refl
zeros (suc n) (suc i) = zeros n i

byte_back : (l : List ℕ) → Bytes l → (n i : ℕ) → length l ≤ n → get_or (le_bytes n (le_value l)) i 0 ≡ get_or l i 0
unfolding le_value le_bytes
byte_back [] h n i b = zeros n i
byte_back (x ∷ l) h zero i b = absurd (omega arith)
byte_back (x ∷ l) h (suc n) zero b = let g = h 0 in omega arith
byte_back (x ∷ l) h (suc n) (suc i) b =
    let g = h 0 in
    let q : (x + 256 * le_value l) / 256 ≡ le_value l = omega arith in
    rw q (byte_back l (λ i. h (suc i)) n i (omega arith))

two : (s : List ℕ) → le_value (take 2 s) ≡ get_or s 0 0 + get_or s 1 0 * 256
unfolding le_value
two [] = refl
two (x ∷ []) = omega arith
two (x ∷ y ∷ s) = omega arith

-- so an entry is read at once, as a number; x being its bytes, and c the charset that two of them say
pub entry_read : (b x : List ℕ) (c : ℕ) → Bytes b → x ≡ le_bytes 8 (le_value (take 6 b)) → c ≡ get_or x 4 0 + get_or x 5 0 * 256
    → record { real = get_or x 0 0; flags = get_or x 1 0; m0 = get_or x 2 0; m1 = get_or x 3 0; charset = c } ≡ entry_of b
unfolding entry_of
entry_read b x c h e f =
    let d = λ (i : ℕ) (l : i < 6).
    ap (λ (y : List ℕ). get_or y i 0) e ∙ byte_back (take 6 b) (bytes_take 6 b h) 8 i (omega (arith, length-take 6 b)) ∙ get_or-take 6 b i 0 l in
    let k : c ≡ le_value (take 2 (drop 4 b)) =
    omega (arith, two (drop 4 b), get_or-drop 4 b 0 0, get_or-drop 4 b 1 0, d 4 (omega arith), d 5 (omega arith)) in
    rw (d 0 (omega arith), d 1 (omega arith), d 2 (omega arith), d 3 (omega arith), k)
