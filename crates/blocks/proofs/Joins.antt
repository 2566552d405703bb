-- The stream with long values joined is the reading of the columns one after the other, and so the walk. Assumes nothing.
use Prim.Native.Nat.{ℕ, zero, suc, ◌+◌, ◌-◌, ◌≤◌, ◌<◌}
use mathlib.Core.Path.{◌≡◌, refl, sym, ap, ◌∙◌}
use mathlib.Core.Bool.{Bool, true, false}
use mathlib.Core.Logic.{dite}
use mathlib.Core.List.{List, [], ◌∷◌, ◌++◌, append_assoc}
use native.Mathlib.Nat.{add-zero}
use native.Mathlib.Decide.{dec_le}
use native.Mathlib.Omega.{arith}
use borrow.Author.Tests.{le-leb, lt-leb, eq-eqb, ne_eqb}
use lib.ListN.{length, take, drop, length-drop}
use lib.Seq.{drop-drop}
use Rattle.std.proofs.lemmas.List.{drop-take}
use Rattle.wire.specs.Outcome.{Outcome, ok, refused, refuse, why}
use Rattle.wire.specs.Bits.{bit_lsb0}
use Rattle.value.specs.declared.shape.Shape.{Shape}
use Rattle.value.specs.declared.shape.Shape.TheVariants.{Unsigned, Signed, FloatBits, DoubleBits, YearByte, Timed, Fixed, Counted}
use Rattle.value.specs.declared.shape.Shape.TheVariants.{NotTaken}
use Rattle.value.specs.Data.{Datum, null, bytes}
use Rattle.value.specs.Shapes.{need, decode, fault, prefix}
use Rattle.value.specs.Reading.{read_datum, short}
use Rattle.value.proofs.Laws.{reads, fails_back}
use Rattle.image.specs.Present.{Present}
use Rattle.image.specs.Split.{slots}
use Rattle.image.specs.Walk.{with_answer, read_slot, answered, read_slots}
use Rattle.image.proofs.StepLaws.Splits.{Each, Good}
use Rattle.value.proofs.Appends.{prefix_within}
use Rattle.blocks.specs.Turns.{too_long}
use Rattle.blocks.specs.Streams.{Piece, size, Stream, with, byte_pieces}
use Rattle.blocks.specs.Joins.{join_pieces, joined}
use Rattle.blocks.specs.Inner.Futures.{stream_long, streamed, stream_slots}
use Rattle.blocks.proofs.Turned.{TooLong, is_long_lem, prefix_most}

-- ---- bytes joined
pub join_bytes : (s : List ℕ) (left j : ℕ) (got : List ℕ) (ps : List Piece) → 0 < left → left ≤ length s
    → join_pieces j left got (byte_pieces j (take left s) ++ ps) ≡ (j, bytes (got ++ take left s)) ∷ join_pieces 0 0 [] ps
unfolding join_pieces
join_bytes [] left j got ps h l = absurd (omega arith)
join_bytes (b ∷ s) zero j got ps h l = absurd (omega arith)
join_bytes (b ∷ s) (suc zero) j got ps h l = rw (eq-eqb j j refl)
join_bytes (b ∷ s) (suc (suc m)) j got ps h l =
    let e : suc (suc m) - 1 ≡ suc m = omega arith in
    rw (eq-eqb j j refl, ne_eqb (suc (suc m)) 1 (λ (z : suc (suc m) ≡ 1). absurd (omega arith)), e)
    (join_bytes s (suc m) j (got ++ (b ∷ [])) ps (omega arith) (omega arith)
    ∙ ap (λ (x : List ℕ). (j, bytes x) ∷ join_pieces 0 0 [] ps) (append_assoc got (b ∷ []) (take (suc m) s)))

pub join_short : (s : List ℕ) (left j : ℕ) (got : List ℕ) → length s < left → join_pieces j left got (byte_pieces j s) ≡ []
unfolding join_pieces
join_short [] left j got h = refl
join_short (b ∷ s) left j got h =
    rw (eq-eqb j j refl, ne_eqb left 1 (λ (z : left ≡ 1). absurd (omega arith))) (join_short s (left - 1) j (got ++ (b ∷ [])) (omega arith))

-- ---- only counted bytes are ever long
pub long_decode : (sh : Shape) (b : List ℕ) → 0 < prefix sh → (decode sh b ≡ bytes (drop (prefix sh) b)) × (fault sh b ≡ 0)
unfolding prefix decode fault
long_decode (Unsigned k) b h = absurd (omega arith)
long_decode (Signed k) b h = absurd (omega arith)
long_decode FloatBits b h = absurd (omega arith)
long_decode DoubleBits b h = absurd (omega arith)
long_decode YearByte b h = absurd (omega arith)
long_decode (Timed k) b h = absurd (omega arith)
long_decode (Fixed n) b h = absurd (omega arith)
long_decode (Counted k) b h = (refl, refl)
long_decode (NotTaken n) b h = absurd (omega arith)

-- a column with no length fits into the room
abbrev pub Roomy : ℕ → Present → Type 0
Roomy room c = prefix c.shape ≡ 0 → (s : List ℕ) → need c.shape s ≤ room

-- ---- one column
-- a long value in pieces, joined, is that value read
long_joined : (sh : Shape) (j room : ℕ) (f : List ℕ → ℕ → Stream) (s : List ℕ) (o : ℕ) → Good (record { column = j; shape = sh }) → 4 ≤ room
    → Roomy room (record { column = j; shape = sh }) → TooLong room sh s
    → joined (with (size j (need sh s - prefix sh) ∷ []) (stream_long j (need sh s - prefix sh) f (drop (prefix sh) s) (o + prefix sh)))
    ≡ answered j (λ n. joined (f (drop n s) (o + n))) (read_datum sh j s)
unfolding join_pieces stream_long
long_joined sh j room f s o g h z w =
    let k = prefix sh in
    let n = need sh s in
    let m = n - k in
    let kp : 0 < k = dite (dec_le 1 k) (λ (x : 1 ≤ k). x) (λ x. let e : k ≡ 0 = omega arith in absurd (omega (arith, z e s, w.over))) in
    let c = prefix_most sh g.sized in
    let mp : 0 < m = omega (arith, w.over) in
    let e : k + m ≡ n = omega (arith, prefix_within sh s) in
    let l = length-drop k s in
    dite (dec_le n (length s))
    (λ (b : n ≤ length s).
    let x = long_decode sh (take n s) kp in
    let d : decode sh (take n s) ≡ bytes (take m (drop k s)) = x.0 ∙ ap bytes
    (ap (λ (q : ℕ). drop k (take q s)) (sym e) ∙ drop-take k m s) in
    let r : read_datum sh j s ≡ ok (bytes (take m (drop k s)), n) = reads sh j s n g.taken refl b x.1 ∙ ap
    (λ (q : Datum). ok (q, n)) d in
    let u : drop m (drop k s) ≡ drop n s = drop-drop m k s ∙ ap (λ (q : ℕ). drop q s) e in
    let v : o + k + m ≡ o + n = omega arith in
    rw (le-leb m (length (drop k s)) (omega arith), r, u, v)
    (ap (λ (q : List (ℕ × Datum)). record { answers = q; how = (f (drop n s) (o + n)).how })
    (join_bytes (drop k s) m j [] (f (drop n s) (o + n)).pieces mp (omega arith))))
    (λ b.
    rw (lt-leb m (length (drop k s)) (omega arith), fails_back sh j s (why 9 j) g.taken (short (omega arith)))
    (ap (λ (q : List (ℕ × Datum)). record { answers = q; how = refuse 9 j }) (join_short (drop k s) m j [] (omega arith))))

-- ---- all of them
pub joined_read : (cs : List Present) (k room : ℕ) (nulls s : List ℕ) (o : ℕ) → Each Good cs → Each (Roomy room) cs → 4 ≤ room
    → joined (stream_slots room (slots cs k nulls) s o) ≡ read_slots (slots cs k nulls) s o
unfolding stream_slots read_slots read_slot slots Each join_pieces
joined_read [] k room nulls s o g z h = refl
joined_read (c ∷ cs) k room nulls s o g z h = go (λ s o. joined_read cs (suc k) room nulls s o g.1 z.1 h) (bit_lsb0 nulls k) refl
  where
    rest : List ℕ → ℕ → Stream
    rest = stream_slots room (slots cs (suc k) nulls)

    read : ((s : List ℕ) (o : ℕ) → joined (rest s o) ≡ read_slots (slots cs (suc k) nulls) s o) → (x : Outcome (Datum × ℕ))
        → joined (streamed c.column (λ n. rest (drop n s) (o + n)) x)
        ≡ answered c.column (λ n. read_slots (slots cs (suc k) nulls) (drop n s) (o + n)) x
    read f (ok x) = ap (with_answer (c.column, x.0)) (f (drop x.1 s) (o + x.1))
    read f (refused w) = refl

    same : ((s : List ℕ) (o : ℕ) → joined (rest s o) ≡ read_slots (slots cs (suc k) nulls) s o) → (x : Outcome (Datum × ℕ))
        → answered c.column (λ n. joined (rest (drop n s) (o + n))) x
        ≡ answered c.column (λ n. read_slots (slots cs (suc k) nulls) (drop n s) (o + n)) x
    same f (ok x) = ap (with_answer (c.column, x.0)) (f (drop x.1 s) (o + x.1))
    same f (refused w) = refl

    by_room : ((s : List ℕ) (o : ℕ) → joined (rest s o) ≡ read_slots (slots cs (suc k) nulls) s o) → bit_lsb0 nulls k ≡ false → (v : Bool)
        → too_long room c.shape s ≡ v
        → joined (stream_slots room (slots (c ∷ cs) k nulls) s o) ≡ read_slots (slots (c ∷ cs) k nulls) s o
    by_room f e true v =
        rw (e, v) (long_joined c.shape c.column room rest s o g.0 h z.0 (is_long_lem room c.shape s v) ∙ same f
        (read_datum c.shape c.column s))
    by_room f e false v = rw (e, v) (read f (read_datum c.shape c.column s))

    go : ((s : List ℕ) (o : ℕ) → joined (rest s o) ≡ read_slots (slots cs (suc k) nulls) s o) → (b : Bool) → bit_lsb0 nulls k ≡ b
        → joined (stream_slots room (slots (c ∷ cs) k nulls) s o) ≡ read_slots (slots (c ∷ cs) k nulls) s o
    go f true e = rw (e, add-zero o) (ap (with_answer (c.column, null)) (f s o))
    go f false e = by_room f e (too_long room c.shape s) refl
