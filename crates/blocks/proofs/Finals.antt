-- The end call answers how what is to come ends when nothing comes. Assumes nothing.
use Prim.Native.Nat.{ℕ, suc, ◌+◌, ◌-◌, ◌≤◌, ◌<◌}
use mathlib.Core.Path.{◌≡◌, refl, sym, ap, ◌∙◌}
use mathlib.Core.Bool.{Bool, true, false}
use mathlib.Core.Logic.{dite}
use mathlib.Core.List.{List, [], ◌∷◌, append-nil}
use native.Mathlib.Decide.{dec_le}
use native.Mathlib.Omega.{arith}
use borrow.Author.Tests.{lt-ltb, le-ltb, lt-leb}
use lib.ListN.{length, take, drop}
use lib.Seq.{length-take-le, drop-nil, drop-length}
use Rattle.wire.specs.Outcome.{why}
use Rattle.wire.specs.Bits.{bit_lsb0}
use Rattle.value.specs.Shapes.{need, prefix}
use Rattle.value.specs.Columns.{is_taken}
use Rattle.value.specs.Reading.{short}
use Rattle.value.proofs.Laws.{fails_back}
use Rattle.value.proofs.Tables.{some_bytes}
use Rattle.record.specs.Entries.{column_of}
use Rattle.record.specs.Records.{count_of, entry_in}
use Rattle.record.proofs.Valid.{valid_column}
use Rattle.image.specs.Present.{Present, shape_at, count_bits, present_from}
use Rattle.image.specs.Split.{Slot, slots, slots_at}
use Rattle.image.proofs.CursorLaws.Heads.{Over, null_bytes}
use Rattle.image.proofs.StepLaws.Splits.{Each, Good}
use Rattle.image.proofs.PresenceLaws.Presents.{each_from, good_from}
use Rattle.blocks.specs.declared.state.Phase.TheVariants.{Open, Long}
use Rattle.blocks.specs.States.{opened, longed}
use Rattle.blocks.specs.Turns.{too_long}
use Rattle.blocks.specs.Ends.{end_over, end_in}
use Rattle.blocks.specs.Streams.{Stream}
use Rattle.blocks.specs.Inner.Futures.{stream_long, stream_slots, future_in, future}
use Rattle.blocks.proofs.Turned.{is_long_lem}
use Rattle.blocks.proofs.Ons.{Waiting, Ready, from, future_from}

-- every value takes a byte
abbrev pub Some : Present → Type 0
Some c = (s : List ℕ) → 0 < need c.shape s

abbrev EachSlot : List Slot → Type 0
EachSlot [] = Unit {0}
EachSlot (i ∷ is) = is_taken i.present.shape ≡ true

-- with nothing at hand the first value that is not NULL ends early
pub end_none : (cs : List Present) (k room : ℕ) (nulls : List ℕ) (o : ℕ) → Each Good cs → Each Some cs → end_over (slots cs k nulls) o
    ≡ (stream_slots room (slots cs k nulls) [] o).how
unfolding end_over stream_slots stream_long slots Each
end_none [] k room nulls o g z = refl
end_none (c ∷ cs) k room nulls o g z = go (end_none cs (suc k) room nulls o g.1 z.1) (bit_lsb0 nulls k) refl
  where
    by_room : bit_lsb0 nulls k ≡ false → (v : Bool) → too_long room c.shape [] ≡ v → end_over (slots (c ∷ cs) k nulls) o
        ≡ (stream_slots room (slots (c ∷ cs) k nulls) [] o).how
    by_room e true v =
        let i = is_long_lem room c.shape [] v in
        let l : 0 < need c.shape [] - prefix c.shape = omega (arith, i.there, z.0 []) in
        rw (e, v, drop-nil {A = ℕ} (prefix c.shape), lt-leb (need c.shape [] - prefix c.shape) 0 l)
    by_room e false v = rw (e, v, fails_back c.shape c.column [] (why 9 c.column) g.0.taken (short (z.0 [])))

    go : end_over (slots cs (suc k) nulls) o ≡ (stream_slots room (slots cs (suc k) nulls) [] o).how → (b : Bool) → bit_lsb0 nulls k ≡ b
        → end_over (slots (c ∷ cs) k nulls) o ≡ (stream_slots room (slots (c ∷ cs) k nulls) [] o).how
    go f true e = rw e f
    go f false e = by_room e (too_long room c.shape []) refl

-- with a value in progress: that one
pub end_waits : (is : List Slot) (room j : ℕ) (h : List ℕ) (o used : ℕ) → EachSlot is → Waiting room j is h → end_over is used
    ≡ (stream_slots room is h o).how
unfolding end_over stream_slots
end_waits [] room j h o used g w = absurd w
end_waits (i ∷ is) room j h o used g w =
    rw (w.0, w.1, fails_back i.present.shape i.present.column h (why 9 i.present.column) g (short w.2))

good_first : (cs : List Present) (k : ℕ) (nulls : List ℕ) → Each Good cs → EachSlot (slots cs k nulls)
unfolding slots Each
good_first [] k nulls g = tt
good_first (c ∷ cs) k nulls g = g.0.taken

some_from : (m : ℕ) (r p : List ℕ) (j : ℕ) → Over r p → j + m ≤ count_of r → Each Some (present_from m r p j)
unfolding shape_at
some_from m r p j u h =
    each_from Some m r p j (λ i a b s. some_bytes (column_of (entry_in r i)) (valid_column r i u.valid (omega arith)) s)

pub end_open_lem : (K : Type 0) (r p : List ℕ) (column held used : ℕ) (carry : List ℕ) → Ready K r p column held used carry
    → end_in Open r p (null_bytes r p) (opened column held used) carry ≡ (future r p (null_bytes r p) (opened column held used) carry []).how
unfolding end_in from slots_at
end_open_lem K r p column held used carry q =
    let nb = null_bytes r p in
    let n = count_of r in
    let room = length carry - nb in
    let y = take held carry in
    let l : length y ≡ held = length-take-le held carry q.fits in
    let cs = present_from (n - column) r p column in
    let g = good_from (n - column) r p column q.over.valid (omega (arith, q.among)) in
    sym (ap (λ (w : Stream). w.how)
    (future_from r p nb column held used carry [] ∙ ap (from r p nb room column (used + nb - held)) (append-nil y))
    ∙ dite (dec_le nb held)
    (λ (h : nb ≤ held).
    rw (le-ltb (length y) nb (omega arith), le-ltb held nb h)
    (dite (dec_le held nb)
    (λ (a : held ≤ nb).
    let i : nb ≡ length y = omega arith in
    let e : drop nb y ≡ [] = ap (λ (k : ℕ). drop k y) i ∙ drop-length y in
    let o : used + nb - held ≡ used = omega arith in
    rw (e, o) (sym
    (end_none cs (count_bits p column) room y used g (some_from (n - column) r p column q.over (omega (arith, q.among))))))
    (λ a. sym (end_waits (slots cs (count_bits p column) y) room column (drop nb y) (used + nb - held) used
    (good_first cs (count_bits p column) y g) (q.waits (omega arith))))))
    (λ h. rw (lt-ltb (length y) nb (omega arith), lt-ltb held nb (omega arith))))

pub end_long : (r p : List ℕ) (nb column held left used : ℕ) (carry : List ℕ) → 0 < left
    → end_in Long r p nb (longed column held left used) carry ≡ (future r p nb (longed column held left used) carry []).how
unfolding end_in future_in stream_long
end_long r p nb column held left used carry h = rw (lt-leb left 0 h)
