-- However the image is cut, the answers and the end are those of the walk over all of it. Assumes nothing.
use Prim.Native.Nat.{ℕ, zero, suc, ◌+◌, ◌≤◌, ◌<◌}
use mathlib.Core.Path.{◌≡◌, refl, sym, ap, ◌∙◌}
use mathlib.Core.Bool.{Bool, true, false, true≢false}
use mathlib.Core.List.{List, [], ◌∷◌, ◌++◌, nil≢cons}
use mathlib.Core.Logic.{dite}
use native.Mathlib.Decide.{dec_le}
use native.Mathlib.Omega.{arith}
use borrow.Author.Tests.{le-ltb, lt-ltb}
use lib.ListN.{length, take, drop, length-append, length-map}
use Rattle.wire.specs.Outcome.{Outcome, ok, refused}
use Rattle.wire.specs.Number.{Bytes}
use Rattle.wire.proofs.Inverse.{bytes_drop}
use Rattle.record.specs.Records.{count_of}
use Rattle.image.specs.Room.{image_room}
use Rattle.value.specs.Data.{null as null_datum}
use Rattle.value.specs.Reading.{datum_of}
use Rattle.image.specs.Present.{Present, present}
use Rattle.image.specs.Split.{slots}
use Rattle.image.proofs.PresenceLaws.Presents.{present_length, slots_all}
use Rattle.image.specs.Walk.{walk_image}
use Rattle.image.proofs.CursorLaws.Heads.{Over, null_bytes, head_is}
use Rattle.blocks.specs.declared.state.Arriving.{Arriving}
use Rattle.blocks.specs.States.{begun, Arrived, more, null, value, long, part, end, BlockGiven}
use Rattle.blocks.specs.Fits.{is_fit}
use Rattle.blocks.specs.Gives.{head_carry, Handed, give_in, given_fit, give_block}
use Rattle.blocks.specs.Ends.{end_in, ended_fit, end_blocks}
use Rattle.blocks.specs.Streams.{Piece, datum, size, byte, Stream, byte_pieces, stopped, with, told}
use Rattle.blocks.specs.Joins.{joined}
use Rattle.blocks.specs.Runs.{goes_on, Run, ends, refuses, rests, answers, concat, AllBytes}
use Rattle.blocks.specs.Inner.Futures.{stream_slots, future_in, future}
use Rattle.blocks.proofs.Ons.{from, future_from, On, Still, Left, open_left, long_left, Leaves, open_on, open_leaves}
use Rattle.blocks.proofs.Longs.{long_on}
use Rattle.blocks.proofs.Fits.{null_most, begun_left, left_fit, spent_room, fit_left, fit_room, long_leaves}
use Rattle.blocks.proofs.Finals.{end_open_lem, end_long}
use Rattle.blocks.proofs.Wholes.{begun_walk}

-- ---- a fit state passes the tests
over_of : (K : Type 0) (r p carry : List ℕ) {st : Arriving} → Left K r p carry st → Over r p × (1024 ≤ length carry)
over_of K r p carry (open_left column held used q) = (q.over, q.least)
over_of K r p carry (long_left column held left used q) = (q.over, q.least)

pub give_is : (K : Type 0) (r p carry b : List ℕ) {st : Arriving} → Left K r p carry st → st.used ≤ image_room r p
    → give_block r p st carry b ≡ give_in st.phase r p (null_bytes r p) st carry b
unfolding give_block head_carry given_fit
give_is K r p carry b l m =
    let u = over_of K r p carry l in
    rw (head_is r p u.0, le-ltb (length carry) 1024 u.1, left_fit K r p carry l m)

-- ---- give-on, for the call itself
pub give_on : (K : Type 0) (r p carry b t : List ℕ) {st : Arriving} → (K → Bytes b) → Left K r p carry st → st.used ≤ image_room r p
    → On r p (null_bytes r p) b t (future r p (null_bytes r p) st carry (b ++ t)) (give_block r p st carry b)
unfolding give_in
give_on K r p carry b t kb (open_left column held used q) m =
    rw (give_is K r p carry b (open_left column held used q) m) (open_on K r p column held used carry b t q kb)
give_on K r p carry b t kb (long_left column held left used q) m =
    rw (give_is K r p carry b (long_left column held left used q) m)
    (long_on r p column held left used carry b t q.among (omega (arith, q.room)) q.some)

pub give_leaves : (K : Type 0) (r p carry b : List ℕ) {st : Arriving} → (K → Bytes b) → Left K r p carry st → st.used ≤ image_room r p
    → Leaves K r p (length carry) (give_block r p st carry b)
unfolding give_in
give_leaves K r p carry b kb (open_left column held used q) m =
    rw (give_is K r p carry b (open_left column held used q) m) (open_leaves K r p column held used carry b [] q kb)
give_leaves K r p carry b kb (long_left column held left used q) m =
    rw (give_is K r p carry b (long_left column held left used q) m) (long_leaves K r p column held left used carry b q)

-- a made-up state too, if it is fit: what was to come is what the answer tells, and what is to come behind it
pub fit_on : (r p carry b t : List ℕ) (st : Arriving) → Over r p → 1024 ≤ length carry → is_fit r p (count_of r) (null_bytes r p) st carry
    ≡ true
    → On r p (null_bytes r p) b t (future r p (null_bytes r p) st carry (b ++ t)) (give_block r p st carry b)
fit_on r p carry b t st u m e =
    give_on ⊥ r p carry b t (λ k. absurd k) (fit_left r p carry u m st e) (fit_room r p carry u m st e)

-- ---- and the end call
pub end_is : (K : Type 0) (r p carry : List ℕ) {st : Arriving} → Left K r p carry st → st.used ≤ image_room r p
    → end_blocks r p st carry ≡ end_in st.phase r p (null_bytes r p) st carry
unfolding end_blocks head_carry ended_fit
end_is K r p carry l m =
    let u = over_of K r p carry l in
    rw (head_is r p u.0, le-ltb (length carry) 1024 u.1, left_fit K r p carry l m)

pub end_on : (K : Type 0) (r p carry : List ℕ) {st : Arriving} → Left K r p carry st → st.used ≤ image_room r p
    → end_blocks r p st carry ≡ (future r p (null_bytes r p) st carry []).how
end_on K r p carry (open_left column held used q) m =
    end_is K r p carry (open_left column held used q) m ∙ end_open_lem K r p column held used carry q
end_on K r p carry (long_left column held left used q) m =
    end_is K r p carry (long_left column held left used q) m ∙ end_long r p (null_bytes r p) column held left used carry q.some

-- ---- all the blocks
whole_stream : (w : Stream) → w.pieces ≡ [] → stopped w.how ≡ w
whole_stream w e = ap (λ (l : List Piece). record { pieces = l; how = w.how }) (sym e)

-- what a call that rests says of what is to come
rest_on : (r p b t c : List ℕ) (g : BlockGiven) (w : Stream) → goes_on g.arrival ≡ false → On r p (null_bytes r p) b t w (ok (g, c))
    → (w ≡ future r p (null_bytes r p) g.next c t) × (t ≡ [] → (future r p (null_bytes r p) g.next c []).pieces ≡ [])
rest_on r p b t c g w e o = go g.arrival e o
  where
    f : List ℕ → Stream
    f s = future r p (null_bytes r p) g.next c s

    go : (a : Arrived) → goes_on a ≡ false → (w ≡ told c b a (f (drop g.taken b ++ t))) × Still a b g.taken f
        → (w ≡ f t) × (t ≡ [] → (f []).pieces ≡ [])
    go more e o = (o.0 ∙ ap (λ (s : List ℕ). f (s ++ t)) o.1.0, λ z. o.1.1)
    go (null j) e o = absurd (true≢false e)
    go (value j v) e o = absurd (true≢false e)
    go (long j n) e o = absurd (true≢false e)
    go (part j n) e o = absurd (true≢false e)
    go (end used) e o = (o.0 ∙ sym (o.1 t), λ z. ap (λ (s : Stream). s.pieces) (o.1 []))

-- and one that goes on
next_on : (r p b t c : List ℕ) (g : BlockGiven) (w : Stream) → goes_on g.arrival ≡ true → On r p (null_bytes r p) b t w (ok (g, c))
    → w ≡ told c b g.arrival (future r p (null_bytes r p) g.next c (drop g.taken b ++ t))
next_on r p b t c g w e o = o.0

-- the calls from a state that a call left tell what was to come
pub run_future : (r p : List ℕ) {st : Arriving} {carry : List ℕ} {bs : List (List ℕ)} {s : Stream} {n : ℕ} → Run r p st carry bs s n
    → AllBytes bs → Left (Unit {0}) r p carry st → (bs ≡ [] → (future r p (null_bytes r p) st carry []).pieces ≡ [])
    → s ≡ future r p (null_bytes r p) st carry (concat bs)
run_future r p (ends st carry) bb l q =
    ap stopped (end_on (Unit {0}) r p carry l (spent_room (Unit {0}) r p carry tt l)) ∙ whole_stream
    (future r p (null_bytes r p) st carry []) (q refl)
run_future r p (refuses st carry b bs w e) bb l q =
    sym (rw e at (give_on (Unit {0}) r p carry b (concat bs) (λ k. bb.0) l (spent_room (Unit {0}) r p carry tt l)))
run_future r p (rests st carry b bs g c s n e a u) bb l q =
    let m = spent_room (Unit {0}) r p carry tt l in
    let o = rest_on r p b (concat bs) c g _ a (rw e at (give_on (Unit {0}) r p carry b (concat bs) (λ k. bb.0) l m)) in
    let k : Left (Unit {0}) r p c g.next = (rw e at (give_leaves (Unit {0}) r p carry b (λ k. bb.0) l m)).1 in
    run_future r p u bb.1 k (λ (z : bs ≡ []). o.1 (ap concat z)) ∙ sym o.0
run_future r p (answers st carry b bs g c s n e a u) bb l q =
    let m = spent_room (Unit {0}) r p carry tt l in
    let o = next_on r p b (concat bs) c g _ a (rw e at (give_on (Unit {0}) r p carry b (concat bs) (λ k. bb.0) l m)) in
    let k : Left (Unit {0}) r p c g.next = (rw e at (give_leaves (Unit {0}) r p carry b (λ k. bb.0) l m)).1 in
    ap (told c b g.arrival) (run_future r p u (bytes_drop g.taken b bb.0, bb.1) k (λ z. absurd (nil≢cons (sym z)))) ∙ sym o

-- ---- from the first state
begun_quiet : (r p carry : List ℕ) → (future r p (null_bytes r p) begun carry []).pieces ≡ []
unfolding from stream_slots slots
begun_quiet r p carry =
    let nb = null_bytes r p in
    let w = future_from r p nb 0 0 0 carry [] in
    ap (λ (s : Stream). s.pieces) w
    ∙ dite (dec_le nb 0)
    (λ (h : nb ≤ 0).
    let e : present r p ≡ [] = none (present r p) (omega (arith, present_length r p)) in
    rw (le-ltb 0 nb h, slots_all r p [], e))
    (λ h. rw (lt-ltb 0 nb (omega arith)))
  where
    none : (cs : List Present) → length cs ≡ 0 → cs ≡ []
    none [] e = refl
    none (c ∷ cs) e = absurd (omega arith)

-- however the image is cut: the answers, long values joined, and the end or the refusal are those of the walk over all of it
pub blocks : (r p carry : List ℕ) (bs : List (List ℕ)) (s : Stream) (n : ℕ) → Over r p → 1024 ≤ length carry → Bytes carry → AllBytes bs
    → Run r p begun carry bs s n
    → joined s ≡ walk_image r p (concat bs)
blocks r p carry bs s n u m bc bb x =
    ap joined (run_future r p x bb (begun_left (Unit {0}) r p carry u m (λ k. bc)) (λ z. begun_quiet r p carry))
    ∙ begun_walk r p carry (concat bs) u (omega (arith, null_most r p u))

-- and with carries of one length all is told the same, piece by piece
begun_same : (r p carry carry' t : List ℕ) → length carry ≡ length carry'
    → future r p (null_bytes r p) begun carry t ≡ future r p (null_bytes r p) begun carry' t
unfolding future_in
begun_same r p carry carry' t e = rw e

pub same_pieces : (r p carry carry' : List ℕ) (cs bs : List (List ℕ)) (s t : Stream) (m n : ℕ) → Over r p → 1024 ≤ length carry
    → length carry ≡ length carry' → Bytes carry → Bytes carry' → AllBytes cs → AllBytes bs → concat cs ≡ concat bs
    → Run r p begun carry cs s m → Run r p begun carry' bs t n → s ≡ t
same_pieces r p carry carry' cs bs s t m n u h e ca cb a b k x y =
    run_future r p x a (begun_left (Unit {0}) r p carry u h (λ k. ca)) (λ z. begun_quiet r p carry)
    ∙ begun_same r p carry carry' (concat cs) e
    ∙ ap (future r p (null_bytes r p) begun carry') k
    ∙ sym (run_future r p y b (begun_left (Unit {0}) r p carry' u (omega (arith, e)) (λ k. cb)) (λ z. begun_quiet r p carry'))

-- ---- and there is always such a run: each answer takes something of what is to come
told_less : (r p b t c : List ℕ) (g : BlockGiven) (w : Stream) → goes_on g.arrival ≡ true → On r p (null_bytes r p) b t w (ok (g, c))
    → length (future r p (null_bytes r p) g.next c (drop g.taken b ++ t)).pieces < length w.pieces
told_less r p b t c g w e o = go g.arrival e o
  where
    f : List ℕ → Stream
    f s = future r p (null_bytes r p) g.next c s

    v : Stream
    v = f (drop g.taken b ++ t)

    less : (ps : List Piece) → 0 < length ps → w ≡ with ps v → length v.pieces < length w.pieces
    less ps h e =
        let z : length w.pieces ≡ length ps + length v.pieces = ap (λ (s : Stream). length s.pieces) e ∙ length-append ps
        v.pieces in omega arith

    go : (a : Arrived) → goes_on a ≡ true → (w ≡ told c b a v) × Still a b g.taken f → length v.pieces < length w.pieces
    go more e o = absurd (true≢false (sym e))
    go (null j) e o = less (datum j null_datum ∷ []) (omega arith) o.0
    go (value j x) e o = less (datum j (datum_of c x) ∷ []) (omega arith) o.0
    go (long j n) e o = less (size j n ∷ []) (omega arith) o.0
    go (part j n) e o = less (byte_pieces j (take n b)) (omega (arith, o.1, length-map (take n b) (byte j))) o.0
    go (end used) e o = absurd (true≢false (sym e))

abbrev pub Runs : List ℕ → List ℕ → Arriving → List ℕ → List (List ℕ) → Type 0
Runs r p st carry bs = (s : Stream) × (n : ℕ) × Run r p st carry bs s n

run_block : (m : ℕ) (r p : List ℕ) (st : Arriving) (carry b : List ℕ) (bs : List (List ℕ)) → Bytes b → Left (Unit {0}) r p carry st
    → length (future r p (null_bytes r p) st carry (b ++ [])).pieces < m
    → ((st' : Arriving) (c : List ℕ) → Left (Unit {0}) r p c st' → Runs r p st' c bs) → Runs r p st carry (b ∷ bs)
run_block zero r p st carry b bs bb l h f = absurd (omega arith)
run_block (suc m) r p st carry b bs bb l h f =
    let z = spent_room (Unit {0}) r p carry tt l in
    go (give_block r p st carry b) refl (give_on (Unit {0}) r p carry b [] (λ k. bb) l z) (give_leaves (Unit {0}) r p carry b (λ k. bb) l z)
    (λ st' c b' bb' l' h'. run_block m r p st' c b' bs bb' l' h' f)
  where
    go : (x : Outcome Handed) → give_block r p st carry b ≡ x → On r p (null_bytes r p) b [] (future r p (null_bytes r p) st carry (b ++ [])) x
        → Leaves (Unit {0}) r p (length carry) x
        → ((st' : Arriving) (c b' : List ℕ) → Bytes b' → Left (Unit {0}) r p c st'
        → length (future r p (null_bytes r p) st' c (b' ++ [])).pieces < m → Runs r p st' c (b' ∷ bs))
        → Runs r p st carry (b ∷ bs)
    go (refused w) e o k i = (stopped (refused w), 0, refuses st carry b bs w e)
    go (ok x) e o k i = by (goes_on x.0.arrival) refl
      where
        by : (a : Bool) → goes_on x.0.arrival ≡ a → Runs r p st carry (b ∷ bs)
        by true a =
            let n =
            i x.0.next x.1 (drop x.0.taken b) (bytes_drop x.0.taken b bb) k.1
            (omega (arith, told_less r p b [] x.1 x.0 (future r p (null_bytes r p) st carry (b ++ [])) a o)) in (
              told x.1 b x.0.arrival n.0,
              x.0.taken + n.1,
              answers st carry b bs x.0 x.1 n.0 n.1 e a n.2,
            )
        by false a =
            let n = f x.0.next x.1 k.1 in
            (n.0, x.0.taken + n.1, rests st carry b bs x.0 x.1 n.0 n.1 e a n.2)

-- there is always such a run: each answer takes a piece of what is to come
pub runs : (r p : List ℕ) (bs : List (List ℕ)) (st : Arriving) (carry : List ℕ) → AllBytes bs → Left (Unit {0}) r p carry st
    → Runs r p st carry bs
runs r p [] st carry bb l = (stopped (end_blocks r p st carry), 0, ends st carry)
runs r p (b ∷ bs) st carry bb l =
    run_block (suc (length (future r p (null_bytes r p) st carry (b ++ [])).pieces)) r p st carry b bs bb.0 l (omega arith)
    (λ st' c k. runs r p bs st' c bb.1 k)
