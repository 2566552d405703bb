-- What is still to come from a state does not change across a call. Assumes nothing.
use Prim.Native.Nat.{ℕ, ◌+◌, ◌-◌, ◌≤◌, ◌<◌}
use mathlib.Core.Path.{◌≡◌, refl, sym, ap, subst, ◌∙◌}
use mathlib.Core.Bool.{Bool, true, false, cond, true≢false}
use mathlib.Core.Logic.{dite}
use mathlib.Core.List.{List, [], ◌∷◌, ◌++◌, append_assoc, append-nil}
use native.Mathlib.Nat.{add-zero}
use native.Mathlib.Decide.{dec_le}
use native.Mathlib.Omega.{arith}
use borrow.Author.Tests.{lt-ltb, le-ltb}
use lib.ListN.{length, take, drop, length-append, length-drop, take-append-drop}
use lib.Seq.{length-take-le, drop-append-le, drop_at, drop-drop, drop-length, take-length}
use lib.Dec.{ltb}
use Rattle.std.proofs.lemmas.List.{drop-take}
use Rattle.wire.specs.Outcome.{Outcome, ok, refused, refuse, after, why}
use Rattle.wire.specs.Bits.{bit_lsb0}
use Rattle.value.specs.declared.shape.Shape.{Shape}
use Rattle.value.specs.Data.{Datum, null as null_datum}
use Rattle.value.specs.Shapes.{need, prefix}
use Rattle.value.specs.Reading.{judged, placed, short}
use Rattle.value.proofs.Laws.{fails_back}
use Rattle.value.proofs.Tables.{sized}
use Rattle.record.specs.Entries.{column_of}
use Rattle.record.specs.Records.{count_of, entry_in}
use Rattle.record.proofs.Valid.{valid_column}
use Rattle.image.specs.Present.{shape_at, count_bits, first_from}
use Rattle.image.specs.Split.{Slot, slots_at}
use Rattle.image.proofs.PresenceLaws.Firsts.{first_is, first_stop, slot_at, present_at, slots_end, slots_first}
use Rattle.image.proofs.CursorLaws.Heads.{Over, null_bytes}
use Rattle.image.proofs.StepLaws.Splits.{Good}
use Rattle.value.proofs.Appends.{prefix_within, need_front}
use Rattle.value.proofs.Most.{need_most}
use Rattle.wire.specs.Number.{Bytes}
use Rattle.wire.proofs.Stores.{stored_bytes_lem}
use Rattle.wire.proofs.Inverse.{bytes_take, bytes_drop, bytes_append}
use Rattle.image.proofs.AppendLaws.GrownSteps.{slots_more}
use Rattle.blocks.specs.declared.state.Arriving.{Arriving}
use Rattle.blocks.specs.States.{opened, longed, Arrived, more, null, value, long, part, end}
use Rattle.blocks.specs.Turns.{TurnSaid, wait, long as long₁, whole, too_long, turn_of}
use Rattle.blocks.specs.Gives.{Handed, commit, used_to, waiting, by_turn, give_over, give_open}
use Rattle.blocks.specs.Streams.{datum, Stream, stopped, with, told}
use Rattle.blocks.specs.Inner.Futures.{streamed, stream_slots, future_in, future}
use Rattle.blocks.proofs.Carries.{carried, Within, carried_length, carried_front, carried_same, front_length, carried_behind}
use Rattle.blocks.proofs.Carries.{carried_before}
use Rattle.blocks.proofs.Spends.{most_to, most_next, most_mono}
use Rattle.blocks.proofs.Turned.{is_long_lem, long_is, not_long, long_front, prefix_most, read_whole, said_whole}

-- ---- what is to come, by the bytes at hand as one list
unfoldable pub from : List ℕ → List ℕ → ℕ → ℕ → ℕ → ℕ → List ℕ → Stream
from r p nb room column o y = cond (ltb (length y) nb) (stopped (refuse 9 0)) (stream_slots room (slots_at r p y column) (drop nb y) o)

pub future_from : (r p : List ℕ) (nb column held used : ℕ) (carry t : List ℕ)
    → future r p nb (opened column held used) carry t ≡ from r p nb (length carry - nb) column (used + nb - held) (take held carry ++ t)
unfolding future_in from
future_from r p nb column held used carry t = refl

-- the null bits being there, with whatever comes behind
pub from_goes : (r p : List ℕ) (room column o : ℕ) (y t : List ℕ) → column ≤ count_of r → null_bytes r p ≤ length y
    → from r p (null_bytes r p) room column o (y ++ t) ≡ stream_slots room (slots_at r p y column) (drop (null_bytes r p) y ++ t) o
unfolding from
from_goes r p room column o y t h l =
    let nb = null_bytes r p in
    let m = length-append y t in
    rw (le-ltb (length (y ++ t)) nb (omega arith), slots_more r p y t column h l, drop-append-le nb y t l)

-- from the first present column on it is the same
pub slots_again : (r p y : List ℕ) (column : ℕ) → column ≤ count_of r → let f = first_from (count_of r - column) p column in f < count_of r
    → slots_at r p y f ≡ slots_at r p y column
slots_again r p y column h l =
    let n = count_of r in
    let f = first_from (n - column) p column in
    let i = first_is (n - column) p column in
    let e : first_from (n - f) p f ≡ f = first_stop n f p l (i.found (omega arith)) in
    let a = slots_first r p y f (omega arith) (subst (λ (k : ℕ). k < n) (sym e) l) in
    subst (λ (k : ℕ). slots_at r p y f ≡ slot_at r p y k ∷ slots_at r p y (k + 1)) e a ∙ sym (slots_first r p y column h l)

-- ---- what a call is to keep
-- `more` takes all, and with nothing more there is nothing to tell; no part is empty; the end, once told, stays whatever comes
abbrev pub Still : Arrived → List ℕ → ℕ → (List ℕ → Stream) → Type 0
Still more block taken f = (drop taken block ≡ []) × ((f []).pieces ≡ [])
Still (null j) block taken f = Unit {0}
Still (value j v) block taken f = Unit {0}
Still (long j n) block taken f = Unit {0}
Still (part j n) block taken f = 0 < length (take n block)
Still (end used) block taken f = (s : List ℕ) → f s ≡ stopped (ok used)

abbrev pub On : List ℕ → List ℕ → ℕ → List ℕ → List ℕ → Stream → Outcome Handed → Type 0
On r p nb block t w (ok x) =
    (w ≡ told x.1 block x.0.arrival (future r p nb x.0.next x.1 (drop x.0.taken block ++ t)))
    × Still x.0.arrival block x.0.taken (future r p nb x.0.next x.1)
On r p nb block t w (refused v) = w ≡ stopped (refused v)

-- a held value that is not whole: its column is the first, not NULL, not too long, and needs more
abbrev pub Waiting : ℕ → ℕ → List Slot → List ℕ → Type 0
Waiting room j [] h = ⊥
Waiting room j (i ∷ is) h =
    (i.null ≡ false) × (too_long room i.present.shape h ≡ false) × (length h < need i.present.shape h) × (i.present.column ≡ j)

-- a value for which there is no room: its column is the first, not NULL, and just its length bytes are held
abbrev pub Longing : ℕ → ℕ → ℕ → List Slot → List ℕ → Type 0
Longing room j left [] h = ⊥
Longing room j left (i ∷ is) h =
    (i.null ≡ false) × (too_long room i.present.shape h ≡ true) × (length h ≡ prefix i.present.shape) ×
    (left ≤ need i.present.shape h - prefix i.present.shape) × (i.present.column ≡ j)

-- ---- what a fit state obeys; and, K being so, what one obeys that a call left
pub record Ready (K : Type 0) (r p : List ℕ) (column held used : ℕ) (carry : List ℕ) : Type 0 where
  pub over : Over r p
  pub room : null_bytes r p + 64 ≤ length carry
  pub least : 1024 ≤ length carry
  pub among : column ≤ count_of r
  pub fits : held ≤ length carry
  pub counted : held ≤ used
  pub first : held < null_bytes r p → (column ≡ 0) × (used ≡ held)
  pub waits : null_bytes r p < held
      → Waiting (length carry - null_bytes r p) column (slots_at r p (take held carry) column) (drop (null_bytes r p) (take held carry))
  pub spent : K → Bytes carry × (used ≤ held + most_to r p column)

pub record LongReady (K : Type 0) (r p : List ℕ) (column held left used : ℕ) (carry : List ℕ) : Type 0 where
  pub over : Over r p
  pub room : null_bytes r p + 64 ≤ length carry
  pub least : 1024 ≤ length carry
  pub among : column < count_of r
  pub low : null_bytes r p ≤ held
  pub fits : held ≤ length carry
  pub counted : held ≤ used
  pub some : 0 < left
  pub longs : Longing (length carry - null_bytes r p) column left (slots_at r p (take held carry) column)
      (drop (null_bytes r p) (take held carry))
  pub spent : K → Bytes carry × (used + left ≤ null_bytes r p + most_to r p (column + 1))

pub data Left (K : Type 0) (r p carry : List ℕ) : Arriving → Type 0 where
  open_left : (column held used : ℕ) → Ready K r p column held used carry → Left K r p carry (opened column held used)
  long_left : (column held left used : ℕ) → LongReady K r p column held left used carry → Left K r p carry (longed column held left used)

-- the carry has as many bytes as before
abbrev pub Leaves : Type 0 → List ℕ → List ℕ → ℕ → Outcome Handed → Type 0
Leaves K r p n (ok x) = (length x.1 ≡ n) × Left K r p x.1 x.0.next
Leaves K r p n (refused w) = Unit {0}

-- ---- the bytes up to `upto` being taken
module _ (r p : List ℕ) (held used : ℕ) (carry block t : List ℕ) (upto : ℕ) (w : Within carry block held upto) where
  abbrev nb : ℕ
  nb = null_bytes r p

  abbrev all : List ℕ
  all = take held carry ++ (block ++ t)

  -- all of them still held
  pub moved : (j : ℕ) → held ≤ used
      → future r p nb (opened j upto (used + (upto - held))) (carried carry block held upto) (drop (upto - held) block ++ t)
      ≡ from r p nb (length carry - nb) j (used + nb - held) all
  moved j c =
      let o : used + (upto - held) + nb - upto ≡ used + nb - held = omega (arith, w.low) in
      future_from r p nb j upto (used + (upto - held)) (carried carry block held upto) (drop (upto - held) block ++ t)
      ∙ rw (carried_length carry block held upto w, carried_same carry block held upto w t, o)

  -- the slots go by the front of the carry
  pub front_slots : (j : ℕ) → j ≤ count_of r → nb ≤ upto → slots_at r p (take nb (carried carry block held upto)) j ≡ slots_at r p all j
  front_slots j h l =
      let m : nb ≤ length all = omega (
        arith,
        length-append (take held carry) (block ++ t),
        length-append block t,
        length-take-le held carry
            (omega (arith, w.low, w.fits)),
        w.high,
      ) in
      let k = length-take-le nb all m in
      ap (λ (s : List ℕ). slots_at r p s j) (sym (carried_before carry block held upto w t nb l))
      ∙ sym (slots_more r p (take nb all) (drop nb all) j h (omega arith))
      ∙ ap (λ (s : List ℕ). slots_at r p s j) (take-append-drop nb all)

  -- the value among them no longer held
  pub moved_on : (j : ℕ) → j ≤ count_of r → nb ≤ upto
      → future r p nb (opened j nb (used + (upto - held))) (carried carry block held upto) (drop (upto - held) block ++ t)
      ≡ stream_slots (length carry - nb) (slots_at r p all j) (drop upto all) (used + (upto - held))
  moved_on j h l =
      let c = carried carry block held upto in
      let n : length c ≡ length carry = carried_length carry block held upto w in
      let k : length (take nb c) ≡ nb = length-take-le nb c (omega (arith, w.fits)) in
      let o : used + (upto - held) + nb - nb ≡ used + (upto - held) = omega arith in
      let z : drop nb (take nb c) ++ (drop (upto - held) block ++ t) ≡ drop upto all =
      sym (drop-append-le nb (take nb c) (drop (upto - held) block ++ t) (omega arith)) ∙ drop_at (take nb c)
      (drop (upto - held) block ++ t) nb k ∙ sym (carried_behind carry block held upto w t) in
      future_from r p nb j nb (used + (upto - held)) c (drop (upto - held) block ++ t)
      ∙ from_goes r p (length c - nb) j (used + (upto - held) + nb - nb) (take nb c) (drop (upto - held) block ++ t) h (omega arith)
      ∙ rw (n, o, z, front_slots j h l)

-- ---- the call, in the Open phase
module _ (K : Type 0) (r p : List ℕ) (column held used : ℕ) (carry block t : List ℕ) (q : Ready K r p column held used carry)
    (kb : K → Bytes block) where
  abbrev nulls : ℕ
  nulls = null_bytes r p

  abbrev space : ℕ
  space = length carry - nulls

  abbrev st : Arriving
  st = opened column held used

  -- the bytes at hand, and those that will be
  abbrev y : List ℕ
  y = take held carry ++ block

  abbrev kept : Outcome Handed → Type 0
  kept g = On r p nulls block t (from r p nulls space column (used + nulls - held) (take held carry ++ (block ++ t))) g

  abbrev leaves : Outcome Handed → Type 0
  leaves g = Leaves K r p (length carry) g

  hand_length : length (take held carry ++ block) ≡ held + length block
  hand_length = length-append (take held carry) block ∙ ap (λ (k : ℕ). k + length block) (length-take-le held carry q.fits)

  hand_more : take held carry ++ (block ++ t) ≡ (take held carry ++ block) ++ t
  hand_more = sym (append_assoc (take held carry) block t)

  none_left : drop (held + length block - held) block ≡ []
  none_left = let e : held + length block - held ≡ length block = omega arith in ap (λ (k : ℕ). drop k block) e ∙ drop-length block

  -- what is held then, and what is to come when nothing comes
  wait_front : (w : Within carry block held (held + length block))
      → take (held + length block) (carried carry block held (held + length block)) ≡ take held carry ++ block
  wait_front w =
      let e : held + length block - held ≡ length block = omega arith in
      carried_front carry block held (held + length block) w ∙ ap (λ (k : ℕ). take held carry ++ take k block) e ∙ ap
      (λ (s : List ℕ). take held carry ++ s) (take-length block)

  quiet : (w : Within carry block held (held + length block)) (j : ℕ)
      → (future r p nulls (opened j (held + length block) (used + (held + length block - held)))
      (carried carry block held (held + length block)) []).pieces
      ≡ (from r p nulls space j (used + nulls - held) y).pieces
  quiet w j =
      let upto = held + length block in
      let o : used + (upto - held) + nulls - upto ≡ used + nulls - held = omega arith in
      let e : future r p nulls (opened j upto (used + (upto - held))) (carried carry block held upto) [] ≡ from r p nulls space j
      (used + nulls - held) y =
      future_from r p nulls j upto (used + (upto - held)) (carried carry block held upto) []
      ∙ rw (carried_length carry block held upto w, append-nil (take upto (carried carry block held upto)), wait_front w, o) in
      ap (λ (v : Stream). v.pieces) e

  -- all of the block is held, j being the column or the first present one from it on
  wait_on : (j : ℕ) → held + length block ≤ length carry → slots_at r p (take held carry ++ (block ++ t)) j
      ≡ slots_at r p (take held carry ++ (block ++ t)) column
      → (from r p nulls space j (used + nulls - held) y).pieces ≡ [] → kept (waiting st carry block j)
  unfolding commit from
  wait_on j h e z =
      let upto = held + length block in
      let w : Within carry block held upto = record { low = omega arith; high = omega arith; fits = h } in (
        ap (λ (is : List Slot). cond (ltb (length (take held carry ++ (block ++ t))) nulls) (stopped (refuse 9 0))
            (stream_slots space is (drop nulls (take held carry ++ (block ++ t))) (used + nulls - held))) (sym e)
            ∙ sym (moved r p held used carry block t upto w j q.counted),
        (none_left, quiet w j ∙ z),
      )

  bytes_carried : (upto : ℕ) → K → Bytes (carried carry block held upto)
  bytes_carried upto k = stored_bytes_lem carry held (take (upto - held) block) (q.spent k).0 (bytes_take (upto - held) block (kb k))

  wait_left : (j : ℕ) → held + length block ≤ length carry → j ≤ count_of r → column ≤ j
      → (held + length block < nulls → (j ≡ 0) × (used ≡ held))
      → (nulls < held + length block → Waiting space j (slots_at r p y j) (drop nulls y)) → leaves (waiting st carry block j)
  unfolding commit
  wait_left j h a o f v =
      let upto = held + length block in
      let w : Within carry block held upto = record { low = omega arith; high = omega arith; fits = h } in
      let n = carried_length carry block held upto w in (
        n,
        open_left j upto (used + (upto - held)) (record {
          over = q.over;
          room = omega (arith, q.room);
          least = omega (arith, q.least);
          among = a;
          fits = omega arith;
          counted = omega (arith, q.counted);
          first = λ (k : upto < nulls). ((f k).0, omega (arith, (f k).1));
          waits = λ (k : nulls < upto). rw (wait_front w, n) (v k);
          spent = λ k. (bytes_carried upto k, omega (arith, (q.spent k).1, most_mono r p column j o));
        }),
      )

  -- nothing held behind the null bits
  next_left : (j upto : ℕ) → Within carry block held upto → nulls ≤ upto → j ≤ count_of r
      → (K → used + (upto - held) ≤ nulls + most_to r p j)
      → (length (carried carry block held upto) ≡ length carry)
      × Left K r p (carried carry block held upto) (opened j nulls (used + (upto - held)))
  next_left j upto w h a z =
      let n = carried_length carry block held upto w in (
        n,
        open_left j nulls (used + (upto - held)) (record {
          over = q.over;
          room = omega (arith, q.room);
          least = omega (arith, q.least);
          among = a;
          fits = omega (arith, q.room);
          counted = omega (arith, q.counted, w.low);
          first = λ (k : nulls < nulls). absurd (omega arith);
          waits = λ (k : nulls < nulls). absurd (omega arith);
          spent = λ k. (bytes_carried upto k, z k);
        }),
      )

  -- the null bits are not whole
  short_left : length (take held carry ++ block) < nulls → leaves (give_open r p nulls st carry block)
  unfolding give_open
  short_left h =
      rw (lt-ltb (length (take held carry ++ block)) nulls h)
      (wait_left column (omega (arith, hand_length, q.room)) q.among (omega arith) (λ k. q.first (omega (arith, hand_length)))
      (λ k. absurd (omega (arith, hand_length))))

  short_quiet : length (take held carry ++ block) < nulls → (from r p nulls space column (used + nulls - held) y).pieces ≡ []
  unfolding from
  short_quiet h = rw (lt-ltb (length y) nulls h)

  short_on : length (take held carry ++ block) < nulls → kept (give_open r p nulls st carry block)
  unfolding give_open
  short_on h =
      rw (lt-ltb (length (take held carry ++ block)) nulls h) (wait_on column (omega (arith, hand_length, q.room)) refl (short_quiet h))

  -- they are
  module _ (l : nulls ≤ length (take held carry ++ block)) where
    goes : from r p nulls space column (used + nulls - held) (take held carry ++ (block ++ t))
        ≡ stream_slots space (slots_at r p y column) (drop nulls y ++ t) (used + nulls - held)
    goes =
        ap (from r p nulls space column (used + nulls - held)) hand_more ∙ from_goes r p space column (used + nulls - held) y t q.among l

    all_slots : (j : ℕ) → j ≤ count_of r → slots_at r p (take held carry ++ (block ++ t)) j ≡ slots_at r p y j
    all_slots j h = ap (λ (s : List ℕ). slots_at r p s j) hand_more ∙ slots_more r p y t j h l

    all_behind : (k : ℕ) → drop (nulls + k) (take held carry ++ (block ++ t)) ≡ drop k (drop nulls y ++ t)
    all_behind k = ap (drop (nulls + k)) hand_more ∙ sym (drop-drop k nulls (y ++ t)) ∙ ap (drop k) (drop-append-le nulls y t l)

    -- a column answered with k bytes behind the null bits, and then the next
    rest_on : (j k upto : ℕ) → upto ≡ nulls + k → Within carry block held upto → j ≤ count_of r
        → future r p nulls (opened j nulls (used + (upto - held))) (carried carry block held upto) (drop (upto - held) block ++ t)
        ≡ stream_slots space (slots_at r p y j) (drop k (drop nulls y ++ t)) (used + nulls - held + k)
    rest_on j k upto e w h =
        let o : used + (upto - held) ≡ used + nulls - held + k = omega (arith, w.low, q.counted) in
        moved_on r p held used carry block t upto w j h (omega arith)
        ∙ rw (all_slots j h, o)
        (ap (λ (s : List ℕ). stream_slots space (slots_at r p y j) s (used + nulls - held + k))
        (ap (λ (x : ℕ). drop x (take held carry ++ (block ++ t))) e ∙ all_behind k))

    -- bytes are held behind the null bits only for a value that waits
    held_waits : nulls < held → Waiting space column (slots_at r p y column) (drop nulls (take held carry))
    held_waits h =
        let e = slots_more r p (take held carry) block column q.among (omega (arith, length-take-le held carry q.fits)) in
        subst (λ (is : List Slot). Waiting space column is (drop nulls (take held carry))) (sym e) (q.waits h)

    none_held : slots_at r p y column ≡ [] → held ≤ nulls
    none_held e =
        dite (dec_le held nulls) (λ (h : held ≤ nulls). h)
        (λ h. absurd (subst (λ (is : List Slot). Waiting space column is (drop nulls (take held carry))) e (held_waits (omega arith))))

    module _ (i : Slot) (is : List Slot) (e : slots_at r p y column ≡ i ∷ is) where
      slot_waits : nulls < held → Waiting space column (i ∷ is) (drop nulls (take held carry))
      slot_waits h = subst (λ (is : List Slot). Waiting space column is (drop nulls (take held carry))) e (held_waits h)

      null_held : i.null ≡ true → held ≤ nulls
      null_held n = dite (dec_le held nulls) (λ (h : held ≤ nulls). h) (λ h. absurd (true≢false (sym n ∙ (slot_waits (omega arith)).0)))

    -- no column is left
    end_on : slots_at r p y column ≡ [] → kept (give_open r p nulls st carry block)
    unfolding give_open give_over commit stream_slots
    end_on e =
        let h = none_held e in
        let o : used + nulls - held ≡ used + (nulls - held) = omega arith in
        let w : Within carry block held nulls = record { low = h; high = omega (arith, hand_length); fits = omega (arith, q.room) } in
        let c = carried carry block held nulls in
        let n = carried_length carry block held nulls w in
        let k : length (take nulls c) ≡ nulls = length-take-le nulls c (omega (arith, q.room)) in
        let z : slots_at r p (take nulls c) column ≡ [] = front_slots r p held used carry block t nulls w column q.among (omega arith)
        ∙ all_slots column q.among ∙ e in
        let i : used + (nulls - held) + nulls - nulls ≡ used + (nulls - held) = omega arith in
        rw (le-ltb (length y) nulls l, e) (
          goes ∙ rw (e, o),
          λ (s : List ℕ).
              future_from r p nulls column nulls (used + (nulls - held)) c s
              ∙ from_goes r p (length c - nulls) column (used + (nulls - held) + nulls - nulls) (take nulls c) s q.among (omega arith)
              ∙ rw (z, i),
        )

    end_left : slots_at r p y column ≡ [] → leaves (give_open r p nulls st carry block)
    unfolding give_open give_over commit
    end_left e =
        let w : Within carry block held nulls = record
        { low = none_held e; high = omega (arith, hand_length); fits = omega (arith, q.room) } in
        rw (le-ltb (length y) nulls l, e)
        (next_left column nulls w (omega arith) q.among (λ k. omega (arith, (q.spent k).1, none_held e)))

    -- f is the first column that is left
    module _ (f : ℕ) (g : f ≡ first_from (count_of r - column) p column) (b : f < count_of r) where
      abbrev sh : Shape
      sh = shape_at r f

      abbrev slot : Slot
      slot = slot_at r p y f

      abbrev behind : List Slot
      behind = slots_at r p y (f + 1)

      slots_are : slots_at r p y column ≡ slot_at r p y f ∷ slots_at r p y (f + 1)
      slots_are =
          subst (λ (k : ℕ). slots_at r p y column ≡ slot_at r p y k ∷ slots_at r p y (k + 1)) (sym g)
          (slots_first r p y column q.among (omega arith))

      good : Good (present_at r f)
      unfolding shape_at
      good = record { sized = sized (column_of (entry_in r f)); taken = valid_column r f q.over.valid b }

      from_column : column ≤ f
      from_column = subst (λ (k : ℕ). column ≤ k) (sym g) (first_is (count_of r - column) p column).low

      is_set : bit_lsb0 p f ≡ true
      is_set =
          subst (λ (k : ℕ). k < column + (count_of r - column) → bit_lsb0 p k ≡ true) (sym g) (first_is (count_of r - column) p column).found
          (omega (arith, q.among))

      -- NULL
      null_on : bit_lsb0 y (count_bits p f) ≡ true → kept (give_open r p nulls st carry block)
      unfolding give_open give_over commit stream_slots
      null_on n =
          let h = null_held slot behind slots_are n in
          let w : Within carry block held nulls = record { low = h; high = omega (arith, hand_length); fits = omega (arith, q.room) } in
          let a = rest_on (f + 1) 0 nulls (sym (add-zero nulls)) w (omega arith) in
          rw (le-ltb (length y) nulls l, slots_are, n)
          (goes ∙ rw (slots_are, n) (ap (with (datum f null_datum ∷ [])) (sym (rw (add-zero (used + nulls - held)) at a))), tt)

      null_left : bit_lsb0 y (count_bits p f) ≡ true → leaves (give_open r p nulls st carry block)
      unfolding give_open give_over commit
      null_left n =
          let w : Within carry block held nulls = record
          { low = null_held slot behind slots_are n; high = omega (arith, hand_length); fits = omega (arith, q.room) } in
          rw (le-ltb (length y) nulls l, slots_are, n) (next_left (f + 1) nulls w (omega arith) (omega arith)
          (λ k. omega (arith, (q.spent k).1, null_held slot behind slots_are n, most_mono r p column (f + 1) (omega (arith, from_column)))))

      slots_from : slots_at r p y f ≡ slot_at r p y f ∷ slots_at r p y (f + 1)
      slots_from =
          subst (λ (k : ℕ). slots_at r p y k ≡ slots_at r p y column) (sym g) (slots_again r p y column q.among (omega arith)) ∙ slots_are

      module _ (n : bit_lsb0 y (count_bits p f) ≡ false) where
        abbrev x : List ℕ
        x = drop nulls y

        -- how many bytes are at hand behind the null bits
        x_length : length x ≡ held + length block - nulls
        x_length = length-drop nulls y ∙ ap (λ (k : ℕ). k - nulls) hand_length

        by_turn_lem : (v : TurnSaid) → turn_of space sh x ≡ v → kept (by_turn nulls sh f x st carry block v)
            → kept (give_open r p nulls st carry block)
        unfolding give_open give_over
        by_turn_lem v e k = rw (le-ltb (length y) nulls l, slots_are, n, e) k

        -- the part of it that was held before
        abbrev old : List ℕ
        old = drop nulls (take held carry)

        old_length : length old ≡ held - nulls
        old_length = length-drop nulls (take held carry) ∙ ap (λ (k : ℕ). k - nulls) (length-take-le held carry q.fits)

        x_old : nulls ≤ held → x ≡ old ++ block
        x_old h = drop-append-le nulls (take held carry) block (omega (arith, length-take-le held carry q.fits))

        -- so what was held was less than tells a long value, and less than a whole one
        before_long : too_long space sh x ≡ true → held ≤ nulls + prefix sh
        before_long v =
            dite (dec_le held nulls) (λ (h : held ≤ nulls). omega arith)
            (λ h.
            let w = slot_waits slot behind slots_are (omega arith) in
            let a = old_length in
            dite (dec_le (prefix sh) (length old))
            (λ (k : prefix sh ≤ length old). absurd
            (true≢false (sym v ∙ ap (too_long space sh) (x_old (omega arith)) ∙ long_front space sh old block k ∙ w.1)))
            (λ k. omega arith))

        before_whole : held ≤ nulls + need sh x
        before_whole =
            dite (dec_le held nulls) (λ (h : held ≤ nulls). omega arith)
            (λ h.
            let w = slot_waits slot behind slots_are (omega arith) in
            let a = old_length in
            dite (dec_le (prefix sh) (length old))
            (λ (k : prefix sh ≤ length old). omega (arith, ap (need sh) (x_old (omega arith)) ∙ need_front sh old block k, w.2))
            (λ k. omega (arith, prefix_within sh x)))

        wait_fits : too_long space sh x ≡ false → length x < need sh x → held + length block ≤ length carry
        wait_fits v h =
            let m : length x < length carry - nulls =
            dite (dec_le (prefix sh) (length x))
            (λ (k : prefix sh ≤ length x). omega (arith, not_long space sh x v k))
            (λ k. omega (arith, prefix_most sh good.sized, q.room)) in
            omega (arith, x_length, q.room)

        wait_quiet : too_long space sh x ≡ false → length x < need sh x → (from r p nulls space f (used + nulls - held) y).pieces ≡ []
        unfolding from stream_slots
        wait_quiet v h = rw (le-ltb (length y) nulls l, slots_from, n, v, fails_back sh f x (why 9 f) good.taken (short h))

        -- not enough bytes
        wait_turn : too_long space sh x ≡ false → length x < need sh x → kept (by_turn nulls sh f x st carry block wait)
        unfolding by_turn
        wait_turn v h =
            wait_on f (wait_fits v h)
            (subst (λ (k : ℕ). slots_at r p (take held carry ++ (block ++ t)) k ≡ slots_at r p (take held carry ++ (block ++ t)) column)
            (sym g)
            (slots_again r p (take held carry ++ (block ++ t)) column q.among (omega arith)))
            (wait_quiet v h)

        turn_left : (v : TurnSaid) → turn_of space sh x ≡ v → leaves (by_turn nulls sh f x st carry block v)
            → leaves (give_open r p nulls st carry block)
        unfolding give_open give_over
        turn_left v e k = rw (le-ltb (length y) nulls l, slots_are, n, e) k

        wait_turn_left : too_long space sh x ≡ false → length x < need sh x → leaves (by_turn nulls sh f x st carry block wait)
        unfolding by_turn
        wait_turn_left v h =
            wait_left f (wait_fits v h) (omega arith) from_column (λ k. absurd (omega (arith, hand_length)))
            (λ k. subst (λ (is : List Slot). Waiting space f is x) (sym slots_from) (n, v, h, refl))

        -- how many bytes it may take
        has_room : K → most_to r p column + need sh x ≤ most_to r p (f + 1)
        has_room k =
            let b = bytes_drop nulls y (bytes_append (take held carry) block (bytes_take held carry (q.spent k).0) (kb k)) in
            omega (arith, most_mono r p column f from_column, most_next r p f is_set, need_most sh x b)

        -- a value for which there is no room
        long_turn : too_long space sh x ≡ true → kept (by_turn nulls sh f x st carry block (long₁ (need sh x - prefix sh)))
        unfolding by_turn commit stream_slots future_in
        long_turn v =
            let upto = nulls + prefix sh in
            let i = is_long_lem space sh x v in
            let w : Within carry block held upto =
            record {
              low =
                  before_long v;
              high =
                  omega (arith, x_length, i.there, l, hand_length);
              fits = omega (arith, prefix_most sh good.sized, q.room);
            } in
            let c = carried carry block held upto in
            let z : drop (upto - held) block ++ t ≡ drop (prefix sh) (x ++ t) = sym (carried_behind carry block held upto w t) ∙ all_behind
            (prefix sh) in
            let k : slots_at r p (take nulls c) (f + 1) ≡ behind = front_slots r p held used carry block t upto w (f + 1) (omega arith)
            (omega arith) ∙ all_slots (f + 1) (omega arith) in
            let o : used + (upto - held) ≡ used + nulls - held + prefix sh = omega (arith, w.low, q.counted) in (
              goes
                  ∙ rw (
                    slots_are,
                    n,
                    long_front space sh x t i.there,
                    v,
                    need_front sh x t
                        i.there,
                    carried_length carry block held upto w,
                    k,
                    z,
                    o,
                  ),
              tt,
            )

        long_within : too_long space sh x ≡ true → Within carry block held (nulls + prefix sh)
        long_within v =
            record {
              low =
                  before_long v;
              high =
                  omega (arith, x_length, (is_long_lem space sh x v).there, l, hand_length);
              fits =
                  omega (arith, prefix_most sh good.sized, q.room);
            }

        -- just the length bytes are held
        long_front_is : (v : too_long space sh x ≡ true)
            → drop nulls (take (nulls + prefix sh) (carried carry block held (nulls + prefix sh))) ≡ take (prefix sh) x
        long_front_is v =
            let upto = nulls + prefix sh in
            ap (drop nulls) (sym (carried_before carry block held upto (long_within v) [] upto (omega arith)))
            ∙ ap (λ (s : List ℕ). drop nulls (take upto s)) (ap (λ (s : List ℕ). take held carry ++ s) (append-nil block))
            ∙ drop-take nulls (prefix sh) y

        long_turn_left : too_long space sh x ≡ true → leaves (by_turn nulls sh f x st carry block (long₁ (need sh x - prefix sh)))
        unfolding by_turn commit
        long_turn_left v =
            let upto = nulls + prefix sh in
            let w = long_within v in
            let i = is_long_lem space sh x v in
            let c = carried carry block held upto in
            let m = carried_length carry block held upto w in
            let h = take (prefix sh) x in
            let k : length h ≡ prefix sh = length-take-le (prefix sh) x i.there in
            let z : need sh x ≡ need sh h = ap (need sh) (sym (take-append-drop (prefix sh) x)) ∙ need_front sh h (drop (prefix sh) x)
            (omega arith) in
            let t₁ : too_long space sh h ≡ true = long_is space sh h (omega arith) (omega (arith, i.over)) in
            let e : slots_at r p (take upto c) f ≡ slot ∷ behind =
            sym (slots_more r p (take upto c) (drop (upto - held) block ++ t) f (omega arith)
            (omega (arith, front_length carry block held upto w)))
            ∙ ap (λ (s : List ℕ). slots_at r p s f) (carried_same carry block held upto w t) ∙ all_slots f (omega arith) ∙ slots_from in
            let a : Longing space f (need sh x - prefix sh) (slot ∷ behind) h = (n, t₁, k, omega arith, refl) in (
              m,
              long_left f upto (need sh x - prefix sh) (used + (upto - held)) (record {
                over = q.over;
                room = omega (arith, q.room);
                least = omega (arith, q.least);
                among = b;
                low = omega arith;
                fits = omega (arith, w.fits);
                counted = omega (arith, q.counted, w.low);
                some = omega (arith, i.over, prefix_most sh good.sized, q.room);
                longs = rw (e, long_front_is v, m) a;
                spent = λ k. (bytes_carried upto k, omega (arith, (q.spent k).1, has_room k, w.low, prefix_within sh x));
              }),
            )

        -- one that is whole: read, or refused for its range
        module _ (v : too_long space sh x ≡ false) (h : need sh x ≤ length x) where
          abbrev upto : ℕ
          upto = nulls + need sh x

          within : Within carry block held (nulls + need sh x)
          within = record {
            low = before_whole;
            high = omega (arith, x_length, h, l, hand_length);
            fits = omega (arith, not_long space sh x v (omega (arith, prefix_within sh x)), q.room);
          }

          streamed_is : from r p nulls space column (used + nulls - held) (take held carry ++ (block ++ t))
              ≡ streamed f (λ k. stream_slots space behind (drop k (x ++ t)) (used + nulls - held + k))
              (after (judged sh f (take (need sh x) x)) (λ d. ok (d, need sh x)))
          unfolding stream_slots
          streamed_is =
              goes ∙ rw (slots_are, n, long_front space sh x t (omega (arith, prefix_within sh x)), v, read_whole sh f x t good.taken h)

          -- its bytes as they stand in the carry
          bytes_are : take (need sh x) (drop nulls (carried carry block held upto)) ≡ take (need sh x) x
          bytes_are =
              let c = carried carry block held upto in
              sym (drop-take nulls (need sh x) c)
              ∙ ap (drop nulls) (sym (carried_before carry block held upto within [] upto (omega arith)))
              ∙ ap (λ (s : List ℕ). drop nulls (take upto s)) (ap (λ (s : List ℕ). take held carry ++ s) (append-nil block))
              ∙ drop-take nulls (need sh x) y

          whole_turn : kept (by_turn nulls sh f x st carry block (whole (need sh x)))
          unfolding by_turn commit
          whole_turn = go (judged sh f (take (need sh x) x)) refl
            where
              go : (u : Outcome Datum) → judged sh f (take (need sh x) x) ≡ u
                  → kept (after u (λ d. ok (commit st carry block upto (value f (placed upto d)) (opened (f + 1) nulls (used_to st upto)))))
              go (refused u) e = streamed_is ∙ rw e
              go (ok d) e =
                  let a = said_whole sh f nulls (carried carry block held upto) x d h bytes_are e in (
                    streamed_is ∙ rw (e, a)
                        (ap (with (datum f d ∷ [])) (sym (rest_on (f + 1) (need sh x) upto refl within (omega arith)))),
                    tt,
                  )

          whole_turn_left : leaves (by_turn nulls sh f x st carry block (whole (need sh x)))
          unfolding by_turn commit
          whole_turn_left = go (judged sh f (take (need sh x) x))
            where
              go : (u : Outcome Datum)
                  → leaves (after u
                  (λ d. ok (commit st carry block upto (value f (placed upto d)) (opened (f + 1) nulls (used_to st upto)))))
              go (refused u) = tt
              go (ok d) =
                  next_left (f + 1) upto within (omega arith) (omega arith) (λ k. omega (arith, (q.spent k).1, has_room k, before_whole))

        value_left : leaves (give_open r p nulls st carry block)
        unfolding turn_of
        value_left = go (too_long space sh x) refl
          where
            go : (v : Bool) → too_long space sh x ≡ v → leaves (give_open r p nulls st carry block)
            go true v = turn_left (long₁ (need sh x - prefix sh)) (rw v) (long_turn_left v)
            go false v =
                dite (dec_le (need sh x) (length x))
                (λ (h : need sh x ≤ length x). turn_left (whole (need sh x)) (rw (v, le-ltb (length x) (need sh x) h))
                (whole_turn_left v h))
                (λ h. turn_left wait (rw (v, lt-ltb (length x) (need sh x) (omega arith))) (wait_turn_left v (omega arith)))

        value_on : kept (give_open r p nulls st carry block)
        unfolding turn_of
        value_on = go (too_long space sh x) refl
          where
            go : (v : Bool) → too_long space sh x ≡ v → kept (give_open r p nulls st carry block)
            go true v = by_turn_lem (long₁ (need sh x - prefix sh)) (rw v) (long_turn v)
            go false v =
                dite (dec_le (need sh x) (length x))
                (λ (h : need sh x ≤ length x). by_turn_lem (whole (need sh x)) (rw (v, le-ltb (length x) (need sh x) h)) (whole_turn v h))
                (λ h. by_turn_lem wait (rw (v, lt-ltb (length x) (need sh x) (omega arith))) (wait_turn v (omega arith)))

      slot_on : kept (give_open r p nulls st carry block)
      slot_on = go (bit_lsb0 y (count_bits p f)) refl
        where
          go : (b : Bool) → bit_lsb0 y (count_bits p f) ≡ b → kept (give_open r p nulls st carry block)
          go true n = null_on n
          go false n = value_on n

      slot_left : leaves (give_open r p nulls st carry block)
      slot_left = go (bit_lsb0 y (count_bits p f)) refl
        where
          go : (b : Bool) → bit_lsb0 y (count_bits p f) ≡ b → leaves (give_open r p nulls st carry block)
          go true n = null_left n
          go false n = value_left n

  pub open_leaves : Leaves K r p (length carry) (give_open r p nulls st carry block)
  open_leaves =
      let n = count_of r in
      let f = first_from (n - column) p column in
      dite (dec_le nulls (length y))
      (λ (l : nulls ≤ length y).
      dite (dec_le n f)
      (λ (a : n ≤ f). end_left l (slots_end r p y column q.among a))
      (λ a. slot_left l f refl (omega arith)))
      (λ l. short_left (omega arith))

  -- whatever the block, and whatever comes behind it
  pub open_on : On r p nulls block t (future r p nulls st carry (block ++ t)) (give_open r p nulls st carry block)
  unfolding future_in from
  open_on =
      let n = count_of r in
      let f = first_from (n - column) p column in
      dite (dec_le nulls (length y))
      (λ (l : nulls ≤ length y).
      dite (dec_le n f)
      (λ (a : n ≤ f). end_on l (slots_end r p y column q.among a))
      (λ a. slot_on l f refl (omega arith)))
      (λ l. short_on (omega arith))
