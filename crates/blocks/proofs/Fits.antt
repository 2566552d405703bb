-- The states that are fit are those that the laws speak of; what a call leaves is fit. Assumes nothing.
use Prim.Native.Nat.{ℕ, ◌+◌, ◌-◌, ◌≤◌, ◌<◌}
use mathlib.Core.Path.{◌≡◌, refl, sym, ap, subst, ◌∙◌}
use mathlib.Core.Bool.{Bool, true, false, not, true≢false}
use mathlib.Core.Logic.{dite}
use mathlib.Core.List.{List, [], ◌∷◌}
use native.Mathlib.Decide.{dec_le}
use native.Mathlib.Omega.{arith}
use borrow.Author.Tests.{le-leb, lt-leb, lt-ltb, le-ltb, eq-eqb, ne_eqb, leb-true, ltb-true, eqb-true}
use lib.ListN.{length, take, drop, length-drop}
use lib.Seq.{length-take-le}
use lib.Dec.{leb, ltb, eqb}
use Rattle.wire.specs.Number.{Bytes}
use Rattle.wire.proofs.Inverse.{bytes_take, bytes_drop}
use Rattle.wire.specs.Bits.{bit_lsb0}
use Rattle.wire.proofs.Outcomes.{both_true}
use Rattle.value.specs.Shapes.{need, prefix}
use Rattle.image.specs.Room.{image_room}
use Rattle.record.specs.Records.{count_of}
use Rattle.record.proofs.Valid.{valid_few}
use Rattle.image.specs.Present.{first_from, shape_at, present_from}
use Rattle.image.specs.Split.{Slot, slots, slots_at}
use Rattle.image.proofs.CursorLaws.Heads.{Over, null_bytes}
use Rattle.image.proofs.PresenceLaws.Firsts.{count_at_most, first_is, slot_at, slots_end, slots_first}
use Rattle.blocks.specs.declared.state.Phase.{Phase}
use Rattle.blocks.specs.declared.state.Phase.TheVariants.{Open, Long, Closed}
use Rattle.blocks.specs.declared.state.Arriving.{Arriving}
use Rattle.blocks.specs.States.{longed, begun}
use Rattle.blocks.specs.Turns.{too_long}
use Rattle.blocks.specs.Fits.{waits, is_long, fits_in, is_counted, is_fit}
use Rattle.blocks.specs.Gives.{give_long}
use Rattle.value.proofs.Most.{need_most}
use Rattle.blocks.proofs.Counts.{fit_counted, fit_in}
use Rattle.blocks.proofs.Spends.{most_to, most_next, most_mono, room_is}
use Rattle.blocks.proofs.Ons.{Waiting, Longing, Ready, LongReady, Left, open_left, long_left, Leaves}

-- the null bits of a valid record leave the half of the least carry
pub null_most : (r p : List ℕ) → Over r p → null_bytes r p ≤ 512
null_most r p u = omega (arith, count_at_most p (count_of r), valid_few r u.valid)

pub begun_left : (K : Type 0) (r p carry : List ℕ) → Over r p → 1024 ≤ length carry → (K → Bytes carry) → Left K r p carry begun
begun_left K r p carry u m b = open_left 0 0 0 (record {
  over = u;
  room = omega (arith, null_most r p u);
  least = m;
  among = omega arith;
  fits = omega arith;
  counted = omega arith;
  first = λ k. (refl, refl);
  waits = λ (k : null_bytes r p < 0). absurd (omega arith);
  spent = λ k. (b k, omega arith);
})

-- ---- what is left is fit
waits_is : (room j : ℕ) (is : List Slot) (h : List ℕ) → Waiting room j is h → waits room j is h ≡ true
unfolding waits
waits_is room j [] h w = absurd w
waits_is room j (i ∷ is) h w =
    rw (eq-eqb i.present.column j w.3, w.0, w.1, lt-ltb (length h) (need i.present.shape h) w.2)

long_is : (room j left : ℕ) (is : List Slot) (h : List ℕ) → 0 < left → Longing room j left is h → is_long room j left is h ≡ true
unfolding is_long
long_is room j left [] h l w = absurd w
long_is room j left (i ∷ is) h l w =
    let sh = i.present.shape in
    rw (
      eq-eqb i.present.column j w.4,
      w.0,
      w.1,
      eq-eqb (length h) (prefix sh) w.2,
      lt-ltb 0 left l,
      le-leb left (need sh h - prefix sh) w.3,
    )

pub left_fit : (K : Type 0) (r p carry : List ℕ) {st : Arriving} → Left K r p carry st → st.used ≤ image_room r p
    → is_fit r p (count_of r) (null_bytes r p) st carry ≡ true
unfolding is_fit is_counted fits_in
left_fit K r p carry (open_left column held used q) z =
    let nb = null_bytes r p in
    rw (
      le-leb column (count_of r) q.among,
      le-leb held (length carry) q.fits,
      le-leb held used q.counted,
      le-leb used
          (image_room r p) z,
    )
    (dite (dec_le nb held)
    (λ (a : nb ≤ held).
    rw (le-ltb held nb a)
    (dite (dec_le held nb)
    (λ (b : held ≤ nb). let e : held ≡ nb = omega arith in rw (eq-eqb held nb e))
    (λ b.
    rw (ne_eqb held nb (λ (e : held ≡ nb). absurd (omega arith)))
    (waits_is (length carry - nb) column (slots_at r p (take held carry) column) (drop nb (take held carry)) (q.waits (omega arith))))))
    (λ a. let f = q.first (omega arith) in
    rw (lt-ltb held nb (omega arith), eq-eqb column 0 f.0, eq-eqb used held f.1)))
left_fit K r p carry (long_left column held left used q) z =
    let nb = null_bytes r p in
    rw (
      le-leb column (count_of r) (omega (arith, q.among)),
      le-leb held (length carry) q.fits,
      le-leb held used q.counted,
      le-leb used (image_room r p) z,
      le-leb nb held q.low,
    )
    (long_is (length carry - nb) column left (slots_at r p (take held carry) column) (drop nb (take held carry)) q.some q.longs)

-- ---- what was left has not used more than there is room for
waits_room : (r p carry y : List ℕ) (column : ℕ) (h : List ℕ) → Over r p → column ≤ count_of r → Bytes h
    → Waiting (length carry - null_bytes r p) column (slots_at r p y column) h → length h + most_to r p column ≤ most_to r p (count_of r)
waits_room r p carry y column h u a b w =
    let n = count_of r in
    let f = first_from (n - column) p column in
    let i = first_is (n - column) p column in
    dite (dec_le n f)
    (λ (l : n ≤ f). absurd (rw (slots_end r p y column a l) at w))
    (λ l.
    let v : Waiting (length carry - null_bytes r p) column (slot_at r p y f ∷ slots_at r p y (f + 1)) h = rw
    (slots_first r p y column a (omega arith)) at w in
    let s : bit_lsb0 p f ≡ true = i.found (omega arith) in
    omega (
      arith,
      v.2,
      v.3,
      need_most (shape_at r f) h b,
      most_next r p f s,
      most_mono r p (f + 1) n (omega arith),
      ap (most_to r p)
          v.3,
    ))

pub spent_room : (K : Type 0) (r p carry : List ℕ) {st : Arriving} → K → Left K r p carry st → st.used ≤ image_room r p
spent_room K r p carry k (open_left column held used q) =
    let nb = null_bytes r p in
    let y = take held carry in
    let m = most_mono r p column (count_of r) q.among in
    dite (dec_le held nb)
    (λ (h : held ≤ nb). omega (arith, (q.spent k).1, room_is r p))
    (λ h.
    let b = bytes_drop nb y (bytes_take held carry (q.spent k).0) in
    let w = waits_room r p carry y column (drop nb y) q.over q.among b (q.waits (omega arith)) in
    let l : length (drop nb y) ≡ held - nb = length-drop nb y ∙ ap (λ (z : ℕ). z - nb) (length-take-le held carry q.fits) in
    omega (arith, (q.spent k).1, room_is r p))
spent_room K r p carry k (long_left column held left used q) =
    omega (arith, (q.spent k).1, room_is r p, most_mono r p (column + 1) (count_of r) (omega (arith, q.among)))

-- ---- and what is fit is as if it was left
not_true : (b : Bool) → not b ≡ true → b ≡ false
not_true true e = absurd (true≢false (sym e))
not_true false e = refl

waits_back : (room j : ℕ) (is : List Slot) (h : List ℕ) → waits room j is h ≡ true → Waiting room j is h
unfolding waits
waits_back room j [] h e = absurd (true≢false (sym e))
waits_back room j (i ∷ is) h e =
    let sh = i.present.shape in
    let a = both_true (eqb i.present.column j) _ e in
    let b = both_true (not i.null) _ a.1 in
    let c = both_true (not (too_long room sh h)) _ b.1 in (
      not_true i.null b.0,
      not_true (too_long room sh h) c.0,
      ltb-true (length h) (need sh h) c.1,
      eqb-true i.present.column j a.0,
    )

long_back : (room j left : ℕ) (is : List Slot) (h : List ℕ) → is_long room j left is h ≡ true → (0 < left) × Longing room j left is h
unfolding is_long
long_back room j left [] h e = absurd (true≢false (sym e))
long_back room j left (i ∷ is) h e =
    let sh = i.present.shape in
    let a = both_true (eqb i.present.column j) _ e in
    let b = both_true (not i.null) _ a.1 in
    let c = both_true (eqb (length h) (prefix sh)) _ b.1 in
    let d = both_true (too_long room sh h) _ c.1 in
    let f = both_true (ltb 0 left) _ d.1 in (
      ltb-true 0 left f.0,
      (
        not_true i.null b.0,
        d.0,
        eqb-true (length h) (prefix sh) c.0,
        leb-true left (need sh h - prefix sh) f.1,
        eqb-true i.present.column j a.0,
      ),
    )

module _ (r p carry : List ℕ) (u : Over r p) (m : 1024 ≤ length carry) where
  abbrev nb : ℕ
  nb = null_bytes r p

  -- the first column that is left is below the count
  longing_among : (column left : ℕ) (y h : List ℕ) → column ≤ count_of r → Longing (length carry - nb) column left (slots_at r p y column) h
      → column < count_of r
  unfolding slots_at present_from slots
  longing_among column left y h a w =
      dite (dec_le (count_of r) column)
      (λ (b : count_of r ≤ column). let e : count_of r - column ≡ 0 = omega arith in absurd (rw e at w))
      (λ b. omega arith)

  open_back : (column held left used : ℕ)
      → is_fit r p (count_of r) nb (record { phase = Open; column = column; held = held; left = left; used = used }) carry ≡ true
      → (left ≡ 0) × Ready ⊥ r p column held used carry
  unfolding fits_in
  open_back column held left used e =
      let y = take held carry in
      let st : Arriving = record { phase = Open; column = column; held = held; left = left; used = used } in
      let w = fit_counted r p carry (count_of r) nb st refl e in
      let d = both_true (eqb left 0) _ (fit_in r p carry (count_of r) nb st refl e) in (
        eqb-true left 0 d.0,
        record {
          over = u;
          room = omega (arith, null_most r p u);
          least = m;
          among = w.among;
          fits = w.fits;
          counted = w.counted;
          first = λ (k : held < nb).
              let f = both_true (eqb column 0) (eqb used held) (rw (lt-ltb held nb k) at d.1) in
              (eqb-true column 0 f.0, eqb-true used held f.1);
          waits = λ (k : nb < held).
              waits_back (length carry - nb) column (slots_at r p y column) (drop nb y)
              (rw (le-ltb held nb (omega arith), ne_eqb held nb (λ (z : held ≡ nb). absurd (omega arith))) at d.1);
          spent = λ k. absurd k;
        },
      )

  long_back_ready : (column held left used : ℕ) → is_fit r p (count_of r) nb (longed column held left used) carry ≡ true
      → LongReady ⊥ r p column held left used carry
  unfolding fits_in
  long_back_ready column held left used e =
      let y = take held carry in
      let st = longed column held left used in
      let w = fit_counted r p carry (count_of r) nb st refl e in
      let d = both_true (leb nb held) _ (fit_in r p carry (count_of r) nb st refl e) in
      let l = long_back (length carry - nb) column left (slots_at r p y column) (drop nb y) d.1 in
      record {
        over = u;
        room = omega (arith, null_most r p u);
        least = m;
        among = longing_among column left y (drop nb y) w.among l.1;
        low = leb-true nb held d.0;
        fits = w.fits;
        counted = w.counted;
        some = l.0;
        longs = l.1;
        spent = λ k. absurd k;
      }

  pub fit_left : (st : Arriving) → is_fit r p (count_of r) nb st carry ≡ true → Left ⊥ r p carry st
  unfolding fits_in
  fit_left st e = go st.phase refl
    where
      go : (f : Phase) → st.phase ≡ f → Left ⊥ r p carry st
      go Open g =
          let q = open_back st.column st.held st.left st.used
          (subst (λ (f : Phase). is_fit r p (count_of r) nb
          (record { phase = f; column = st.column; held = st.held; left = st.left; used = st.used }) carry ≡ true) g e) in
          subst (λ (f : Phase). Left ⊥ r p carry
          (record { phase = f; column = st.column; held = st.held; left = st.left; used = st.used })) (sym g)
          (subst (λ (k : ℕ). Left ⊥ r p carry (record { phase = Open; column = st.column; held = st.held; left = k; used = st.used }))
          (sym q.0) (open_left st.column st.held st.used q.1))
      go Long g =
          let q = long_back_ready st.column st.held st.left st.used
          (subst (λ (f : Phase). is_fit r p (count_of r) nb
          (record { phase = f; column = st.column; held = st.held; left = st.left; used = st.used }) carry ≡ true) g e) in
          subst (λ (f : Phase). Left ⊥ r p carry
          (record { phase = f; column = st.column; held = st.held; left = st.left; used = st.used })) (sym g)
          (long_left st.column st.held st.left st.used q)
      go Closed g = absurd (true≢false (sym (rw g at (fit_in r p carry (count_of r) nb st refl e))))

  pub fit_room : (st : Arriving) → is_fit r p (count_of r) nb st carry ≡ true → st.used ≤ image_room r p
  fit_room st e = (fit_counted r p carry (count_of r) nb st refl e).room

-- ---- a part of a long value taken
longing_less : (room j left left' : ℕ) (is : List Slot) (h : List ℕ) → left' ≤ left → Longing room j left is h → Longing room j left' is h
longing_less room j left left' [] h l w = w
longing_less room j left left' (i ∷ is) h l w = (w.0, w.1, w.2, omega (arith, w.3), w.4)

pub long_leaves : (K : Type 0) (r p : List ℕ) (column held left used : ℕ) (carry block : List ℕ)
    → LongReady K r p column held left used carry
    → Leaves K r p (length carry) (give_long (null_bytes r p) (longed column held left used) carry block)
unfolding give_long
long_leaves K r p column held left used carry block q =
    let nb = null_bytes r p in
    dite (dec_le (length block) 0)
    (λ (a : length block ≤ 0).
    let e : length block ≡ 0 = omega arith in rw (eq-eqb (length block) 0 e) (refl, long_left column held left used q))
    (λ a.
    let e : length block ≡ 0 → ⊥ = λ z. absurd (omega arith) in
    dite (dec_le left (length block))
    (λ (b : left ≤ length block).
    rw (ne_eqb (length block) 0 e, le-leb left (length block) b) (
      refl,
      open_left (column + 1) nb (used + left) (record {
        over = q.over;
        room = q.room;
        least = q.least;
        among = omega (arith, q.among);
        fits = omega (arith, q.room);
        counted = omega (arith, q.counted, q.low);
        first = λ (k : nb < nb). absurd (omega arith);
        waits = λ (k : nb < nb). absurd (omega arith);
        spent = λ k. ((q.spent k).0, (q.spent k).1);
      }),
    ))
    (λ b.
    rw (ne_eqb (length block) 0 e, lt-leb left (length block) (omega arith)) (
      refl,
      long_left column held (left - length block) (used + length block) (record {
        over = q.over;
        room = q.room;
        least = q.least;
        among = q.among;
        low = q.low;
        fits = q.fits;
        counted = omega (arith, q.counted);
        some = omega arith;
        longs = longing_less (length carry - nb) column left (left - length block) (slots_at r p (take held carry) column)
            (drop nb (take held carry)) (omega arith) q.longs;
        spent = λ k. ((q.spent k).0, omega (arith, (q.spent k).1));
      }),
    )))
