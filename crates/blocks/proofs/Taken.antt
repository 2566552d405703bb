-- The bytes taken are the bytes used; and what the calls leave stays fit. Assumes nothing.
use Prim.Native.Nat.{ℕ, ◌+◌, ◌-◌, ◌≤◌, ◌<◌}
use mathlib.Core.Path.{◌≡◌, refl, sym, ap, subst, ◌∙◌}
use mathlib.Core.Bool.{Bool, true, false, cond, true≢false}
use mathlib.Core.List.{List, [], ◌∷◌}
use native.Mathlib.Nat.{add-zero}
use native.Mathlib.Omega.{arith}
use borrow.Author.Tests.{leb-true, ltb-false, eqb-true}
use lib.ListN.{length, take, drop, length-append, length-take, length-drop}
use lib.Dec.{leb, ltb, eqb}
use Rattle.wire.specs.declared.refusal.Refusal.{Refusal}
use Rattle.wire.specs.Outcome.{Outcome, ok, refused, refuse, after, out_of}
use Rattle.wire.specs.Bits.{bytes_for}
use Rattle.wire.specs.Stored.{stored}
use Rattle.wire.proofs.Outcomes.{after_is_ok, by_test, same_ok, same_refused, ok_not_refused}
use Rattle.wire.proofs.Stores.{stored_none}
use Rattle.value.specs.declared.shape.Shape.{Shape}
use Rattle.value.specs.Shapes.{prefix, decode, fault}
use Rattle.value.specs.Reading.{judged, placed}
use Rattle.value.proofs.Appends.{prefix_within}
use Rattle.record.specs.Records.{count_of}
use Rattle.image.specs.declared.cursor.Head.{Head}
use Rattle.image.specs.Present.{count_bits, shape_at, Present, present_from}
use Rattle.image.specs.Split.{Slot, slots, slots_at}
use Rattle.image.proofs.StepLaws.Splits.{Each}
use Rattle.image.proofs.PresenceLaws.Presents.{each_from}
use Rattle.image.proofs.CursorLaws.Heads.{Over, null_bytes}
use Rattle.blocks.specs.declared.state.Phase.{Phase}
use Rattle.blocks.specs.declared.state.Phase.TheVariants.{Open, Long, Closed}
use Rattle.blocks.specs.declared.state.Arriving.{Arriving}
use Rattle.blocks.specs.States.{opened, longed, Arrived, more, null, value, long, part, end}
use Rattle.blocks.specs.Turns.{TurnSaid, wait, long as long₁, whole, turn_of}
use Rattle.blocks.specs.Fits.{is_fit}
use Rattle.blocks.specs.Gives.{Handed, by_turn, give_over, at_hand, give_open, give_long, give_in, given_fit, head_carry, give_block, commit}
use Rattle.blocks.specs.Gives.{used_to, waiting, parted}
use Rattle.blocks.specs.Ends.{end_over, end_in, ended_fit, end_blocks}
use Rattle.blocks.specs.Streams.{Stream, told}
use Rattle.blocks.specs.Runs.{goes_on, Run, ends, refuses, rests, answers, Came, begins, gives}
use Rattle.blocks.proofs.Turned.{turn_long, turn_whole}
use Rattle.blocks.proofs.Ons.{Left, open_left, long_left}
use Rattle.blocks.proofs.Fits.{begun_left, left_fit, spent_room, fit_left, fit_room}
use Rattle.blocks.proofs.Fitting.{carry_tested}
use Rattle.blocks.proofs.Runs.{give_is, give_leaves, end_is}

-- ---- whatever the state: what a call takes is of the block, and counted, and no more than that is stored behind what the carry held
-- what an answer says besides: `more` took all of the block; a long value has no room; a part is not stored
abbrev pub Truly : List ℕ → ℕ → List ℕ → List ℕ → ℕ → List ℕ → Arrived → Type 0
Truly r room carry block taken left more = taken ≡ length block
Truly r room carry block taken left (null j) = Unit {0}
Truly r room carry block taken left (value j v) = Unit {0}
Truly r room carry block taken left (long j n) = room < prefix (shape_at r j) + n
Truly r room carry block taken left (part j n) = left ≡ carry
Truly r room carry block taken left (end used) = Unit {0}

pub record Given (r : List ℕ) (nb : ℕ) (st : Arriving) (carry block : List ℕ) (x : Handed) : Type 0 where
  pub used : x.0.next.used ≡ st.used + x.0.taken
  pub front : x.0.taken ≤ length block
  pub few : ℕ
  pub within : few ≤ x.0.taken
  pub left : x.1 ≡ stored (take few block) carry st.held
  pub truly : Truly r (length carry - nb) carry block x.0.taken x.1 x.0.arrival

data Adds (r : List ℕ) (nb : ℕ) (st : Arriving) (carry block : List ℕ) : Outcome Handed → Type 0 where
  adds : (x : Handed) → Given r nb st carry block x → Adds r nb st carry block (ok x)
  none : (w : Refusal) → Adds r nb st carry block (refused w)

-- the shape of the first slot is its column's
abbrev Shaped : List ℕ → List Slot → Type 0
Shaped r [] = Unit {0}
Shaped r (i ∷ is) = i.present.shape ≡ shape_at r i.present.column

first_shaped : (r : List ℕ) (cs : List Present) (k : ℕ) (y : List ℕ) → Each (λ c. c.shape ≡ shape_at r c.column) cs
    → Shaped r (slots cs k y)
unfolding slots Each
first_shaped r [] k y e = tt
first_shaped r (c ∷ cs) k y e = e.0

slots_shaped : (r p y : List ℕ) (j : ℕ) → Shaped r (slots_at r p y j)
unfolding slots_at
slots_shaped r p y j =
    first_shaped r (present_from (count_of r - j) r p j) (count_bits p j) y
    (each_from (λ c. c.shape ≡ shape_at r c.column) (count_of r - j) r p j (λ i a b. refl))

module _ (r : List ℕ) (nb : ℕ) (st : Arriving) (carry block : List ℕ) where
  abbrev has : Outcome Handed → Type 0
  has o = Adds r nb st carry block o

  abbrev room : ℕ
  room = length carry - nb

  adds_test : (b : Bool) {x y : Outcome Handed} → (b ≡ true → has x) → (b ≡ false → has y) → has (cond b x y)
  adds_test true u v = u refl
  adds_test false u v = v refl

  adds_after : {A : Type 0} (o : Outcome A) (f : A → Outcome Handed) → ((a : A) → has (f a)) → has (after o f)
  adds_after (ok a) f v = v a
  adds_after (refused w) f v = none w

  -- at hand is no more than was held and the block
  hand_most : length (at_hand st carry block) ≤ st.held + length block
  hand_most = omega (arith, length-append (take st.held carry) block, length-take st.held carry)

  adds_all : (upto : ℕ) (a : Arrived) (next : Arriving) → next.used ≡ used_to st upto → upto - st.held ≤ length block
      → Truly r room carry block (upto - st.held) (stored (take (upto - st.held) block) carry st.held) a
      → has (ok (commit st carry block upto a next))
  unfolding commit
  adds_all upto a next e h t =
      adds _ (record { used = e; front = h; few = upto - st.held; within = omega arith; left = refl; truly = t })

  adds_part : (a : Arrived) (n : ℕ) (next : Arriving) → next.used ≡ st.used + n → n ≤ length block
      → Truly r room carry block n carry a → has (parted st carry a n next)
  adds_part a n next e h t =
      adds _ (record { used = e; front = h; few = 0; within = omega arith; left = sym (stored_none carry st.held); truly = t })

  adds_wait : (j : ℕ) → has (waiting st carry block j)
  adds_wait j =
      let e : st.held + length block - st.held ≡ length block = omega arith in
      adds_all (st.held + length block) more _ refl (omega (arith, e)) e

  module _ (h : nb ≤ length (at_hand st carry block)) where
    abbrev x : List ℕ
    x = drop nb (at_hand st carry block)

    adds_turn : (j : ℕ) (v : TurnSaid) → turn_of room (shape_at r j) x ≡ v → has (by_turn nb (shape_at r j) j x st carry block v)
    unfolding by_turn
    adds_turn j wait e = adds_wait j
    adds_turn j (long₁ n) e =
        let w = turn_long room (shape_at r j) x n e in
        adds_all _ _ _ refl (omega (arith, hand_most, length-drop nb (at_hand st carry block), w.0.there, h))
        (omega (arith, w.0.over, w.1, prefix_within (shape_at r j) x))
    adds_turn j (whole n) e =
        let w = turn_whole room (shape_at r j) x n e in
        adds_after (judged (shape_at r j) j (take n x)) _
        (λ d. adds_all _ _ _ refl (omega (arith, hand_most, length-drop nb (at_hand st carry block), w.1, w.2, h)) tt)

    adds_over : (is : List Slot) → Shaped r is → has (give_over room nb is x st carry block)
    unfolding give_over
    adds_over [] f = adds_all nb _ _ refl (omega (arith, hand_most, h)) tt
    adds_over (i ∷ is) f =
        let j = i.present.column in
        adds_test i.null (λ u. adds_all nb _ _ refl (omega (arith, hand_most, h)) tt)
        (λ u.
        subst (λ (sh : Shape). has (by_turn nb sh j x st carry block (turn_of room sh x))) (sym f)
        (adds_turn j (turn_of room (shape_at r j) x) refl))

  adds_in : (f : Phase) (p : List ℕ) → has (give_in f r p nb st carry block)
  unfolding give_in give_open give_long
  adds_in Open p =
      let y = at_hand st carry block in
      adds_test (ltb (length y) nb) (λ u. adds_wait st.column)
      (λ u. adds_over (ltb-false (length y) nb u) (slots_at r p y st.column) (slots_shaped r p y st.column))
  adds_in Long p =
      adds_test (eqb (length block) 0)
      (λ u. adds_part more 0 st (sym (add-zero st.used)) (omega arith) (sym (eqb-true (length block) 0 u)))
      (λ u.
      adds_test (leb st.left (length block)) (λ v. adds_part _ _ _ refl (leb-true st.left (length block) v) refl)
      (λ v. adds_part _ _ _ refl (omega arith) refl))
  adds_in Closed p = none _

pub give_given : (r p : List ℕ) (st : Arriving) (carry block : List ℕ) {x : Handed} → give_block r p st carry block ≡ ok x
    → Given r (null_bytes r p) st carry block x
unfolding give_block given_fit
give_given r p st carry block {x} e =
    let a = after_is_ok (head_carry r p carry) _ x e in
    let t = carry_tested r p carry a.1 in
    let n : a.0.nulls ≡ null_bytes r p = t.bits ∙ ap (λ (k : ℕ). bytes_for (count_bits p k)) t.count in
    by_test (is_fit r p a.0.columns a.0.nulls st carry) _ _ _ a.2
    (λ u f. go (give_in st.phase r p (null_bytes r p) st carry block) (adds_in r (null_bytes r p) st carry block st.phase p)
    (subst (λ (k : ℕ). give_in st.phase r p k st carry block ≡ ok x) n f))
    (λ u f. absurd (ok_not_refused (sym f)))
  where
    go : (o : Outcome Handed) → Adds r (null_bytes r p) st carry block o → o ≡ ok x → Given r (null_bytes r p) st carry block x
    go _ (adds y h) f = subst (Given r (null_bytes r p) st carry block) (same_ok f) h
    go _ (none w) f = absurd (ok_not_refused (sym f))

pub give_used : (r p : List ℕ) (st : Arriving) (carry block : List ℕ) {x : Handed} → give_block r p st carry block ≡ ok x
    → x.0.next.used ≡ st.used + x.0.taken
give_used r p st carry block e = (give_given r p st carry block e).used

-- a call that went well was lent a fit state, and left as many bytes as it was lent
held_fits : {K : Type 0} {r p carry : List ℕ} {st : Arriving} → Left K r p carry st → st.held ≤ length carry
held_fits (open_left column held used q) = q.fits
held_fits (long_left column held left used q) = q.fits

pub give_sized : (r p : List ℕ) (st : Arriving) (carry block : List ℕ) {x : Handed} → give_block r p st carry block ≡ ok x
    → (length x.1 ≡ length carry) × (st.held ≤ length carry)
unfolding give_block given_fit
give_sized r p st carry block {x} e =
    let a = after_is_ok (head_carry r p carry) _ x e in
    let t = carry_tested r p carry a.1 in
    by_test (is_fit r p a.0.columns a.0.nulls st carry) _ _ _ a.2 (λ u f.
    let o : Over r p = record { valid = t.valid; bits = t.presence } in
    let n : a.0.nulls ≡ null_bytes r p = t.bits ∙ ap (λ (k : ℕ). bytes_for (count_bits p k)) t.count in
    let g : is_fit r p (count_of r) (null_bytes r p) st carry ≡ true =
    subst (λ (k : ℕ). is_fit r p k (null_bytes r p) st carry ≡ true) t.count
    (subst (λ (k : ℕ). is_fit r p a.0.columns k st carry ≡ true) n u) in
    let l = fit_left r p carry o t.least st g in
    ((rw e at (give_leaves ⊥ r p carry block (λ k. absurd k) l (fit_room r p carry o t.least st g))).0, held_fits l))
    (λ u f. absurd (ok_not_refused (sym f)))

-- ---- the end tells the bytes used
end_over_lem : (is : List Slot) (used u : ℕ) → end_over is used ≡ ok u → u ≡ used
unfolding end_over
end_over_lem [] used u e = sym (same_ok e)
end_over_lem (i ∷ is) used u e = go (end_over_lem is used u) i.null e
  where
    go : (end_over is used ≡ ok u → u ≡ used) → (b : Bool) → cond b (end_over is used) (refuse 9 i.present.column) ≡ ok u → u ≡ used
    go f true h = f h
    go f false h = absurd (ok_not_refused (sym h))

pub end_used : (r p : List ℕ) (st : Arriving) (carry : List ℕ) (u : ℕ) → end_blocks r p st carry ≡ ok u → u ≡ st.used
unfolding end_blocks ended_fit end_in
end_used r p st carry u e = go (head_carry r p carry) e
  where
    by : (f : Phase) (nb : ℕ) → end_in f r p nb st carry ≡ ok u → u ≡ st.used
    by Open nb h = test (ltb st.held nb) h
      where
        test : (b : Bool) → cond b (refuse 9 0) (end_over (slots_at r p (take st.held carry) st.column) st.used) ≡ ok u → u
            ≡ st.used
        test true k = absurd (ok_not_refused (sym k))
        test false k = end_over_lem (slots_at r p (take st.held carry) st.column) st.used u k
    by Long nb h = absurd (ok_not_refused (sym h))
    by Closed nb h = absurd (ok_not_refused (sym h))

    fit : (nb : ℕ) (b : Bool) → cond b (end_in st.phase r p nb st carry) (refuse 21 0) ≡ ok u → u ≡ st.used
    fit nb true h = by st.phase nb h
    fit nb false h = absurd (ok_not_refused (sym h))

    go : (o : Outcome Head) → after o (λ h. ended_fit r p h.columns h.nulls st carry) ≡ ok u → u ≡ st.used
    go (ok h) f = fit h.nulls (is_fit r p h.columns h.nulls st carry) f
    go (refused w) f = absurd (ok_not_refused (sym f))

-- ---- all the calls
told_how : (c b : List ℕ) (a : Arrived) (s : Stream) → goes_on a ≡ true → (told c b a s).how ≡ s.how
told_how c b more s e = refl
told_how c b (null j) s e = refl
told_how c b (value j v) s e = refl
told_how c b (long j n) s e = refl
told_how c b (part j n) s e = refl
told_how c b (end used) s e = absurd (true≢false (sym e))

pub run_taken : (r p : List ℕ) {st : Arriving} {carry : List ℕ} {bs : List (List ℕ)} {s : Stream} {n u : ℕ} → Run r p st carry bs s n
    → s.how ≡ ok u → u ≡ st.used + n
run_taken r p {u} (ends st carry) e = end_used r p st carry u e ∙ sym (add-zero st.used)
run_taken r p (refuses st carry b bs w f) e = absurd (ok_not_refused (sym e))
run_taken r p (rests st carry b bs g c s n f a k) e = omega (arith, run_taken r p k e, give_used r p st carry b f)
run_taken r p (answers st carry b bs g c s n f a k) e =
    omega (arith, run_taken r p k (sym (told_how c b g.arrival s a) ∙ e), give_used r p st carry b f)

-- ---- what the calls leave
pub came_left : (r p : List ℕ) {st : Arriving} {carry : List ℕ} → Over r p → Came r p st carry → Left (Unit {0}) r p carry st
came_left r p u (begins carry h b) = begun_left (Unit {0}) r p carry u h (λ k. b)
came_left r p u (gives st carry block g c w b e) =
    let l = came_left r p u w in
    (rw e at (give_leaves (Unit {0}) r p carry block (λ k. b) l (spent_room (Unit {0}) r p carry tt l))).1

pub came_fit : (r p : List ℕ) {st : Arriving} {carry : List ℕ} → Over r p → Came r p st carry
    → is_fit r p (count_of r) (null_bytes r p) st carry ≡ true
came_fit r p {carry} u w = let l = came_left r p u w in left_fit (Unit {0}) r p carry l (spent_room (Unit {0}) r p carry tt l)

-- ---- with a fit state, give refuses with 10 alone, and the end with 9 alone
pub data Only {A : Type 0} (n : ℕ) : Outcome A → Type 0 where
  fine : (a : A) → Only n (ok a)
  just : (w : Refusal) → w.number ≡ n → Only n (refused w)

only_test : {A : Type 0} {n : ℕ} (b : Bool) {x y : Outcome A} → Only n x → Only n y → Only n (cond b x y)
only_test true u v = u
only_test false u v = v

only_is : {A : Type 0} {n : ℕ} {w : Refusal} (o : Outcome A) → Only n o → o ≡ refused w → w.number ≡ n
only_is _ (fine a) e = absurd (ok_not_refused e)
only_is {n} _ (just v h) e = subst (λ (z : Refusal). z.number ≡ n) (same_refused e) h

ten_turn : (nb : ℕ) (sh : Shape) (j : ℕ) (x : List ℕ) (st : Arriving) (carry block : List ℕ) (v : TurnSaid)
    → Only 10 (by_turn nb sh j x st carry block v)
unfolding by_turn judged
ten_turn nb sh j x st carry block wait = fine _
ten_turn nb sh j x st carry block (long₁ n) = fine _
ten_turn nb sh j x st carry block (whole n) = go (eqb (fault sh (take n x)) 0)
  where
    go : (b : Bool)
        → Only 10 (after (cond b (ok (decode sh (take n x))) (refused (out_of j (fault sh (take n x)))))
        (λ d. ok (commit st carry block (nb + n) (value j (placed (nb + n) d)) (opened (j + 1) nb (used_to st (nb + n))))))
    go true = fine _
    go false = just _ refl

ten_over : (room nb : ℕ) (is : List Slot) (x : List ℕ) (st : Arriving) (carry block : List ℕ)
    → Only 10 (give_over room nb is x st carry block)
unfolding give_over
ten_over room nb [] x st carry block = fine _
ten_over room nb (i ∷ is) x st carry block =
    only_test i.null (fine _)
    (ten_turn nb i.present.shape i.present.column x st carry block (turn_of room i.present.shape x))

ten_open : (r p : List ℕ) (nb : ℕ) (st : Arriving) (carry block : List ℕ) → Only 10 (give_open r p nb st carry block)
unfolding give_open
ten_open r p nb st carry block =
    let y = at_hand st carry block in
    only_test (ltb (length y) nb) (fine _) (ten_over (length carry - nb) nb (slots_at r p y st.column) (drop nb y) st carry block)

ten_long : (nb : ℕ) (st : Arriving) (carry block : List ℕ) → Only 10 (give_long nb st carry block)
unfolding give_long
ten_long nb st carry block = only_test (eqb (length block) 0) (fine _) (only_test (leb st.left (length block)) (fine _) (fine _))

ten_left : (K : Type 0) (r p carry b : List ℕ) {st : Arriving} → Left K r p carry st
    → Only 10 (give_in st.phase r p (null_bytes r p) st carry b)
unfolding give_in
ten_left K r p carry b (open_left column held used q) = ten_open r p (null_bytes r p) (opened column held used) carry b
ten_left K r p carry b (long_left column held left used q) = ten_long (null_bytes r p) (longed column held left used) carry b

nine_over : (is : List Slot) (used : ℕ) → Only 9 (end_over is used)
unfolding end_over
nine_over [] used = fine used
nine_over (i ∷ is) used = only_test i.null (nine_over is used) (just _ refl)

nine_left : (K : Type 0) (r p carry : List ℕ) {st : Arriving} → Left K r p carry st
    → Only 9 (end_in st.phase r p (null_bytes r p) st carry)
unfolding end_in
nine_left K r p carry (open_left column held used q) =
    only_test (ltb held (null_bytes r p)) (just _ refl) (nine_over (slots_at r p (take held carry) column) used)
nine_left K r p carry (long_left column held left used q) = just _ refl

-- of a fit state, made up or not
module _ (r p : List ℕ) (st : Arriving) (carry : List ℕ) {w : Refusal} (u : Over r p) (h : 1024 ≤ length carry)
    (f : is_fit r p (count_of r) (null_bytes r p) st carry ≡ true) where
  pub fit_ten : (block : List ℕ) → give_block r p st carry block ≡ refused w → w.number ≡ 10
  fit_ten block e =
      let l = fit_left r p carry u h st f in
      only_is (give_in st.phase r p (null_bytes r p) st carry block) (ten_left ⊥ r p carry block l)
      (sym (give_is ⊥ r p carry block l (fit_room r p carry u h st f)) ∙ e)

  pub fit_nine : end_blocks r p st carry ≡ refused w → w.number ≡ 9
  fit_nine e =
      let l = fit_left r p carry u h st f in
      only_is (end_in st.phase r p (null_bytes r p) st carry) (nine_left ⊥ r p carry l)
      (sym (end_is ⊥ r p carry l (fit_room r p carry u h st f)) ∙ e)
