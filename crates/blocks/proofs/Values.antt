-- What the functions of the Open phase answer, and what they ask, by what they find. Assumes nothing.
use Prim.Native.Nat.{ℕ, ◌+◌, ◌-◌, ◌≤◌, ◌<◌}
use mathlib.Core.Path.{◌≡◌, refl, sym, ap, subst, ◌∙◌}
use mathlib.Core.Bool.{Bool, true, false, cond}
use mathlib.Core.Logic.{dite}
use mathlib.Core.List.{List, [], ◌++◌, append-nil}
use native.Mathlib.Decide.{dec_le}
use native.Mathlib.Omega.{arith}
use lib.ListN.{length, take, drop, length-append, length-drop, take-append-drop}
use lib.Seq.{length-take-le, take-append-le, take-take}
use lib.Dec.{eqb}
use Rattle.std.proofs.lemmas.List.{drop-take}
use Rattle.wire.specs.declared.refusal.Refusal.{Refusal}
use Rattle.wire.specs.Outcome.{Outcome, ok, refused, after, out_of}
use Rattle.wire.proofs.Outcomes.{ok_not_refused, same_ok, same_refused}
use Rattle.wire.proofs.Stores.{stored_none}
use Rattle.temporal.specs.declared.storage.Storage.{Storage}
use Rattle.temporal.specs.Reading.{temporal_size, temporal_decode, temporal_fault}
use Rattle.temporal.proofs.Forms.{size_most}
use Rattle.value.specs.declared.shape.Shape.{Shape}
use Rattle.value.specs.declared.shape.Shape.TheVariants.{Unsigned, Signed, FloatBits, DoubleBits, YearByte, Timed, Fixed, Counted}
use Rattle.value.specs.declared.shape.Shape.TheVariants.{NotTaken}
use Rattle.value.specs.declared.column.Column.{Column}
use Rattle.value.specs.declared.datum.Value.{Value}
use Rattle.value.specs.Data.{Datum, temporal}
use Rattle.value.specs.Columns.{shape_of, is_taken}
use Rattle.value.specs.Shapes.{need, decode, fault, prefix}
use Rattle.value.specs.Reading.{judged, read_datum, read_value, placed}
use Rattle.value.proofs.Facts.{need_take}
use Rattle.value.proofs.Laws.{reads}
use Rattle.value.proofs.Tables.{sized}
use Rattle.value.proofs.Appends.{prefix_within, need_more}
use Rattle.blocks.specs.declared.state.Arriving.{Arriving}
use Rattle.blocks.specs.States.{opened, longed, value, long}
use Rattle.blocks.specs.Turns.{TurnSaid, wait, long as long₁, whole, turn_of}
use Rattle.blocks.specs.Gives.{Handed, commit, used_to, waiting, by_turn}
use Rattle.blocks.specs.Inner.Hands.{Heads, turn_by, value_over, Holds, Wholes}
use Rattle.blocks.proofs.Carries.{carried, carried_length, carried_before}
use Rattle.blocks.proofs.Turned.{not_long, prefix_most, read_whole, turn_wait, turn_long, turn_whole}
use Rattle.blocks.proofs.Hands.{heads_take, turn_head}

-- ---- a value that is whole
-- no value but a temporal is refused
pub no_fault : (sh : Shape) → ((k : Storage) → sh ≡ Timed k → ⊥) → (b : List ℕ) → fault sh b ≡ 0
unfolding fault
no_fault (Unsigned k) h b = refl
no_fault (Signed k) h b = refl
no_fault FloatBits h b = refl
no_fault DoubleBits h b = refl
no_fault YearByte h b = refl
no_fault (Timed k) h b = absurd (h k refl)
no_fault (Fixed n) h b = refl
no_fault (Counted k) h b = refl
no_fault (NotTaken n) h b = refl

module _ (sh : Shape) (carry block : List ℕ) (nb : ℕ) (at : Arriving) (j n : ℕ) (w : Wholes sh carry block nb at n)
    (u : is_taken sh ≡ true) where
  abbrev y : List ℕ
  y = take at.held carry ++ block

  abbrev x : List ℕ
  x = drop nb y

  abbrev after_it : Outcome Handed
  after_it = by_turn nb sh j x at carry block (whole n)

  y_length : length y ≡ at.held + length block
  y_length = length-append (take at.held carry) block ∙ ap (λ (k : ℕ). k + length block) (length-take-le at.held carry w.fits)

  x_there : n ≤ length x
  x_there = omega (arith, length-drop nb y, y_length, w.high)

  -- its bytes, in the carry
  abbrev c : List ℕ
  c = carried carry block at.held (nb + n)

  c_length : length c ≡ length carry
  c_length =
      dite (dec_le at.held (nb + n))
      (λ (h : at.held ≤ nb + n). carried_length carry block at.held (nb + n) (record { low = h; high = w.high; fits = w.upto }))
      (λ h.
      let e : nb + n - at.held ≡ 0 = omega arith in
      let z : c ≡ carry = rw e (stored_none carry at.held) in
      ap length z)

  front : take (nb + n) c ≡ take (nb + n) y
  front =
      dite (dec_le at.held (nb + n))
      (λ (h : at.held ≤ nb + n).
      sym (carried_before carry block at.held (nb + n) (record { low = h; high = w.high; fits = w.upto }) [] (nb + n) (omega arith))
      ∙ ap (λ (s : List ℕ). take (nb + n) (take at.held carry ++ s)) (append-nil block))
      (λ h.
      let e : nb + n - at.held ≡ 0 = omega arith in
      let k : length (take at.held carry) ≡ at.held = length-take-le at.held carry w.fits in
      let z : c ≡ carry = rw e (stored_none carry at.held) in
      ap (take (nb + n)) z
      ∙ sym (take-append-le (nb + n) (take at.held carry) block (omega arith) ∙ take-take (nb + n) at.held carry (omega arith)))

  pub bytes_are : take n (drop nb c) ≡ take n x
  bytes_are =
      sym (drop-take nb n c) ∙ ap (drop nb) front ∙ drop-take nb n y

  c_there : n ≤ length (drop nb c)
  c_there = omega (arith, length-drop nb c, c_length, w.upto)

  c_need : need sh (drop nb c) ≡ n
  c_need =
      let z = drop nb c in
      let k : length (take n x) ≡ n = length-take-le n x x_there in
      let h : need sh x ≤ length x = omega (arith, w.size, x_there) in
      let v : need sh (take n x) ≡ n = subst (λ (m : ℕ). need sh (take m x) ≡ m) w.size (need_take sh x h) in
      ap (need sh) (sym (take-append-drop n z)) ∙ ap (λ (s : List ℕ). need sh (s ++ drop n z)) bytes_are
      ∙ need_more sh (take n x) (drop n z) (omega arith) ∙ v

  module _ (z : (b : List ℕ) → fault sh b ≡ 0) where
    judged_is : judged sh j (take n x) ≡ ok (decode sh (take n x))
    unfolding judged
    judged_is = rw (z (take n x))

    read_is : read_value sh j c nb ≡ ok (placed (nb + n) (decode sh (take n x)), nb + n)
    unfolding read_value
    read_is = rw (reads sh j (drop nb c) n u c_need c_there (z (take n (drop nb c))), bytes_are)

    pub stored_got : {v : Value} {m : ℕ} → read_value sh j c nb ≡ ok (v, m)
        → by_turn nb sh j x at carry block (whole n)
        ≡ ok (commit at carry block (nb + n) (value j v) (opened (j + 1) nb (used_to at (nb + n))))
    unfolding by_turn
    stored_got {v} {m} e =
        let d : placed (nb + n) (decode sh (take n x)) ≡ v = ap (λ (q : Value × ℕ). q.0) (same_ok (sym read_is ∙ e)) in
        rw judged_is (rw d)

    pub stored_not : {v : Refusal} → read_value sh j c nb ≡ refused v → ⊥
    stored_not e = ok_not_refused (sym read_is ∙ e)

  -- a temporal, read from the first bytes
  module _ (k : Storage) (s : sh ≡ Timed k) (head : List ℕ) (h : Heads y nb head 8) where
    n_is : n ≡ temporal_size k
    unfolding need
    n_is = sym w.size ∙ ap (λ (z : Shape). need z x) s

    head_bytes : take n head ≡ take n x
    head_bytes = heads_take y nb head n h (omega (arith, n_is, size_most k)) (omega (arith, y_length, w.high))

    head_need : need sh head ≡ n
    unfolding need
    head_need = ap (λ (z : Shape). need z head) s ∙ sym n_is

    head_there : n ≤ length head
    head_there = omega (arith, n_is, size_most k, h.size)

    head_read : read_datum sh j head ≡ after {A = Datum} {B = Datum × ℕ} (judged sh j (take n x)) (λ d. ok (d, n))
    head_read =
        ap (read_datum sh j) (sym (append-nil head))
        ∙ read_whole sh j head [] u (omega (arith, head_need, head_there))
        ∙ rw (head_need, head_bytes)

    -- a temporal does not name its place
    judged_timed : judged sh j (take n x)
        ≡ cond (eqb (temporal_fault k (take n x)) 0) (ok (temporal (temporal_decode k (take n x))))
        (refused (out_of j (temporal_fault k (take n x))))
    unfolding judged fault decode
    judged_timed = ap (λ (z : Shape). judged z j (take n x)) s

    timed_read : read_value sh j head 0 ≡ after {A = Datum} {B = Value × ℕ} (judged sh j (take n x)) (λ d. ok (placed (0 + n) d, 0 + n))
    unfolding read_value
    timed_read = rw head_read (go (judged sh j (take n x)))
      where
        go : (o : Outcome Datum)
            → after {A = Datum × ℕ} {B = Value × ℕ} (after {A = Datum} {B = Datum × ℕ} o (λ d. ok (d, n)))
            (λ q. ok (placed (0 + q.1) q.0, 0 + q.1))
            ≡ after {A = Datum} {B = Value × ℕ} o (λ d. ok (placed (0 + n) d, 0 + n))
        go (ok d) = refl
        go (refused v) = refl

    pub timed_got : {v : Value} {m : ℕ} → read_value sh j head 0 ≡ ok (v, m)
        → by_turn nb sh j x at carry block (whole n)
        ≡ ok (commit at carry block (nb + n) (value j v) (opened (j + 1) nb (used_to at (nb + n))))
    unfolding by_turn placed
    timed_got {v} {m} e = go (eqb (temporal_fault k (take n x)) 0) refl
      where
        go : (b : Bool) → eqb (temporal_fault k (take n x)) 0 ≡ b
            → by_turn nb sh j x at carry block (whole n)
            ≡ ok (commit at carry block (nb + n) (value j v) (opened (j + 1) nb (used_to at (nb + n))))
        go true f =
            let a : judged sh j (take n x) ≡ ok (temporal (temporal_decode k (take n x))) = judged_timed ∙ rw f in
            let r : read_value sh j head 0 ≡ ok (Value.Temporal (temporal_decode k (take n x)), 0 + n) = timed_read ∙ rw a in
            let d : Value.Temporal (temporal_decode k (take n x)) ≡ v = ap (λ (q : Value × ℕ). q.0) (same_ok (sym r ∙ e)) in
            rw a (rw d)
        go false f =
            let a : judged sh j (take n x) ≡ refused (out_of j (temporal_fault k (take n x))) = judged_timed ∙ rw f in
            let r : read_value sh j head 0 ≡ refused (out_of j (temporal_fault k (take n x))) = timed_read ∙ rw a in
            absurd (ok_not_refused (sym e ∙ r))

    pub timed_not : {v : Refusal} → read_value sh j head 0 ≡ refused v → by_turn nb sh j x at carry block (whole n) ≡ refused v
    unfolding by_turn
    timed_not {v} e = go (judged sh j (take n x)) refl
      where
        go : (o : Outcome Datum) → judged sh j (take n x) ≡ o → by_turn nb sh j x at carry block (whole n) ≡ refused v
        go (ok d) f =
            let r : read_value sh j head 0 ≡ ok (placed (0 + n) d, 0 + n) = timed_read ∙ rw f in
            absurd (ok_not_refused (sym r ∙ e))
        go (refused v') f =
            let r : read_value sh j head 0 ≡ refused v' = timed_read ∙ rw f in
            rw f (ap refused (same_refused (sym r ∙ e)))

-- ---- a value that is not NULL: `t` is what the code found of its head
module _ (kind : Column) (carry block : List ℕ) {head : List ℕ} {nb : ℕ} {at : Arriving}
    (q : Holds (length carry) (length block) nb at) (h : Heads (take at.held carry ++ block) nb head 8)
    {shape : Shape} (is_shape : shape ≡ shape_of kind) {t : TurnSaid}
    (found : t ≡ turn_by (length carry - nb) (prefix shape) (at.held + length block - nb) (need shape head)) where
  abbrev sh : Shape
  sh = shape_of kind

  abbrev hand : List ℕ
  hand = take at.held carry ++ block

  abbrev rest : List ℕ
  rest = drop nb hand

  abbrev space : ℕ
  space = length carry - nb

  hand_length : length hand ≡ at.held + length block
  hand_length = length-append (take at.held carry) block ∙ ap (λ (k : ℕ). k + length block) (length-take-le at.held carry q.fits)

  rest_length : length rest ≡ at.held + length block - nb
  rest_length = length-drop nb hand ∙ ap (λ (k : ℕ). k - nb) hand_length

  pub turn_is : turn_of space sh rest ≡ t
  turn_is =
      sym (found ∙ ap (λ (s : Shape). turn_by space (prefix s) (at.held + length block - nb) (need s head)) is_shape
      ∙ ap (λ (k : ℕ). turn_by space (prefix sh) k (need sh head)) (sym rest_length)
      ∙ turn_head space sh hand nb head (sized kind) h (omega (arith, hand_length, q.there)))

  prefix_is : prefix shape ≡ prefix sh
  prefix_is = ap prefix is_shape

  pub prefix_few : prefix shape ≤ 4
  prefix_few = omega (arith, prefix_is, prefix_most sh (sized kind))

  pub wait_fits : t ≡ wait → at.held + length block ≤ length carry
  wait_fits e =
      let w = turn_wait space sh rest (turn_is ∙ e) in
      let m : length rest < length carry - nb =
      dite (dec_le (prefix sh) (length rest))
      (λ (k : prefix sh ≤ length rest). omega (arith, w.1, not_long space sh rest w.0 k))
      (λ k. omega (arith, prefix_most sh (sized kind), q.room)) in
      omega (arith, rest_length, q.room)

  pub wait_answer : (j : ℕ) → t ≡ wait → value_over nb sh j at carry block ≡ waiting at carry block j
  unfolding value_over by_turn
  wait_answer j e = rw (turn_is ∙ e)

  module _ {n : ℕ} where
    pub long_fits : t ≡ long₁ n → (nb + prefix shape ≤ length carry) × (nb + prefix shape ≤ at.held + length block)
    long_fits e =
        let w = turn_long space sh rest n (turn_is ∙ e) in
        (omega (arith, prefix_few, q.room), omega (arith, prefix_is, w.0.there, rest_length, q.there))

    pub long_answers : (j : ℕ) → t ≡ long₁ n → value_over nb sh j at carry block
        ≡ ok (commit at carry block (nb + prefix shape) (long j n) (longed j (nb + prefix shape) n (used_to at (nb + prefix shape))))
    unfolding value_over by_turn
    long_answers j e = rw (turn_is ∙ e, prefix_is)

    pub whole_fits : t ≡ whole n → Wholes sh carry block nb at n
    whole_fits e =
        let w = turn_whole space sh rest n (turn_is ∙ e) in
        let m = not_long space sh rest w.0 (omega (arith, prefix_within sh rest, w.1)) in
        record {
          fits = q.fits;
          there = q.there;
          upto = omega (arith, m, w.2, q.room);
          high = omega (arith, w.1, w.2, rest_length, q.there);
          size = w.2;
        }

    pub whole_answers : (j : ℕ) → t ≡ whole n → value_over nb sh j at carry block ≡ by_turn nb sh j rest at carry block (whole n)
    unfolding value_over
    whole_answers j e = rw (turn_is ∙ e)

-- what the three turns answer
pub ruleset turn_answers = (wait_answer, long_answers, whole_answers)
