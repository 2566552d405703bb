-- The refusals of images in blocks. Assumes nothing.
use Prim.Native.Nat.{ℕ, ◌-◌, ◌≤◌, ◌<◌}
use mathlib.Core.Path.{◌≡◌, refl, sym, subst}
use mathlib.Core.Bool.{true, true≢false}
use mathlib.Core.List.{List, [], ◌∷◌}
use native.Mathlib.Omega.{arith}
use borrow.Author.Tests.{leb-true, eqb-true}
use lib.ListN.{length, take, drop}
use lib.Dec.{leb, ltb, eqb}
use Rattle.wire.specs.Outcome.{ok, why}
use Rattle.wire.proofs.Outcomes.{both_true, after_is_ok, by_test, same_ok, ok_not_refused}
use Rattle.value.specs.declared.shape.Shape.{Shape}
use Rattle.value.specs.Shapes.{fault}
use Rattle.value.specs.Reading.{judged}
use Rattle.value.proofs.Laws.{fault_most}
use Rattle.record.specs.Records.{count_of}
use Rattle.image.specs.declared.cursor.Head.{Head}
use Rattle.image.specs.Split.{Slot, slots_at, head_of}
use Rattle.image.proofs.CursorLaws.Heads.{head_tested}
use Rattle.blocks.specs.declared.state.Phase.{Phase}
use Rattle.blocks.specs.declared.state.Phase.TheVariants.{Open, Long, Closed}
use Rattle.blocks.specs.declared.state.Arriving.{Arriving}
use Rattle.blocks.specs.Turns.{TurnSaid, turn_of}
use Rattle.blocks.specs.Fits.{is_long, fits_in, is_counted, is_fit}
use Rattle.blocks.specs.Gives.{by_turn, give_over, at_hand, give_open, give_long, give_in, given_fit, head_carry, give_block, begin_blocks}
use Rattle.blocks.specs.Ends.{end_over, end_in, ended_fit, end_blocks}
use Rattle.blocks.proofs.Turned.{each_turn}
use Rattle.promises.specs.Refusals.{Line, OneOf}
use Rattle.promises.proofs.Demand1.Only.{Listed, done, stop, stop_part, chain, test, Tens}
use Rattle.promises.proofs.Demand1.Rows.{head_read, EachSlot, Fine, slots_fine}

carry_read : {ls : List Line} (r p carry : List ℕ) → OneOf ls (why 11 0) → OneOf ls (why 12 0) → OneOf ls (why 20 0)
    → Listed ls (head_carry r p carry)
unfolding head_carry
carry_read r p carry eleven twelve twenty =
    chain (head_of r p) _ (head_read eleven twelve r p) (λ h e. test (ltb (length carry) 1024) (λ u. stop twenty) (λ u. done _))

pub blocks_begun : {ls : List Line} (r p carry : List ℕ) → OneOf ls (why 11 0) → OneOf ls (why 12 0) → OneOf ls (why 20 0)
    → Listed ls (begin_blocks r p carry)
unfolding begin_blocks
blocks_begun r p carry eleven twelve twenty = chain (head_carry r p carry) _ (carry_read r p carry eleven twelve twenty) (λ h e. done _)

-- what the tests tell
carry_head : (r p carry : List ℕ) {h : Head} → head_carry r p carry ≡ ok h → head_of r p ≡ ok h
unfolding head_carry
carry_head r p carry {h} e =
    let w = after_is_ok (head_of r p) _ h e in
    by_test (ltb (length carry) 1024) _ _ _ w.2 (λ u f. absurd (ok_not_refused (sym f)))
    (λ u f. subst (λ (k : Head). head_of r p ≡ ok k) (same_ok f) w.1)

fit_among : (r p : List ℕ) (n nb : ℕ) (st : Arriving) (carry : List ℕ) → is_fit r p n nb st carry ≡ true → st.column ≤ n
unfolding is_fit is_counted
fit_among r p n nb st carry e =
    leb-true st.column n (both_true (leb st.column n) _ (both_true (is_counted r p n (length carry) st) _ e).0).0

-- ---- a block
module _ {ls : List Line} (r : List ℕ) (ten : (j : ℕ) → j < count_of r → Tens ls j) where
  turn_listed : (nb : ℕ) (sh : Shape) (j : ℕ) (x : List ℕ) (st : Arriving) (carry block : List ℕ) (v : TurnSaid) → j < count_of r
      → Listed ls (by_turn nb sh j x st carry block v)
  unfolding by_turn judged
  turn_listed nb sh j x st carry block v h =
      each_turn (λ v. Listed ls (by_turn nb sh j x st carry block v)) v (done _) (λ n. done _) (λ n.
      chain (judged sh j (take n x)) _
      (test (eqb (fault sh (take n x)) 0) (λ u. done _) (λ u. stop_part (ten j h) u (fault_most sh (take n x)))) (λ d e. done _))

  over_listed : (room nb : ℕ) (is : List Slot) (x : List ℕ) (st : Arriving) (carry block : List ℕ) → EachSlot (Fine r) is
      → Listed ls (give_over room nb is x st carry block)
  unfolding give_over EachSlot
  over_listed room nb [] x st carry block f = done _
  over_listed room nb (i ∷ is) x st carry block f =
      test i.null (λ u. done _)
      (λ u.
      turn_listed nb i.present.shape i.present.column x st carry block (turn_of room i.present.shape x) f.0.column)

pub block_given_lem : {ls : List Line} (r p : List ℕ) (st : Arriving) (carry block : List ℕ) → OneOf ls (why 11 0) → OneOf ls (why 12 0)
    → OneOf ls (why 20 0) → OneOf ls (why 21 0) → ((j : ℕ) → j < count_of r → Tens ls j) → Listed ls (give_block r p st carry block)
unfolding give_block given_fit give_in give_open give_long
block_given_lem {ls} r p st carry block eleven twelve twenty unfit ten =
    chain (head_carry r p carry) _ (carry_read r p carry eleven twelve twenty) (λ h e.
    let t = head_tested r p (carry_head r p carry e) in
    test (is_fit r p h.columns h.nulls st carry)
    (λ u. go st.phase h.nulls
    (λ y. slots_fine r p y st.column t.valid (omega (arith, fit_among r p h.columns h.nulls st carry u, t.columns))))
    (λ u. stop unfit))
  where
    go : (f : Phase) (nb : ℕ) → ((y : List ℕ) → EachSlot (Fine r) (slots_at r p y st.column)) → Listed ls (give_in f r p nb st carry block)
    go Open nb f =
        let y = at_hand st carry block in
        test (ltb (length y) nb) (λ u. done _)
        (λ u. over_listed r ten (length carry - nb) nb (slots_at r p y st.column) (drop nb y) st carry block (f y))
    go Long nb f = test (eqb (length block) 0) (λ u. done _) (λ u. test (leb st.left (length block)) (λ u. done _) (λ u. done _))
    go Closed nb f = stop unfit

-- ---- the end
ended_listed : {ls : List Line} (r : List ℕ) → ((j : ℕ) → j < count_of r → OneOf ls (why 9 j)) → (is : List Slot) (used : ℕ)
    → EachSlot (Fine r) is → Listed ls (end_over is used)
unfolding end_over EachSlot
ended_listed r nine [] used f = done _
ended_listed r nine (i ∷ is) used f =
    test i.null (λ u. ended_listed r nine is used f.1) (λ u. stop (nine i.present.column f.0.column))

-- a long value's column is one of the record's
long_column : (r : List ℕ) (room j left : ℕ) (is : List Slot) (x : List ℕ) → EachSlot (Fine r) is → is_long room j left is x ≡ true
    → j < count_of r
unfolding is_long EachSlot
long_column r room j left [] x f e = absurd (true≢false (sym e))
long_column r room j left (i ∷ is) x f e =
    subst (λ (k : ℕ). k < count_of r) (eqb-true i.present.column j (both_true (eqb i.present.column j) _ e).0) f.0.column

fit_long : (r p : List ℕ) (n nb : ℕ) (st : Arriving) (carry : List ℕ) → is_fit r p n nb st carry ≡ true → st.phase ≡ Long
    → ((y : List ℕ) → EachSlot (Fine r) (slots_at r p y st.column)) → st.column < count_of r
unfolding is_fit fits_in
fit_long r p n nb st carry e h f =
    let y = take st.held carry in
    let a : fits_in st.phase r p nb st carry ≡ true = (both_true (is_counted r p n (length carry) st) _ e).1 in
    let b : fits_in Long r p nb st carry ≡ true = subst (λ (q : Phase). fits_in q r p nb st carry ≡ true) h a in
    long_column r (length carry - nb) st.column st.left (slots_at r p y st.column) (drop nb y) (f y)
    (both_true (leb nb st.held) _ b).1

pub blocks_ended : {ls : List Line} (r p : List ℕ) (st : Arriving) (carry : List ℕ) → OneOf ls (why 11 0) → OneOf ls (why 12 0)
    → OneOf ls (why 20 0) → OneOf ls (why 21 0) → OneOf ls (why 9 0) → ((j : ℕ) → j < count_of r → OneOf ls (why 9 j))
    → Listed ls (end_blocks r p st carry)
unfolding end_blocks ended_fit end_in
blocks_ended {ls} r p st carry eleven twelve twenty unfit none nine =
    chain (head_carry r p carry) _ (carry_read r p carry eleven twelve twenty) (λ h e.
    let t = head_tested r p (carry_head r p carry e) in
    test (is_fit r p h.columns h.nulls st carry)
    (λ u.
    let f : (y : List ℕ) → EachSlot (Fine r) (slots_at r p y st.column) =
    λ y. slots_fine r p y st.column t.valid (omega (arith, fit_among r p h.columns h.nulls st carry u, t.columns)) in
    go st.phase h.nulls f (λ k. fit_long r p h.columns h.nulls st carry u k f))
    (λ u. stop unfit))
  where
    go : (f : Phase) (nb : ℕ) → ((y : List ℕ) → EachSlot (Fine r) (slots_at r p y st.column)) → (f ≡ Long → st.column < count_of r)
        → Listed ls (end_in f r p nb st carry)
    go Open nb f l =
        let y = take st.held carry in
        test (ltb st.held nb) (λ u. stop none) (λ u. ended_listed r nine (slots_at r p y st.column) st.used (f y))
    go Long nb f l = stop (nine st.column (l refl))
    go Closed nb f l = stop unfit
