-- Whatever the state, made up or not: only the end call can refuse with 9; and a closed state is refused, 21 at 0. Assumes nothing.
use Prim.Native.Nat.{ℕ, ◌-◌, ◌≤◌}
use mathlib.Core.Path.{◌≡◌, refl}
use mathlib.Core.Bool.{Bool, true, false, cond}
use mathlib.Core.List.{List, [], ◌∷◌}
use native.Mathlib.Omega.{arith}
use borrow.Author.Tests.{le-ltb}
use lib.ListN.{length, take, drop}
use lib.Dec.{leb, ltb, eqb}
use Rattle.std.proofs.Math.Bool.{and-false}
use Rattle.wire.specs.declared.refusal.Refusal.{Refusal}
use Rattle.wire.specs.Outcome.{Outcome, ok, refused, refuse, after, why}
use Rattle.wire.specs.Bits.{bytes_for}
use Rattle.value.specs.declared.shape.Shape.{Shape}
use Rattle.value.specs.Shapes.{fault}
use Rattle.value.specs.Reading.{judged}
use Rattle.record.specs.Records.{count_of, record_valid, read_record}
use Rattle.image.specs.Split.{Slot, slots_at, head_of}
use Rattle.image.proofs.CursorLaws.Heads.{Over, null_bytes, head_is}
use Rattle.blocks.specs.declared.state.Phase.{Phase}
use Rattle.blocks.specs.declared.state.Phase.TheVariants.{Open, Long, Closed}
use Rattle.blocks.specs.declared.state.Arriving.{Arriving}
use Rattle.blocks.specs.Turns.{TurnSaid, wait, long, whole, turn_of}
use Rattle.blocks.specs.Fits.{is_counted, fits_in, is_fit}
use Rattle.blocks.specs.States.{begun}
use Rattle.blocks.specs.Gives.{head_carry, by_turn, give_over, at_hand, give_open, give_long, give_in, given_fit, give_block, begin_blocks}
use Rattle.blocks.specs.Ends.{ended_fit, end_blocks}

pub data Not9 {A : Type 0} : Outcome A → Type 0 where
  fine : (a : A) → Not9 (ok a)
  other : (w : Refusal) → (w.number ≡ 9 → ⊥) → Not9 (refused w)

not_test : {A : Type 0} (b : Bool) {x y : Outcome A} → Not9 x → Not9 y → Not9 (cond b x y)
not_test true u v = u
not_test false u v = v

not_after : {A B : Type 0} (o : Outcome A) (f : A → Outcome B) → Not9 o → ((a : A) → Not9 (f a)) → Not9 (after o f)
not_after _ f (fine a) v = v a
not_after _ f (other w h) v = other w h

not_turn : (nb : ℕ) (sh : Shape) (j : ℕ) (x : List ℕ) (st : Arriving) (carry block : List ℕ) (v : TurnSaid)
    → Not9 (by_turn nb sh j x st carry block v)
unfolding by_turn judged
not_turn nb sh j x st carry block wait = fine _
not_turn nb sh j x st carry block (long n) = fine _
not_turn nb sh j x st carry block (whole n) =
    not_after (judged sh j (take n x)) _ (not_test (eqb (fault sh (take n x)) 0) (fine _) (other _ (λ (e : 10 ≡ 9). absurd (omega arith))))
    (λ d. (fine _))

not_over : (room nb : ℕ) (is : List Slot) (x : List ℕ) (st : Arriving) (carry block : List ℕ) → Not9 (give_over room nb is x st carry block)
unfolding give_over
not_over room nb [] x st carry block = fine _
not_over room nb (i ∷ is) x st carry block =
    not_test i.null (fine _) (not_turn nb i.present.shape i.present.column x st carry block (turn_of room i.present.shape x))

not_in : (f : Phase) (r p : List ℕ) (nb : ℕ) (st : Arriving) (carry block : List ℕ) → Not9 (give_in f r p nb st carry block)
unfolding give_in give_open give_long
not_in Open r p nb st carry block =
    not_test (ltb (length (at_hand st carry block)) nb) (fine _)
    (not_over (length carry - nb) nb (slots_at r p (at_hand st carry block) st.column) (drop nb (at_hand st carry block)) st carry block)
not_in Long r p nb st carry block = not_test (eqb (length block) 0) (fine _) (not_test (leb st.left (length block)) (fine _) (fine _))
not_in Closed r p nb st carry block = other (why 21 0) (λ e. absurd (omega arith))

pub give_not_9 : (r p : List ℕ) (st : Arriving) (carry block : List ℕ) → Not9 (give_block r p st carry block)
unfolding give_block head_carry given_fit head_of read_record
give_not_9 r p st carry block =
    not_after (head_carry r p carry) _
    (not_after (head_of r p) _
    (not_after (read_record r) _
    (not_test (record_valid r) (fine _) (other _ (λ (e : 11 ≡ 9). absurd (omega arith))))
    (λ n. not_test (eqb (length p) (bytes_for n)) (fine _) (other _ (λ (e : 12 ≡ 9). absurd (omega arith)))))
    (λ h. not_test (ltb (length carry) 1024) (other _ (λ (e : 20 ≡ 9). absurd (omega arith))) (fine _)))
    (λ h.
    not_test (is_fit r p h.columns h.nulls st carry) (not_in st.phase r p h.nulls st carry block)
    (other _ (λ (e : 21 ≡ 9). absurd (omega arith))))

-- behind a refusal and behind the end call the state is closed
pub closed_refused : (r p : List ℕ) (st : Arriving) (carry block : List ℕ) → Over r p → 1024 ≤ length carry → st.phase ≡ Closed
    → (give_block r p st carry block ≡ refuse 21 0) × (end_blocks r p st carry ≡ refuse 21 0)
unfolding give_block head_carry given_fit end_blocks ended_fit is_fit fits_in
closed_refused r p st carry block u h e =
    rw (head_is r p u, le-ltb (length carry) 1024 h, e, and-false (is_counted r p (count_of r) (length carry) st)) (refl, refl)

-- and so is any other that is not fit
pub unfit_refused : (r p : List ℕ) (st : Arriving) (carry block : List ℕ) → Over r p → 1024 ≤ length carry
    → is_fit r p (count_of r) (null_bytes r p) st carry ≡ false
    → (give_block r p st carry block ≡ refuse 21 0) × (end_blocks r p st carry ≡ refuse 21 0)
unfolding give_block head_carry given_fit end_blocks ended_fit
unfit_refused r p st carry block u h e = rw (head_is r p u, le-ltb (length carry) 1024 h, e) (refl, refl)

-- the first call
pub begins_begun : (r p carry : List ℕ) → Over r p → 1024 ≤ length carry → begin_blocks r p carry ≡ ok begun
unfolding begin_blocks head_carry
begins_begun r p carry u h = rw (head_is r p u, le-ltb (length carry) 1024 h)
