-- When `end` is told: where the end call would accept, and nowhere else. Assumes nothing.
use Prim.Native.Nat.{ℕ, ◌-◌, ◌≤◌}
use mathlib.Core.Path.{◌≡◌, refl, sym, ap, subst, ◌∙◌}
use mathlib.Core.Bool.{Bool, true, false, true≢false}
use mathlib.Core.List.{List, [], ◌∷◌, ◌++◌}
use native.Mathlib.Nat.{add-zero}
use native.Mathlib.Omega.{arith}
use borrow.Author.Tests.{le-ltb, ltb-false}
use lib.ListN.{length, take, drop, length-append}
use lib.Seq.{length-take-le}
use lib.Dec.{ltb}
use Rattle.wire.specs.Outcome.{ok}
use Rattle.wire.specs.Number.{Bytes}
use Rattle.wire.proofs.Outcomes.{by_test, same_ok, ok_not_refused}
use Rattle.image.specs.Split.{Slot, slots_at}
use Rattle.image.specs.Room.{image_room}
use Rattle.image.proofs.CursorLaws.Heads.{Over, null_bytes}
use Rattle.image.proofs.AppendLaws.GrownSteps.{slots_more}
use Rattle.blocks.specs.declared.state.Arriving.{Arriving}
use Rattle.blocks.specs.States.{opened, Arrived, end, BlockGiven}
use Rattle.blocks.specs.Gives.{Handed, commit, give_over, give_open, give_in, give_block}
use Rattle.blocks.specs.Ends.{end_over, end_in, end_blocks}
use Rattle.blocks.specs.Streams.{Stream, stopped}
use Rattle.blocks.specs.Runs.{goes_on, Came}
use Rattle.blocks.specs.Inner.Futures.{future}
use Rattle.blocks.proofs.Ons.{On, Still, Ready, Left, open_left, long_left}
use Rattle.blocks.proofs.Fits.{spent_room}
use Rattle.blocks.proofs.Runs.{give_is, give_on, give_leaves, end_is, end_on}
use Rattle.blocks.proofs.Taken.{came_left}

-- behind `end` the end call accepts
pub end_only : (r p : List ℕ) {st : Arriving} {carry : List ℕ} (block : List ℕ) (g : BlockGiven) (left : List ℕ) (used : ℕ) → Over r p
    → Came r p st carry → Bytes block → give_block r p st carry block ≡ ok (g, left) → g.arrival ≡ end used
    → end_blocks r p g.next left ≡ ok used
end_only r p {st} {carry} block g left used u c b e a =
    let l = came_left r p u c in
    let m = spent_room (Unit {0}) r p carry tt l in
    let o : On r p (null_bytes r p) block [] (future r p (null_bytes r p) st carry (block ++ [])) (ok (g, left)) =
    rw e at (give_on (Unit {0}) r p carry block [] (λ k. b) l m) in
    let k : Left (Unit {0}) r p left g.next = (rw e at (give_leaves (Unit {0}) r p carry block (λ k. b) l m)).1 in
    let f : (s : List ℕ) → future r p (null_bytes r p) g.next left s ≡ stopped (ok used) =
    subst (λ (z : Arrived). Still z block g.taken (future r p (null_bytes r p) g.next left)) a o.1 in
    end_on (Unit {0}) r p left k (spent_room (Unit {0}) r p left tt k) ∙ ap (λ (w : Stream). w.how) (f [])

-- where the end call would accept, a call that rests tells the end
module _ (r p : List ℕ) (column held used₀ : ℕ) (carry block : List ℕ) (q : Ready (Unit {0}) r p column held used₀ carry) where
  abbrev nb : ℕ
  nb = null_bytes r p

  abbrev y : List ℕ
  y = take held carry ++ block

  held_length : length (take held carry) ≡ held
  held_length = length-take-le held carry q.fits

  open_told : (is : List Slot) (used : ℕ) (x : Handed) → slots_at r p (take held carry) column ≡ is → end_over is used₀ ≡ ok used → nb ≤ held
      → give_open r p nb (opened column held used₀) carry block ≡ ok x
      → goes_on x.0.arrival ≡ false
      → (x.0.arrival ≡ end used) × (x.0.taken ≡ 0)
  unfolding give_open give_over end_over commit
  open_told is used x s f k e a =
      let l : nb ≤ length y = omega (arith, length-append (take held carry) block, held_length) in
      let m : slots_at r p y column ≡ is = slots_more r p (take held carry) block column q.among (omega (arith, held_length)) ∙ s in
      go is f (rw (le-ltb (length y) nb l, m) at e)
    where
      go : (is : List Slot) → end_over is used₀ ≡ ok used
          → give_over (length carry - nb) nb is (drop nb y) (opened column held used₀) carry block ≡ ok x
          → (x.0.arrival ≡ end used) × (x.0.taken ≡ 0)
      go [] g h =
          let z : nb - held ≡ 0 = omega (arith, k) in
          let v = same_ok h in (
            sym (ap (λ (w : Handed). w.0.arrival) v) ∙ ap end (rw (z, add-zero used₀) (same_ok g)),
            sym (ap (λ (w : Handed). w.0.taken) v) ∙ z,
          )
      go (i ∷ is) g h = by i.null refl
        where
          by : (b : Bool) → i.null ≡ b → (x.0.arrival ≡ end used) × (x.0.taken ≡ 0)
          by true n =
              let v = same_ok (rw n at h) in
              absurd (true≢false (ap (λ (w : Handed). goes_on w.0.arrival) v ∙ a))
          by false n = absurd (ok_not_refused (sym (rw n at g)))

told_left : (r p carry block : List ℕ) {st : Arriving} (used : ℕ) (x : Handed) → Left (Unit {0}) r p carry st → st.used ≤ image_room r p
    → end_blocks r p st carry ≡ ok used → give_block r p st carry block ≡ ok x → goes_on x.0.arrival ≡ false
    → (x.0.arrival ≡ end used) × (x.0.taken ≡ 0)
unfolding end_in give_in
told_left r p carry block used x (open_left column held used₀ q) m h e a =
    let l = open_left column held used₀ q in
    by_test (ltb held (null_bytes r p)) _ _ _ (sym (end_is (Unit {0}) r p carry l m) ∙ h) (λ u f. absurd (ok_not_refused (sym f)))
    (λ u f.
    open_told r p column held used₀ carry block q (slots_at r p (take held carry) column) used x refl f (ltb-false held (null_bytes r p) u)
    (sym (give_is (Unit {0}) r p carry block l m) ∙ e) a)
told_left r p carry block used x (long_left column held left used₀ q) m h e a =
    absurd (ok_not_refused (sym (sym (end_is (Unit {0}) r p carry (long_left column held left used₀ q) m) ∙ h)))

pub end_told_lem : (r p : List ℕ) {st : Arriving} {carry : List ℕ} (block : List ℕ) (g : BlockGiven) (left : List ℕ) (used : ℕ) → Over r p
    → Came r p st carry → end_blocks r p st carry ≡ ok used → give_block r p st carry block ≡ ok (g, left) → goes_on g.arrival ≡ false
    → (g.arrival ≡ end used) × (g.taken ≡ 0)
end_told_lem r p {carry} block g left used u c h e a =
    let l = came_left r p u c in told_left r p carry block used (g, left) l (spent_room (Unit {0}) r p carry tt l) h e a
