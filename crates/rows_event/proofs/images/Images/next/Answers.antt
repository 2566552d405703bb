-- `rows_event::images::Images::next` meets its contract. Assumes nothing.
use Prim.Native.Nat.{◌-◌, ◌≤◌}
use mathlib.Core.Path.{◌≡◌, sym, ◌∙◌}
use mathlib.Core.Bool.{false, not, ◌&&◌, and-false}
use native.Mathlib.Omega.{arith}
use borrow.Author.Tests.{le-ltb, ne_eqb}
use lib.ListN.{length, drop, length-drop}
use lib.Seq.{take_all}
use lib.Dec.{eqb}
use Rattle.std.specs.Prelude.{Ok}
use Rattle.image.specs.Walk.{walk_image}
use Rattle.image.proofs.EndLaws.Used.{walk_used}
use Rattle.rows_event.specs.Images.{set_of, is_empty, next_image}
use Rattle.rows_event.proofs.Says.{some_used, told_walk}
use Rattle.rows_event.proofs.images.Images.next.Goals as goal
use Rattle.rows_event.proofs.images.Images.next.Goals.{In_ok-used}
use Rattle.rows_event.proofs.images.Images.next.Goals.{else-used-eq0-via-then-used-eq0+else-is_empty, else-used-eq0-via-else-used-eq0}
use Rattle.rows_event.proofs.images.Images.next.Goals.{else-self-event-via-then-self-event+else-not-second, else-self-event-via-else-self-event}

-- the walk over what is left of the event
walked : (c : In_ok-used)
    → (walk_image c.args.profile.now (set_of c.args.rows c.args.event.now c.is_second-second.result) (drop c.args.self.at c.args.event.now)).how
    ≡ Ok c.in_ok-used.used
walked c =
    let s = c.args.event.now in
    let at = c.args.self.at in
    let n : length (drop at s) ≤ length s - at = omega (arith, length-drop at s) in
    told_walk _ _ _ _ _ _ c.set_of.ensures (take_all (length s - at) (drop at s) n) c.in_ok-used.ensures

pub overflow_add-next : goal.overflow_add-next
overflow_add-next c =
    let s = c.args.event.now in
    let at = c.args.self.at in
    let w =
    walk_used c.args.profile.now (set_of c.args.rows s c.is_second-second.result) (drop at s) c.in_ok-used.used
    (walked (goal.at.overflow_add-next c).In_ok-used) in
    omega (arith, w.1, length-drop at s, c.well_formed)

pub returns : goal.returns
unfolding next_image
returns c =
    let a = c.args in
    let s = a.event.now in
    let at = a.self.at in
    let b = c.is_second-second.result in
    let e = walked (goal.at.returns c).In_ok-used in
    let g : (eqb at (length s) && not b) ≡ false =
    elim c.else-self-event.branch [
      | else-self-event-via-then-self-event+else-not-second w ↦ rw w.if-not-second.false (and-false _)
      | else-self-event-via-else-self-event w ↦ rw (ne_eqb at (length s) w.if-self-event.false)
    ] in
    let n : is_empty a.profile.now a.rows s ≡ false =
    elim c.else-used-eq0.branch [
      | else-used-eq0-via-then-used-eq0+else-is_empty w ↦ sym w.is_empty.ensures ∙ w.if-is_empty.false
      | else-used-eq0-via-else-used-eq0 w ↦
          some_used a.profile.now a.rows s b (drop at s) c.in_ok-used.used e w.if-used-eq0.false
    ] in
    rw (← c.is_second-second.ensures, le-ltb (length s) at (omega arith), g, e, n, c.is_second.ensures)
