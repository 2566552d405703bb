use Prim.Native.Nat.{ℕ}
use mathlib.Core.Path.{refl, sym, ap, ◌∙◌}
use mathlib.Core.List.{List}
use native.Mathlib.Omega.{arith}
use Rattle.wire.specs.Outcome.{Outcome}
use Rattle.wire.specs.Stored.{answer_of, left_of}
use Rattle.row_plan.specs.declared.row.RowCursor.{RowCursor}
use Rattle.row_plan.specs.Inner.Paused.{run_past}
use Rattle.row_plan.proofs.ReadLaws.{read_full, read_over, read_refused, read_end, read_enter}
use Rattle.row_plan.proofs.ReadLaws.{told_ran, told_stopped, left_stopped}
use Rattle.row_plan.proofs.row.RowCursor.read.Goals as goal

pub returns-then-is_over : goal.returns-then-is_over
returns-then-is_over c =
    let a = c.args in
    let o = sym c.is_over.ensures ∙ c.if-is_over.true in
    let g = read_over a.plan.now a.images.now _ a.out.now a.self c.loop-values.out c.loop-values.at c.loop-values.values c.loop-values.invariant
    c.loop-values-test.true c.turned-here.ensures o in
    let m = told_ran a.plan.now a.images.now a.self a.out.now _ refl (omega arith) _ _ _ g in
    record { result_value = sym (ap answer_of m); out_after = sym (ap (λ (x : Outcome ((ℕ × RowCursor) × List ℕ)). left_of x a.out.now) m) }

pub returns-in-Err : goal.returns-in-Err
returns-in-Err c =
    let a = c.args in
    let o = sym c.is_over.ensures
    ∙ c.if-is_over.false in
    let t = rw c.saturating_sub.ensures at (sym c.in-Err.ensures) in
    let g = read_refused a.plan.now a.images.now _ a.out.now a.self c.loop-values.out c.loop-values.at c.loop-values.values c.loop-values.invariant
    c.loop-values-test.true
    c.turned-here.ensures o _ t in record {
      result_value = c.stopped.ensures ∙ told_stopped a.plan.now a.images.now a.self a.out.now _ refl
          (omega arith) _ _ _ _ g;
      out_after = left_stopped a.plan.now a.images.now a.self a.out.now _ refl (omega arith) _ _ _ _ g;
    }

pub returns-then-here-items : goal.returns-then-here-items
returns-then-here-items c =
    let a = c.args in
    let o = sym c.is_over.ensures
    ∙ c.if-is_over.false in
    let g = read_end a.plan.now a.images.now _ a.out.now a.self c.loop-values.out c.loop-values.at c.loop-values.values c.loop-values.invariant
    c.loop-values-test.true
    c.turned-here.ensures o (rw c.saturating_sub.ensures at (sym c.in_default.ensures)) c.if-here-items.true in
    let m = told_ran a.plan.now a.images.now a.self a.out.now _ refl (omega arith) _ _ _ g in
    record { result_value = sym (ap answer_of m); out_after = sym (ap (λ (x : Outcome ((ℕ × RowCursor) × List ℕ)). left_of x a.out.now) m) }

pub returns-in-Err-stop : goal.returns-in-Err-stop
returns-in-Err-stop c =
    let a = c.args in
    let o = sym c.is_over.ensures ∙ c.if-is_over.false in
    let p = sym c.run_image-paused.ensures.result_after
    ∙ ap (run_past _ a.plan.now a.images.now _ _ _) c.in-Err-stop.is in
    let g = sym (read_enter a.plan.now a.images.now _ a.out.now a.self c.loop-values.out c.loop-values.at c.loop-values.values c.loop-values.invariant
    c.loop-values-test.true c.turned-here.ensures o (rw c.saturating_sub.ensures at (sym c.in_default.ensures)) c.if-here-items.false) ∙ p in record {
      result_value = c.stopped-in-Err-stop.ensures ∙ told_stopped a.plan.now a.images.now a.self a.out.now _ refl
          (omega arith) _ _ _ _ g;
      out_after = left_stopped a.plan.now a.images.now a.self a.out.now _ refl (omega arith) _ _ _ _ g;
    }

pub returns : goal.returns
returns c =
    let a = c.args in
    let g = read_full a.plan.now a.images.now _ a.out.now a.self c.loop-values.out c.loop-values.at c.loop-values.values c.loop-values.invariant
    c.loop-values-test.false in
    let m = told_ran a.plan.now a.images.now a.self a.out.now _ refl (omega arith) _ _ _ g in
    record { result_value = sym (ap answer_of m); out_after = sym (ap (λ (x : Outcome ((ℕ × RowCursor) × List ℕ)). left_of x a.out.now) m) }
