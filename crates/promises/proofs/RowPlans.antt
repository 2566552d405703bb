-- Request 11, from the laws of the crate `row_plan`. Assumes nothing.
use Prim.Native.Nat.{ℕ, suc, ◌≤◌}
use mathlib.Core.Path.{◌≡◌, refl, sym, subst, ap, ◌∙◌}
use mathlib.Core.List.{List, [], ◌∷◌}
use lib.ListN.{length, drop}
use native.Mathlib.Omega.{arith}
use Rattle.wire.specs.Outcome.{ok}
use Rattle.wire.specs.Bits.{bytes_for}
use Rattle.record.specs.Records.{count_of}
use Rattle.image.specs.Present.{present, count_bits}
use Rattle.image.specs.Rows.{answers_of}
use Rattle.image.specs.WriteRow.{LentValue, row_of, Fit, image_size}
use Rattle.image.specs.Walk.{walk_image}
use Rattle.image.proofs.CursorLaws.Heads.{Over}
use Rattle.image.proofs.PresenceLaws.Presents.{present_length}
use Rattle.image.proofs.EndLaws.Images.{row_length}
use Rattle.row_plan.specs.declared.put.ItemCursor.{ItemCursor}
use Rattle.row_plan.specs.Plan.{plan_of}
use Rattle.row_plan.specs.Puts.{plan_write, item_of}
use Rattle.row_plan.specs.Rows.{RowRun}
use Rattle.row_plan.proofs.Rows.{plan_step_lem, items_present}
use Rattle.row_plan.proofs.ReadLaws.{run_kept}
use Rattle.row_plan.proofs.Walked.{run_walk}
use Rattle.row_plan.proofs.Told.{items_are, first_is, run_counts, no_op}
use Rattle.row_plan.proofs.Worked.{worked_made, worked_runs, worked_other, worked_written}
use Rattle.row_plan.proofs.PlanWrites.{plan_put_lem, plan_write_lem, plan_left_lem}
use Rattle.promises.specs.RowPlans.{Under, RowPlans}
use Rattle.promises.proofs.Demand3.Images.{relied}

over : (r p : List ℕ) → Under r p → Over r p
over r p u = record { valid = u.valid; bits = u.bits }

-- ---- a row written by the plan is read back, as the row written under the record is
rows_given : (gs : List LentValue) → length (row_of gs) ≡ length gs
unfolding row_of
rows_given [] = refl
rows_given (g ∷ gs) = ap suc (rows_given gs)

plan_back : (r p nulls : List ℕ) (gs : List LentValue) (buf : List ℕ) → Fit r p nulls gs → image_size r p nulls (row_of gs) ≤ length buf
    → (next : ItemCursor) × (left : List ℕ) × (plan_write r p nulls gs buf ≡ ok (next, left))
    × (next.offset ≡ image_size r p nulls (row_of gs))
    × (walk_image r p left ≡ record { answers = answers_of (present r p) (row_of gs); how = ok next.offset })
unfolding item_of
plan_back r p nulls gs buf fit h =
    let w = (relied r fit.valid).row_written p nulls gs buf fit h in
    let n : length gs ≡ count_bits p (count_of r) =
    sym (rows_given gs) ∙ row_length (present r p) (row_of gs) fit.row ∙ present_length r p in
    let q : plan_write r p nulls gs buf ≡ ok (item_of p w.last, w.left) =
    plan_write_lem r p nulls gs buf (omega (arith, n)) ∙ rw w.is in
    (item_of p w.last, w.left, q, w.offset, w.walked)

pub row_plans : RowPlans
row_plans = record {
  items = items_are;
  plan_step_lem = λ r p images start c u a d. plan_step_lem r p images start c (over r p u) a d;
  plan_first = first_is;
  run_walk = λ r p images start u.
      subst (λ (o : ℕ). RowRun (plan_of r p) images start 0 o (walk_image r p (drop start images))) (ap bytes_for (sym (items_present r p)))
      (run_walk r p images start (over r p u));
  run_room = λ m plan images c buf. let h = run_counts m plan images c 0 buf in omega arith;
  run_kept = λ m plan images c buf e. (run_kept m plan images c 0 buf).kept e;
  no_op = no_op;
  worked_plan_lem = worked_made.0;
  worked_run = worked_runs.0;
  other_presence = worked_other;
  plan_put_lem = λ r p nulls lent v buf c u l. plan_put_lem r p nulls lent v buf c (over r p u) l;
  plan_write_lem = plan_write_lem;
  plan_left_lem = plan_left_lem;
  plan_back = plan_back;
  worked_write = worked_written;
}
