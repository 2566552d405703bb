-- The first cursor of a plan, the room of a run, and op 0. Assumes nothing.
use Prim.Native.Nat.{ℕ, zero, suc, ◌+◌, ◌*◌, ◌≤◌, ◌<◌}
use mathlib.Core.Path.{◌≡◌, refl, sym, ap, subst, ◌∙◌}
use mathlib.Core.Bool.{Bool, true, false, cond}
use mathlib.Core.List.{List}
use native.Mathlib.Omega.{arith}
use lib.ListN.{length, drop, get_or, length-drop}
use Rattle.wire.specs.Outcome.{Outcome, ok, refused, refuse}
use Rattle.wire.specs.Bits.{bytes_for, bit_lsb0}
use Rattle.wire.specs.Stored.{stored}
use Rattle.wire.proofs.Outcomes.{after_is_ok, same_ok}
use Rattle.value.specs.declared.datum.Value.TheVariants.{Null}
use Rattle.value.specs.Columns.{is_taken, refusal_of}
use Rattle.value.specs.Ops.{shape_for}
use Rattle.value.specs.Reading.{taken, read_datum, read_value}
use Rattle.image.specs.declared.cursor.Cursor.{Cursor}
use Rattle.image.specs.Present.{present, count_bits}
use Rattle.image.specs.Split.{cursor, head_of, first_cursor}
use Rattle.image.proofs.CursorLaws.Heads.{head_tested}
use Rattle.image.proofs.PresenceLaws.Firsts.{count_none}
use Rattle.image.proofs.PresenceLaws.Presents.{present_length}
use Rattle.row_plan.specs.declared.row.RowCursor.{RowCursor}
use Rattle.row_plan.specs.Plan.{plan_of, item_count, item_at, row_cursor, RowStepped, null, value, end, plan_step, row_at}
use Rattle.row_plan.specs.Runs.{value_numbers, turned, is_over, RowRan, run_on, run_from}
use Rattle.row_plan.specs.Inner.Paused.{Stands}
use Rattle.row_plan.proofs.Rows.{items_present}
use Rattle.row_plan.proofs.RunLaws.{step_here}

pub items_are : (r p : List ℕ) → item_count (plan_of r p) ≡ length (present r p)
items_are r p = items_present r p ∙ sym (present_length r p)

pub first_is : (r p : List ℕ) (start : ℕ) (c : Cursor) → first_cursor r p ≡ ok c
    → row_at p start c ≡ row_cursor start 0 (bytes_for (item_count (plan_of r p)))
unfolding first_cursor row_at
first_is r p start c e =
    let a = after_is_ok (head_of r p) _ c e in
    let t = head_tested r p a.1 in
    let q : cursor 0 a.0.nulls ≡ c = same_ok a.2 in
    let n : a.0.nulls ≡ bytes_for (item_count (plan_of r p)) =
    t.nulls ∙ ap bytes_for (t.present ∙ ap (count_bits p) t.columns ∙ sym (items_present r p)) in
    subst (λ (c : Cursor). row_at p start c ≡ row_cursor start 0 (bytes_for (item_count (plan_of r p)))) q
    (ap (λ (k : ℕ). row_cursor start k a.0.nulls) (count_none p) ∙ ap (row_cursor start 0) n)

-- ---- room
counts_on : (f : RowCursor → ℕ → List ℕ → RowRan) (m : ℕ) → ((c : RowCursor) (v : ℕ) (d : List ℕ) → (f c v d).values ≤ v + m)
    → (c : RowCursor) (v : ℕ) (d : List ℕ) (x : Outcome RowStepped) → (run_on f c v d x).values ≤ v + suc m
counts_on f m k c v d (ok (null j n)) = omega (arith, k n (v + 1) (stored (value_numbers c.start Null) d (8 * v)))
counts_on f m k c v d (ok (value j x n)) = omega (arith, k n (v + 1) (stored (value_numbers c.start x) d (8 * v)))
counts_on f m k c v d (ok (end used)) = omega arith
counts_on f m k c v d (refused w) = omega arith

counts_if : (b : Bool) (n : ℕ) (x y : RowRan) → x.values ≤ n → y.values ≤ n → (cond b x y).values ≤ n
counts_if true n x y h k = h
counts_if false n x y h k = k

pub run_counts : (m : ℕ) (plan images : List ℕ) (c : RowCursor) (v : ℕ) (d : List ℕ) → (run_from m plan images c v d).values ≤ v + m
unfolding run_from
run_counts zero plan images c v d = omega arith
run_counts (suc m) plan images c v d =
    counts_if (is_over images (turned plan images c)) (v + suc m) _ _ (omega arith)
    (counts_on (run_from m plan images) m (run_counts m plan images) (turned plan images c) v d
    (plan_step plan images (turned plan images c)))

-- ---- op 0
not_true : (b : Bool) → (b ≡ true → ⊥) → b ≡ false
not_true true f = absurd (f refl)
not_true false f = refl

pub no_op : (plan images : List ℕ) (c : RowCursor) → c.item < item_count plan → get_or plan (3 * c.item) 0 ≡ 0
    → bytes_for (item_count plan) ≤ length (drop c.start images) → c.offset ≤ length (drop c.start images)
    → (bit_lsb0 (drop c.start images) c.item ≡ true → ⊥) → plan_step plan images c ≡ refuse 11 (item_at plan c.item).column
unfolding item_at shape_for read_value read_datum taken is_taken refusal_of
no_op plan images c i z b d n =
    let l = length-drop c.start images in
    let t : Stands plan images (item_count plan) c =
    record { count = refl; item = i; nulls = omega (arith, b, l); offset = omega (arith, d, l) } in
    step_here plan images (item_count plan) c t refl ∙ rw (not_true (bit_lsb0 (drop c.start images) c.item) n, z)
