-- The refusals of plans: made, stepped by, run and written by. Any bytes are a plan, so a byte that is no op is among them. Assumes
-- nothing.
use Prim.Native.Nat.{ℕ, zero, suc, ◌-◌, ◌*◌, ◌/◌}
use mathlib.Core.Path.{◌≡◌, refl}
use mathlib.Core.Bool.{Bool, true, false, cond}
use mathlib.Core.List.{List}
use native.Mathlib.Omega.{arith}
use borrow.Author.Tests.{eqb-true}
use lib.ListN.{length, get_or, drop}
use lib.Dec.{ltb, eqb}
use Rattle.wire.specs.Bits.{bytes_for, bit_lsb0}
use Rattle.wire.specs.Outcome.{Outcome, ok, refused, why}
use Rattle.wire.specs.Stored.{stored, store}
use Rattle.value.specs.declared.datum.Value.{Value}
use Rattle.value.specs.declared.datum.Value.TheVariants.{Null}
use Rattle.value.specs.Ops.{shape_for}
use Rattle.value.specs.Reading.{read_value, datum_of}
use Rattle.image.specs.Split.{cursor, slots, head_of, step_over}
use Rattle.image.specs.Rows.{is_null}
use Rattle.image.specs.Puts.{slot_bytes, put_over}
use Rattle.row_plan.specs.declared.row.RowCursor.{RowCursor}
use Rattle.row_plan.specs.declared.put.ItemCursor.{ItemCursor}
use Rattle.image.specs.declared.step.Step.TheVariants.{Null as null, Value as value, End as end}
use Rattle.row_plan.specs.Plan.{plan_of, make_plan, item_count, item_at, items_from, plan_slots, RowStepped, plan_step}
use Rattle.row_plan.specs.Runs.{value_numbers, turned, is_over, RowRan, ran, run_on, run_from, run_answer, read_run}
use Rattle.row_plan.specs.Puts.{plan_put}
use Rattle.row_plan.proofs.ReadLaws.{Kept, run_kept}
use Rattle.promises.specs.Refusals.{Line, OneOf}
use Rattle.promises.proofs.Demand1.Only.{Listed, done, stop, hand, chain, test, room, Tens}
use Rattle.promises.proofs.Demand2.Values.{op_taken, value_read, value_stored}
use Rattle.promises.proofs.Demand1.Rows.{head_read}

pub plan_made : {ls : List Line} (r p buf : List ℕ) → OneOf ls (why 11 0) → OneOf ls (why 12 0) → OneOf ls (why 8 0)
    → Listed ls (make_plan r p buf)
unfolding make_plan
plan_made r p buf eleven twelve eight =
    chain (head_of r p) _ (head_read eleven twelve r p) (λ h e.
    chain (store (plan_of r p) buf 0) _ (room buf 0 (plan_of r p) eight) (λ x f. done _))

-- ---- a step: what is refused of the value is told at the column that the item names
module _ {ls : List Line} (plan images : List ℕ) (c : RowCursor) (fourteen : OneOf ls (why 14 c.item)) (none : OneOf ls (why 9 0))
    (past : OneOf ls (why 9 c.item)) (eleven : OneOf ls (why 11 (item_at plan c.item).column))
    (nine : OneOf ls (why 9 (item_at plan c.item).column)) (ten : Tens ls (item_at plan c.item).column) where
  abbrev im : List ℕ
  im = drop c.start images

  abbrev at_item : Outcome (Value × ℕ)
  at_item = read_value (item_at plan c.item).shape (item_at plan c.item).column im c.offset

  value_here : Listed ls at_item
  unfolding item_at
  value_here =
      value_read (shape_for (get_or plan (3 * c.item) 0)) (item_at plan c.item).column im c.offset
      (op_taken (get_or plan (3 * c.item) 0) (item_at plan c.item).column eleven) nine ten

  item_read : (m : ℕ) → Listed ls (step_over (slots (items_from m plan c.item) c.item im) im c.offset)
  unfolding items_from slots step_over
  item_read zero = done _
  item_read (suc m) = test (bit_lsb0 im c.item) (λ u. done _) (λ u. chain at_item _ value_here (λ x e. done _))

  pub plan_stepped : Listed ls (plan_step plan images c)
  unfolding plan_step plan_slots
  plan_stepped =
      test (ltb (item_count plan) c.item) (λ u. stop fourteen)
      (λ u. test (ltb (length im) (bytes_for (item_count plan))) (λ u. stop none)
      (λ u. test (ltb (length im) c.offset) (λ u. stop past)
      (λ u. chain (step_over (plan_slots plan im c.item) im c.offset) _ (item_read (item_count plan - c.item)) (λ t e. done _))))

-- ---- a run: a refusal is told only before any value, so it is one of the first step
abbrev StopListed : List Line → RowRan → Type 1
StopListed ls w = w.values ≡ 0 → Listed ls w.stop

on_listed : {ls : List Line} (f : RowCursor → ℕ → List ℕ → RowRan) → ((c : RowCursor) (v : ℕ) (d : List ℕ) → Kept v d (f c v d))
    → (c : RowCursor) (d : List ℕ) (x : Outcome RowStepped) → Listed ls x → StopListed ls (run_on f c 0 d x)
on_listed f k c d (ok (null j n)) h e =
    let m = (k n 1 (stored (value_numbers c.start Null) d 0)).more in absurd (omega (arith, m, e))
on_listed f k c d (ok (value j x n)) h e =
    let m = (k n 1 (stored (value_numbers c.start x) d 0)).more in absurd (omega (arith, m, e))
on_listed f k c d (ok (end used)) h e = done _
on_listed f k c d (refused w) h e = hand (refused w) w h refl

if_listed : {ls : List Line} (b : Bool) (x y : RowRan) → StopListed ls x → StopListed ls y → StopListed ls (cond b x y)
if_listed true x y h k = h
if_listed false x y h k = k

run_listed : {ls : List Line} (m : ℕ) (plan images : List ℕ) (c : RowCursor) (d : List ℕ)
    → Listed ls (plan_step plan images (turned plan images c))
    → StopListed ls (run_from m plan images c 0 d)
unfolding run_from
run_listed zero plan images c d h = λ e. done _
run_listed (suc m) plan images c d h =
    let t = turned plan images c in
    if_listed (is_over images t) (ran 0 t (ok tt) d) (run_on (run_from m plan images) t 0 d (plan_step plan images t)) (λ e. done _)
    (on_listed (run_from m plan images) (run_kept m plan images) t d (plan_step plan images t) h)

answer_listed : {ls : List Line} (w : RowRan) → StopListed ls w → Listed ls (run_answer w)
answer_listed w h =
    test (eqb w.values 0) (λ u. chain w.stop _ (h (eqb-true w.values 0 u)) (λ x e. done _)) (λ u. done _)

pub run_read : {ls : List Line} (plan images : List ℕ) (c : RowCursor) (buf : List ℕ) → OneOf ls (why 8 0)
    → Listed ls (plan_step plan images (turned plan images c))
    → Listed ls (read_run plan images c buf)
unfolding read_run
run_read plan images c buf eight h =
    test (ltb (length buf) 8) (λ u. stop eight)
    (λ u. answer_listed (run_from (length buf / 8) plan images c 0 buf) (run_listed (length buf / 8) plan images c buf h))

-- ---- a value written
module _ {ls : List Line} (plan nulls : List ℕ) (c : ItemCursor) (lent : List ℕ) (v : Value) (buf : List ℕ) (twelve : OneOf ls (why 12 0))
    (fourteen : OneOf ls (why 14 c.item)) (eleven : OneOf ls (why 11 (item_at plan c.item).column))
    (thirteen : OneOf ls (why 13 (item_at plan c.item).column)) (eight : OneOf ls (why 8 0)) where
  item_over : (m : ℕ) → Listed ls (put_over (slots (items_from m plan c.item) c.item nulls) (cursor c.item c.offset) lent v buf)
  unfolding items_from slots put_over slot_bytes item_at
  item_over zero = stop fourteen
  item_over (suc m) =
      chain (slot_bytes (record { present = item_at plan c.item; null = bit_lsb0 nulls c.item }) lent v) _
      (test (is_null (datum_of lent v)) (λ u. test (bit_lsb0 nulls c.item) (λ u. done _) (λ u. stop thirteen))
      (λ u. test (bit_lsb0 nulls c.item) (λ u. stop thirteen)
      (λ u. value_stored (shape_for (get_or plan (3 * c.item) 0)) (item_at plan c.item).column lent v
      (op_taken (get_or plan (3 * c.item) 0) (item_at plan c.item).column eleven) thirteen)))
      (λ b e. chain (store b buf c.offset) _ (room buf c.offset b eight) (λ x g. done _))

  pub item_put : Listed ls (plan_put plan nulls c lent v buf)
  unfolding plan_put plan_slots
  item_put =
      test (eqb (length nulls) (bytes_for (item_count plan)))
      (λ u. chain (put_over (plan_slots plan nulls c.item) (cursor c.item c.offset) lent v buf) _
      (item_over (item_count plan - c.item)) (λ x e. done _))
      (λ u. stop twelve)
