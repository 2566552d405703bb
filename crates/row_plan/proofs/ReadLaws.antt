-- A run through images: what it comes to at each turn of its loop, and what its caller is told. Assumes nothing.
use Prim.Native.Nat.{ℕ, zero, suc, ◌+◌, ◌-◌, ◌*◌, ◌/◌, ◌≤◌, ◌<◌}
use mathlib.Core.Path.{◌≡◌, refl, sym, ap, ◌∙◌}
use mathlib.Core.Bool.{Bool, true, false, cond}
use mathlib.Core.List.{List}
use native.Mathlib.Omega.{arith}
use borrow.Author.Tests.{ne_eqb, eqb-true, le-ltb, lt-ltb}
use lib.ListN.{length, length-drop}
use lib.Dec.{eqb}
use Rattle.wire.specs.declared.refusal.Refusal.{Refusal}
use Rattle.wire.specs.Outcome.{Outcome, ok, refused, refuse}
use Rattle.wire.specs.Stored.{stored, answer_of, left_of}
use Rattle.row_plan.specs.declared.row.RowCursor.{RowCursor}
use Rattle.row_plan.specs.Plan.{item_count, RowStepped, null, value, end, plan_step}
use Rattle.value.specs.declared.datum.Value.TheVariants.{Null}
use Rattle.row_plan.specs.Runs.{value_numbers, turned, is_over, RowRan, ran, run_on, run_from, run_answer, read_run}
use Rattle.row_plan.specs.Inner.Paused.{Stands, row_gate, stop_answer}
use Rattle.row_plan.proofs.Goes.{row_end}
use Rattle.row_plan.proofs.RunLaws.{gate_refused, gate_open}

-- ---- a run that stored nothing left the buffer as it was
pub record Kept (v : ℕ) (d : List ℕ) (w : RowRan) : Type 0 where
  pub more : v ≤ w.values
  pub kept : w.values ≡ v → w.left ≡ d

kept_on : (f : RowCursor → ℕ → List ℕ → RowRan) → ((c : RowCursor) (v : ℕ) (d : List ℕ) → Kept v d (f c v d)) → (c : RowCursor) (v : ℕ)
    (d : List ℕ) (x : Outcome RowStepped) → Kept v d (run_on f c v d x)
kept_on f k c v d (ok (null j n)) =
    let h = k n (v + 1) (stored (value_numbers c.start Null) d (8 * v)) in
    record { more = omega (arith, h.more); kept = λ e. absurd (omega (arith, h.more, e)) }
kept_on f k c v d (ok (value j x n)) =
    let h = k n (v + 1) (stored (value_numbers c.start x) d (8 * v)) in
    record { more = omega (arith, h.more); kept = λ e. absurd (omega (arith, h.more, e)) }
kept_on f k c v d (ok (end used)) = record { more = omega arith; kept = λ e. refl }
kept_on f k c v d (refused w) = record { more = omega arith; kept = λ e. refl }

kept_if : (b : Bool) (v : ℕ) (d : List ℕ) (x y : RowRan) → Kept v d x → Kept v d y → Kept v d (cond b x y)
kept_if true v d x y h k = h
kept_if false v d x y h k = k

pub run_kept : (m : ℕ) (plan images : List ℕ) (c : RowCursor) (v : ℕ) (d : List ℕ) → Kept v d (run_from m plan images c v d)
unfolding run_from
run_kept zero plan images c v d = record { more = omega arith; kept = λ e. refl }
run_kept (suc m) plan images c v d =
    kept_if (is_over images (turned plan images c)) v d _ _ (record { more = omega arith; kept = λ e. refl })
    (kept_on (run_from m plan images) (run_kept m plan images) (turned plan images c) v d (plan_step plan images (turned plan images c)))

-- ---- the loop
pub record Reading (plan images : List ℕ) (room : ℕ) (d₀ : List ℕ) (c₀ : RowCursor) (d : List ℕ) (c : RowCursor) (values : ℕ) : Type 0 where
  pub most : values ≤ room
  pub same : length d ≡ length d₀
  pub goes : run_from (room - values) plan images c values d ≡ run_from room plan images c₀ 0 d₀

pub read_begin : (plan images : List ℕ) (room : ℕ) (d : List ℕ) (c : RowCursor) → Reading plan images room d c d c 0
read_begin plan images room d c =
    let z : room - 0 ≡ room = omega arith in
    record { most = omega arith; same = refl; goes = ap (λ (k : ℕ). run_from k plan images c 0 d) z }

-- the room is full
pub read_full : (plan images : List ℕ) (room : ℕ) (d₀ : List ℕ) (c₀ : RowCursor) (d : List ℕ) (c : RowCursor) (values : ℕ)
    → Reading plan images room d₀ c₀ d c values → room ≤ values → run_from room plan images c₀ 0 d₀ ≡ ran values c (ok tt) d
unfolding run_from
read_full plan images room d₀ c₀ d c values r h =
    let z : room - values ≡ 0 = omega arith in
    sym r.goes ∙ rw z

module _ (plan images : List ℕ) (room : ℕ) (d₀ : List ℕ) (c₀ : RowCursor) (d : List ℕ) (c : RowCursor) (values : ℕ)
    (r : Reading plan images room d₀ c₀ d c values) (l : values < room) {here : RowCursor} (h : here ≡ turned plan images c) where
  abbrev m : ℕ
  m = room - (values + 1)

  turns : run_from room plan images c₀ 0 d₀ ≡ run_from (suc m) plan images c values d
  turns =
      let e : room - values ≡ suc (room - (values + 1)) = omega arith in
      sym r.goes ∙ ap (λ (k : ℕ). run_from k plan images c values d) e

  pub read_over : is_over images here ≡ true → run_from room plan images c₀ 0 d₀ ≡ ran values here (ok tt) d
  unfolding run_from
  read_over o = turns ∙ rw (sym h, o)

  module _ (o : is_over images here ≡ false) where
    steps : run_from room plan images c₀ 0 d₀ ≡ run_on (run_from m plan images) here values d (plan_step plan images here)
    unfolding run_from
    steps = turns ∙ rw (sym h, o)

    pub read_refused : (w : Refusal) → row_gate (item_count plan) (length images - here.start) here ≡ refused w
        → run_from room plan images c₀ 0 d₀ ≡ ran values here (refused w) d
    read_refused w g = steps ∙ ap (run_on (run_from m plan images) here values d) (gate_refused plan images here w g)

    module _ (g : row_gate (item_count plan) (length images - here.start) here ≡ ok tt) where
      pub read_end : here.item ≡ item_count plan → run_from room plan images c₀ 0 d₀ ≡ ran values here (ok tt) d
      read_end e =
          let t = gate_open (item_count plan) (length images - here.start) here g in
          let n = length-drop here.start images in
          steps ∙ ap (run_on (run_from m plan images) here values d)
          (row_end plan images here refl t.0 (omega (arith, t.1, n)) (omega (arith, t.2, n)) e)

      pub read_stands : (items : ℕ) → items ≡ item_count plan → (here.item ≡ items → ⊥) → Stands plan images items here
      read_stands items e f =
          let t = gate_open (item_count plan) (length images - here.start) here g in
          record {
            count = e;
            item = omega (arith, t.0, e, f);
            nulls = rw e t.1;
            offset = t.2;
          }

      pub read_enter : (here.item ≡ item_count plan → ⊥)
          → run_from (room - values) plan images here values d ≡ run_from room plan images c₀ 0 d₀
      unfolding run_from turned
      read_enter f =
          let e : room - values ≡ suc (room - (values + 1)) = omega arith in
          rw e (rw (ne_eqb here.item (item_count plan) f, o) (sym steps))

-- ---- what the caller is told
module _ (plan images : List ℕ) (c₀ : RowCursor) (d₀ : List ℕ) (room : ℕ) (e : room ≡ length d₀ / 8) (h : 8 ≤ length d₀) (v : ℕ)
    (c : RowCursor) (d : List ℕ) where
  goes_on : (w : RowRan) → run_from room plan images c₀ 0 d₀ ≡ w → read_run plan images c₀ d₀ ≡ run_answer w
  unfolding read_run
  goes_on w g = rw (le-ltb (length d₀) 8 h, sym e, g)

  abbrev some : ℕ → Outcome ((ℕ × RowCursor) × List ℕ)
  some k = ok ((k, c), d)

  abbrev said : Outcome (ℕ × RowCursor)
  said = ok (v, c)

  by_count : (b : Bool) → eqb v 0 ≡ b → cond b (some 0) (some v) ≡ some v
  by_count true z = ap some (sym (eqb-true v 0 z))
  by_count false z = refl

  pub told_ran : run_from room plan images c₀ 0 d₀ ≡ ran v c (ok tt) d → read_run plan images c₀ d₀ ≡ ok ((v, c), d)
  told_ran g = goes_on _ g ∙ by_count (eqb v 0) refl

  module _ (w : Refusal) (g : run_from room plan images c₀ 0 d₀ ≡ ran v c (refused w) d) where
    answer_by : (b : Bool) → answer_of (cond b (refused w) (some v)) ≡ cond b (refused w) said
    answer_by true = refl
    answer_by false = refl

    pub told_stopped : stop_answer v c w ≡ answer_of (read_run plan images c₀ d₀)
    told_stopped = sym (ap answer_of (goes_on _ g) ∙ answer_by (eqb v 0))

    left_by : (b : Bool) → eqb v 0 ≡ b → d ≡ left_of (cond b (refused w) (some v)) d₀
    left_by true z =
        let k = run_kept room plan images c₀ 0 d₀ in
        let n : (run_from room plan images c₀ 0 d₀).values ≡ 0 = ap (λ (x : RowRan). x.values) g ∙ eqb-true v 0 z in
        ap (λ (x : RowRan). x.left) (sym g) ∙ k.kept n
    left_by false z = refl

    pub left_stopped : d ≡ left_of (read_run plan images c₀ d₀) d₀
    left_stopped =
        left_by (eqb v 0) refl ∙ sym (ap (λ (x : Outcome ((ℕ × RowCursor) × List ℕ)). left_of x d₀) (goes_on _ g))

pub told_full : (plan images : List ℕ) (c : RowCursor) (d : List ℕ) → length d < 8 → read_run plan images c d ≡ refuse 8 0
unfolding read_run
told_full plan images c d h = rw (lt-ltb (length d) 8 h)
