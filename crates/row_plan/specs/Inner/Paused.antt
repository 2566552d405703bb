-- A run through one image: what stands before it, and where it leaves the image. Assumes nothing.
use Rattle.std.specs.Prelude.{ℕ, ◌-◌, ◌≤◌, ◌<◌, ◌≡◌, cond, List, length, ltb, eqb}
use Rattle.wire.specs.declared.refusal.Refusal.{Refusal}
use Rattle.wire.specs.Outcome.{Outcome, ok, refused, refuse}
use Rattle.wire.specs.Bits.{bytes_for}
use Rattle.row_plan.specs.declared.row.RowCursor.{RowCursor}
use Rattle.row_plan.specs.declared.run.Paused.{Paused}
use Rattle.row_plan.specs.Plan.{item_count, row_cursor}
use Rattle.row_plan.specs.Runs.{RowRan, ran, run_from}

-- the tests of a step that come before its value, so many bytes being left from the image's start on
unfoldable pub row_gate : ℕ → ℕ → RowCursor → Outcome (Unit {0})
row_gate items left c =
    cond (ltb items c.item) (refuse 14 c.item)
    (cond (ltb left (bytes_for items)) (refuse 9 0)
    (cond (ltb left c.offset) (refuse 9 c.item) (ok tt)))

-- a cursor at an item of an image that was tested
pub record Stands (plan images : List ℕ) (items : ℕ) (c : RowCursor) : Type 0 where
  pub count : items ≡ item_count plan
  pub item : c.item < items
  pub nulls : bytes_for items ≤ length images - c.start
  pub offset : c.offset ≤ length images - c.start

-- a run from `here` on, with `had` values stored before, that came to an item of the same image, or behind the last: what it comes to
-- hangs on where it stands
pub record Running (plan images : List ℕ) (items room had : ℕ) (d₀ : List ℕ) (here : RowCursor) (d : List ℕ) (item offset values : ℕ) :
    Type 0 where
  pub more : had ≤ values
  pub most : values ≤ room
  pub counted : item ≤ items
  pub first : values ≡ had → item < items
  pub same : length d ≡ length d₀
  pub inside : offset ≤ length images - here.start
  pub goes : run_from (room - values) plan images (row_cursor here.start item offset) values d
      ≡ run_from (room - had) plan images here had d₀

-- the run that goes on from where it left an image, unless it stopped there
abbrev pub run_past : ℕ → List ℕ → List ℕ → ℕ → RowCursor → List ℕ → Outcome (Unit {0}) → RowRan
run_past room plan images v next buf (ok u) = run_from (room - v) plan images next v buf
run_past room plan images v next buf (refused w) = ran v next (refused w) buf

abbrev pub paused_run : ℕ → List ℕ → List ℕ → List ℕ → Paused → RowRan
paused_run room plan images buf p = run_past room plan images p.values p.next buf p.stop

-- no more values are stored than there is room for, and one at least by a run that goes on
pub record Further (had room : ℕ) (p : Paused) : Type 0 where
  pub most : p.values ≤ room
  pub more : p.stop ≡ ok tt → had < p.values

-- what a run tells that stopped at a refusal
abbrev pub stop_answer : ℕ → RowCursor → Refusal → Outcome (ℕ × RowCursor)
stop_answer v c w = cond (eqb v 0) (refused w) (ok (v, c))
