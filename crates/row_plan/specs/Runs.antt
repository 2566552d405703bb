-- A run by a plan: as many values as a lent buffer of numbers holds, each stored behind the last, image after image. Assumes nothing.
use Rattle.std.specs.Prelude.{ℕ, zero, suc, ◌+◌, ◌-◌, ◌*◌, ◌/◌, Bool, cond, ◌&&◌, List, ◌∷◌, length, leb, ltb, eqb}
use Rattle.wire.specs.Outcome.{Outcome, ok, refused, refuse, after}
use Rattle.wire.specs.Bits.{bytes_for}
use Rattle.wire.specs.Parts.{part}
use Rattle.wire.specs.Stored.{stored}
use Rattle.value.specs.declared.datum.Value.{Value}
use Rattle.value.specs.declared.datum.Value.TheVariants.{Null, Int, Uint, Float, Double, Year, Bytes}
use Rattle.value_parts.specs.Parts.{sort_of, parts_of, padded}
use Rattle.row_plan.specs.declared.row.RowCursor.{RowCursor}
use Rattle.row_plan.specs.Plan.{item_count, row_cursor, RowStepped, null, value, end, plan_step}

-- ---- a value in numbers
-- a value of an image as one of all the images: its bytes start so much further on
unfoldable pub moved_by : ℕ → Value → Value
moved_by by Null = Null
moved_by by (Int z) = Int z
moved_by by (Uint n) = Uint n
moved_by by (Float n) = Float n
moved_by by (Double n) = Double n
moved_by by (Year n) = Year n
moved_by by (Value.Temporal t) = Value.Temporal t
moved_by by (Bytes p) = Bytes (part (p.start + by) p.len)

-- eight numbers: its sort and its parts, 0 for each of the seven that its sort has not
unfoldable pub value_numbers : ℕ → Value → List ℕ
unfolding moved_by sort_of parts_of padded
value_numbers by v = sort_of v ∷ padded 7 (parts_of (moved_by by v))

-- ---- where a run goes on
-- behind the last item of an image, and no further than the images go, stands the next image
unfoldable pub turned : List ℕ → List ℕ → RowCursor → RowCursor
turned plan images c =
    cond (eqb c.item (item_count plan) && leb c.offset (length images - c.start))
    (row_cursor (c.start + c.offset) 0 (bytes_for (item_count plan))) c

-- the images end where the next would begin
unfoldable pub is_over : List ℕ → RowCursor → Bool
is_over images c = eqb c.item 0 && eqb c.start (length images)

-- ---- a run
-- what it comes to: how many values were stored, the cursor of the next, the refusal that it stopped at, if it did, and the buffer
pub record RowRan : Type 0 where
  pub values : ℕ
  pub next : RowCursor
  pub stop : Outcome (Unit {0})
  pub left : List ℕ

abbrev pub ran : ℕ → RowCursor → Outcome (Unit {0}) → List ℕ → RowRan
ran v c stop buf = record { values = v; next = c; stop = stop; left = buf }

-- v values were stored before what a step from c told; f goes on behind it
abbrev pub run_on : (RowCursor → ℕ → List ℕ → RowRan) → RowCursor → ℕ → List ℕ → Outcome RowStepped → RowRan
run_on f c v buf (ok (null j n)) = f n (v + 1) (stored (value_numbers c.start Null) buf (8 * v))
run_on f c v buf (ok (value j x n)) = f n (v + 1) (stored (value_numbers c.start x) buf (8 * v))
run_on f c v buf (ok (end used)) = ran v c (ok tt) buf
run_on f c v buf (refused w) = ran v c (refused w) buf

-- m values at most, from a cursor on; v were stored before
unfoldable pub run_from : ℕ → List ℕ → List ℕ → RowCursor → ℕ → List ℕ → RowRan
unfolding turned is_over plan_step value_numbers
run_from zero plan images c v buf = ran v c (ok tt) buf
run_from (suc m) plan images c v buf =
    cond (is_over images (turned plan images c)) (ran v (turned plan images c) (ok tt) buf)
    (run_on (run_from m plan images) (turned plan images c) v buf (plan_step plan images (turned plan images c)))

-- what the caller is told: a refusal only if it stands before any value
abbrev pub run_answer : RowRan → Outcome ((ℕ × RowCursor) × List ℕ)
run_answer w =
    cond (eqb w.values 0) (after w.stop (λ u. ok ((0, w.next), w.left))) (ok ((w.values, w.next), w.left))

-- as many values as the buffer holds, which is one at least: else 8
unfoldable pub read_run : List ℕ → List ℕ → RowCursor → List ℕ → Outcome ((ℕ × RowCursor) × List ℕ)
unfolding run_from
read_run plan images c buf = cond (ltb (length buf) 8) (refuse 8 0) (run_answer (run_from (length buf / 8) plan images c 0 buf))
