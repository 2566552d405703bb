-- What a row can rely on under a valid record, from the laws of images. Assumes nothing.
use Prim.Native.Nat.{ℕ, ◌+◌, ◌-◌, ◌^◌, ◌≤◌, ◌<◌}
use mathlib.Core.Path.{◌≡◌, refl, sym, ap, subst, ◌∙◌}
use mathlib.Core.Bool.{Bool, true, false, true≢false}
use mathlib.Core.List.{List, [], ◌∷◌}
use native.Mathlib.Omega.{arith}
use lib.ListN.{length, take, drop}
use Rattle.wire.specs.Outcome.{Outcome, ok, refused, after}
use Rattle.wire.specs.Number.{Bytes}
use Rattle.wire.proofs.Inverse.{are_bytes_lem}
use Rattle.wire.proofs.Outcomes.{ok_not_refused, after_is_ok, by_test, both_true}
use Rattle.value.specs.declared.column.Column.{Column}
use Rattle.value.specs.declared.shape.Shape.{Shape}
use Rattle.value.specs.Columns.{shape_of}
use Rattle.value.specs.Data.{Datum, null, bytes_in}
use Rattle.value.specs.Domains.{domain}
use Rattle.value.specs.declared.datum.Value.{Value}
use Rattle.value.specs.Shapes.{bytes_of}
use Rattle.value.specs.Reading.{read_value, placed, datum_of}
use Rattle.value.proofs.Tables.{few_bytes}
use Rattle.value_parts.specs.Parts.{top_of_bits, is_held}
use Rattle.value_parts.proofs.Holds.{held_null}
use Rattle.value_parts.proofs.Inside.{held_in}
use Rattle.record.specs.Entries.{column_of}
use Rattle.record.specs.Records.{count_of, entry_in, record_valid}
use Rattle.image.specs.declared.cursor.Cursor.{Cursor}
use Rattle.image.specs.Present.{Present, count_bits, shape_at, present_from, present}
use Rattle.image.specs.declared.step.Step.TheVariants.{Value as value}
use Rattle.image.specs.Split.{cursor, Slot, slots_at, step_over, slots_left, step_from}
use Rattle.image.specs.Rows.{Row, is_null, in_domains}
use Rattle.image.specs.WriteRow.{LentValue}
use Rattle.image.proofs.StepLaws.Steps.{left_stands}
use Rattle.image.proofs.StepLaws.Slots.{only_null, in_cell}
use Rattle.image.proofs.StepLaws.Splits.{Each}
use Rattle.image.proofs.PresenceLaws.Presents.{each_from}
use Rattle.image.proofs.EndLaws.Images.{every_image, only_says, no_other}
use Rattle.image.proofs.PutLaws.WriteRows.{written, not_written, stopped}
use Rattle.image.proofs.PutLaws.Papers.{give, row_nulls, give_row, give_row_lem, nulls_bytes, row_given}
use Rattle.promises.specs.Values.{Within}
use Rattle.promises.specs.Demand3.{RowHeld, Relied}
use Rattle.promises.proofs.Demand2.Values.{read_sound, read_lent, read_held}
use Rattle.promises.proofs.Demand1.Rows.{EachSlot, each_slot}

-- ---- a row on paper is one that a program has
-- the columns of a record are columns
abbrev OfRecord : List ℕ → Present → Type 0
OfRecord r c = c.shape ≡ shape_of (column_of (entry_in r c.column))

columns : (r p : List ℕ) → Each (OfRecord r) (present r p)
unfolding shape_at
columns r p = each_from (OfRecord r) (count_of r) r p 0 (λ i a b. refl)

abbrev Held : LentValue → Type 0
Held g = (is_held g.value ≡ true) × Bytes g.lent × (length g.lent < 2 ^ 32)

null_held : Held (give null)
unfolding give bytes_in placed
null_held = (held_null, λ i. omega arith, omega arith)

value_held : (c : Column) (d : Datum) → domain (shape_of c) d ≡ true → Held (give d)
unfolding give
value_held c d h =
    let b = few_bytes c d h in
    (held_in c d (length (bytes_in d)) h (omega (arith, b.1)), are_bytes_lem (bytes_in d) b.0, omega (arith, b.1))

one_held : (r : List ℕ) (c : Present) (d : Datum) → OfRecord r c → in_cell c d ≡ true → Held (give d)
one_held r c d e h = go (is_null d) refl
  where
    go : (b : Bool) → is_null d ≡ b → Held (give d)
    go true n = subst (λ (x : Datum). Held (give x)) (sym (only_null d n)) null_held
    go false n = value_held (column_of (entry_in r c.column)) d (subst (λ (x : Shape). domain x d ≡ true) e (rw n at h))

row_held : (r : List ℕ) (cs : List Present) (ds : Row) → Each (OfRecord r) cs → in_domains cs ds ≡ true → RowHeld (give_row ds)
unfolding Each in_domains give_row
row_held r [] [] u h = tt
row_held r [] (d ∷ ds) u h = absurd (true≢false (sym h))
row_held r (c ∷ cs) [] u h = absurd (true≢false (sym h))
row_held r (c ∷ cs) (d ∷ ds) u h =
    let w = both_true (in_cell c d) (in_domains cs ds) h in
    let x = one_held r c d u.0 w.0 in
    (x.0, x.1, x.2, row_held r cs ds u.1 w.1)

-- ---- a value that a step tells is one that is read, so what holds of these holds of it
slot_columns : (r p nulls : List ℕ) (j : ℕ) → EachSlot (OfRecord r) (slots_at r p nulls j)
unfolding slots_at shape_at
slot_columns r p nulls j =
    each_slot (OfRecord r) (present_from (count_of r - j) r p j) (count_bits p j) nulls
    (each_from (OfRecord r) (count_of r - j) r p j (λ i a b. refl))

told_read : (k j : ℕ) (o : Outcome (Value × ℕ)) (v : Value) (next : Cursor)
    → after o (λ x. ok (value k x.0 (cursor (k + 1) x.1))) ≡ ok (value j v next) → (k ≡ j) × (o ≡ ok (v, next.offset))
told_read k j (ok x) v next e =
    let same : x.0 ≡ v = cc in
    let on : cursor (k + 1) x.1 ≡ next = cc in
    (cc, ap (λ (y : Value). ok (y, x.1)) same ∙ ap (λ (y : Cursor). ok (v, y.offset)) on)
told_read k j (refused w) v next e = absurd (ok_not_refused (sym e))

over_reads : (r : List ℕ) (is : List Slot) (im : List ℕ) (o j : ℕ) (v : Value) (next : Cursor) → EachSlot (OfRecord r) is
    → step_over is im o ≡ ok (value j v next) → read_value (shape_of (column_of (entry_in r j))) j im o ≡ ok (v, next.offset)
unfolding step_over EachSlot
over_reads r [] im o j v next u e = let z : ◌≡◌ {A = ℕ} 0 1 = cc in absurd (omega arith)
over_reads r (i ∷ is) im o j v next u e =
    by_test i.null _ _ (ok (value j v next)) e
    (λ t f. let z : ◌≡◌ {A = ℕ} 0 1 = cc in absurd (omega arith))
    (λ t f.
    let k = i.present.column in
    let x = told_read k j (read_value i.present.shape k im o) v next f in
    let y = subst (λ (sh : Shape). read_value sh k im o ≡ ok (v, next.offset)) u.0 x.1 in
    subst (λ (m : ℕ). read_value (shape_of (column_of (entry_in r m))) m im o ≡ ok (v, next.offset)) x.0 y)

step_reads : (r p im : List ℕ) (c : Cursor) (j : ℕ) (v : Value) (next : Cursor) → step_from r p im c ≡ ok (value j v next)
    → read_value (shape_of (column_of (entry_in r j))) j im c.offset ≡ ok (v, next.offset)
unfolding step_from
step_reads r p im c j v next e =
    let a = after_is_ok (slots_left r p im c) _ _ e in
    let s = left_stands r p im c a.0 a.1 in
    over_reads r a.0 im c.offset j v next (subst (EachSlot (OfRecord r)) s.slots (slot_columns r p im c.column)) a.2

pub step_sound : (r p im : List ℕ) (c : Cursor) (j : ℕ) (v : Value) (next : Cursor) → Bytes im → step_from r p im c ≡ ok (value j v next)
    → (domain (shape_at r j) (datum_of im v) ≡ true) × (c.offset ≤ next.offset) × (next.offset ≤ length im)
    × (bytes_of (shape_at r j) (datum_of im v) ≡ take (next.offset - c.offset) (drop c.offset im))
unfolding shape_at
step_sound r p im c j v next y e = read_sound (column_of (entry_in r j)) j im c.offset v next.offset y (step_reads r p im c j v next e)

pub step_lent : (r p im : List ℕ) (c : Cursor) (j : ℕ) (v : Value) (next : Cursor) → Bytes im → step_from r p im c ≡ ok (value j v next)
    → Within im c.offset next.offset v
step_lent r p im c j v next y e = read_lent (column_of (entry_in r j)) j im c.offset v next.offset y (step_reads r p im c j v next e)

pub step_held : (r p im : List ℕ) (c : Cursor) (j : ℕ) (v : Value) (next : Cursor) → Bytes im → length im ≤ top_of_bits 64
    → step_from r p im c ≡ ok (value j v next) → is_held v ≡ true
step_held r p im c j v next y l e =
    read_held (column_of (entry_in r j)) j im c.offset v next.offset y l (step_reads r p im c j v next e)

-- ---- under every valid record
pub relied : (r : List ℕ) → record_valid r ≡ true → Relied r
relied r v = record {
  walked = λ p im b y. every_image r p im v b y;
  exactly = λ p im w b s. only_says r p im w v b s;
  no_other_refusal = λ p im w b y e. no_other r p im w v b y e;
  row_written = written r;
  row_refused = λ p nulls gs buf w h. (not_written r p nulls gs buf w h, stopped r p nulls gs buf w h);
  every_row = λ p ds b d. (
    row_nulls ds,
    give_row ds,
    row_given r p ds v b d,
    give_row_lem ds,
    nulls_bytes ds,
    row_held r (present r p) ds (columns r p) d,
  );
}
