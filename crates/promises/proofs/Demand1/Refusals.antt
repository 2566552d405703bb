-- Demand 1: every call refuses as it is listed, with a number of the table, and a refusal leaves the buffer. Assumes nothing.
use Prim.Native.Nat.{ℕ}
use mathlib.Core.Path.{◌≡◌, refl}
use mathlib.Core.Bool.{Bool, true, false, ◌||◌, or-true}
use mathlib.Core.List.{[], List, ◌∷◌}
use native.Mathlib.Omega.{arith}
use lib.Dec.{eqb}
use Rattle.wire.specs.declared.refusal.Refusal.{Refusal}
use Rattle.wire.specs.Number.{is_among}
use Rattle.wire.specs.Outcome.{Outcome, ok, refused}
use Rattle.wire.specs.Stored.{answer_of, left_of}
use Rattle.wire.specs.Layouts.{no_byte, few_integer, Layout, here, count, CutShort, cut_at, NotPacked}
use Rattle.wire.proofs.Outcomes.{ok_not_refused, same_refused, both_true}
use Rattle.value.specs.Columns.{shape_of}
use Rattle.value.specs.Ops.{shape_for}
use Rattle.value.proofs.Tables.{four_or_five}
use Rattle.table_map.specs.Lists.{integer_item, pair_item, string_item, group_item}
use Rattle.table_map.specs.Layouts.{event_layout, pair_layout, group_layout}
use Rattle.map_check.specs.Names.{list_of, column_name}
use Rattle.row_plan.specs.Runs.{turned}
use Rattle.promises.specs.Refusals.{Line, ◌at◌, ◌below◌, ◌wherever◌, part_at, part_below, OneOf, just, under, such, just_part}
use Rattle.promises.specs.Refusals.{under_part, later, refusal_numbers, without_part, Parted, no_part, a_part, in_table, Only, EveryCall}
use Rattle.promises.proofs.Demand1.Only.{Listed, bytes_there, fixed, packed, long_part_lem, Told, room}
use Rattle.promises.proofs.Demand2.Values.{temporal_read, temporal_written, column_taken, value_read, value_written, value_sized}
use Rattle.promises.proofs.Demand2.Values.{op_taken, value_made}
use Rattle.promises.proofs.Demand1.Maps.{event_read, event_written, event_sized, pair_item_lem, group_item_lem, stepped, field_stepped}
use Rattle.promises.proofs.Demand1.Maps.{field_cut, field_judged, checked, event_refused, map_refused, string_found, names_found}
use Rattle.promises.proofs.RowsEvents.{rows_read, image_met_lem}
use Rattle.promises.proofs.Demand1.Rows.{record_read, head_read, first_read, image_stepped, walk_ended, image_started, image_put}
use Rattle.promises.proofs.Demand1.Rows.{past_refused, null_refused, room_told}
use Rattle.promises.proofs.Demand1.Arrivals.{blocks_begun, block_given_lem, blocks_ended}
use Rattle.promises.proofs.Demand1.Plans.{plan_made, plan_stepped, run_read, item_put}

-- a refusal that is listed names a part, or has one of the numbers that do not
parted : (ls : List Line) (w : Refusal) → in_table ls ≡ true → OneOf ls w → Parted w
unfolding in_table
parted [] w t x'' = elim x'' [ ]
parted (n at p ∷ ls) w t just = no_part (both_true (is_among n without_part) (in_table ls) t).0
parted (n below q ∷ ls) w t (under h) = no_part (both_true (is_among n without_part) (in_table ls) t).0
parted (n wherever P ∷ ls) w t (such h) = no_part (both_true (is_among n without_part) (in_table ls) t).0
parted (part_at p ∷ ls) w t (just_part l m) = a_part l m
parted (part_below q ∷ ls) w t (under_part h l m) = a_part l m
parted (n at p ∷ ls) w t (later o) = parted ls w (both_true (is_among n without_part) (in_table ls) t).1 o
parted (n below q ∷ ls) w t (later o) = parted ls w (both_true (is_among n without_part) (in_table ls) t).1 o
parted (n wherever P ∷ ls) w t (later o) = parted ls w (both_true (is_among n without_part) (in_table ls) t).1 o
parted (part_at p ∷ ls) w t (later o) = parted ls w t o
parted (part_below q ∷ ls) w t (later o) = parted ls w t o

-- and so a number of the table
plain_number : (n : ℕ) → is_among n without_part ≡ true → is_among n refusal_numbers ≡ true
unfolding is_among
plain_number n e =
    go (eqb n 1) (eqb n 2) (eqb n 3) (eqb n 4) (eqb n 5) (eqb n 6) (eqb n 7) (eqb n 8) (eqb n 9) (eqb n 10) _ e
  where
    go : (a b c d f g h i j k rest : Bool) → (a || (b || (c || (d || (f || (g || (h || (i || (j || rest))))))))) ≡ true
        → (a || (b || (c || (d || (f || (g || (h || (i || (j || (k || rest)))))))))) ≡ true
    go true b c d f g h i j k rest e = refl
    go false true c d f g h i j k rest e = refl
    go false false true d f g h i j k rest e = refl
    go false false false true f g h i j k rest e = refl
    go false false false false true g h i j k rest e = refl
    go false false false false false true h i j k rest e = refl
    go false false false false false false true i j k rest e = refl
    go false false false false false false false true j k rest e = refl
    go false false false false false false false false true k rest e = refl
    go false false false false false false false false false k rest e = rw e (or-true k)

in_table_lem : {w : Refusal} → Parted w → is_among w.number refusal_numbers ≡ true
unfolding is_among
in_table_lem (no_part {n} h) = plain_number n h
in_table_lem (a_part l m) = refl

-- a writer's answer is that of its rule
refused_keeps : {A : Type 0} (buf : List ℕ) (rule : Outcome (A × List ℕ)) (w : Refusal) → answer_of rule ≡ refused w
    → (rule ≡ refused w) × (left_of rule buf ≡ buf)
refused_keeps buf (ok x) w e = absurd (ok_not_refused e)
refused_keeps buf (refused v) w e = let x : v ≡ w = same_refused e in (rw x, refl)

-- both parts of a statement
pub only : {A : Type 0} {answer : Outcome A} {ls : List Line} → in_table ls ≡ true → Listed ls answer → Only answer ls
only t h = record { table = t; listed = h }

-- which line of a list it is
pub second : {a : Line} {ls : List Line} {w : Refusal} → OneOf ls w → OneOf (a ∷ ls) w
second o = later o

third : {a b : Line} {ls : List Line} {w : Refusal} → OneOf ls w → OneOf (a ∷ b ∷ ls) w
third o = later (second o)

fourth : {a b c : Line} {ls : List Line} {w : Refusal} → OneOf ls w → OneOf (a ∷ b ∷ c ∷ ls) w
fourth o = later (third o)

fifth : {a b c d : Line} {ls : List Line} {w : Refusal} → OneOf ls w → OneOf (a ∷ b ∷ c ∷ d ∷ ls) w
fifth o = later (fourth o)

sixth : {a b c d e : Line} {ls : List Line} {w : Refusal} → OneOf ls w → OneOf (a ∷ b ∷ c ∷ d ∷ e ∷ ls) w
sixth o = later (fifth o)

seventh : {a b c d e f : Line} {ls : List Line} {w : Refusal} → OneOf ls w → OneOf (a ∷ b ∷ c ∷ d ∷ e ∷ f ∷ ls) w
seventh o = later (sixth o)

eighth : {a b c d e f g : Line} {ls : List Line} {w : Refusal} → OneOf ls w → OneOf (a ∷ b ∷ c ∷ d ∷ e ∷ f ∷ g ∷ ls) w
eighth o = later (seventh o)

ninth : {a b c d e f g h : Line} {ls : List Line} {w : Refusal} → OneOf ls w → OneOf (a ∷ b ∷ c ∷ d ∷ e ∷ f ∷ g ∷ h ∷ ls) w
ninth o = later (eighth o)

tenth : {a b c d e f g h i : Line} {ls : List Line} {w : Refusal} → OneOf ls w → OneOf (a ∷ b ∷ c ∷ d ∷ e ∷ f ∷ g ∷ h ∷ i ∷ ls) w
tenth o = later (ninth o)

eleventh : {a b c d e f g h i j : Line} {ls : List Line} {w : Refusal} → OneOf ls w → OneOf (a ∷ b ∷ c ∷ d ∷ e ∷ f ∷ g ∷ h ∷ i ∷ j ∷ ls) w
eleventh o = later (tenth o)

-- what is laid out, where its lines are the first
laid_told : {ls : List Line} (s : List ℕ) (l : Layout) (p : ℕ) → Told (1 wherever CutShort s l p ∷ 2 wherever NotPacked s l p ∷ ls) s l p
laid_told s l p = record { cut = λ q x. such x; unpacked = λ q x. second (such x) }

pub refusals : EveryCall
unfolding in_table is_among column_name
refusals = record {
  within_bytes = λ s o n place. only refl (bytes_there s o n place (λ h. just));
  read_fixed_lem = λ k s o. only refl (fixed k s o (λ h. just));
  read_packed_lem = λ s o. only refl (packed s o (λ c. just) (λ c. second just));
  write_bytes = λ buf o bytes. only refl (room buf o bytes just);
  read_temporal_lem = λ k place s o. only refl (temporal_read k place s o just (λ part l m. second (just_part l m)));
  write_temporal_lem = λ k place buf o t. only refl (temporal_written k place buf o t just (second just));
  read_value_lem = λ c place s o. only refl (value_read (shape_of c) place s o (column_taken c place just (second just)) (third just)
      (λ part l m. fourth (just_part l m)));
  read_op = λ op place s o. only refl (value_read (shape_for op) place s o (op_taken op place just) (second just)
      (λ part l m. third (just_part l m)));
  write_op = λ op place lent v buf o.
      only refl (value_written (shape_for op) place lent v buf o (op_taken op place just) (second just) (third just));
  write_value_lem =
      λ c place lent v buf o. only refl
      (value_written (shape_of c) place lent v buf o (column_taken c place just (second just)) (third just) (fourth just));
  value_size = λ c place lent v. only refl (value_sized (shape_of c) place lent v (column_taken c place just (second just)) (third just));
  shape_of_lem = four_or_five;
  value_of_lem = λ sort parts. only refl (value_made sort parts just);
  read_event_lem = λ event post_header. only refl (event_read event post_header (laid_told event (event_layout post_header) 0));
  write_event_lem = λ p buf. only refl (event_written p buf just (second just));
  event_size_lem = λ p. only refl (event_sized p just (second just));
  next_field = λ c s. only refl (field_stepped c s just (second just) (third just) (fourth just) (fifth just));
  cut_field_lem = λ s o. only refl (field_cut s o (λ h. just) (λ c. second just) (λ c. third just));
  judge_field_lem = λ c s f. only refl (field_judged c.numeric c.columns s c.at f (λ u. just) (λ u. second just));
  next_integer = λ s o. only refl (stepped integer_item s o (λ h. just) (λ h. packed s o (λ c. just) (λ c. second just)));
  next_string = λ s o. only refl (stepped string_item s o (λ h. just) (λ h. long_part_lem s o (λ c. just) (λ c. second just)));
  next_pair = λ s o.
      only refl
      (stepped pair_item s o (λ h. such (cut_at here (few_integer (no_byte (omega arith)))))
      (λ h. pair_item_lem s o (laid_told s pair_layout o)));
  next_group = λ s o.
      only refl
      (stepped group_item s o (λ h. such (cut_at count (few_integer (no_byte (omega arith)))))
      (λ h. group_item_lem s o (laid_told s group_layout o)));
  default_charset_lem = λ value. only refl (packed value 0 (λ c. just) (λ c. second just));
  read_record_lem = λ r. only refl (record_read r just);
  check_map = λ d event post_header buf.
      only refl
      (checked d event post_header buf (laid_told event (event_layout post_header) 0) (λ p x. third (such x)) (λ j x. fourth (such x))
      (λ j x. fifth (such x)) (λ p x. sixth (such x)) (λ p x. seventh (such x)) (λ p x. eighth (such x)) (λ p x. ninth (such x))
      (λ p x. tenth (such x)) (eleventh just));
  event_told = event_refused;
  map_told = map_refused;
  column_name_lem = λ names operator c.
      only refl (string_found (list_of names operator) c.0 just (λ p l x. second (such (l, x))) (λ p x. third (such x)));
  names_field_lem = λ d event post_header.
      only refl
      (names_found d event post_header (record { cut = λ p x. such x; unpacked = λ p x. second (such x) }) (λ p x. third (such x))
      (λ p x. fourth (such x)) (λ p x. fifth (such x)) (λ p x. sixth (such x)));
  read_head = λ r p. only refl (head_read just (second just) r p);
  first_cursor_lem = λ r p. only refl (first_read just (second just) r p);
  image_room = λ r p. only refl (room_told just (second just) r p);
  step_image = λ r p im c.
      only refl (image_stepped r p im c just (second just) (third just) (fourth just) (fifth just) (λ j h. sixth (under h))
      (λ j h part l m. seventh (under_part h l m)));
  past_told = past_refused;
  walk_end = λ r p im. only refl (walk_ended r p im just (second just) (third just) (λ j h. fourth (under h))
      (λ j h part l m. fifth (under_part h l m)));
  start_image_lem = λ r p nulls buf. only refl (image_started r p nulls buf just (second just) (third just));
  put_value =
      λ r p nulls c lent v buf. only refl
      (image_put r p nulls c lent v buf just (second just) (third just) (λ j h. fourth (under h)) (fifth just));
  null_told = null_refused;
  begin_blocks_lem = λ r p carry. only refl (blocks_begun r p carry just (second just) (third just));
  give_block_lem = λ r p st carry block.
      only refl
      (block_given_lem r p st carry block just (second just) (third just) (fourth just) (λ j h part l m. fifth (under_part h l m)));
  end_blocks_lem = λ r p st carry.
      only refl
      (blocks_ended r p st carry just (second just) (third just) (fourth just) (fifth just) (λ j h. sixth (under h)));
  make_plan_lem = λ r p buf. only refl (plan_made r p buf just (second just) (third just));
  step_plan = λ plan images c.
      only refl (plan_stepped plan images c just (second just) (third just) (fourth just) (fifth just) (λ part l m. sixth (just_part l m)));
  read_run_lem = λ plan images c buf.
      only refl
      (run_read plan images c buf just
      (plan_stepped plan images (turned plan images c) (second just) (third just) (fourth just) (fifth just) (sixth just)
      (λ part l m. seventh (just_part l m))));
  put_item = λ plan nulls c lent v buf.
      only refl (item_put plan nulls c lent v buf just (second just) (third just) (fourth just) (fifth just));
  read_rows_lem = λ code r id s.
      only refl
      (rows_read code r id s just (second just) (third just) (λ p x. fourth (such x))
      (record { cut = λ q x. fifth (such x); unpacked = λ q x. sixth (such x) }));
  next_image_lem = λ r w s c. only refl (image_met_lem r w s c just (second just) (third just) (λ j h. fourth (under h))
      (λ j h part l m. fifth (under_part h l m)));
  parted = λ answer ls w o e. parted ls w o.table (o.listed w e);
  numbered = λ answer ls w o e. in_table_lem (parted ls w o.table (o.listed w e));
  buffer_kept = refused_keeps;
}
