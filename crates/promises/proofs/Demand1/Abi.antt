-- Demand 1 for the calls of `feed_abi`: each refuses as the call of the library that it stands over, or before it; and what a caller is
-- left with. Assumes nothing.
use Prim.Native.Nat.{ℕ, suc, ◌+◌, ◌-◌, ◌/◌, ◌≤◌}
use mathlib.Core.Path.{◌≡◌, refl, sym, ap, subst, ◌∙◌}
use mathlib.Core.Bool.{Bool, true, false, true≢false, cond, ◌||◌}
use mathlib.Core.List.{List, [], ◌∷◌}
use Rattle.std.specs.Prelude.{Some, None as none, Some as some}
use native.Mathlib.Omega.{arith}
use borrow.Author.Tests.{le-leb, lt-leb, leb-true}
use lib.ListN.{length, get_or, take}
use lib.Dec.{leb, ltb, eqb}
use Rattle.wire.specs.declared.refusal.Refusal.{Refusal}
use Rattle.wire.specs.Number.{is_among}
use Rattle.wire.specs.Outcome.{Outcome, ok, refused, refuse, after, why}
use Rattle.wire.specs.Stored.{stored, store, answer_of, left_of}
use Rattle.wire.proofs.Stores.{stored_part}
use Rattle.wire.proofs.Outcomes.{after_is_ok, test_is_ok, by_test, ok_not_refused, same_ok}
use Rattle.value.specs.declared.classes.Dialect.{Dialect}
use Rattle.value.specs.declared.datum.Value.TheVariants.{Null}
use Rattle.value_parts.specs.Parts.{sort_of, parts_of, value_of}
use Rattle.wire.specs.declared.part.Part.{Part}
use Rattle.wire.specs.Parts.{part}
use Rattle.table_map.specs.declared.field.Fields.{Fields}
use Rattle.table_map.specs.Events.{read_event}
use Rattle.table_map.specs.Fields.{field_step}
use Rattle.table_map.specs.Lists.{Stepped, end as end₂, step, integer_item, pair_item, string_item, group_item}
use Rattle.record.specs.Records.{entry_at, read_record}
use Rattle.map_check.specs.Ranks.{table_place}
use Rattle.map_check.specs.Names.{column_name, names_field}
use Rattle.map_check.specs.Check.{check}
use Rattle.image.specs.declared.cursor.Cursor.{Cursor}
use Rattle.image.specs.declared.step.Step.TheVariants.{Null as null, Value as value, End as end}
use Rattle.image.specs.Split.{ColumnStepped, cursor, first_cursor, step_from}
use Rattle.image.specs.Puts.{start_image, put_from}
use Rattle.image.specs.Room.{read_room}
use Rattle.blocks.specs.declared.state.Arriving.{Arriving}
use Rattle.blocks.specs.declared.state.Arrival.TheVariants.{More as more, Null as null₁, Value as value₁, Long as long, Part as part₁, End as end₃}
use Rattle.blocks.specs.declared.state.BlockGiven.{BlockGiven}
use Rattle.blocks.specs.States.{Arrived}
use Rattle.blocks.specs.Gives.{give_block, begin_blocks}
use Rattle.blocks.specs.Ends.{end_blocks}
use Rattle.row_plan.specs.Plan.{row_cursor, make_plan}
use Rattle.row_plan.specs.Runs.{read_run}
use Rattle.row_plan.specs.Puts.{item_cursor, plan_put}
use Rattle.rows_event.specs.Events.{read_rows}
use Rattle.rows_event.specs.Images.{ImageStepped as Told₁, end as end₁, next_image}
use Rattle.feed_abi.specs.Answers.{answer_number, answer_numbers, status_of, numbers_left, bytes_left}
use Rattle.feed_abi.specs.Calls.{said, said_with, record_numbers, part_numbers, map_numbers, names_given, given_numbers, cursor_numbers}
use Rattle.feed_abi.specs.Calls.{step_numbers, told_numbers, rows_numbers, image_numbers, dialect_of, second_asked, sets_asked, images_at, feed_map}
use Rattle.feed_abi.specs.Calls.{feed_check, feed_column, feed_names, feed_name, feed_first, feed_step, feed_start, feed_put, feed_rows, feed_image}
use Rattle.feed_abi.specs.Calls.{room_numbers, feed_room}
use Rattle.feed_abi.specs.Calls.{plan_numbers, run_numbers, put_numbers, feed_plan, feed_run, feed_put_item}
use Rattle.feed_abi.specs.Fields.{parts_numbers, fields_from, fields_numbers, fields_of, field_numbers, in_two, item_at, item_numbers, feed_parts}
use Rattle.feed_abi.specs.Fields.{feed_fields, feed_field, feed_item}
use Rattle.feed_abi.specs.Blocks.{state_numbers, state_asked, arrival_numbers, told_block, arrived_numbers, ended, feed_begin, feed_give, feed_end}
use Rattle.feed_abi.proofs.Tells.{names_asked}
use Rattle.feed_abi.proofs.Backs.{told_back, null_back}
use Rattle.feed_abi.proofs.Arrives.{state_back}
use Rattle.promises.specs.Refusals.{Line, OneOf, just, later, refusal_numbers, in_table, Only, event_lines, check_lines, names_lines}
use Rattle.promises.specs.Buffers.{Touched}
use Rattle.promises.specs.Abi.{Answered, Counts, AbiCalls}
use Rattle.promises.proofs.Demand1.Only.{Listed, done, stop, chain, test}
use Rattle.promises.proofs.Demand2.Values.{value_made}
use Rattle.promises.proofs.Demand1.Rows.{record_read}
use Rattle.promises.proofs.Demand3.Checks.{checks}
use Rattle.promises.proofs.Demand3.Images.{step_held}
use Rattle.promises.proofs.Demand1.Buffers.{stores, padded_length}
use Rattle.promises.proofs.Demand1.Refusals.{only, second, refusals}

-- ---- answers in numbers refuse as the rule does
in_numbers : {A : Type 0} {ls : List Line} (f : A → List ℕ) (o : Outcome A) → Only o ls → Listed ls (said f o)
in_numbers f o h = chain o _ h.listed (λ a e. done _)

left_too : {A : Type 0} {ls : List Line} (f : A → List ℕ) (o : Outcome (A × List ℕ)) → Only o ls → Listed ls (said_with f o)
left_too f o h = chain o _ h.listed (λ a e. done _)

-- a writer's answer as the writer
answered : {ls : List Line} (o : Outcome (List ℕ × List ℕ)) → Listed ls o → Listed ls (answer_of o)
answered o h w e = h w (refusals.buffer_kept [] o w e).0

-- a list with one line more before it
wider : {A : Type 0} {l : Line} {ls : List Line} (o : Outcome A) → Listed ls o → Listed (l ∷ ls) o
wider o h w e = later (h w e)

-- ---- what is told before the rule is asked
no_dialect : (d : ℕ) (w : Refusal) → dialect_of d ≡ refused w → dialect_of d ≡ refuse 13 0
unfolding dialect_of
no_dialect d w e =
    by_test (eqb d 0) _ _ _ e (λ t x. absurd (ok_not_refused x))
    (λ t₀ e₁. by_test (eqb d 1) _ _ _ e₁ (λ t x. absurd (ok_not_refused x))
    (λ t₁ e₂. by_test (eqb d 2) _ _ _ e₂ (λ t x. absurd (ok_not_refused x)) (λ t₂ x. rw (t₀, t₁, t₂))))

column_told : {ls : List Line} (r : List ℕ) (j : ℕ) → OneOf ls (why 11 0) → OneOf ls (why 14 j) → Listed ls (feed_column r j)
unfolding feed_column
column_told r j eleven fourteen = chain (read_record r) _ (record_read r eleven) (λ n e. test (ltb j n) (λ u. done _) (λ u. stop fourteen))

-- the cursor of a map's fields is asked of an event that was read
fields_read : (d : Dialect) (event : List ℕ) (post_header : ℕ) → Only (fields_of d event post_header) (event_lines event post_header)
fields_read d event post_header =
    let h = refusals.read_event_lem event post_header in
    only h.table (chain (read_event event post_header) _ h.listed (λ e u. done _))

-- an item, as two numbers: refused as its rule
in_two_lem : {A : Type 0} {ls : List Line} (f : A → ℕ × ℕ) (o : Outcome (Stepped A ℕ)) → Only o ls → Listed ls (said item_numbers (in_two f o))
in_two_lem f o h = chain (in_two f o) _ (chain o _ h.listed (λ x e. done _)) (λ x e. done _)

no_item : (list : ℕ) (s : List ℕ) (offset : ℕ) → is_among list (1 ∷ 2 ∷ 3 ∷ 4 ∷ []) ≡ false → item_at list s offset ≡ refuse 13 0
unfolding item_at is_among
no_item list s offset e = go (eqb list 1) (eqb list 2) (eqb list 3) (eqb list 4) _ _ _ _ _ e
  where
    go : {A : Type 0} (a b c d : Bool) (w x y z n : A) → (a || (b || (c || (d || false)))) ≡ false
        → cond a w (cond b x (cond c y (cond d z n))) ≡ n
    go true b c d w x y z n e = absurd (true≢false e)
    go false true c d w x y z n e = absurd (true≢false e)
    go false false true d w x y z n e = absurd (true≢false e)
    go false false false true w x y z n e = absurd (true≢false e)
    go false false false false w x y z n e = refl

-- ---- the status
-- 0 is no number of the table
number_not_zero : (n : ℕ) → is_among n refusal_numbers ≡ true → n ≡ 0 → ⊥
unfolding is_among
number_not_zero n h e = true≢false (sym (rw e at h))

no_refusal : (answer : Outcome (List ℕ)) (ls : List Line) → Only answer ls → answer_number answer ≡ 0 → (ns : List ℕ) × (answer ≡ ok ns)
no_refusal (ok ns) ls h e = (ns, refl)
no_refusal (refused w) ls h e = absurd (number_not_zero w.number (refusals.numbered (refused w) ls w h refl) e)

zero_answered : (k : ℕ) (out : List ℕ) (answer : Outcome (List ℕ)) (ls : List Line) → Only answer ls → status_of k answer out ≡ 0
    → Answered k out answer
unfolding status_of
zero_answered k out answer ls h e =
    by_test (leb k (length out)) (answer_number answer) 8 0 e
    (λ u f. let n = no_refusal answer ls h f in (n.0, n.1, leb-true k (length out) u))
    (λ u f. absurd (omega arith))

answered_zero : (k : ℕ) (out : List ℕ) (answer : Outcome (List ℕ)) → Answered k out answer → status_of k answer out ≡ 0
unfolding status_of
answered_zero k out answer (ns, e, l) = rw (le-leb k (length out) l, e)

status_in_table : (t : Bool) (answer : Outcome (List ℕ)) (ls : List Line) → Only answer ls → (cond t (answer_number answer) 8 ≡ 0 → ⊥)
    → is_among (cond t (answer_number answer) 8) refusal_numbers ≡ true
unfolding is_among
status_in_table true (ok ns) ls h z = absurd (z refl)
status_in_table true (refused w) ls h z = refusals.numbered (refused w) ls w h refl
status_in_table false answer ls h z = refl

-- ---- what is left of the numbers, k of which are told
all_told : (k : ℕ) (out ns : List ℕ) → length ns ≡ k → k ≤ length out → Touched out 0 k (stored ns out 0)
unfolding store
all_told k out ns n l =
    let m : 0 + length ns ≡ k = omega arith in
    subst (λ (j : ℕ). Touched out 0 j (stored ns out 0)) m
    (stores out 0 ns (0 + length ns) (stored ns out 0) (rw (le-leb (0 + length ns) (length out) (omega arith))))

-- what is left of them and of the bytes after a refusal, t being whether there is room for the numbers
numbers_left_lem : (t : Bool) (out : List ℕ) (answer : Outcome (List ℕ)) → (t ≡ true → 2 ≤ length out)
    → (cond t (answer_number answer) 8 ≡ 0 → ⊥)
    → Touched out 0 2 (cond t (stored (answer_numbers answer) out 0) out)
numbers_left_lem true out (ok ns) l h = absurd (h refl)
numbers_left_lem true out (refused w) l h = all_told 2 out (w.place ∷ w.part ∷ []) refl (l refl)
numbers_left_lem false out answer l h = record { size = refl; before = refl; behind = refl }

bytes_left_lem : (t : Bool) (buf : List ℕ) (rule : Outcome (List ℕ × List ℕ)) → (cond t (answer_number (answer_of rule)) 8 ≡ 0 → ⊥)
    → cond t (left_of rule buf) buf ≡ buf
bytes_left_lem true buf (ok x) h = absurd (h refl)
bytes_left_lem true buf (refused w) h = refl
bytes_left_lem false buf rule h = refl

-- ---- the numbers of an answer
said_counts : {A : Type 0} (k : ℕ) (f : A → List ℕ) (o : Outcome A) → ((a : A) → length (f a) ≡ k) → Counts k (said f o)
said_counts k f o h ns e =
    let x = after_is_ok o (λ a. ok (f a)) ns e in
    ap length (sym (same_ok x.2)) ∙ h x.0

left_counts : {A : Type 0} (k : ℕ) (f : A → List ℕ) (o : Outcome (A × List ℕ)) → ((a : A) → length (f a) ≡ k)
    → Counts k (answer_of (said_with f o))
left_counts k f (ok x) h ns e = ap length (sym (same_ok e)) ∙ h x.0
left_counts k f (refused w) h ns e = absurd (ok_not_refused (sym e))

-- of a call that is asked after another test, and of a writer
then_said : {A : Type 0} (k : ℕ) (o : Outcome A) (f : A → Outcome (List ℕ)) → ((a : A) → Counts k (f a)) → Counts k (after o f)
then_said k (ok a) f h ns e = h a ns e
then_said k (refused w) f h ns e = absurd (ok_not_refused (sym e))

then_counts : {A : Type 0} (k : ℕ) (o : Outcome A) (f : A → Outcome (List ℕ × List ℕ)) → ((a : A) → Counts k (answer_of (f a)))
    → Counts k (answer_of (after o f))
then_counts k (ok a) f h ns e = h a ns e
then_counts k (refused w) f h ns e = absurd (ok_not_refused (sym e))

column_counts : (r : List ℕ) (j : ℕ) → Counts 5 (feed_column r j)
unfolding feed_column
column_counts r j ns e =
    let x = after_is_ok (read_record r) _ ns e in
    ap length (sym (test_is_ok (ltb j x.0) _ _ ns x.2).1)

step_counts : (sort column : ℕ) (next : Cursor) (ps : List ℕ) → length (step_numbers sort column next ps) ≡ 11
step_counts sort column next ps = ap (λ (n : ℕ). suc (suc (suc (suc n)))) (padded_length 7 ps)

told_counts : (t : ColumnStepped) → length (told_numbers t) ≡ 11
unfolding told_numbers
told_counts (null column next) = step_counts (sort_of Null) column next (parts_of Null)
told_counts (value column v next) = step_counts (sort_of v) column next (parts_of v)
told_counts (end used) = step_counts 0 0 (cursor 0 used) []

arrival_counts : (next : Arriving) (sort column taken : ℕ) (ps : List ℕ) → length (arrival_numbers next sort column taken ps) ≡ 15
arrival_counts next sort column taken ps =
    ap (λ (n : ℕ). suc (suc (suc (suc (suc (suc (suc (suc n)))))))) (padded_length 7 ps)

block_counts : (next : Arriving) (taken : ℕ) (a : Arrived) → length (told_block next taken a) ≡ 15
unfolding told_block
block_counts next taken more = arrival_counts next 12 0 taken (0 ∷ [])
block_counts next taken (null₁ column) = arrival_counts next (sort_of Null) column taken (parts_of Null)
block_counts next taken (value₁ column v) = arrival_counts next (sort_of v) column taken (parts_of v)
block_counts next taken (long column len) = arrival_counts next 13 column taken (len ∷ [])
block_counts next taken (part₁ column len) = arrival_counts next 14 column taken (len ∷ [])
block_counts next taken (end₃ used) = arrival_counts next 0 0 taken (used ∷ [])

given_counts : (g : BlockGiven) → length (arrived_numbers g) ≡ 15
given_counts g = block_counts g.next g.taken g.arrival

image_counts : (t : Told₁) → length (image_numbers t) ≡ 6
image_counts (Some x) = refl
image_counts end₁ = refl

field_counts : (t : Stepped (ℕ × Part) Fields) → length (field_numbers t) ≡ 5
field_counts end₂ = refl
field_counts (Some x) = refl

item_counts : (t : Stepped (ℕ × ℕ) ℕ) → length (item_numbers t) ≡ 4
item_counts end₂ = refl
item_counts (Some x) = refl

told_alone : (k : ℕ) (out : List ℕ) (answer : Outcome (List ℕ)) → Counts k answer → Answered k out answer
    → Touched out 0 k (numbers_left k answer out)
unfolding numbers_left
told_alone k out answer h (ns, e, l) = rw (le-leb k (length out) l, e) (all_told k out ns (h ns e) l)

-- ---- what is told, where there is room for the numbers
numbers_there : (k : ℕ) (out : List ℕ) (answer : Outcome (List ℕ)) (ns : List ℕ) → k ≤ length out → answer ≡ ok ns
    → take (length ns) (numbers_left k answer out) ≡ ns
unfolding numbers_left
numbers_there k out answer ns l e = rw (le-leb k (length out) l, e) (stored_part out 0 ns (omega arith))

two_there : (out : List ℕ) (p q : ℕ) → (get_or (stored (p ∷ q ∷ []) out 0) 0 0 ≡ p) × (get_or (stored (p ∷ q ∷ []) out 0) 1 0 ≡ q)
unfolding stored
two_there out p q = (refl, refl)

-- a record of n columns
columns_told : (n : ℕ) → (entry_at n - 6) / 6 ≡ n
columns_told n = omega arith

pub abi : AbiCalls
unfolding feed_map feed_check feed_names feed_name feed_parts feed_fields feed_field feed_item item_at feed_first feed_step feed_start feed_put feed_room
    feed_rows feed_image feed_plan feed_run feed_put_item feed_begin feed_give feed_end status_of numbers_left bytes_left in_table is_among
abi = record {
  feed_map_lem = λ event post_header. only refl (in_numbers map_numbers (read_event event post_header) (refusals.read_event_lem event post_header));
  feed_check_lem = λ event post_header dialect buf d e.
      only refl
      (answered _ (subst (λ (o : Outcome Dialect). Listed (check_lines d event post_header)
      (after o (λ d. said_with record_numbers (check d event post_header buf)))) (sym e)
      (left_too record_numbers (check d event post_header buf) (refusals.check_map d event post_header buf))));
  check_no_dialect = λ event post_header dialect buf w e. rw (no_dialect dialect w e);
  feed_column_lem = λ r column. only refl (column_told r column just (second just));
  feed_names_lem = λ event post_header dialect d e.
      only refl
      (subst (λ (o : Outcome Dialect). Listed (names_lines d event post_header)
      (after o (λ d. said (λ f. given_numbers (names_given f)) (names_field d event post_header)))) (sym e)
      (in_numbers (λ f. given_numbers (names_given f)) (names_field d event post_header) (refusals.names_field_lem d event post_header)));
  names_no_dialect = λ event post_header dialect w e. rw (no_dialect dialect w e);
  feed_name_lem =
      λ names operator column. only refl
      (in_numbers part_numbers (column_name names operator (table_place column)) (refusals.column_name_lem names operator (table_place column)));
  feed_parts_lem = λ event post_header. only refl (in_numbers parts_numbers (read_event event post_header) (refusals.read_event_lem event post_header));
  feed_fields_lem = λ event post_header dialect d e.
      only refl
      (subst (λ (o : Outcome Dialect). Listed (event_lines event post_header)
      (after o (λ d. said fields_numbers (fields_of d event post_header)))) (sym e)
      (in_numbers fields_numbers (fields_of d event post_header) (fields_read d event post_header)));
  fields_no_dialect = λ event post_header dialect w e. rw (no_dialect dialect w e);
  feed_field_lem = λ event offset numeric columns.
      let c = fields_from offset numeric columns in
      only refl (in_numbers field_numbers (field_step c event) (refusals.next_field c event));
  integer_item = λ value offset. only refl (in_two_lem (λ n. (n, 0)) (step integer_item value offset) (refusals.next_integer value offset));
  pair_item = λ value offset. only refl (in_two_lem (λ p. p) (step pair_item value offset) (refusals.next_pair value offset));
  string_item =
      λ value offset. only refl (in_two_lem (λ s. (s.start, s.len)) (step string_item value offset) (refusals.next_string value offset));
  group_item = λ value offset. only refl (in_two_lem (λ g. g) (step group_item value offset) (refusals.next_group value offset));
  no_list = λ list value offset e. rw (no_item list value offset e);
  feed_room_lem = λ r p. only refl (in_numbers room_numbers (read_room r p) (refusals.image_room r p));
  feed_first_lem = λ r p. only refl (in_numbers cursor_numbers (first_cursor r p) (refusals.first_cursor_lem r p));
  feed_step_lem =
      λ r p im column offset. only refl
      (in_numbers told_numbers (step_from r p im (cursor column offset)) (refusals.step_image r p im (cursor column offset)));
  feed_start_lem =
      λ r p nulls im. only refl (answered _ (left_too cursor_numbers (start_image r p nulls im) (refusals.start_image_lem r p nulls im)));
  feed_put_lem = λ r p nulls column offset sort parts lent im.
      only refl
      (answered _
      (chain (value_of sort parts) _ (value_made sort parts just)
      (λ v u. wider _ (left_too cursor_numbers (put_from r p nulls (cursor column offset) lent v im)
      (refusals.put_value r p nulls (cursor column offset) lent v im)))));
  feed_rows_lem = λ code r id s. only refl (in_numbers rows_numbers (read_rows code r id s) (refusals.read_rows_lem code r id s));
  feed_image_lem = λ r s firstStart firstLength hasSecond secondStart secondLength offset second.
      let w = sets_asked (part firstStart firstLength) (second_asked hasSecond secondStart secondLength) in
      only refl (in_numbers image_numbers (next_image r w s (images_at offset second)) (refusals.next_image_lem r w s (images_at offset second)));
  feed_plan_lem = λ r p plan. only refl (answered _ (left_too plan_numbers (make_plan r p plan) (refusals.make_plan_lem r p plan)));
  feed_run_lem = λ plan images start item offset values.
      let c = row_cursor start item offset in
      only refl (answered _ (left_too run_numbers (read_run plan images c values) (refusals.read_run_lem plan images c values)));
  feed_put_item_lem = λ plan nulls item offset sort parts lent im.
      let c = item_cursor item offset in
      only refl
      (answered _
      (chain (value_of sort parts) _ (value_made sort parts just)
      (λ v u. wider _ (left_too put_numbers (plan_put plan nulls c lent v im) (refusals.put_item plan nulls c lent v im)))));
  feed_begin_lem = λ r p carry. only refl (in_numbers state_numbers (begin_blocks r p carry) (refusals.begin_blocks_lem r p carry));
  feed_give_lem = λ r p carry block phase column held left used.
      let st = state_asked phase column held left used in
      only refl (answered _ (left_too arrived_numbers (give_block r p st carry block) (refusals.give_block_lem r p st carry block)));
  feed_end_lem = λ r p carry phase column held left used.
      let st = state_asked phase column held left used in
      only refl (in_numbers (λ n. arrived_numbers (ended n)) (end_blocks r p st carry) (refusals.end_blocks_lem r p st carry));
  check_told = λ event post_header dialect buf d es q e l.
      rw (q, checks.accepted_written d event post_header buf es e l)
      (ap (λ (n : ℕ). ok (entry_at (length es) ∷ n ∷ [])) (columns_told (length es)));
  names_there = λ event post_header dialect d p e f. names_asked event post_header dialect d (ok (some p)) e f;
  names_none = λ event post_header dialect d e f. names_asked event post_header dialect d (ok none) e f;
  status_zero = λ k out answer ls h. (zero_answered k out answer ls h, answered_zero k out answer);
  status_table = λ k out answer ls h z. status_in_table (leb k (length out)) answer ls h z;
  status_told = λ k out answer w l m e. let x = two_there out w.place w.part in rw (le-leb k (length out) m, e) (refl, x.0, x.1);
  no_numbers = λ k out answer l. rw (lt-leb k (length out) l) (refl, refl);
  numbers_told = numbers_there;
  bytes_told = λ k out buf rule ns left l e. rw (le-leb k (length out) l, e);
  numbers_kept = λ k out answer l h. numbers_left_lem (leb k (length out)) out answer (λ u. let n = leb-true k (length out) u in omega arith) h;
  bytes_kept = λ k out buf rule h. bytes_left_lem (leb k (length out)) buf rule h;
  map_six = λ event post_header. said_counts 6 map_numbers (read_event event post_header) (λ e. refl);
  check_two =
      λ event post_header dialect buf. then_counts 2 (dialect_of dialect) _
      (λ d. left_counts 2 record_numbers (check d event post_header buf) (λ n. refl));
  column_five = column_counts;
  names_three =
      λ event post_header dialect. then_said 3 (dialect_of dialect) _ (λ d. said_counts 3 _ (names_field d event post_header) (λ f. refl));
  name_two = λ names operator column. said_counts 2 part_numbers (column_name names operator (table_place column)) (λ n. refl);
  parts_eight = λ event post_header. said_counts 8 parts_numbers (read_event event post_header) (λ e. refl);
  fields_three =
      λ event post_header dialect. then_said 3 (dialect_of dialect) _
      (λ d. said_counts 3 fields_numbers (fields_of d event post_header) (λ c. refl));
  field_five =
      λ event offset numeric columns. said_counts 5 field_numbers (field_step (fields_from offset numeric columns) event) field_counts;
  item_four = λ list value offset. said_counts 4 item_numbers (item_at list value offset) item_counts;
  room_two = λ r p. said_counts 2 room_numbers (read_room r p) (λ n. refl);
  first_two = λ r p. said_counts 2 cursor_numbers (first_cursor r p) (λ c. refl);
  step_eleven = λ r p im column offset. said_counts 11 told_numbers (step_from r p im (cursor column offset)) told_counts;
  start_two = λ r p nulls im. left_counts 2 cursor_numbers (start_image r p nulls im) (λ c. refl);
  put_two = λ r p nulls column offset sort parts lent im.
      then_counts 2 (value_of sort parts) _
      (λ v. left_counts 2 cursor_numbers (put_from r p nulls (cursor column offset) lent v im) (λ c. refl));
  rows_ten = λ code r id s. said_counts 10 rows_numbers (read_rows code r id s) (λ w. refl);
  image_six = λ r s firstStart firstLength hasSecond secondStart secondLength offset second.
      said_counts 6 image_numbers
      (next_image r (sets_asked (part firstStart firstLength) (second_asked hasSecond secondStart secondLength)) s (images_at offset second))
      image_counts;
  plan_two = λ r p plan. left_counts 2 plan_numbers (make_plan r p plan) (λ x. refl);
  run_four = λ plan images start item offset values.
      left_counts 4 run_numbers (read_run plan images (row_cursor start item offset) values) (λ x. refl);
  put_item_two = λ plan nulls item offset sort parts lent im.
      then_counts 2 (value_of sort parts) _
      (λ v. left_counts 2 put_numbers (plan_put plan nulls (item_cursor item offset) lent v im) (λ c. refl));
  begin_five = λ r p carry. said_counts 5 state_numbers (begin_blocks r p carry) (λ st. refl);
  give_fifteen = λ r p carry block phase column held left used.
      left_counts 15 arrived_numbers (give_block r p (state_asked phase column held left used) carry block) given_counts;
  end_fifteen = λ r p carry phase column held left used.
      said_counts 15 (λ n. arrived_numbers (ended n)) (end_blocks r p (state_asked phase column held left used) carry)
      (λ n. given_counts (ended n));
  numbers_touched = told_alone;
  state_back = state_back;
  value_back = told_back;
  null_back = null_back;
  step_held = step_held;
}
