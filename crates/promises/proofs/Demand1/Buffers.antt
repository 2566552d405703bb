-- Every writer's success is one store, and that of a run one for each value, so it touches only what is reported. Assumes nothing.
use Prim.Native.Nat.{ℕ, zero, suc, ◌+◌, ◌-◌, ◌*◌, ◌/◌, ◌≤◌}
use mathlib.Core.Path.{◌≡◌, refl, sym, ap, subst, ◌∙◌}
use mathlib.Core.Bool.{Bool, true, false, cond}
use mathlib.Core.List.{List, [], ◌∷◌, ◌++◌}
use native.Mathlib.Omega.{arith}
use borrow.Author.Tests.{leb-true, eqb-true}
use lib.ListN.{length, take, drop, get_or, length-append, length-take}
use lib.Seq.{length-take-le, drop-drop, drop-append_seam}
use lib.Dec.{leb, ltb, eqb}
use Rattle.wire.specs.Outcome.{Outcome, ok, refused, why}
use Rattle.wire.specs.Bits.{bytes_for}
use Rattle.wire.specs.Stored.{stored, store}
use Rattle.wire.proofs.Outcomes.{after_is_ok, test_is_ok, by_test, ok_not_refused, same_ok}
use Rattle.wire.proofs.Stores.{length_stored, stored_front, stored_from}
use Rattle.temporal.specs.declared.storage.Storage.{Storage}
use Rattle.temporal.specs.declared.parts.Temporal.{Temporal}
use Rattle.temporal.specs.Domains.{temporal_domain}
use Rattle.temporal.specs.Reading.{temporal_bytes, write_temporal}
use Rattle.value.specs.declared.shape.Shape.{Shape}
use Rattle.value.specs.declared.classes.Dialect.{Dialect}
use Rattle.value.specs.declared.datum.Value.{Value}
use Rattle.value.specs.declared.datum.Value.TheVariants.{Null}
use Rattle.value.specs.Columns.{shape_of}
use Rattle.value.specs.Ops.{shape_for}
use Rattle.value.specs.Storing.{stored_bytes, write_value}
use Rattle.value_parts.specs.Parts.{parts_of, padded, value_of}
use Rattle.table_map.specs.Writes.{EventParts, is_event, event_bytes, write_event}
use Rattle.record.specs.Records.{record_bytes}
use Rattle.map_check.specs.Check.{check_map, check}
use Rattle.image.specs.declared.cursor.Cursor.{Cursor}
use Rattle.image.specs.Split.{Slot, cursor, slots_at, head_of}
use Rattle.image.specs.Puts.{filled, head_nulls, start_image, slot_bytes, put_over, put_from}
use Rattle.image.proofs.PutLaws.Fills.{fill_length}
use Rattle.image.proofs.CursorLaws.Heads.{nulls_tested}
use Rattle.image.proofs.PutLaws.Puts.{nulls_size}
use Rattle.blocks.specs.declared.state.Arriving.{Arriving}
use Rattle.blocks.specs.declared.state.Arrival.TheVariants.{More as more, Null as null₁, Value as value₁, Long as long, Part as part₁, End as end₁}
use Rattle.blocks.specs.declared.state.BlockGiven.{BlockGiven}
use Rattle.blocks.specs.States.{Arrived}
use Rattle.blocks.specs.Gives.{give_block}
use Rattle.blocks.proofs.Taken.{give_given, give_sized}
use Rattle.row_plan.specs.declared.row.RowCursor.{RowCursor}
use Rattle.row_plan.specs.declared.put.ItemCursor.{ItemCursor}
use Rattle.row_plan.specs.Puts.{item_cursor, plan_put}
use Rattle.image.specs.declared.step.Step.TheVariants.{Null as null, Value as value, End as end}
use Rattle.row_plan.specs.Plan.{item_count, plan_slots, plan_of, make_plan, row_cursor, RowStepped, plan_step}
use Rattle.row_plan.specs.Runs.{moved_by, value_numbers, turned, is_over, RowRan, ran, run_on, run_from, run_answer, read_run}
use Rattle.row_plan.proofs.ReadLaws.{run_kept}
use Rattle.feed_abi.specs.Calls.{said_with, record_numbers, cursor_numbers, dialect_of, feed_check, feed_start, feed_put}
use Rattle.feed_abi.specs.Calls.{plan_numbers, run_numbers, put_numbers, feed_plan, feed_run, feed_put_item}
use Rattle.feed_abi.specs.Blocks.{state_asked, told_block, arrived_numbers, feed_give}
use Rattle.promises.specs.Buffers.{Touched, Buffers}

-- a store that went well: where it ended
store_ends : (buf : List ℕ) (o : ℕ) (bytes : List ℕ) (n : ℕ) (left : List ℕ) → store bytes buf o ≡ ok (n, left) → n ≡ o + length bytes
unfolding store
store_ends buf o bytes n left e =
    let t = test_is_ok (leb (o + length bytes) (length buf)) (o + length bytes, stored bytes buf o) (why 8 0) (n, left) e in
    ap (λ (x : ℕ × List ℕ). x.0) (sym t.1)

-- what stands behind stored bytes is as it was
behind_stored : (buf : List ℕ) (o : ℕ) (bytes : List ℕ) → o + length bytes ≤ length buf
    → drop (o + length bytes) (stored bytes buf o) ≡ drop (o + length bytes) buf
behind_stored buf o bytes h =
    sym (drop-drop (length bytes) o (stored bytes buf o)) ∙ ap (drop (length bytes)) (stored_from buf o bytes (omega arith))
    ∙ drop-append_seam bytes (drop (o + length bytes) buf)

-- and what it touched
pub stores : (buf : List ℕ) (o : ℕ) (bytes : List ℕ) (n : ℕ) (left : List ℕ) → store bytes buf o ≡ ok (n, left) → Touched buf o n left
unfolding store
stores buf o bytes n left e =
    let t = test_is_ok (leb (o + length bytes) (length buf)) (o + length bytes, stored bytes buf o) (why 8 0) (n, left) e in
    let h = leb-true (o + length bytes) (length buf) t.0 in
    let l : o ≤ length buf = omega arith in
    subst (λ (x : ℕ × List ℕ). Touched buf o x.0 x.1) t.1
    (record { size = length_stored buf o bytes h; before = stored_front buf o bytes l; behind = behind_stored buf o bytes h })

temporals : (k : Storage) (place : ℕ) (buf : List ℕ) (o : ℕ) (t : Temporal) (n : ℕ) (left : List ℕ)
    → write_temporal k place t buf o ≡ ok (n, left) → Touched buf o n left
unfolding write_temporal
temporals k place buf o t n left e =
    by_test (temporal_domain k t) _ _ _ e (λ u f. stores buf o (temporal_bytes k t) n left f) (λ u f. absurd (ok_not_refused (sym f)))

values : (sh : Shape) (place : ℕ) (lent : List ℕ) (v : Value) (buf : List ℕ) (o n : ℕ) (left : List ℕ)
    → write_value sh place lent v buf o ≡ ok (n, left) → Touched buf o n left
unfolding write_value
values sh place lent v buf o n left e =
    let x = after_is_ok (stored_bytes sh place lent v) (λ b. store b buf o) (n, left) e in
    stores buf o x.0 n left x.2

events : (p : EventParts) (buf : List ℕ) (n : ℕ) (left : List ℕ) → write_event p buf ≡ ok (n, left) → Touched buf 0 n left
unfolding write_event
events p buf n left e = by_test (is_event p) _ _ _ e (λ u f. stores buf 0 (event_bytes p) n left f) (λ u f. absurd (ok_not_refused (sym f)))

maps : (d : Dialect) (event : List ℕ) (post_header : ℕ) (buf : List ℕ) (n : ℕ) (left : List ℕ) → check d event post_header buf ≡ ok (n, left)
    → Touched buf 0 n left
unfolding check
maps d event post_header buf n left e =
    let x = after_is_ok (check_map d event post_header) (λ es. store (record_bytes es) buf 0) (n, left) e in
    stores buf 0 (record_bytes x.0) n left x.2

-- the first cursor stands behind the null bits
starts : (r p nulls buf : List ℕ) (next : Cursor) (left : List ℕ) → start_image r p nulls buf ≡ ok (next, left)
    → Touched buf 0 next.offset left
unfolding start_image
starts r p nulls buf next left e =
    let a = after_is_ok (head_nulls r p nulls) _ (next, left) e in
    let h = a.0 in
    let c = h.present in
    let b = after_is_ok (store (filled c nulls) buf 0) _ (next, left) a.2 in
    let x = b.0 in
    let m = (nulls_tested r p nulls a.1).1 in
    let f = fill_length c nulls (nulls_size r p nulls buf a.1) in
    let z = store_ends buf 0 (filled c nulls) x.0 x.1 b.1 in
    let q = same_ok b.2 in
    let i : h.nulls ≡ next.offset = ap (λ (y : Cursor × List ℕ). y.0.offset) q in
    let j : x.1 ≡ left = ap (λ (y : Cursor × List ℕ). y.1) q in
    let k : x.0 ≡ next.offset = omega arith in
    subst (λ (y : List ℕ). Touched buf 0 next.offset y) j
    (subst (λ (y : ℕ). Touched buf 0 y x.1) k (stores buf 0 (filled c nulls) x.0 x.1 b.1))

-- a step's cursor stands behind its value
put_over_lem : (is : List Slot) (c : Cursor) (lent : List ℕ) (v : Value) (buf : List ℕ) (next : Cursor) (left : List ℕ)
    → put_over is c lent v buf ≡ ok (next, left)
    → Touched buf c.offset next.offset left
unfolding put_over
put_over_lem [] c lent v buf next left e = absurd (ok_not_refused (sym e))
put_over_lem (i ∷ is) c lent v buf next left e =
    let a = after_is_ok (slot_bytes i lent v) _ (next, left) e in
    let b = after_is_ok (store a.0 buf c.offset) _ (next, left) a.2 in
    let x = b.0 in
    let q = same_ok b.2 in
    let k : x.0 ≡ next.offset = ap (λ (y : Cursor × List ℕ). y.0.offset) q in
    let j : x.1 ≡ left = ap (λ (y : Cursor × List ℕ). y.1) q in
    subst (λ (y : List ℕ). Touched buf c.offset next.offset y) j
    (subst (λ (y : ℕ). Touched buf c.offset y x.1) k (stores buf c.offset a.0 x.0 x.1 b.1))

puts : (r p nulls : List ℕ) (c : Cursor) (lent : List ℕ) (v : Value) (buf : List ℕ) (next : Cursor) (left : List ℕ)
    → put_from r p nulls c lent v buf ≡ ok (next, left)
    → Touched buf c.offset next.offset left
unfolding put_from
puts r p nulls c lent v buf next left e =
    let a = after_is_ok (head_nulls r p nulls) _ (next, left) e in
    by_test (ltb a.0.columns c.column) _ _ _ a.2 (λ u f. absurd (ok_not_refused (sym f)))
    (λ u f. put_over_lem (slots_at r p nulls c.column) c lent v buf next left f)

-- and so does a step's by a plan
item_puts : (plan nulls : List ℕ) (c : ItemCursor) (lent : List ℕ) (v : Value) (buf : List ℕ) (next : ItemCursor) (left : List ℕ)
    → plan_put plan nulls c lent v buf ≡ ok (next, left)
    → Touched buf c.offset next.offset left
unfolding plan_put
item_puts plan nulls c lent v buf next left e =
    by_test (eqb (length nulls) (bytes_for (item_count plan))) _ _ _ e
    (λ u f. let x = after_is_ok (put_over (plan_slots plan nulls c.item) (cursor c.item c.offset) lent v buf) _ (next, left) f in
    let q = same_ok x.2 in
    let k : x.0.0.offset ≡ next.offset = ap (λ (y : ItemCursor × List ℕ). y.0.offset) q in
    let j : x.0.1 ≡ left = ap (λ (y : ItemCursor × List ℕ). y.1) q in
    subst (λ (y : List ℕ). Touched buf c.offset next.offset y) j
    (subst (λ (y : ℕ). Touched buf c.offset y x.0.1) k
    (put_over_lem (plan_slots plan nulls c.item) (cursor c.item c.offset) lent v buf x.0.0 x.0.1 x.1)))
    (λ u f. absurd (ok_not_refused (sym f)))

-- ---- a block
-- bytes that were stored without the buffer getting longer had room
stored_fits : (buf : List ℕ) (o : ℕ) (bytes : List ℕ) → o ≤ length buf → length (stored bytes buf o) ≡ length buf
    → o + length bytes ≤ length buf
unfolding stored
stored_fits buf o bytes h e =
    let rest = drop (o + length bytes) buf in
    omega (arith, e, length-append (take o buf) (bytes ++ rest), length-append bytes rest, length-take-le o buf h)

gives : (r p : List ℕ) (st : Arriving) (carry block : List ℕ) (g : BlockGiven) (left : List ℕ) → give_block r p st carry block ≡ ok (g, left)
    → Touched carry st.held (st.held + g.taken) left
gives r p st carry block g left e =
    let k = give_given r p st carry block e in
    let l = give_sized r p st carry block e in
    let bytes = take k.few block in
    let h = stored_fits carry st.held bytes l.1 (ap length (sym k.left) ∙ l.0) in
    let j = st.held + g.taken - (st.held + length bytes) in
    let n : st.held + length bytes + j ≡ st.held + g.taken = omega (arith, k.within, length-take k.few block) in
    let drops : (s : List ℕ) → drop j (drop (st.held + length bytes) s) ≡ drop (st.held + g.taken) s =
    λ s. drop-drop j (st.held + length bytes) s ∙ ap (λ (i : ℕ). drop i s) n in
    subst (Touched carry st.held (st.held + g.taken)) (sym k.left)
    (record {
      size = length_stored carry st.held bytes h;
      before = stored_front carry st.held bytes l.1;
      behind = sym (drops (stored bytes carry st.held)) ∙ ap (drop j) (behind_stored carry st.held bytes h) ∙ drops carry;
    })

-- ---- plans
plans : (r p buf : List ℕ) (n items : ℕ) (left : List ℕ) → make_plan r p buf ≡ ok ((n, items), left) → Touched buf 0 n left
unfolding make_plan
plans r p buf n items left e =
    let a = after_is_ok (head_of r p) _ ((n, items), left) e in
    let b = after_is_ok (store (plan_of r p) buf 0) _ ((n, items), left) a.2 in
    let x = b.0 in
    let q = same_ok b.2 in
    let k : x.0 ≡ n = ap (λ (y : (ℕ × ℕ) × List ℕ). y.0.0) q in
    let j : x.1 ≡ left = ap (λ (y : (ℕ × ℕ) × List ℕ). y.1) q in
    subst (λ (y : List ℕ). Touched buf 0 n y) j
    (subst (λ (y : ℕ). Touched buf 0 y x.1) k (stores buf 0 (plan_of r p) x.0 x.1 b.1))

pub padded_length : (k : ℕ) (ps : List ℕ) → length (padded k ps) ≡ k
unfolding padded
padded_length zero ps = refl
padded_length (suc k) [] = ap suc (padded_length k [])
padded_length (suc k) (p ∷ ps) = ap suc (padded_length k ps)

eight_numbers : (by : ℕ) (v : Value) → length (value_numbers by v) ≡ 8
unfolding value_numbers
eight_numbers by v = ap suc (padded_length 7 (parts_of (moved_by by v)))

-- a run leaves the numbers behind those that it reports
record Behind (d : List ℕ) (w : RowRan) : Type 0 where
  size : length w.left ≡ length d
  behind : drop (8 * w.values) w.left ≡ drop (8 * w.values) d

nothing : (d : List ℕ) (v : ℕ) (c : RowCursor) (stop : Outcome (Unit {0})) → Behind d (ran v c stop d)
nothing d v c stop = record { size = refl; behind = refl }

-- v values and one more are stored, and then w of them
one_more : (d ns : List ℕ) (v : ℕ) (w : RowRan) → length ns ≡ 8 → 8 * (v + 1) ≤ length d → v + 1 ≤ w.values
    → Behind (stored ns d (8 * v)) w → Behind d w
one_more d ns v w n h m k =
    let f : 8 * v + length ns ≤ length d = omega (arith, n, h) in
    let j = 8 * w.values - (8 * v + length ns) in
    let e : 8 * v + length ns + j ≡ 8 * w.values = omega (arith, n, m) in
    let drops : (s : List ℕ) → drop j (drop (8 * v + length ns) s) ≡ drop (8 * w.values) s =
    λ s. drop-drop j (8 * v + length ns) s ∙ ap (λ (i : ℕ). drop i s) e in
    record {
      size = k.size ∙ length_stored d (8 * v) ns f;
      behind = k.behind ∙ sym (drops (stored ns d (8 * v))) ∙ ap (drop j) (behind_stored d (8 * v) ns f) ∙ drops d;
    }

if_behind : (b : Bool) (d : List ℕ) (x y : RowRan) → Behind d x → Behind d y → Behind d (cond b x y)
if_behind true d x y h k = h
if_behind false d x y h k = k

-- what goes on behind a value, whatever was told of it
abbrev GoesOn : (RowCursor → ℕ → List ℕ → RowRan) → ℕ → ℕ → Type 0
GoesOn f v size = (n : RowCursor) (d : List ℕ) → length d ≡ size → (v ≤ (f n v d).values) × Behind d (f n v d)

told_behind : (f : RowCursor → ℕ → List ℕ → RowRan) (v : ℕ) (d : List ℕ) → 8 * (v + 1) ≤ length d → GoesOn f (v + 1) (length d)
    → (n : RowCursor) (by : ℕ) (x : Value) → Behind d (f n (v + 1) (stored (value_numbers by x) d (8 * v)))
told_behind f v d h k n by x =
    let ns = value_numbers by x in
    let e = eight_numbers by x in
    let l = length_stored d (8 * v) ns (omega (arith, e, h)) in
    let g = k n (stored ns d (8 * v)) l in
    one_more d ns v (f n (v + 1) (stored ns d (8 * v))) e h g.0 g.1

on_behind : (f : RowCursor → ℕ → List ℕ → RowRan) (c : RowCursor) (v : ℕ) (d : List ℕ) → 8 * (v + 1) ≤ length d
    → GoesOn f (v + 1) (length d) → (x : Outcome RowStepped) → Behind d (run_on f c v d x)
on_behind f c v d h k (ok (null j n)) = told_behind f v d h k n c.start Null
on_behind f c v d h k (ok (value j x n)) = told_behind f v d h k n c.start x
on_behind f c v d h k (ok (end used)) = nothing d v c (ok tt)
on_behind f c v d h k (refused w) = nothing d v c (refused w)

run_behind : (m : ℕ) (plan images : List ℕ) (c : RowCursor) (v : ℕ) (d : List ℕ) → 8 * (v + m) ≤ length d
    → Behind d (run_from m plan images c v d)
unfolding run_from
run_behind zero plan images c v d h = nothing d v c (ok tt)
run_behind (suc m) plan images c v d h =
    let t = turned plan images c in
    if_behind (is_over images t) d _ _ (nothing d v t (ok tt))
    (on_behind (run_from m plan images) t v d (omega (arith, h))
    (λ n d₁ l. ((run_kept m plan images n (v + 1) d₁).more, run_behind m plan images n (v + 1) d₁ (omega (arith, l, h))))
    (plan_step plan images t))

-- an answer is what the run comes to
answer_is : (w : RowRan) (values : ℕ) (next : RowCursor) (left : List ℕ) → run_answer w ≡ ok ((values, next), left)
    → (w.values ≡ values) × (w.left ≡ left)
answer_is w values next left e =
    by_test (eqb w.values 0) _ _ _ e
    (λ u f.
    let x = same_ok (after_is_ok w.stop _ ((values, next), left) f).2 in
    (eqb-true w.values 0 u ∙ ap (λ (y : (ℕ × RowCursor) × List ℕ). y.0.0) x, ap (λ (y : (ℕ × RowCursor) × List ℕ). y.1) x))
    (λ u f.
    let x = same_ok f in
    (ap (λ (y : (ℕ × RowCursor) × List ℕ). y.0.0) x, ap (λ (y : (ℕ × RowCursor) × List ℕ). y.1) x))

runs : (plan images : List ℕ) (c : RowCursor) (buf : List ℕ) (values : ℕ) (next : RowCursor) (left : List ℕ)
    → read_run plan images c buf ≡ ok ((values, next), left)
    → Touched buf 0 (8 * values) left
unfolding read_run
runs plan images c buf values next left e =
    by_test (ltb (length buf) 8) _ _ _ e (λ u f. absurd (ok_not_refused (sym f)))
    (λ u f.
    let w = run_from (length buf / 8) plan images c 0 buf in
    let a = answer_is w values next left f in
    let b = run_behind (length buf / 8) plan images c 0 buf (omega arith) in
    subst (λ (y : List ℕ). Touched buf 0 (8 * values) y) a.1
    (subst (λ (y : ℕ). Touched buf 0 (8 * y) w.left) a.0 (record { size = b.size; before = refl; behind = b.behind })))

-- ---- the calls of `feed_abi`: an answer in numbers is that of the rule, and the bytes left are the same
in_numbers : {A : Type 0} (f : A → List ℕ) (o : Outcome (A × List ℕ)) (ns left : List ℕ) → said_with f o ≡ ok (ns, left)
    → (a : A) × (o ≡ ok (a, left)) × (f a ≡ ns)
in_numbers f o ns left e =
    let x = after_is_ok o (λ y. ok (f y.0, y.1)) (ns, left) e in
    let q = same_ok x.2 in
    let l : x.0.1 ≡ left = ap (λ (y : List ℕ × List ℕ). y.1) q in
    (x.0.0, x.1 ∙ ap (λ (b : List ℕ). ok (x.0.0, b)) l, ap (λ (y : List ℕ × List ℕ). y.0) q)

feed_checks : (event : List ℕ) (post_header dialect : ℕ) (buf ns left : List ℕ) → feed_check event post_header dialect buf ≡ ok (ns, left)
    → Touched buf 0 (get_or ns 0 0) left
unfolding feed_check
feed_checks event post_header dialect buf ns left e =
    let d = after_is_ok (dialect_of dialect) _ (ns, left) e in
    let x = in_numbers record_numbers (check d.0 event post_header buf) ns left d.2 in
    subst (λ (y : List ℕ). Touched buf 0 (get_or y 0 0) left) x.2 (maps d.0 event post_header buf x.0 left x.1)

feed_starts : (r p nulls im ns left : List ℕ) → feed_start r p nulls im ≡ ok (ns, left) → Touched im 0 (get_or ns 1 0) left
unfolding feed_start
feed_starts r p nulls im ns left e =
    let x = in_numbers cursor_numbers (start_image r p nulls im) ns left e in
    subst (λ (y : List ℕ). Touched im 0 (get_or y 1 0) left) x.2 (starts r p nulls im x.0 left x.1)

feed_puts : (r p nulls : List ℕ) (column offset sort : ℕ) (parts lent im ns left : List ℕ)
    → feed_put r p nulls column offset sort parts lent im ≡ ok (ns, left)
    → Touched im offset (get_or ns 1 0) left
unfolding feed_put
feed_puts r p nulls column offset sort parts lent im ns left e =
    let c = cursor column offset in
    let v = after_is_ok (value_of sort parts) _ (ns, left) e in
    let x = in_numbers cursor_numbers (put_from r p nulls c lent v.0 im) ns left v.2 in
    subst (λ (y : List ℕ). Touched im offset (get_or y 1 0) left) x.2 (puts r p nulls c lent v.0 im x.0 left x.1)

feed_plans : (r p plan ns left : List ℕ) → feed_plan r p plan ≡ ok (ns, left) → Touched plan 0 (get_or ns 0 0) left
unfolding feed_plan
feed_plans r p plan ns left e =
    let x = in_numbers plan_numbers (make_plan r p plan) ns left e in
    subst (λ (y : List ℕ). Touched plan 0 (get_or y 0 0) left) x.2 (plans r p plan x.0.0 x.0.1 left x.1)

feed_runs : (plan images : List ℕ) (start item offset : ℕ) (values ns left : List ℕ)
    → feed_run plan images start item offset values ≡ ok (ns, left)
    → Touched values 0 (8 * get_or ns 0 0) left
unfolding feed_run
feed_runs plan images start item offset values ns left e =
    let c = row_cursor start item offset in
    let x = in_numbers run_numbers (read_run plan images c values) ns left e in
    subst (λ (y : List ℕ). Touched values 0 (8 * get_or y 0 0) left) x.2 (runs plan images c values x.0.0 x.0.1 left x.1)

feed_put_items : (plan nulls : List ℕ) (item offset sort : ℕ) (parts lent im ns left : List ℕ)
    → feed_put_item plan nulls item offset sort parts lent im ≡ ok (ns, left)
    → Touched im offset (get_or ns 1 0) left
unfolding feed_put_item
feed_put_items plan nulls item offset sort parts lent im ns left e =
    let c = item_cursor item offset in
    let v = after_is_ok (value_of sort parts) _ (ns, left) e in
    let x = in_numbers put_numbers (plan_put plan nulls c lent v.0 im) ns left v.2 in
    subst (λ (y : List ℕ). Touched im offset (get_or y 1 0) left) x.2 (item_puts plan nulls c lent v.0 im x.0 left x.1)

taken_told_lem : (next : Arriving) (taken : ℕ) (a : Arrived) → get_or (told_block next taken a) 7 0 ≡ taken
unfolding told_block
taken_told_lem next taken more = refl
taken_told_lem next taken (null₁ column) = refl
taken_told_lem next taken (value₁ column v) = refl
taken_told_lem next taken (long column len) = refl
taken_told_lem next taken (part₁ column len) = refl
taken_told_lem next taken (end₁ used) = refl

feed_gives : (r p carry block : List ℕ) (phase column held left used : ℕ) (ns carried : List ℕ)
    → feed_give r p carry block phase column held left used ≡ ok (ns, carried)
    → Touched carry held (held + get_or ns 7 0) carried
unfolding feed_give
feed_gives r p carry block phase column held left used ns carried e =
    let st = state_asked phase column held left used in
    let x = in_numbers arrived_numbers (give_block r p st carry block) ns carried e in
    let g = x.0 in
    let n : get_or ns 7 0 ≡ g.taken = ap (λ (y : List ℕ). get_or y 7 0) (sym x.2) ∙ taken_told_lem g.next g.taken g.arrival in
    subst (λ (k : ℕ). Touched carry held (held + k) carried) (sym n) (gives r p st carry block g carried x.1)

pub buffers : Buffers
buffers = record {
  write_bytes = stores;
  write_temporal_lem = temporals;
  write_value_lem = λ c. values (shape_of c);
  write_op = λ op. values (shape_for op);
  write_event_lem = events;
  check_map = maps;
  start_image_lem = starts;
  put_value = puts;
  make_plan_lem = plans;
  read_run_lem = runs;
  put_item = item_puts;
  give_block_lem = gives;
  feed_check_lem = feed_checks;
  feed_start_lem = feed_starts;
  feed_put_lem = feed_puts;
  feed_plan_lem = feed_plans;
  feed_run_lem = feed_runs;
  feed_put_item_lem = feed_put_items;
  feed_give_lem = feed_gives;
}
