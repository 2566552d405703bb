-- What a run does at an item of an image that was tested, and where it turns to the next image. Assumes nothing.
use Prim.Native.Nat.{ℕ, suc, ◌+◌, ◌-◌, ◌*◌, ◌/◌, ◌≤◌, ◌<◌, ◌^◌, min}
use mathlib.Core.Path.{◌≡◌, refl, sym, ap, ◌∙◌}
use mathlib.Core.Bool.{Bool, true, false, cond, ◌&&◌}
use mathlib.Core.List.{List, [], ◌∷◌, ◌++◌}
use mathlib.Core.Logic.{dite}
use native.Mathlib.Decide.{dec_le}
use native.Mathlib.Nat.{add-zero}
use native.Mathlib.Omega.{arith}
use borrow.Author.Tests.{eq-eqb, ne_eqb, le-leb, lt-leb, le-ltb, lt-ltb, ltb-false}
use lib.ListN.{length, set, get_or, take, drop, length-drop, length-take}
use lib.Dec.{ltb, eqb}
use Rattle.std.specs.Prelude.{Option, Some, None}
use Rattle.wire.specs.declared.refusal.Refusal.{Refusal}
use Rattle.wire.specs.Outcome.{Outcome, ok, refused, refuse, after}
use Rattle.wire.specs.Number.{Bytes, le_value}
use Rattle.wire.specs.Bits.{bytes_for, bit_lsb0}
use Rattle.wire.specs.Stored.{stored}
use Rattle.wire.proofs.Outcomes.{ok_not_refused, same_ok, same_refused}
use Rattle.wire.proofs.Stores.{length_stored, stored_one, stored_stored, part_stored}
use Rattle.value.proofs.Readers.{part_length}
use borrow.Rule.Slice.PartMut.{put_mid}
use Rattle.value.specs.declared.datum.Value.{Value}
use Rattle.value.specs.declared.datum.Value.TheVariants.{Null}
use Rattle.value.specs.Ops.{shape_for}
use Rattle.value.specs.Reading.{read_value}
use Rattle.image.specs.Split.{cursor, step_over}
use Rattle.image.proofs.EndLaws.Ends.{value_within}
use Rattle.row_plan.specs.declared.row.RowCursor.{RowCursor}
use Rattle.row_plan.specs.Plan.{item_count, item_at, row_cursor, RowStepped, null, value, row_next, plan_step}
use Rattle.row_plan.specs.Runs.{value_numbers, turned, is_over, RowRan, ran, run_on, run_from}
use Rattle.row_plan.specs.Inner.Numbers.{numbered, one_listed, item_numbers}
use Rattle.row_plan.specs.Inner.Fast.{Took, ReadsItem, TookItem}
use Rattle.row_plan.specs.Inner.Paused.{Stands, Running, row_gate}
use Rattle.row_plan.proofs.Goes.{goes, slots_here}

-- ---- eight numbers stored one after the other
next_stored : (d : List ℕ) (at : ℕ) (w : List ℕ) (x : ℕ) → at + length w < length d
    → set (stored w d at) (at + length w) x ≡ stored (w ++ (x ∷ [])) d at
next_stored d at w x h =
    let l = length_stored d at w (omega arith) in
    stored_one (stored w d at) (at + length w) x (omega arith) ∙ stored_stored d at w (x ∷ []) (omega arith)

pub eight : (d : List ℕ) (at s a b c e f g h : ℕ) → at + 8 ≤ length d
    → set (set (set (set (set (set (set (set d at s) (at + 1) a) (at + 2) b) (at + 3) c) (at + 4) e) (at + 5) f) (at + 6) g) (at + 7) h
    ≡ stored (s ∷ (a ∷ (b ∷ (c ∷ (e ∷ (f ∷ (g ∷ (h ∷ [])))))))) d at
eight d at s a b c e f g h l =
    rw (
      stored_one d at s (omega arith),
      next_stored d at (s ∷ []) a (omega arith),
      next_stored d at (s ∷ (a ∷ [])) b (omega arith),
      next_stored d at (s ∷ (a ∷ (b ∷ []))) c (omega arith),
      next_stored d at (s ∷ (a ∷ (b ∷ (c ∷ [])))) e (omega arith),
      next_stored d at (s ∷ (a ∷ (b ∷ (c ∷ (e ∷ []))))) f (omega arith),
      next_stored d at (s ∷ (a ∷ (b ∷ (c ∷ (e ∷ (f ∷ [])))))) g (omega arith),
      next_stored d at (s ∷ (a ∷ (b ∷ (c ∷ (e ∷ (f ∷ (g ∷ []))))))) h (omega arith),
    )

-- ---- the numbers of one value written over the part of a buffer that is theirs
pub slot_put : (d : List ℕ) (to : ℕ) {x ns : List ℕ} → x ≡ ns → length x ≡ length (take (to + 8 - to) (drop to d)) → to + 8 ≤ length d
    → (put_mid to (to + 8 - to) d x ≡ stored ns d to) × (length (put_mid to (to + 8 - to) d x) ≡ length d)
slot_put d to {x} {ns} e n h =
    let l : length ns ≡ to + 8 - to = sym (ap length e) ∙ n ∙ part_length d to (to + 8 - to) (omega arith) in
    let u = part_stored d ns x to (to + 8 - to) e (sym l) in
    (u, ap length u ∙ length_stored d to ns (omega (arith, l)))

-- ---- at an item of an image that was tested
and_false : (b : Bool) → b && false ≡ false
and_false true = refl
and_false false = refl

-- what a step tells there, and what it is as numbers, by the null bit and by what is read
abbrev step_of : ℕ → RowCursor → Bool → Outcome (Value × ℕ) → Outcome RowStepped
step_of j c bit x =
    cond bit (ok (null j (row_cursor c.start (c.item + 1) c.offset)))
    (after x (λ y. ok (value j y.0 (row_cursor c.start (c.item + 1) y.1))))

abbrev numbers_of : RowCursor → Bool → Outcome (Value × ℕ) → Outcome (List ℕ × ℕ)
numbers_of c bit x = cond bit (ok (value_numbers c.start Null, c.offset)) (numbered c.start x)

on_got : (f : RowCursor → ℕ → List ℕ → RowRan) (j : ℕ) (c : RowCursor) (v : ℕ) (d : List ℕ) (bit : Bool) (x : Outcome (Value × ℕ))
    (ns : List ℕ) (o : ℕ) → numbers_of c bit x ≡ ok (ns, o)
    → run_on f c v d (step_of j c bit x) ≡ f (row_cursor c.start (c.item + 1) o) (v + 1) (stored ns d (8 * v))
on_got f j c v d true x ns o e =
    ap (λ (q : List ℕ × ℕ). f (row_cursor c.start (c.item + 1) q.1) (v + 1) (stored q.0 d (8 * v))) (same_ok e)
on_got f j c v d false (ok y) ns o e =
    ap (λ (q : List ℕ × ℕ). f (row_cursor c.start (c.item + 1) q.1) (v + 1) (stored q.0 d (8 * v))) (same_ok e)
on_got f j c v d false (refused w) ns o e = absurd (ok_not_refused (sym e))

on_bad : (f : RowCursor → ℕ → List ℕ → RowRan) (j : ℕ) (c : RowCursor) (v : ℕ) (d : List ℕ) (bit : Bool) (x : Outcome (Value × ℕ))
    (w : Refusal) → numbers_of c bit x ≡ refused w → run_on f c v d (step_of j c bit x) ≡ ran v c (refused w) d
on_bad f j c v d true x w e = absurd (ok_not_refused e)
on_bad f j c v d false (ok y) w e = absurd (ok_not_refused e)
on_bad f j c v d false (refused u) w e = ap (λ (z : Refusal). ran v c (refused z) d) (same_refused e)

bound : (im : List ℕ) (sh-read : Outcome (Value × ℕ)) (c : RowCursor) (bit : Bool) (ns : List ℕ) (o : ℕ) → c.offset ≤ length im
    → ((x : Value × ℕ) → sh-read ≡ ok x → x.1 ≤ length im) → numbers_of c bit sh-read ≡ ok (ns, o) → o ≤ length im
bound im r c true ns o h k e = let q : c.offset ≡ o = ap (λ (p : List ℕ × ℕ). p.1) (same_ok e) in omega (arith, q)
bound im (ok y) c false ns o h k e =
    let q : y.1 ≡ o = ap (λ (p : List ℕ × ℕ). p.1) (same_ok e) in omega (arith, q, k y refl)
bound im (refused w) c false ns o h k e = absurd (ok_not_refused (sym e))

module _ (plan images : List ℕ) (items : ℕ) (c : RowCursor) (t : Stands plan images items c) {im : List ℕ} (is : im
    ≡ drop c.start images) where
  pub im_length : length im ≡ length images - c.start
  im_length = ap length is ∙ length-drop c.start images

  abbrev read_here : Outcome (Value × ℕ)
  read_here = read_value (shape_for (get_or plan (3 * c.item) 0)) (le_value (take 2 (drop (3 * c.item + 1) plan))) im c.offset

  abbrev column : ℕ
  column = le_value (take 2 (drop (3 * c.item + 1) plan))

  through : (x : Outcome (Value × ℕ))
      → after (after x (λ y. ok (value column y.0 (cursor (column + 1) y.1)))) (λ t. ok (row_next c t))
      ≡ after x (λ y. ok (value column y.0 (row_cursor c.start (c.item + 1) y.1)))
  through (ok y) = refl
  through (refused w) = refl

  over : (b : Bool)
      → after (cond b (ok (null column (cursor (column + 1) c.offset)))
      (after read_here (λ y. ok (value column y.0 (cursor (column + 1) y.1))))) (λ t. ok (row_next c t))
      ≡ step_of column c b read_here
  over true = refl
  over false = through read_here

  pub step_here : plan_step plan images c ≡ step_of column c (bit_lsb0 im c.item) read_here
  unfolding step_over item_at
  step_here =
      let i : c.item < item_count plan = omega (arith, t.item, t.count) in
      let n : bytes_for (item_count plan) ≤ length im = omega (arith, t.nulls, t.count, im_length) in
      let o : c.offset ≤ length im = omega (arith, t.offset, im_length) in
      goes plan images c is (omega arith) n o ∙ rw (slots_here plan images c is (omega arith) n o i) (over (bit_lsb0 im c.item))

  -- there the run does not turn, and is not over
  run_here : (m v : ℕ) (d : List ℕ)
      → run_from (suc m) plan images c v d ≡ run_on (run_from m plan images) c v d (step_of column c (bit_lsb0 im c.item) read_here)
  unfolding run_from turned is_over
  run_here m v d =
      let i : c.item ≡ item_count plan → ⊥ = λ e. omega (arith, t.item, t.count, e) in
      let s : c.start ≡ length images → ⊥ = λ e. omega (arith, t.nulls, t.item, e) in
      rw (ne_eqb c.item (item_count plan) i, ne_eqb c.start (length images) s, and_false (eqb c.item 0), step_here)

  pub run_got : (m v : ℕ) (d ns : List ℕ) (o : ℕ) → item_numbers plan im c.start c.item c.offset ≡ ok (ns, o)
      → run_from (suc m) plan images c v d
      ≡ run_from m plan images (row_cursor c.start (c.item + 1) o) (v + 1) (stored ns d (8 * v))
  unfolding item_numbers
  run_got m v d ns o e = run_here m v d ∙ on_got (run_from m plan images) column c v d (bit_lsb0 im c.item) read_here ns o e

  pub run_bad : (m v : ℕ) (d : List ℕ) (w : Refusal) → item_numbers plan im c.start c.item c.offset ≡ refused w
      → run_from (suc m) plan images c v d ≡ ran v c (refused w) d
  unfolding item_numbers
  run_bad m v d w e = run_here m v d ∙ on_bad (run_from m plan images) column c v d (bit_lsb0 im c.item) read_here w e

  pub next_inside : (ns : List ℕ) (o : ℕ) → item_numbers plan im c.start c.item c.offset ≡ ok (ns, o)
      → o ≤ length images - c.start
  unfolding item_numbers
  next_inside ns o e =
      let l : c.offset ≤ length im = omega (arith, t.offset, im_length) in
      let b = bound im read_here c (bit_lsb0 im c.item) ns o l (λ x y.
      value_within (shape_for (get_or plan (3 * c.item) 0)) column im c.offset x l y) e in
      omega (arith, b, im_length)

-- ---- before an image: the tests, and what a step says where they do not hold
pub gate_refused : (plan images : List ℕ) (c : RowCursor) (w : Refusal) → row_gate (item_count plan) (length images - c.start) c ≡ refused w
    → plan_step plan images c ≡ refused w
unfolding row_gate plan_step
gate_refused plan images c w e =
    rw (length-drop c.start images)
    (go (ltb (item_count plan) c.item) (ltb (length images - c.start) (bytes_for (item_count plan))) (ltb (length images - c.start)
    c.offset) _ e)
  where
    go : (a b d : Bool) (x : Outcome RowStepped)
        → cond a (refuse 14 c.item) (cond b (refuse 9 0) (cond d (refuse 9 c.item) (ok (tt {0})))) ≡ refused w
        → cond a (refuse 14 c.item) (cond b (refuse 9 0) (cond d (refuse 9 c.item) x)) ≡ refused w
    go true b d x e = ap refused (same_refused e)
    go false true d x e = ap refused (same_refused e)
    go false false true x e = ap refused (same_refused e)
    go false false false x e = absurd (ok_not_refused e)

pub gate_open : (items left : ℕ) (c : RowCursor) → row_gate items left c ≡ ok tt
    → (c.item ≤ items) × (bytes_for items ≤ left) × (c.offset ≤ left)
unfolding row_gate
gate_open items left c e =
    go (ltb items c.item) (ltb left (bytes_for items)) (ltb left c.offset) (ltb-false items c.item) (ltb-false left
    (bytes_for items))
    (ltb-false left c.offset) e
  where
    go : (a b d : Bool) → (a ≡ false → c.item ≤ items) → (b ≡ false → bytes_for items ≤ left) → (d ≡ false → c.offset ≤ left)
        → cond a (refuse 14 c.item) (cond b (refuse 9 0) (cond d (refuse 9 c.item) (ok (tt {0})))) ≡ ok (tt {0})
        → (c.item ≤ items) × (bytes_for items ≤ left) × (c.offset ≤ left)
    go true b d f g h e = absurd (ok_not_refused (sym e))
    go false true d f g h e = absurd (ok_not_refused (sym e))
    go false false true f g h e = absurd (ok_not_refused (sym e))
    go false false false f g h e = (f refl, g refl, h refl)

pub gate_short : (items left : ℕ) (c : RowCursor) → c.item ≤ items → left < bytes_for items → row_gate items left c ≡ refuse 9 0
unfolding row_gate
gate_short items left c a b = rw (le-ltb items c.item a, lt-ltb left (bytes_for items) b)

pub gate_past : (items left : ℕ) (c : RowCursor) → c.item ≤ items → bytes_for items ≤ left → left < c.offset
    → row_gate items left c ≡ refuse 9 c.item
unfolding row_gate
gate_past items left c a b d = rw (le-ltb items c.item a, le-ltb left (bytes_for items) b, lt-ltb left c.offset d)

pub gate_passed : (items left : ℕ) (c : RowCursor) → c.item ≤ items → bytes_for items ≤ left → c.offset ≤ left
    → row_gate items left c ≡ ok tt
unfolding row_gate
gate_passed items left c a b d = rw (le-ltb items c.item a, le-ltb left (bytes_for items) b, le-ltb left c.offset d)

-- ---- where a run turns
pub turn_past : (plan images : List ℕ) (c : RowCursor) → c.item ≡ item_count plan → length images - c.start < c.offset
    → turned plan images c ≡ c
unfolding turned
turn_past plan images c e h = rw (lt-leb c.offset (length images - c.start) h, and_false (eqb c.item (item_count plan)))

pub turn_next : (plan images : List ℕ) (c : RowCursor) → c.item ≡ item_count plan → c.offset ≤ length images - c.start
    → turned plan images c ≡ row_cursor (c.start + c.offset) 0 (bytes_for (item_count plan))
unfolding turned
turn_next plan images c e h = rw (eq-eqb c.item (item_count plan) e, le-leb c.offset (length images - c.start) h)

-- ---- the loop through one image
pub above_had : (had values item items : ℕ) → had ≤ values → (values ≡ had → item < items) → item ≡ items → had < values
above_had had values item items m f e =
    dite (dec_le values had) (λ h. absurd (omega (arith, e, f (omega arith)))) (λ h. omega arith)

pub item_fits : (plan : List ℕ) (items item : ℕ) → items ≡ item_count plan → item < items → 3 * item + 3 ≤ length plan
item_fits plan items item e h = omega arith

pub part_fits : (images : List ℕ) (start : ℕ) → start ≤ length images → length images < 2 ^ 64
    → start + length (take (length images - start) (drop start images)) < 2 ^ 64
part_fits images start h l =
    let n = length-take (length images - start) (drop start images) in
    let m = length-drop start images in
    omega arith

pub part_holds : (images : List ℕ) (start offset : ℕ) → start ≤ length images → offset ≤ length images - start
    → offset ≤ length (take (length images - start) (drop start images))
part_holds images start offset h l =
    let n = length-take (length images - start) (drop start images) in
    let m = length-drop start images in
    omega arith

-- the numbers of an item, by its null bit
pub item_null : (plan image : List ℕ) (by k offset : ℕ) → bit_lsb0 image k ≡ true
    → item_numbers plan image by k offset ≡ ok (value_numbers by Null, offset)
unfolding item_numbers
item_null plan image by k offset e = rw e

pub item_read : (plan image : List ℕ) (by k offset op column : ℕ) → bit_lsb0 image k ≡ false → op ≡ get_or plan (3 * k) 0
    → column ≡ le_value (take 2 (drop (3 * k + 1) plan))
    → item_numbers plan image by k offset ≡ numbered by (read_value (shape_for op) column image offset)
unfolding item_numbers
item_read plan image by k offset op column e o j = rw (e, o, j)

pub standing : (plan images : List ℕ) (items : ℕ) (c : RowCursor) (item offset : ℕ) → Stands plan images items c → item < items
    → offset ≤ length images - c.start → Stands plan images items (row_cursor c.start item offset)
standing plan images items c item offset t i o = record { count = t.count; item = i; nulls = t.nulls; offset = o }

pub run_begin : (plan images : List ℕ) (items room had : ℕ) (d : List ℕ) (here : RowCursor) → Stands plan images items here → had < room
    → Running plan images items room had d here d here.item here.offset had
run_begin plan images items room had d here t h = record {
  more = omega arith;
  most = omega arith;
  counted = omega (arith, t.item);
  first = λ e. t.item;
  same = refl;
  inside = t.offset;
  goes = refl;
}

module _ (plan images : List ℕ) (items room had : ℕ) (d₀ : List ℕ) (here : RowCursor) (t : Stands plan images items here) (d : List ℕ)
    (item offset values : ℕ) (r : Running plan images items room had d₀ here d item offset values) (l : values < room)
    (i : item < items) {im : List ℕ} (is : im ≡ drop here.start images) where
  pub run_turn : (ns : List ℕ) (o : ℕ) (d' : List ℕ) → item_numbers plan im here.start item offset ≡ ok (ns, o)
      → d' ≡ stored ns d (8 * values) → length d' ≡ length d
      → Running plan images items room had d₀ here d' (item + 1) o (values + 1)
  run_turn ns o d' e s n =
      let u = standing plan images items here item offset t i r.inside in
      let m : room - values ≡ suc (room - (values + 1)) = omega arith in
      record {
        more = omega (arith, r.more);
        most = omega arith;
        counted = omega arith;
        first = λ x. absurd (omega (arith, r.more, x));
        same = n ∙ r.same;
        inside = next_inside plan images items (row_cursor here.start item offset) u is ns o e;
        goes =
            ap (λ (b : List ℕ). run_from (room - (values + 1)) plan images (row_cursor here.start (item + 1) o) (values + 1) b) s
            ∙ sym (run_got plan images items (row_cursor here.start item offset) u is (room - (values + 1)) values d ns o e)
            ∙ ap (λ (k : ℕ). run_from k plan images (row_cursor here.start item offset) values d) (sym m) ∙ r.goes;
      }

  pub run_stop : (w : Refusal) → item_numbers plan im here.start item offset ≡ refused w
      → ran values (row_cursor here.start item offset) (refused w) d ≡ run_from (room - had) plan images here had d₀
  run_stop w e =
      let u = standing plan images items here item offset t i r.inside in
      let m : room - values ≡ suc (room - (values + 1)) = omega arith in
      sym (run_bad plan images items (row_cursor here.start item offset) u is (room - (values + 1)) values d w e)
      ∙ ap (λ (k : ℕ). run_from k plan images (row_cursor here.start item offset) values d) (sym m) ∙ r.goes

-- ---- an item read fast
pub took_null : (plan image : List ℕ) (item offset : ℕ) {numbers : List ℕ} → bit_lsb0 image item ≡ true → numbers ≡ one_listed 1 0
    → ReadsItem plan image item offset 0 numbers
unfolding value_numbers
took_null plan image item offset e s = record {
  few = omega arith;
  reads = λ b by. rw (s, add-zero) (item_null plan image by item offset e);
}

pub took_left : (plan image : List ℕ) (item offset : ℕ) (room exit : List ℕ) → exit ≡ room → TookItem plan image item offset room exit None
took_left plan image item offset room exit e = e

pub took_read : (plan image : List ℕ) (item offset op : ℕ) (room exit : List ℕ) {slot eight : List ℕ} (n : Option ℕ)
    → offset + 8 ≤ length image → eight ≡ take 8 (drop offset image) → bit_lsb0 image item ≡ false → op ≡ get_or plan (3 * item) 0
    → slot ≡ room → Took (shape_for op) eight slot exit n → TookItem plan image item offset room exit n
took_read plan image item offset op room exit (Some n) h q e o r t =
    let j = le_value (take 2 (drop (3 * item + 1) plan)) in
    record { few = t.few; reads = λ b by. item_read plan image by item offset op j e o refl ∙ t.reads image b offset h q by j }
took_read plan image item offset op room exit None h q e o r t = t ∙ r

-- ---- the loop that reads fast, up to a limit: for each item before it eight bytes and room for a value are there
pub record Taking (plan images : List ℕ) (items room had : ℕ) (d₀ : List ℕ) (here : RowCursor) (d : List ℕ)
    (item offset values limit : ℕ) : Type 0 where
  pub run : Running plan images items room had d₀ here d item offset values
  pub space : values + (limit - item) ≤ room
  pub bytes : offset + 8 * (limit - item) ≤ length images - here.start
  pub most : limit ≤ items

-- the limit: as many items as there are, as there is room for, and as there are eight bytes for
min_left : (a b : ℕ) → min a b ≤ a
min_left a b = omega arith

min_right : (a b : ℕ) → min a b ≤ b
min_right a b = omega arith

within : (items room had item offset len a b : ℕ) → item < items → had < room → offset ≤ len → a ≤ items - item → a ≤ room - had → b ≤ a
    → b ≤ (len - offset) / 8 → (item + b ≤ items) × (had + b ≤ room) × (offset + 8 * b ≤ len)
within items room had item offset len a b i h o x y z u = (omega arith, omega arith, omega arith)

pub limit_of : (items room had item offset len left a b : ℕ) → item < items → had < room → offset ≤ len → len ≡ left
    → a ≡ min (items - item) (room - had) → b ≡ min a ((len - offset) / 8)
    → (item + b ≤ items) × (had + b ≤ room) × (offset + 8 * b ≤ left)
limit_of items room had item offset len left a b i h o e ea eb =
    let w = within items room had item offset len a b i h o (rw ea (min_left _ _)) (rw ea (min_right _ _)) (rw eb (min_left _ _))
    (rw eb (min_right _ _)) in
    (w.0, w.1, rw (← e) w.2)

pub take_begin : (plan images : List ℕ) (items room had : ℕ) (d : List ℕ) (here : RowCursor) (b : ℕ) → Stands plan images items here
    → had < room → here.item + b ≤ items → had + b ≤ room → here.offset + 8 * b ≤ length images - here.start
    → Taking plan images items room had d here d here.item here.offset had (here.item + b)
take_begin plan images items room had d here b t h x y z =
    let m : here.item + b - here.item ≡ b = omega arith in
    record { run = run_begin plan images items room had d here t h; space = rw m y; bytes = rw m z; most = x }

pub take_fits : (offset limit item len n : ℕ) → offset + 8 * (limit - item) ≤ len → item < limit → n ≤ 9 → len < 2 ^ 64
    → offset + (n - 1) < 2 ^ 64
take_fits offset limit item len n h l f b = omega arith

module _ (plan images : List ℕ) (items room had : ℕ) (d₀ : List ℕ) (here : RowCursor) (t : Stands plan images items here) (d : List ℕ)
    (item offset values limit : ℕ) (r : Taking plan images items room had d₀ here d item offset values limit) (l : item < limit)
    {im : List ℕ} (is : im ≡ drop here.start images) where
  pub take_turn : (n : ℕ) (ns d' : List ℕ) → Bytes im → ReadsItem plan im item offset n ns
      → d' ≡ stored ns d (8 * values) → length d' ≡ length d
      → Taking plan images items room had d₀ here d' (item + 1) (offset + n) (values + 1) limit
  take_turn n ns d' b k u e = record {
    run = run_turn plan images items room had d₀ here t d item offset values r.run (omega (arith, r.space)) (omega (arith, r.most)) is ns
        (offset + n) d' (k.reads b here.start) u e;
    space = omega (arith, r.space);
    bytes = omega (arith, r.bytes, k.few);
    most = r.most;
  }

-- ---- the loop through one image, at a cursor
pub record Along (plan images : List ℕ) (items room had : ℕ) (d₀ : List ℕ) (here : RowCursor) (d : List ℕ) (at : RowCursor) (values : ℕ) :
    Type 0 where
  pub run : Running plan images items room had d₀ here d at.item at.offset values
  pub start : at.start ≡ here.start

module _ (plan images : List ℕ) (items room had : ℕ) (d₀ : List ℕ) (here : RowCursor) (d : List ℕ) (at : RowCursor) (values : ℕ)
    (r : Along plan images items room had d₀ here d at values) where
  pub along_goes : run_from (room - values) plan images at values d ≡ run_from (room - had) plan images here had d₀
  along_goes =
      ap (λ (s : ℕ). run_from (room - values) plan images (row_cursor s at.item at.offset) values d) r.start ∙ r.run.goes

  pub along_stands : Stands plan images items here → at.item < items → Stands plan images items at
  along_stands t i = record {
    count = t.count;
    item = i;
    nulls = omega (arith, t.nulls, r.start);
    offset = omega (arith, r.run.inside, r.start);
  }

  -- on from where another run stood that began here
  pub along_join : (d' : List ℕ) (item offset values' : ℕ) → Running plan images items room values d at d' item offset values'
      → Along plan images items room had d₀ here d' (row_cursor here.start item offset) values'
  along_join d' item offset values' q = record {
    run = record {
      more = omega (arith, r.run.more, q.more);
      most = q.most;
      counted = q.counted;
      first = λ e. q.first (omega (arith, r.run.more, q.more, e));
      same = q.same ∙ r.run.same;
      inside = omega (arith, q.inside, r.start);
      goes =
          ap (λ (s : ℕ). run_from (room - values') plan images (row_cursor s item offset) values' d') (sym r.start) ∙ q.goes ∙ along_goes;
    };
    start = refl;
  }
