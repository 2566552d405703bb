-- The walk as a loop over inner steps comes to its end: what a step leaves of it, and that each step's cursor stands further on. Assumes
-- nothing.
use Prim.Native.Nat.{ℕ, ◌+◌, ◌-◌, ◌≤◌, ◌<◌}
use mathlib.Core.Path.{◌≡◌, refl, sym, ap, subst, ◌∙◌}
use mathlib.Core.Bool.{Bool, true, false}
use mathlib.Core.Logic.{dite, inl, inr, ◌⊎◌}
use mathlib.Core.List.{List, [], ◌∷◌}
use native.Mathlib.Decide.{dec_le}
use native.Mathlib.Omega.{arith}
use borrow.Author.Tests.{le-ltb, lt-ltb}
use lib.ListN.{length, drop, length-drop}
use Rattle.wire.specs.declared.refusal.Refusal.{Refusal}
use Rattle.wire.specs.Outcome.{Outcome, ok, refused, refuse, after}
use Rattle.wire.proofs.Outcomes.{after_is_ok, same_ok}
use Rattle.value.specs.declared.datum.Value.{Value}
use Rattle.value.specs.declared.shape.Shape.{Shape}
use Rattle.value.specs.Reading.{read_datum, read_value}
use Rattle.value.proofs.Laws.{took}
use Rattle.record.specs.Records.{count_of}
use Rattle.image.specs.declared.cursor.Cursor.{Cursor}
use Rattle.image.specs.declared.cursor.Head.{Head}
use Rattle.image.specs.declared.step.InnerCursor.{InnerCursor}
use Rattle.image.specs.declared.step.Step.{Step}
use Rattle.image.specs.Present.{count_bits, first_from}
use Rattle.image.specs.Split.{Slot, slots_at, cursor, head_of, first_cursor, ColumnStepped, null, value, end, step_over, slots_left}
use Rattle.image.specs.Inner.Steps.{inner_told, Ranked, Placed}
use Rattle.image.specs.Walk.{RowWalked, going_on, walk_from, walk_image, row_onward}
use Rattle.image.proofs.PresenceLaws.Firsts.{first_is, count_none, slot_at, slots_end, slots_first}
use Rattle.image.proofs.CursorLaws.Heads.{head_tested, placed}
use Rattle.image.proofs.StepLaws.Steps.{step_goes}
use Rattle.image.proofs.CursorLaws.Ways.{walk_on}

-- ---- a value that was read ends within the image
pub value_within : (sh : Shape) (j : ℕ) (im : List ℕ) (o : ℕ) (x : Value × ℕ) → o ≤ length im → read_value sh j im o ≡ ok x
    → x.1 ≤ length im
unfolding read_value
value_within sh j im o x l e =
    let a = after_is_ok (read_datum sh j (drop o im)) _ x e in
    let t = took sh j (drop o im) a.0.0 a.0.1 a.1 in
    let n : o + a.0.1 ≡ x.1 = ap (λ (y : Value × ℕ). y.1) (same_ok a.2) in
    omega (arith, t.fits, length-drop o im)

-- ---- a step's cursor: further on, at most behind the last of n columns, and within the image
pub record Further (n j m : ℕ) (c : Cursor) : Type 0 where
  pub on : j < c.column
  pub column : c.column ≤ n
  pub offset : c.offset ≤ m

abbrev pub Moves : ℕ → ℕ → ℕ → ColumnStepped → Type 0
Moves n j m (null k c) = Further n j m c
Moves n j m (value k v c) = Further n j m c
Moves n j m (end used) = Unit {0}

moves_more : (n j : ℕ) (im : List ℕ) (i : Slot) (is : List Slot) (o : ℕ) (t : ColumnStepped) → j ≤ i.present.column
    → i.present.column < n → o ≤ length im
    → step_over (i ∷ is) im o ≡ ok t → Moves n j (length im) t
unfolding step_over
moves_more n j im i is o t a b l e = go i.null refl
  where
    go : (b : Bool) → i.null ≡ b → Moves n j (length im) t
    go true u =
        let w : null i.present.column (cursor (i.present.column + 1) o) ≡ t = same_ok (rw u at e) in
        subst (Moves n j (length im)) w (record { on = omega arith; column = omega arith; offset = l })
    go false u =
        let r = after_is_ok (read_value i.present.shape i.present.column im o) _ t (rw u at e) in
        subst (Moves n j (length im)) (same_ok r.2)
        (record {
          on =
              omega arith;
          column = omega arith;
          offset = value_within i.present.shape i.present.column im o r.0 l r.1;
        })

moves_end : (n j : ℕ) (im : List ℕ) (o : ℕ) (t : ColumnStepped) → step_over [] im o ≡ ok t → Moves n j (length im) t
unfolding step_over
moves_end n j im o t e = subst (Moves n j (length im)) (same_ok e) tt

pub moves : (r p im : List ℕ) (j o : ℕ) (t : ColumnStepped) → j ≤ count_of r → o ≤ length im → step_over (slots_at r p im j) im o ≡ ok t
    → Moves (count_of r) j (length im) t
moves r p im j o t h l e =
    let n = count_of r in
    let f = first_from (n - j) p j in
    let i = first_is (n - j) p j in
    dite (dec_le n f)
    (λ (a : n ≤ f). moves_end n j im o t (rw (slots_end r p im j h a) at e))
    (λ a. let b : f < n = omega arith in
    moves_more n j im (slot_at r p im f) (slots_at r p im (f + 1)) o t i.low b l (rw (slots_first r p im j h b) at e))

-- ---- the loop
-- what holds at each turn: the cursor is one that an inner step can count on, and the walk ends as it does from there
pub record Going (r p im : List ℕ) (columns : ℕ) (at : InnerCursor) : Type 0 where
  pub placed : Placed r p columns at
  pub within : at.cursor.offset ≤ length im
  pub rest : (walk_image r p im).how ≡ (walk_from r p im at.cursor).how

-- before the first turn
pub walk_refused : (r p im : List ℕ) {w : Refusal} → head_of r p ≡ refused w → (walk_image r p im).how ≡ refused w
unfolding walk_image first_cursor
walk_refused r p im e = rw e

module _ (r p im : List ℕ) {h : Head} (e : head_of r p ≡ ok h) where
  pub walk_begins : walk_image r p im ≡ walk_from r p im (cursor 0 h.nulls)
  unfolding walk_image first_cursor
  walk_begins = ap (λ (x : Outcome Head). going_on (walk_from r p im) (after x (λ g. ok (cursor 0 g.nulls)))) e

  pub walk_cut : length im < h.nulls → (walk_image r p im).how ≡ refuse 9 0
  unfolding walk_from slots_left
  walk_cut l = ap (λ (w : RowWalked). w.how) walk_begins ∙ rw (e, le-ltb h.columns 0 (omega arith), lt-ltb (length im) h.nulls l)

  module _ (l : h.nulls ≤ length im) where
    pub going_first : Going r p im h.columns (record { cursor = cursor 0 h.nulls; rank = 0 })
    going_first =
        record {
          placed = placed r p (record { cursor = cursor 0 h.nulls; rank = 0 }) e (omega arith) (sym (count_none p));
          within = l;
          rest = ap (λ (w : RowWalked). w.how) walk_begins;
        }

    -- x being what the step at the cursor answered
    module _ {at : InnerCursor} (g : Going r p im h.columns at) (x : Outcome (Step InnerCursor))
        (q : inner_told x ≡ step_over (slots_at r p im at.cursor.column) im at.cursor.offset) where
      -- the walk ends as it ends from the step's cursor
      rest_is : (walk_image r p im).how ≡ (row_onward (walk_from r p im) im (inner_told x)).how
      rest_is =
          g.rest
          ∙ ap (λ (w : RowWalked). w.how)
          (walk_on r p im at.cursor
          ∙ ap (row_onward (walk_from r p im) im) (step_goes r p im at.cursor e g.placed.column l g.within ∙ sym q))

      further : (t : ColumnStepped) → inner_told x ≡ ok t → Moves h.columns at.cursor.column (length im) t
      further t y =
          let n = (head_tested r p e).columns in
          subst (λ (m : ℕ). Moves m at.cursor.column (length im) t) (sym n)
          (moves r p im at.cursor.column at.cursor.offset t (omega (arith, g.placed.column)) g.within (sym q ∙ y))

      next_going : (next : InnerCursor) → Further h.columns at.cursor.column (length im) next.cursor
          → next.rank ≡ count_bits p next.cursor.column
          → (walk_image r p im).how ≡ (walk_from r p im next.cursor).how → Going r p im h.columns next
      next_going next f k w =
          record {
            placed =
                record { count = g.placed.count; few = g.placed.few; column = f.column; rank = k };
            within = f.offset;
            rest = w;
          }

      pub going_null : (j : ℕ) (next : InnerCursor) → x ≡ ok (null j next) → Ranked p x
          → (at.cursor.column < next.cursor.column) × Going r p im h.columns next
      going_null j next y k =
          let f : Further h.columns at.cursor.column (length im) next.cursor = further (null j next.cursor) (ap inner_told y) in
          (f.on, next_going next f (rw y at k) (rest_is ∙ ap (λ (z : Outcome (Step InnerCursor)). (row_onward (walk_from r p im) im (inner_told z)).how) y))

      pub going_value : (j : ℕ) (v : Value) (next : InnerCursor) → x ≡ ok (value j v next) → Ranked p x
          → (at.cursor.column < next.cursor.column) × Going r p im h.columns next
      going_value j v next y k =
          let f : Further h.columns at.cursor.column (length im) next.cursor = further (value j v next.cursor) (ap inner_told y) in
          (f.on, next_going next f (rw y at k) (rest_is ∙ ap (λ (z : Outcome (Step InnerCursor)). (row_onward (walk_from r p im) im (inner_told z)).how) y))

      pub going_further : {t : Step InnerCursor} {next : InnerCursor} → x ≡ ok t
          → ((j : ℕ) × (t ≡ null j next)) ⊎ ((j : ℕ) × (v : Value) × (t ≡ value j v next)) → Ranked p x
          → (at.cursor.column < next.cursor.column) × Going r p im h.columns next
      going_further y (inl (j, z)) k = going_null j _ (y ∙ ap ok z) k
      going_further y (inr (j, v, z)) k = going_value j v _ (y ∙ ap ok z) k

      pub going_end : (used : ℕ) → x ≡ ok (end used) → ok used ≡ (walk_image r p im).how
      going_end used y = sym (rest_is ∙ ap (λ (z : Outcome (Step InnerCursor)). (row_onward (walk_from r p im) im (inner_told z)).how) y)

      pub going_refused : (w : Refusal) → x ≡ refused w → refused w ≡ (walk_image r p im).how
      going_refused w y = sym (rest_is ∙ ap (λ (z : Outcome (Step InnerCursor)). (row_onward (walk_from r p im) im (inner_told z)).how) y)
