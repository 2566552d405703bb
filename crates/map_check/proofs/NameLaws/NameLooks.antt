-- The names of columns: a turn of the loop over the list that is looked at, and of the loop over a map's fields that looks for its names.
-- Assumes nothing.
use Rattle.std.specs.Prelude.{None, Option, Some}
use Prim.Native.Nat.{ℕ, zero, suc, ◌-◌, ◌≤◌, ◌<◌}
use mathlib.Core.Path.{◌≡◌, refl, ap, ◌∙◌}
use mathlib.Core.List.{List, []}
use native.Mathlib.Omega.{arith}
use borrow.Author.Tests.{eq-eqb, ne_eqb}
use lib.ListN.{length, get_or}
use Rattle.wire.specs.declared.refusal.Refusal.{Refusal}
use Rattle.wire.specs.Outcome.{Outcome, ok, refused, refuse}
use Rattle.wire.specs.declared.part.Part.{Part}
use Rattle.wire.specs.Parts.{part, lent_part}
use Rattle.wire.proofs.Outcomes.{ok_not_refused, same_refused}
use Rattle.value.specs.declared.classes.Dialect.{Dialect}
use Rattle.table_map.specs.declared.event.Event.{Event}
use Rattle.table_map.specs.declared.field.Fields.{Fields as FieldCursor}
use Rattle.table_map.specs.Events.{read_event}
use Rattle.table_map.specs.Lists.{end, item, step, Ended, whole, broken, ItemsWalked, items_onward, walk_items, string_item}
use Rattle.table_map.specs.Fields.{field_item, field_step}
use Rattle.table_map.proofs.Steps.{step_end}
use Rattle.table_map.proofs.Items.{string_moves}
use Rattle.table_map.proofs.Walks.{item_moves, walk_steps_lem}
use Rattle.table_map.proofs.Optional.{field_stepped, field_ended, field_broken, field_moves}
use Rattle.map_check.specs.Ranks.{table_place}
use Rattle.map_check.specs.Fields.{first_of, fields_at, walk_fields}
use Rattle.map_check.specs.Names.{list_of, string_at, column_name, or_ended, names_in, names_field}
use Rattle.map_check.specs.Passes.{Between, none as no_item, more as one_item, ItemsAre}
use Rattle.map_check.proofs.FieldLaws.FieldTurns.{cursor_moves}
use Rattle.map_check.proofs.ContentsLaws.Tallies.{item_stepped, refusal_stepped}

-- ---- a string, `left` strings before the one asked
pub looks_found : (left asked : ℕ) (s : List ℕ) (at : ℕ) (p : Part) (next : ℕ) → left ≡ 0 → step string_item s at ≡ ok (item p next)
    → string_at left asked s at ≡ ok p
unfolding string_at
looks_found left asked s at p next h e = rw (h, e)

pub looks_on : (left asked : ℕ) (s : List ℕ) (at : ℕ) (p : Part) (next : ℕ) → (left ≡ 0 → ⊥) → step string_item s at ≡ ok (item p next)
    → string_at left asked s at ≡ string_at (left - 1) asked s next
unfolding string_at
looks_on zero asked s at p next h e = absurd (h refl)
looks_on (suc i) asked s at p next h e =
    let k : suc i - 1 ≡ i = omega arith in
    rw (k, e)

-- ---- none: the list ends first, or a string is broken
pub looks_end : (left asked : ℕ) (s : List ℕ) (at : ℕ) → step string_item s at ≡ ok end → string_at left asked s at ≡ refuse 14 asked
unfolding string_at
looks_end zero asked s at e = rw e
looks_end (suc i) asked s at e = rw e

pub looks_broken : (left asked : ℕ) (s : List ℕ) (at : ℕ) (w : Refusal) → step string_item s at ≡ refused w
    → string_at left asked s at ≡ refused w
unfolding string_at
looks_broken zero asked s at w e = rw e
looks_broken (suc i) asked s at w e = rw e

pub string_steps : (s : List ℕ) (at : ℕ) (p : Part) (next : ℕ) → step string_item s at ≡ ok (item p next) → (at < next) × (next ≤ length s)
string_steps = item_moves string_item string_moves

-- what the loop over the list turns on
pub ruleset string_looks = (looks_found, looks_on, looks_end, looks_broken, string_steps)

-- ---- strings laid end to end: a step meets the first of them
laid_stepped : (s : List ℕ) (at : ℕ) (p : Part) (next : ℕ) → string_item s at ≡ ok (p, next) → step string_item s at ≡ ok (item p next)
laid_stepped s at p next e =
    let w = string_moves.moves s at p next e in
    item_stepped string_item s at p next (omega (arith, w.0, w.1)) e

-- string j of them
pub laid_found : {s : List ℕ} {at to : ℕ} {xs : List Part} → Between string_item s at to xs → (j asked : ℕ) → j < length xs
    → string_at j asked s at ≡ ok (get_or xs j (part 0 0))
unfolding string_at
laid_found no_item j asked h = absurd (omega arith)
laid_found {s} {at} (one_item {next = next} {a = a} e b) zero asked h = rw (laid_stepped s at a next e)
laid_found {s} {at} (one_item {next = next} {a = a} e b) (suc j) asked h =
    rw (laid_stepped s at a next e) (laid_found b j asked (omega arith))

-- one behind them is what is found from their end on, if that is the same for all
laid_behind : {s : List ℕ} {at to : ℕ} {xs : List Part} → Between string_item s at to xs → (o : Outcome Part) (asked : ℕ)
    → ((i : ℕ) → string_at i asked s to ≡ o) → (j : ℕ) → length xs ≤ j → string_at j asked s at ≡ o
unfolding string_at
laid_behind no_item o asked f j h = f j
laid_behind (one_item e b) o asked f zero h = absurd (omega arith)
laid_behind {s} {at} (one_item {next = next} {a = a} e b) o asked f (suc j) h =
    rw (laid_stepped s at a next e) (laid_behind b o asked f j (omega arith))

pub laid_ended : {s : List ℕ} {xs : List Part} → ItemsAre string_item s xs → (j asked : ℕ) → length xs ≤ j
    → string_at j asked s 0 ≡ refuse 14 asked
laid_ended {s} b j asked h =
    laid_behind b (refuse 14 asked) asked (λ i. looks_end i asked s (length s) (step_end string_item s (length s) refl)) j h

pub laid_broken : {s : List ℕ} {to : ℕ} {xs : List Part} {w : Refusal} → Between string_item s 0 to xs → to < length s
    → string_item s to ≡ refused w → (j asked : ℕ) → length xs ≤ j → string_at j asked s 0 ≡ refused w
laid_broken {s} {to} {xs} {w} b l e j asked h =
    laid_behind b (refused w) asked (λ i. looks_broken i asked s to w (refusal_stepped string_item s to w l e)) j h

-- ---- which list is looked at
pub looks_names : (names operator : List ℕ) (j : ℕ) → 0 < length names → column_name names operator (table_place j) ≡ string_at j j names 0
unfolding column_name list_of
looks_names names operator j h = rw (ne_eqb (length names) 0 (λ e. omega (arith, e, h)))

pub looks_operator : (operator : List ℕ) (j : ℕ) → column_name [] operator (table_place j) ≡ string_at j j operator 0
unfolding column_name list_of
looks_operator operator j = refl

-- ---- the names among a map's fields: a walk is what its step met, and the walk from the next
fields_turn : (c : FieldCursor) (s : List ℕ)
    → walk_fields c s ≡ items_onward (walk_items (field_item c.numeric c.columns) s)
    (step (field_item c.numeric c.columns) s c.at)
fields_turn c s = walk_steps_lem (field_item c.numeric c.columns) (field_moves c.numeric c.columns) s c.at

pub names_met : (c : FieldCursor) (s : List ℕ) (f : ℕ × Part) (next : FieldCursor) → field_step c s ≡ ok (item f next) → f.0 ≡ 4
    → names_in (walk_fields c s) ≡ ok (Some f.1)
unfolding first_of
names_met c s f next e k = ap names_in (fields_turn c s) ∙ rw ((field_stepped c s f next e).0, eq-eqb f.0 4 k)

pub names_later : (c : FieldCursor) (s : List ℕ) (f : ℕ × Part) (next : FieldCursor) → field_step c s ≡ ok (item f next) → (f.0 ≡ 4 → ⊥)
    → names_in (walk_fields c s) ≡ names_in (walk_fields next s)
unfolding first_of
names_later c s f next e k =
    let w = field_stepped c s f next e in
    ap names_in (fields_turn c s) ∙ rw (w.0, w.1, w.2, ne_eqb f.0 4 k)

pub names_absent : (c : FieldCursor) (s : List ℕ) → field_step c s ≡ ok end → names_in (walk_fields c s) ≡ ok None
unfolding first_of
names_absent c s e = ap names_in (fields_turn c s) ∙ rw (field_ended c s e)

pub names_refused : (c : FieldCursor) (s : List ℕ) (w : Refusal) → field_step c s ≡ refused w → names_in (walk_fields c s) ≡ refused w
unfolding first_of
names_refused c s w e = ap names_in (fields_turn c s) ∙ rw (field_broken c s w e)

-- what the loop over the fields turns on
pub ruleset names_looks = (names_met, names_later, names_absent, names_refused, cursor_moves)

-- a refusal is that of the walk
pub names_broken : (w : ItemsWalked (ℕ × Part)) (v : Refusal) → names_in w ≡ refused v → w.how ≡ broken v
names_broken w v e = go (first_of 4 w.items) w.how e
  where
    go : (f : Option Part) (how : Ended) → or_ended f how ≡ refused v → how ≡ broken v
    go (Some p) how e = absurd (ok_not_refused e)
    go None whole e = absurd (ok_not_refused e)
    go None (broken r) e = ap broken (same_refused e)

-- and before it no names were met
pub names_unmet : (w : ItemsWalked (ℕ × Part)) (v : Refusal) → names_in w ≡ refused v → first_of 4 w.items ≡ None
names_unmet w v e = go (first_of 4 w.items) w.how e
  where
    go : (f : Option Part) (how : Ended) → or_ended f how ≡ refused v → f ≡ None
    go (Some p) how e = absurd (ok_not_refused e)
    go None how e = refl

pub same_broken : {v w : Refusal} → broken v ≡ broken w → v ≡ w
same_broken e = cc

-- the names of a map, from what the code did
pub names_of_map : (d : Dialect) (s : List ℕ) (post_header : ℕ) (e : Event) (types : List ℕ) (c : FieldCursor) (o : Outcome (Option Part))
    → read_event s post_header ≡ ok e → types ≡ lent_part s e.types → c ≡ fields_at d types e.optional.start
    → o ≡ names_in (walk_fields c s)
    → o ≡ names_field d s post_header
names_of_map d s post_header e types c o r t n h =
    let x = n ∙ ap (λ (l : List ℕ). fields_at d l e.optional.start) t in
    h ∙ ap (λ (f : FieldCursor). names_in (walk_fields f s)) x ∙ rw r
