-- Walking a map by the calls for C: lists and fields item by item, and of a map that is accepted all of them. Assumes nothing.
use Prim.Native.Nat.{ℕ, zero, suc, ◌+◌, ◌≤◌, ◌<◌}
use mathlib.Core.Path.{◌≡◌, refl, sym, ap, subst, ◌∙◌}
use mathlib.Core.Bool.{Bool, true, false, ◌||◌, false≢true}
use mathlib.Core.List.{List, [], ◌∷◌, map, map-id}
use native.Mathlib.Omega.{arith}
use borrow.Author.Tests.{eqb-true}
use lib.ListN.{length, length-map, get_or}
use lib.Dec.{eqb}
use Rattle.std.specs.Prelude.{Some}
use Rattle.wire.specs.Bits.{bytes_for}
use Rattle.wire.specs.Number.{is_among}
use Rattle.wire.specs.Outcome.{Outcome, ok, refused, after}
use Rattle.wire.specs.declared.part.Part.{Part}
use Rattle.wire.specs.Parts.{lent_part}
use Rattle.wire.proofs.Outcomes.{after_is_ok, ok_not_refused, same_ok}
use Rattle.wire.proofs.Forms.{read_moves}
use Rattle.value.specs.declared.classes.Dialect.{Dialect}
use Rattle.table_map.specs.declared.event.Event.{Event}
use Rattle.table_map.specs.Parts.{long_part}
use Rattle.table_map.specs.Events.{read_event}
use Rattle.table_map.specs.Lists.{Rule, Stepped, end, item, step, strings, integer_item, pair_item, string_item, group_item}
use Rattle.table_map.specs.Fields.{field_item, with_cursor, field_step}
use Rattle.table_map.proofs.Chains.{laid}
use Rattle.table_map.proofs.Steps.{step_end, step_before, item_read}
use Rattle.table_map.proofs.Items.{Moves, long_moves, integer_moves, pair_moves, string_moves, group_moves, group_strings}
use Rattle.table_map.proofs.Optional.{field_moves, field_read}
use Rattle.record.specs.declared.entry.Entry.{Entry}
use Rattle.map_check.specs.declared.declare.Declared.{Declared}
use Rattle.map_check.specs.Contents.{is_whole}
use Rattle.map_check.specs.Ranks.{sizes_of}
use Rattle.map_check.specs.Fields.{fields_at}
use Rattle.map_check.specs.Check.{check_event, check_map}
use Rattle.map_check.specs.Passes.{Member, here, later, Each, Between, none, more, Field, of_type, count, Contents}
use Rattle.map_check.specs.Passes.{names, set_strings, enum_strings, geometry_types, simple_key, prefix_key, dimensions, EntriesAre}
use Rattle.map_check.specs.Passes.{no_entry, an_entry, ColumnsAre, no_column, a_column}
use Rattle.map_check.proofs.ContentsLaws.Laid.{whole_laid}
use Rattle.map_check.proofs.FieldLaws.KeptFields.{kept_walk}
use Rattle.map_check.proofs.FieldLaws.Lined.{bare, kept_stood}
use Rattle.map_check.proofs.NameLaws.Naming.{fields_same}
use Rattle.map_check.proofs.MapLaws.Relied.{chained}
use Rattle.map_check.proofs.MapLaws.Passing.{passed}
use Rattle.feed_abi.specs.Calls.{said, dialect_of}
use Rattle.feed_abi.specs.Fields.{parts_numbers, fields_from, field_numbers, in_two, item_at, item_numbers, feed_parts, feed_field}
use Rattle.feed_abi.specs.Fields.{feed_item}
use Rattle.feed_abi.proofs.Tells.{fields_asked}
use Rattle.promises.specs.MapWalks.{ItemsMet, no_item, an_item, FieldsMet, no_field, a_field, of_real, OneEach, MapMet, MapWalks}
use Rattle.promises.specs.MapWalks.{set_strings as of_sets, enum_strings as of_enums, geometry_types as of_geometry}
use Rattle.promises.specs.MapWalks.{dimensions as of_vectors}

-- ---- a list that the number stands for, by its rule and the two numbers of an item
record Stands {A : Type 0} (list : ℕ) (rule : Rule A) (f : A → ℕ × ℕ) : Type 0 where
  tells : (value : List ℕ) (o : ℕ) → feed_item list value o ≡ said item_numbers (in_two f (step rule value o))
  moves : Moves rule

integers_stand : Stands 1 integer_item (λ n. (n, 0))
unfolding feed_item item_at
integers_stand = record { tells = λ value o. refl; moves = integer_moves }

pairs_stand : Stands 2 pair_item (λ p. p)
unfolding feed_item item_at
pairs_stand = record { tells = λ value o. refl; moves = pair_moves }

strings_stand : Stands 3 string_item (λ s. (s.start, s.len))
unfolding feed_item item_at
strings_stand = record { tells = λ value o. refl; moves = string_moves }

groups_stand : Stands 4 group_item (λ g. g)
unfolding feed_item item_at
groups_stand = record { tells = λ value o. refl; moves = group_moves }

-- items that lie end to end are met
items_met : {A : Type 0} {list : ℕ} {rule : Rule A} {f : A → ℕ × ℕ} → Stands list rule f → {value : List ℕ} {o to : ℕ} {items : List A}
    → Between rule value o to items → ItemsMet list value o to (map f items)
items_met w none = no_item
items_met {rule = rule} {f = f} w {value} {o} (more {next = next} {a = a} e b) =
    let m = w.moves.moves value o a next e in
    an_item {a = (f a).0} {b = (f a).1} {next = next} (w.tells value o ∙ rw (step_before rule value o (omega (arith, m.0, m.1)), e))
    (items_met w b)

-- at the end the end is told
item_ended : {A : Type 0} {list : ℕ} {rule : Rule A} {f : A → ℕ × ℕ} → Stands list rule f → (value : List ℕ)
    → feed_item list value (length value) ≡ ok (0 ∷ 0 ∷ 0 ∷ 0 ∷ [])
item_ended {rule = rule} w value = w.tells value (length value) ∙ rw (step_end rule value (length value) refl)

-- what an item that is told was read from
item_told_lem : {A : Type 0} (f : A → ℕ × ℕ) (o : Outcome (Stepped A ℕ)) (a b next : ℕ)
    → said item_numbers (in_two f o) ≡ ok (1 ∷ a ∷ b ∷ next ∷ [])
    → (x : A) × (o ≡ ok (item x next)) × ((f x).0 ≡ a) × ((f x).1 ≡ b)
item_told_lem f (ok end) a b next e = let z : ◌≡◌ {A = ℕ} 0 1 = ap (λ (l : List ℕ). get_or l 0 0) (same_ok e) in absurd (omega arith)
item_told_lem f (ok (Some x)) a b next e =
    let l = same_ok e in
    let q : x.1 ≡ next = ap (λ (l : List ℕ). get_or l 3 0) l in
    (x.0, ap (λ (m : ℕ). ok (item x.0 m)) q, ap (λ (l : List ℕ). get_or l 1 0) l, ap (λ (l : List ℕ). get_or l 2 0) l)
item_told_lem f (refused r) a b next e = absurd (ok_not_refused (sym e))

map_each : {A B : Type 0} (f : A → B) (P : B → Type 0) (l : List A) → Each (λ a. P (f a)) l → Each P (map f l)
map_each {A = A} {B = B} f P [] h b x'' = elim x'' [ ]
map_each f P (a ∷ l) h b (here q) = subst P (sym q) (h a (here refl))
map_each f P (a ∷ l) h b (later m) = map_each f P l (λ c n. h c (later n)) b m

pairs_met : {value : List ℕ} {o to : ℕ} {items : List (ℕ × ℕ)} → Between pair_item value o to items → ItemsMet 2 value o to items
pairs_met {value} {o} {to} {items} b = subst (ItemsMet 2 value o to) (map-id items) (items_met pairs_stand b)

groups_met : {value : List ℕ} {o to : ℕ} {items : List (ℕ × ℕ)} → Between group_item value o to items → ItemsMet 4 value o to items
groups_met {value} {o} {to} {items} b = subst (ItemsMet 4 value o to) (map-id items) (items_met groups_stand b)

-- ---- the strings of a group
strings_laid : (n : ℕ) (s : List ℕ) (at next : ℕ) → strings n s at ≡ ok next
    → (items : List Part) × Between string_item s at next items × (length items ≡ n)
unfolding strings
strings_laid zero s at next e = ([], subst (λ (to : ℕ). Between string_item s at to []) (same_ok e) none, refl)
strings_laid (suc n) s at next e =
    let x = after_is_ok (long_part s at) (λ x. strings n s x.1) next e in
    let y = strings_laid n s x.0.1 next x.2 in
    (x.0.0 ∷ y.0, more x.1 y.1, ap suc y.2)

group_met : (value : List ℕ) (o count first next : ℕ) → feed_item 4 value o ≡ ok (1 ∷ count ∷ first ∷ next ∷ [])
    → (items : List (ℕ × ℕ)) × ItemsMet 3 value first next items × (length items ≡ count)
group_met value o count first next e =
    let x = item_told_lem (λ g. g) (step group_item value o) count first next (sym (groups_stand.tells value o) ∙ e) in
    let g = group_strings value o x.0.0 x.0.1 next (item_read group_item value o x.0 next x.1).1 in
    let r : strings count value first ≡ ok next =
    ap (λ (n : ℕ). strings n value first) (sym x.2) ∙ ap (λ (p : ℕ). strings x.0.0 value p) (sym x.3) ∙ g.1 in
    let y = strings_laid count value first next r in
    (map (λ (p : Part). (p.start, p.len)) y.0, items_met strings_stand y.1, length-map y.0 _ ∙ y.2)

string_within : (value : List ℕ) (o start len next : ℕ) → feed_item 3 value o ≡ ok (1 ∷ start ∷ len ∷ next ∷ [])
    → (o < start) × (start + len ≡ next) × (next ≤ length value)
string_within value o start len next e =
    let x = item_told_lem (λ s. (s.start, s.len)) (step string_item value o) start len next (sym (strings_stand.tells value o) ∙ e) in
    let m = long_moves value o x.0 next (item_read string_item value o x.0 next x.1).1 in
    (omega (arith, m.0, x.2), omega (arith, m.1, x.2, x.3), m.2)

-- which list it is
list_ended : (list : ℕ) (value : List ℕ) → is_among list (1 ∷ 2 ∷ 3 ∷ 4 ∷ []) ≡ true
    → feed_item list value (length value) ≡ ok (0 ∷ 0 ∷ 0 ∷ 0 ∷ [])
unfolding is_among
list_ended list value e = go (eqb list 1) (eqb list 2) (eqb list 3) (eqb list 4) refl refl refl refl e
  where
    ended : ℕ → Type 0
    ended n = feed_item n value (length value) ≡ ok (0 ∷ 0 ∷ 0 ∷ 0 ∷ [])

    is : (n : ℕ) → ended n → eqb list n ≡ true → ended list
    is n h t = subst ended (sym (eqb-true list n t)) h

    go : (a b c d : Bool) → eqb list 1 ≡ a → eqb list 2 ≡ b → eqb list 3 ≡ c → eqb list 4 ≡ d
        → (a || (b || (c || (d || false)))) ≡ true → ended list
    go true b c d p q r s u = is 1 (item_ended integers_stand value) p
    go false true c d p q r s u = is 2 (item_ended pairs_stand value) q
    go false false true d p q r s u = is 3 (item_ended strings_stand value) r
    go false false false true p q r s u = is 4 (item_ended groups_stand value) s
    go false false false false p q r s u = absurd (false≢true u)

-- ---- fields
field_told_lem : (numeric columns : ℕ) (event : List ℕ) (o : ℕ) (a : ℕ × Part) (next : ℕ) → field_item numeric columns event o ≡ ok (a, next)
    → feed_field event o numeric columns ≡ ok (1 ∷ a.0 ∷ a.1.start ∷ a.1.len ∷ next ∷ [])
unfolding feed_field field_step
field_told_lem numeric columns event o a next e =
    let m = (field_moves numeric columns).moves event o a next e in
    rw (step_before (field_item numeric columns) event o (omega (arith, m.0, m.1)), e)

fields_met : (numeric columns : ℕ) {event : List ℕ} {o to : ℕ} {fs : List (ℕ × Part)} → Between (field_item numeric columns) event o to fs
    → FieldsMet event numeric columns o to (bare event fs)
fields_met numeric columns none = no_field
fields_met numeric columns {event} {o} (more {next = next} {a = a} e b) =
    a_field {kind = a.0} {start = a.1.start} {len = a.1.len} {next = next} (field_told_lem numeric columns event o a next e)
    (fields_met numeric columns b)

field_ended : (event : List ℕ) (numeric columns : ℕ) → feed_field event (length event) numeric columns ≡ ok (0 ∷ 0 ∷ 0 ∷ 0 ∷ 0 ∷ [])
unfolding feed_field field_step
field_ended event numeric columns = rw (step_end (field_item numeric columns) event (length event) refl)

field_from : (numeric columns : ℕ) (event : List ℕ) (o kind start len next : ℕ) (t : Outcome (Stepped (ℕ × Part) ℕ))
    → step (field_item numeric columns) event o ≡ t
    → said field_numbers (after t (λ x. ok (with_cursor (fields_from o numeric columns) x))) ≡ ok (1 ∷ kind ∷ start ∷ len ∷ next ∷ [])
    → (p : Part) × (field_item numeric columns event o ≡ ok ((kind, p), next)) × (p.start ≡ start) × (p.len ≡ len)
field_from numeric columns event o kind start len next (ok end) h e =
    let z : ◌≡◌ {A = ℕ} 0 1 = ap (λ (l : List ℕ). get_or l 0 0) (same_ok e) in
    absurd (omega arith)
field_from numeric columns event o kind start len next (ok (Some x)) h e =
    let l = same_ok e in
    let f = x.0 in
    let q : x.1 ≡ next = ap (λ (l : List ℕ). get_or l 4 0) l in
    let k : f.0 ≡ kind = ap (λ (l : List ℕ). get_or l 1 0) l in
    let r = (item_read (field_item numeric columns) event o f x.1 h).1 in (
      f.1,
      r ∙ ap (λ (m : ℕ). ok (f, m)) q ∙ ap (λ (m : ℕ). ok ((m, f.1), next)) k,
      ap (λ (l : List ℕ). get_or l 2 0) l,
      ap (λ (l : List ℕ). get_or l 3 0) l,
    )
field_from numeric columns event o kind start len next (refused r) h e = absurd (ok_not_refused (sym e))

field_within : (event : List ℕ) (o numeric columns kind start len next : ℕ)
    → feed_field event o numeric columns ≡ ok (1 ∷ kind ∷ start ∷ len ∷ next ∷ [])
    → (o < start) × (start + len ≡ next) × (next ≤ length event)
unfolding feed_field field_step
field_within event o numeric columns kind start len next e =
    let x = field_from numeric columns event o kind start len next (step (field_item numeric columns) event o) refl e in
    let r = field_read numeric columns event o (kind, x.0) next x.1 in
    let m = long_moves event (o + 1) x.0 next r.value in
    (omega (arith, m.0, x.2), omega (arith, m.1, x.2, x.3), m.2)

-- ---- the parts of an event
parts_within : (event : List ℕ) (post_header types n meta m bits k optional l : ℕ)
    → feed_parts event post_header ≡ ok (types ∷ n ∷ meta ∷ m ∷ bits ∷ k ∷ optional ∷ l ∷ [])
    → (types + n < meta) × (meta + m ≡ bits) × (k ≡ bytes_for n) × (bits + k ≡ optional) × (optional + l ≡ length event)
unfolding feed_parts
parts_within event post_header types n meta m bits k optional l h =
    let x = after_is_ok (read_event event post_header) (λ e. ok (parts_numbers e)) _ h in
    let e = x.0 in
    let q = same_ok x.2 in
    let q0 : e.types.start ≡ types = ap (λ (z : List ℕ). get_or z 0 0) q in
    let q1 : e.types.len ≡ n = ap (λ (z : List ℕ). get_or z 1 0) q in
    let q2 : e.metadata.start ≡ meta = ap (λ (z : List ℕ). get_or z 2 0) q in
    let q3 : e.metadata.len ≡ m = ap (λ (z : List ℕ). get_or z 3 0) q in
    let q4 : e.bits.start ≡ bits = ap (λ (z : List ℕ). get_or z 4 0) q in
    let q5 : e.bits.len ≡ k = ap (λ (z : List ℕ). get_or z 5 0) q in
    let q6 : e.optional.start ≡ optional = ap (λ (z : List ℕ). get_or z 6 0) q in
    let q7 : e.optional.len ≡ l = ap (λ (z : List ℕ). get_or z 7 0) q in
    let y = laid event post_header e x.1 in
    let c = y.columns in
    let r = read_moves event (e.types.start + e.types.len) e.metadata.len e.metadata.start c.announced in (
      omega (arith, r.0, q0, q1, q2),
      omega (arith, c.bits_start, q2, q3, q4),
      sym q5 ∙ c.bits_len ∙ ap bytes_for q1,
      omega (arith, y.rest_start, q4, q5, q6),
      omega (arith, y.rest_len, q6, q7),
    )

-- ---- a map that is accepted
-- its entries are one for each column, of the same real type
entries_many : {d : Dialect} {bits : List ℕ} {fs : List Field} {before cs : List Declared} {es : List Entry}
    → EntriesAre d bits fs before cs es → length cs ≡ length es
entries_many no_entry = refl
entries_many (an_entry x r) = ap suc (entries_many r)

columns_many : {types meta : List ℕ} {cs : List Declared} → ColumnsAre types meta cs → length types ≡ length cs
columns_many no_column = refl
columns_many (a_column own rest e x r) = ap suc (columns_many r)

entries_real : (t : ℕ) {d : Dialect} {bits : List ℕ} {fs : List Field} {before cs : List Declared} {es : List Entry}
    → EntriesAre d bits fs before cs es → count (of_type t) cs ≡ of_real t es
unfolding count of_real
entries_real t no_entry = refl
entries_real t (an_entry x r) = rw (x.real_is, entries_real t r)

-- the items of a field's value, by its type: one for each column of a real type
each_one : {d : Dialect} {cs : List Declared} {kind list real : ℕ} {value : List ℕ} → OneEach kind list real → Contents d cs kind value
    → (items : List (ℕ × ℕ)) × ItemsMet list value 0 (length value) items × (length items ≡ count (of_type real) cs)
each_one of_sets (set_strings items b n) = (items, groups_met b, n)
each_one of_enums (enum_strings items b n) = (items, groups_met b, n)
each_one of_geometry (geometry_types items b n h) = (_, items_met integers_stand b, length-map items _ ∙ n)
each_one of_vectors (dimensions items b n) = (_, items_met integers_stand b, length-map items _ ∙ n)

geometry_of : {d : Dialect} {cs : List Declared} {value : List ℕ} → Contents d cs 7 value
    → (items : List (ℕ × ℕ)) × ItemsMet 1 value 0 (length value) items × Each (λ (x : ℕ × ℕ). x.0 ≤ 7) items
geometry_of (geometry_types items b n h) =
    (_, items_met integers_stand b, map_each (λ (n : ℕ). (n, 0)) (λ (x : ℕ × ℕ). x.0 ≤ 7) items h)

names_of : {d : Dialect} {cs : List Declared} {value : List ℕ} → Contents d cs 4 value
    → (items : List (ℕ × ℕ)) × ItemsMet 3 value 0 (length value) items × (length items ≡ length cs)
names_of (names items b n) = (_, items_met strings_stand b, length-map items _ ∙ n)

simple_of : {d : Dialect} {cs : List Declared} {value : List ℕ} → Contents d cs 8 value
    → (items : List (ℕ × ℕ)) × ItemsMet 1 value 0 (length value) items × Each (λ (x : ℕ × ℕ). x.0 < length cs) items
simple_of {cs = cs} (simple_key keys b h) =
    (_, items_met integers_stand b, map_each (λ (n : ℕ). (n, 0)) (λ (x : ℕ × ℕ). x.0 < length cs) keys h)

prefix_of : {d : Dialect} {cs : List Declared} {value : List ℕ} → Contents d cs 9 value
    → (items : List (ℕ × ℕ)) × ItemsMet 2 value 0 (length value) items × Each (λ (x : ℕ × ℕ). x.0 < length cs) items
prefix_of (prefix_key keys b h) = (keys, pairs_met b, h)

map_met : (d : Dialect) (event : List ℕ) (post_header dialect : ℕ) (e : Event) (es : List Entry) → dialect_of dialect ≡ ok d
    → read_event event post_header ≡ ok e → check_event d event e ≡ ok es → MapMet event post_header dialect es
map_met d event post_header dialect e es g r h =
    let p = chained d event e es h in
    let v = passed d event e es h in
    let types = lent_part event e.types in
    let c = fields_at d types e.optional.start in
    let w = kept_walk (sizes_of d p.columns) c event p.fields p.kept in
    let rule = field_item c.numeric c.columns in
    let b : Between rule event c.at (length event) p.fields =
    subst (Between rule event c.at (length event)) w.0
    (whole_laid rule (field_moves c.numeric c.columns) event c.at (ap is_whole w.1)) in
    let same = fields_same (kept_stood (sizes_of d p.columns) c event p.fields p.kept p.once).fields_are v.fields_are in
    let n : length v.columns ≡ length es = entries_many v.entries_are in
    let k : c.columns ≡ length es = columns_many v.columns_are ∙ n in
    let has : (kind : ℕ) (value : List ℕ) → Member (kind, value) (bare event p.fields) → Contents d v.columns kind value =
    λ kind value m. v.contents (kind, value) (subst (Member (kind, value)) same m) in
    record {
      start = e.optional.start;
      numeric = c.numeric;
      first =
          fields_asked event post_header dialect d e types c g r refl refl
          ∙ ap (λ (m : ℕ). ok (e.optional.start ∷ c.numeric ∷ m ∷ [])) k;
      fields = bare event p.fields;
      met =
          subst (λ (m : ℕ). FieldsMet event c.numeric m c.at (length event) (bare event p.fields)) k
          (fields_met c.numeric c.columns b);
      all = (kept_stood (sizes_of d p.columns) c event p.fields p.kept p.once).fields_are;
      one_each = λ {kind} {list} {real} o value m.
          let x = each_one o (has kind value m) in
          (x.0, x.1, x.2 ∙ entries_real real v.entries_are);
      geometry_small = λ value m. geometry_of (has 7 value m);
      names = λ value m.
          let x = names_of (has 4 value m) in
          (x.0, x.1, x.2 ∙ n);
      simple_key = λ value m.
          let x = simple_of (has 8 value m) in
          (x.0, x.1, subst (λ (i : ℕ). Each (λ (y : ℕ × ℕ). y.0 < i) x.0) n x.2);
      prefix_key = λ value m.
          let x = prefix_of (has 9 value m) in
          (x.0, x.1, subst (λ (i : ℕ). Each (λ (y : ℕ × ℕ). y.0 < i) x.0) n x.2);
    }

accepted : (d : Dialect) (event : List ℕ) (post_header dialect : ℕ) (es : List Entry) → dialect_of dialect ≡ ok d
    → check_map d event post_header ≡ ok es → MapMet event post_header dialect es
unfolding check_map
accepted d event post_header dialect es g h =
    let x = after_is_ok (read_event event post_header) (λ e. check_event d event e) es h in
    map_met d event post_header dialect x.0 es g x.1 x.2

pub map_walks : MapWalks
map_walks = record {
  integers = λ value o to items b. items_met integers_stand b;
  pairs = λ value o to items b. pairs_met b;
  strings = λ value o to items b. items_met strings_stand b;
  groups = λ value o to items b. groups_met b;
  group_strings = group_met;
  items_ended = list_ended;
  fields_ended = field_ended;
  string_within = string_within;
  field_within = field_within;
  parts_within = parts_within;
  accepted = accepted;
}
