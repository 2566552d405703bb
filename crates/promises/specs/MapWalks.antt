-- Walking an accepted map by the calls for C, `feed_fields`, `feed_field` and `feed_item`. "What the map check passes, a row can rely on":
-- a program that steps from each answer's place to the next meets every optional field of such a map, and in each list every item, comes to
-- the end of all of them, and has one item for each column of the type that the list is for. And whatever the bytes are, what a step tells
-- as a part lies within them. `map_walks` in proofs/Demand3/MapWalks.antt proves it. Assumes nothing.
use Rattle.std.specs.Prelude.{ℕ, ◌+◌, ◌≤◌, ◌<◌, ◌≡◌, true, cond, List, [], ◌∷◌, map, length, eqb}
use Rattle.wire.specs.Bits.{bytes_for}
use Rattle.wire.specs.Outcome.{ok}
use Rattle.wire.specs.Number.{is_among}
use Rattle.wire.specs.declared.part.Part.{Part}
use Rattle.wire.specs.Parts.{part, lent_part}
use Rattle.value.specs.declared.classes.Dialect.{Dialect}
use Rattle.table_map.specs.Lists.{integer_item, pair_item, string_item, group_item}
use Rattle.record.specs.declared.entry.Entry.{Entry}
use Rattle.map_check.specs.Check.{check_map}
use Rattle.map_check.specs.Passes.{Member, Each, Between, Field, FieldsAre}
use Rattle.feed_abi.specs.Calls.{dialect_of}
use Rattle.feed_abi.specs.Fields.{feed_parts, feed_fields, feed_field, feed_item}

-- the items that a program meets in a list, from one place of the value up to another, each as its two numbers
pub data ItemsMet (list : ℕ) (value : List ℕ) : ℕ → ℕ → List (ℕ × ℕ) → Type 0 where
  no_item : {o : ℕ} → ItemsMet list value o o []
  an_item : {o a b next to : ℕ} {xs : List (ℕ × ℕ)} → feed_item list value o ≡ ok (1 ∷ a ∷ b ∷ next ∷ []) → ItemsMet list value next to xs
      → ItemsMet list value o to ((a, b) ∷ xs)

-- the optional fields that it meets, each with its type and its value
pub data FieldsMet (event : List ℕ) (numeric columns : ℕ) : ℕ → ℕ → List Field → Type 0 where
  no_field : {o : ℕ} → FieldsMet event numeric columns o o []
  a_field : {o kind start len next to : ℕ} {fs : List Field} → feed_field event o numeric columns ≡ ok (1 ∷ kind ∷ start ∷ len ∷ next ∷ [])
      → FieldsMet event numeric columns next to fs
      → FieldsMet event numeric columns o to ((kind, lent_part event (part start len)) ∷ fs)

-- how many columns are of a real type
unfoldable pub of_real : ℕ → List Entry → ℕ
of_real real [] = 0
of_real real (x ∷ es) = cond (eqb x.real real) 1 0 + of_real real es

-- a field with one item for each column of a real type, and its list: the strings of SET and ENUM columns, geometry types, dimensions
pub data OneEach : ℕ → ℕ → ℕ → Type 0 where
  set_strings : OneEach 5 4 248
  enum_strings : OneEach 6 4 247
  geometry_types : OneEach 7 1 255
  dimensions : OneEach 13 1 242

-- a map whose columns have these entries
pub record MapMet (event : List ℕ) (post_header dialect : ℕ) (es : List Entry) : Type 0 where
  -- the cursor that the walk begins with
  pub start : ℕ
  pub numeric : ℕ
  pub first : feed_fields event post_header dialect ≡ ok (start ∷ numeric ∷ length es ∷ [])
  -- the fields that it meets, up to the event's end, are those that stand there
  pub fields : List Field
  pub met : FieldsMet event numeric (length es) start (length event) fields
  pub all : FieldsAre event start fields
  -- one item for each column of the type; geometry types to 7
  pub one_each : {kind list real : ℕ} → OneEach kind list real → (value : List ℕ) → Member (kind, value) fields
      → (items : List (ℕ × ℕ)) × ItemsMet list value 0 (length value) items × (length items ≡ of_real real es)
  pub geometry_small : (value : List ℕ) → Member (7, value) fields
      → (items : List (ℕ × ℕ)) × ItemsMet 1 value 0 (length value) items × Each (λ (x : ℕ × ℕ). x.0 ≤ 7) items
  -- a string for each column in its names
  pub names : (value : List ℕ) → Member (4, value) fields
      → (items : List (ℕ × ℕ)) × ItemsMet 3 value 0 (length value) items × (length items ≡ length es)
  -- the first number of a key's item is one of the columns
  pub simple_key : (value : List ℕ) → Member (8, value) fields
      → (items : List (ℕ × ℕ)) × ItemsMet 1 value 0 (length value) items × Each (λ (x : ℕ × ℕ). x.0 < length es) items
  pub prefix_key : (value : List ℕ) → Member (9, value) fields
      → (items : List (ℕ × ℕ)) × ItemsMet 2 value 0 (length value) items × Each (λ (x : ℕ × ℕ). x.0 < length es) items

pub record MapWalks : Type 0 where
  -- ---- whatever the bytes are
  -- items that lie end to end are met, each as its two numbers
  pub integers : (value : List ℕ) (o to : ℕ) (items : List ℕ) → Between integer_item value o to items
      → ItemsMet 1 value o to (map (λ (n : ℕ). (n, 0)) items)
  pub pairs : (value : List ℕ) (o to : ℕ) (items : List (ℕ × ℕ)) → Between pair_item value o to items → ItemsMet 2 value o to items
  pub strings : (value : List ℕ) (o to : ℕ) (items : List Part) → Between string_item value o to items
      → ItemsMet 3 value o to (map (λ (p : Part). (p.start, p.len)) items)
  pub groups : (value : List ℕ) (o to : ℕ) (items : List (ℕ × ℕ)) → Between group_item value o to items → ItemsMet 4 value o to items
  -- the strings of a group: so many, from the place that it tells up to the next group
  pub group_strings : (value : List ℕ) (o count first next : ℕ) → feed_item 4 value o ≡ ok (1 ∷ count ∷ first ∷ next ∷ [])
      → (items : List (ℕ × ℕ)) × ItemsMet 3 value first next items × (length items ≡ count)
  -- at the end of the bytes the end is told
  pub items_ended : (list : ℕ) (value : List ℕ) → is_among list (1 ∷ 2 ∷ 3 ∷ 4 ∷ []) ≡ true
      → feed_item list value (length value) ≡ ok (0 ∷ 0 ∷ 0 ∷ 0 ∷ [])
  pub fields_ended : (event : List ℕ) (numeric columns : ℕ)
      → feed_field event (length event) numeric columns ≡ ok (0 ∷ 0 ∷ 0 ∷ 0 ∷ 0 ∷ [])
  -- a string and a field's value lie behind the place asked, up to the next, within the bytes; and the types, metadata, nullable bits (one
  -- for each type) and optional fields of an event one behind the other, the last up to its end
  pub string_within : (value : List ℕ) (o start len next : ℕ) → feed_item 3 value o ≡ ok (1 ∷ start ∷ len ∷ next ∷ [])
      → (o < start) × (start + len ≡ next) × (next ≤ length value)
  pub field_within : (event : List ℕ) (o numeric columns kind start len next : ℕ)
      → feed_field event o numeric columns ≡ ok (1 ∷ kind ∷ start ∷ len ∷ next ∷ [])
      → (o < start) × (start + len ≡ next) × (next ≤ length event)
  pub parts_within : (event : List ℕ) (post_header types n meta m bits k optional l : ℕ)
      → feed_parts event post_header ≡ ok (types ∷ n ∷ meta ∷ m ∷ bits ∷ k ∷ optional ∷ l ∷ [])
      → (types + n < meta) × (meta + m ≡ bits) × (k ≡ bytes_for n) × (bits + k ≡ optional) × (optional + l ≡ length event)
  -- ---- a map that is accepted, asked in the dialect that it was checked in
  pub accepted : (d : Dialect) (event : List ℕ) (post_header dialect : ℕ) (es : List Entry) → dialect_of dialect ≡ ok d
      → check_map d event post_header ≡ ok es → MapMet event post_header dialect es
