-- The maps that pass the check, and what their entries are: document 01's list, said of the event's bytes and not by the check's own steps.
-- Ranks and sizes are counted: how many of the columns before a column, or of all of them, are of a class. Assumes nothing.
use Rattle.std.specs.Prelude.{ℕ, ◌+◌, ◌*◌, ◌≤◌, ◌<◌, ◌≡◌, Bool, true, false, cond, List, [], ◌∷◌, ◌++◌, map, length, get_or, take, drop, eqb}
use Rattle.wire.specs.Outcome.{ok}
use Rattle.wire.specs.Packed.{read_packed}
use Rattle.wire.specs.Bits.{bytes_for, bit_lsb0, bit_msb0}
use Rattle.wire.specs.declared.part.Part.{Part}
use Rattle.wire.specs.Parts.{lent_part}
use Rattle.value.specs.declared.classes.Dialect.{Dialect}
use Rattle.value.specs.Types.{family_of, is_known, is_numeric, real_type}
use Rattle.value.specs.Classes.{has_sign_bit, is_character, has_charset, is_enum_or_set}
use Rattle.table_map.specs.declared.event.Event.{Event}
use Rattle.table_map.specs.Lists.{Rule, integer_item, pair_item, string_item, group_item}
use Rattle.record.specs.declared.entry.Entry.{Entry}
use Rattle.record.specs.Records.{most_columns}
use Rattle.map_check.specs.declared.declare.Declared.{Declared}
use Rattle.map_check.specs.Columns.{meta_bytes, is_accepted}
use Rattle.map_check.specs.Profile.{one_if}

-- ---- words for lists
-- a stands in it
pub data Member {A : Type 0} (a : A) : List A → Type 0 where
  here : {b : A} {l : List A} → a ≡ b → Member a (b ∷ l)
  later : {b : A} {l : List A} → Member a l → Member a (b ∷ l)

-- all that stand in it are such
abbrev pub Each : {A : Type 0} → (A → Type 0) → List A → Type 0
Each {A} P l = (a : A) → Member a l → P a

-- no number stands twice
unfoldable pub Distinct : List ℕ → Type 0
Distinct [] = Unit {0}
Distinct (x ∷ xs) = (Member x xs → ⊥) × Distinct xs

-- each number is below all behind it
unfoldable pub Rise : List ℕ → Type 0
Rise [] = Unit {0}
Rise (x ∷ xs) = Each (λ (y : ℕ). x < y) xs × Rise xs

-- the first of each pair
abbrev pub firsts : {B : Type 0} → List (ℕ × B) → List ℕ
firsts {B} ps = map (λ (p : ℕ × B). p.0) ps

-- the items of a rule from one place of the bytes up to another, end to end
pub data Between {A : Type 0} (rule : Rule A) (s : List ℕ) : ℕ → ℕ → List A → Type 0 where
  none : {at : ℕ} → Between rule s at at []
  more : {at next to : ℕ} {a : A} {xs : List A} → rule s at ≡ ok (a, next) → Between rule s next to xs → Between rule s at to (a ∷ xs)

-- the value is these items
abbrev pub ItemsAre : {A : Type 0} → Rule A → List ℕ → List A → Type 0
ItemsAre rule value items = Between rule value 0 (length value) items

-- ---- columns: "each column's type then metadata; no metadata left over"
-- a type byte and the metadata bytes that are its own: the type is in the table, the bytes are as many as it has, and accepted; a byte that
-- it has not is zero
pub record ColumnIs (kind : ℕ) (own : List ℕ) (c : Declared) : Type 0 where
  pub known : is_known (family_of kind) ≡ true
  pub size : length own ≡ meta_bytes kind
  pub kind_is : c.kind ≡ kind
  pub m0_is : c.m0 ≡ get_or own 0 0
  pub m1_is : c.m1 ≡ get_or own 1 0
  pub real_is : c.real ≡ real_type kind (get_or own 0 0)
  pub accepted : is_accepted c ≡ true

pub data ColumnsAre : List ℕ → List ℕ → List Declared → Type 0 where
  no_column : ColumnsAre [] [] []
  a_column : {kind : ℕ} {types meta : List ℕ} {c : Declared} {cs : List Declared} (own rest : List ℕ) → meta ≡ own ++ rest
      → ColumnIs kind own c → ColumnsAre types rest cs → ColumnsAre (kind ∷ types) meta (c ∷ cs)

-- ---- classes of columns, by dialect: signedness goes by the type byte, every other class by the real type
abbrev pub signed : Dialect → Declared → Bool
signed d c = has_sign_bit d c.kind

abbrev pub character : Dialect → Declared → Bool
character d c = has_charset d c.real

abbrev pub choice : Declared → Bool
choice c = is_enum_or_set c.real

abbrev pub of_type : ℕ → Declared → Bool
of_type t c = eqb c.real t

-- how many of the columns are of a class
unfoldable pub count : (Declared → Bool) → List Declared → ℕ
count class [] = 0
count class (c ∷ cs) = cond (class c) 1 0 + count class cs

-- ---- optional fields: "Type byte, packed length, value", up to the event's end
-- its type and its value
abbrev pub Field : Type 0
Field = ℕ × List ℕ

-- one behind the other, from a place of the event on
pub data FieldsAre (s : List ℕ) : ℕ → List Field → Type 0 where
  no_field : {at : ℕ} → at ≡ length s → FieldsAre s at []
  a_field : {at : ℕ} {fs : List Field} (len start : ℕ) → read_packed s (at + 1) ≡ ok (len, start) → start + len ≤ length s
      → FieldsAre s (start + len) fs → FieldsAre s at ((get_or s at 0, take len (drop start s)) ∷ fs)

-- no field of the type stands
abbrev pub Absent : ℕ → List Field → Type 0
Absent kind fs = (value : List ℕ) → Member (kind, value) fs → ⊥

-- not one of each of two types
abbrev pub NotBoth : ℕ → ℕ → List Field → Type 0
NotBoth one other fs = (v w : List ℕ) → Member (one, v) fs → Member (other, w) fs → ⊥

-- ---- their contents
-- "Charsets 1..65,535"
abbrev pub IsCharset : ℕ → Type 0
IsCharset v = (1 ≤ v) × (v ≤ 65535)

-- "3, 11: one charset per column of the class"
pub record CharsetList (size : ℕ) (value : List ℕ) : Type 0 where
  pub charsets : List ℕ
  pub items : ItemsAre integer_item value charsets
  pub one_each : length charsets ≡ size
  pub each : Each IsCharset charsets

-- 2 and 10 "start with a packed integer" and "go on with pairs (rank, charset)"
pub record DefaultIs (value : List ℕ) (default : ℕ) (pairs : List (ℕ × ℕ)) : Type 0 where
  pub behind : ℕ
  pub start : read_packed value 0 ≡ ok (default, behind)
  pub items : Between pair_item value behind (length value) pairs

-- "2, 10: ranks rise and lie below the class's size"
pub record DefaultCharsets (size : ℕ) (value : List ℕ) : Type 0 where
  pub default : ℕ
  pub pairs : List (ℕ × ℕ)
  pub holds : DefaultIs value default pairs
  pub default_is : IsCharset default
  pub rise : Rise (firsts pairs)
  pub below : Each (λ (p : ℕ × ℕ). p.0 < size) pairs
  pub each : Each (λ (p : ℕ × ℕ). IsCharset p.1) pairs

-- a clause for each type, in a map of these columns
pub data Contents (d : Dialect) (cs : List Declared) : ℕ → List ℕ → Type 0 where
  -- "1 holds ceil(numeric/8) bytes"
  signedness : {value : List ℕ} → length value ≡ bytes_for (count (signed d) cs) → Contents d cs 1 value
  default_charset_lem : {value : List ℕ} → DefaultCharsets (count (character d) cs) value → Contents d cs 2 value
  column_charsets : {value : List ℕ} → CharsetList (count (character d) cs) value → Contents d cs 3 value
  -- "4: n names"
  names : {value : List ℕ} (items : List Part) → ItemsAre string_item value items → length items ≡ length cs → Contents d cs 4 value
  -- "5, 6, 7, 13: one item per SET, ENUM, real type 255, 242 column; geometry types 0..7"
  set_strings : {value : List ℕ} (items : List (ℕ × ℕ)) → ItemsAre group_item value items → length items ≡ count (of_type 248) cs
      → Contents d cs 5 value
  enum_strings : {value : List ℕ} (items : List (ℕ × ℕ)) → ItemsAre group_item value items → length items ≡ count (of_type 247) cs
      → Contents d cs 6 value
  geometry_types : {value : List ℕ} (items : List ℕ) → ItemsAre integer_item value items → length items ≡ count (of_type 255) cs
      → Each (λ (v : ℕ). v ≤ 7) items → Contents d cs 7 value
  -- "Keys below n"
  simple_key : {value : List ℕ} (keys : List ℕ) → ItemsAre integer_item value keys → Each (λ (k : ℕ). k < length cs) keys
      → Contents d cs 8 value
  prefix_key : {value : List ℕ} (keys : List (ℕ × ℕ)) → ItemsAre pair_item value keys → Each (λ (k : ℕ × ℕ). k.0 < length cs) keys
      → Contents d cs 9 value
  default_choice : {value : List ℕ} → DefaultCharsets (count choice cs) value → Contents d cs 10 value
  choice_charsets : {value : List ℕ} → CharsetList (count choice cs) value → Contents d cs 11 value
  -- "12 ceil(n/8)"
  visibility : {value : List ℕ} → length value ≡ bytes_for (length cs) → Contents d cs 12 value
  dimensions : {value : List ℕ} (items : List ℕ) → ItemsAre integer_item value items → length items ≡ count (of_type 242) cs
      → Contents d cs 13 value

-- the key indexes of a field 8 or 9: its items, or the first of each of its pairs
pub data KeysAre : ℕ → List ℕ → List ℕ → Type 0 where
  simple_keys : {value keys : List ℕ} → ItemsAre integer_item value keys → KeysAre 8 value keys
  prefix_keys : {value : List ℕ} {keys : List (ℕ × ℕ)} → ItemsAre pair_item value keys → KeysAre 9 value (firsts keys)

-- ---- entries: "real type; flags; m0; m1; charset (pair, list or default), 0 if none given"
-- the charset of rank r in a class, by the two fields that may tell it
pub data CharsetGiven (fs : List Field) (default list r : ℕ) : ℕ → Type 0 where
  -- that of the list
  listed : (value charsets : List ℕ) → Member (list, value) fs → ItemsAre integer_item value charsets
      → CharsetGiven fs default list r (get_or charsets r 0)
  -- that of its pair
  paired : (value : List ℕ) (first v : ℕ) (pairs : List (ℕ × ℕ)) → Member (default, value) fs → DefaultIs value first pairs
      → Member (r, v) pairs → CharsetGiven fs default list r v
  -- the default, where it has none
  unpaired : (value : List ℕ) (first : ℕ) (pairs : List (ℕ × ℕ)) → Member (default, value) fs → DefaultIs value first pairs
      → ((v : ℕ) → Member (r, v) pairs → ⊥) → CharsetGiven fs default list r first
  -- 0, where neither field stands
  not_given : Absent default fs → Absent list fs → CharsetGiven fs default list r 0

-- the charset of a column: its rank is how many columns before it are of the class
pub data CharsetIs (d : Dialect) (fs : List Field) (before : List Declared) (c : Declared) : ℕ → Type 0 where
  of_character : {v : ℕ} → is_character c.real ≡ true → CharsetGiven fs 2 3 (count (character d) before) v → CharsetIs d fs before c v
  of_choice : {v : ℕ} → is_enum_or_set c.real ≡ true → CharsetGiven fs 10 11 (count choice before) v → CharsetIs d fs before c v
  of_other : is_character c.real ≡ false → is_enum_or_set c.real ≡ false → CharsetIs d fs before c 0

-- flags 1, "unsigned", and 4, "signedness known": on numeric columns, if field 1 stands. Its bits run from the highest down, and the
-- column's is by its rank among the columns that have one
pub data SignIs (d : Dialect) (fs : List Field) (before : List Declared) (c : Declared) : Bool → Bool → Type 0 where
  told : (value : List ℕ) → is_numeric (family_of c.kind) ≡ true → Member (1, value) fs
      → SignIs d fs before c (bit_msb0 value (count (signed d) before)) true
  untold : is_numeric (family_of c.kind) ≡ true → Absent 1 fs → SignIs d fs before c false false
  not_numeric : is_numeric (family_of c.kind) ≡ false → SignIs d fs before c false false

-- flag 8, "visible (all, if type 12 is absent)": the bits run from the highest down, one for each column
pub data VisibleIs (fs : List Field) (j : ℕ) : Bool → Type 0 where
  by_bit : (value : List ℕ) → Member (12, value) fs → VisibleIs fs j (bit_msb0 value j)
  all_are : Absent 12 fs → VisibleIs fs j true

-- the entry of a column behind others; flag 2, "nullable": the bits run from the lowest up, one for each column
pub record EntryIs (d : Dialect) (bits : List ℕ) (fs : List Field) (before : List Declared) (c : Declared) (x : Entry) : Type 0 where
  pub real_is : x.real ≡ c.real
  pub m0_is : x.m0 ≡ c.m0
  pub m1_is : x.m1 ≡ c.m1
  pub charset_is : CharsetIs d fs before c x.charset
  pub unsigned : Bool
  pub known : Bool
  pub visible : Bool
  pub sign_is : SignIs d fs before c unsigned known
  pub visible_is : VisibleIs fs (length before) visible
  pub flags_are : x.flags ≡ one_if unsigned + 2 * one_if (bit_lsb0 bits (length before)) + 4 * one_if known + 8 * one_if visible

-- one for each column, in order
pub data EntriesAre (d : Dialect) (bits : List ℕ) (fs : List Field) : List Declared → List Declared → List Entry → Type 0 where
  no_entry : {before : List Declared} → EntriesAre d bits fs before [] []
  an_entry : {before cs : List Declared} {c : Declared} {x : Entry} {es : List Entry} → EntryIs d bits fs before c x
      → EntriesAre d bits fs (before ++ (c ∷ [])) cs es → EntriesAre d bits fs before (c ∷ cs) (x ∷ es)

-- ---- a map that passes, and its entries
pub record Passes (d : Dialect) (s : List ℕ) (e : Event) (es : List Entry) : Type 0 where
  pub few : length (lent_part s e.types) ≤ most_columns
  pub columns : List Declared
  pub columns_are : ColumnsAre (lent_part s e.types) (lent_part s e.metadata) columns
  pub fields : List Field
  pub fields_are : FieldsAre s e.optional.start fields
  -- "a type stands at most once; not both 2 and 3, 10 and 11, 8 and 9"
  pub once : Distinct (firsts fields)
  pub not_2_3 : NotBoth 2 3 fields
  pub not_10_11 : NotBoth 10 11 fields
  pub not_8_9 : NotBoth 8 9 fields
  pub contents : Each (λ (f : Field). Contents d columns f.0 f.1) fields
  -- no "key index that stands twice"
  pub keys_once : (kind : ℕ) (value keys : List ℕ) → Member (kind, value) fields → KeysAre kind value keys → Distinct keys
  pub entries_are : EntriesAre d (lent_part s e.bits) fields [] columns es
