-- When the check refuses a map, and where it tells it, in the words of document 01's table and in the order of its list: 3 for "n over
-- 255 in the check", by request 6 over 4,096, at 0; 4 for a "column type not taken" and 5 for "metadata short, left over (place n) or not
-- accepted" at the column; 1 and 2 at the length of an optional field, 6 and 7 at its type byte; "a key repeated is 7, placed at the
-- earliest item that repeats one". Each stands here with what was passed before it, so that no two are given of one map. Assumes nothing.
use Rattle.std.specs.Prelude.{ℕ, suc, ◌+◌, ◌≤◌, ◌<◌, ◌≡◌, Bool, true, false, cond, List, [], ◌∷◌, length, get_or, take, drop}
use Rattle.wire.specs.Bits.{bytes_for}
use Rattle.wire.specs.Outcome.{ok}
use Rattle.wire.specs.Packed.{read_packed}
use Rattle.wire.specs.Parts.{lent_part}
use Rattle.wire.specs.Layouts.{string, Whole, Cut, Unpacked}
use Rattle.value.specs.declared.classes.Dialect.{Dialect}
use Rattle.value.specs.Types.{family_of, is_known}
use Rattle.table_map.specs.declared.event.Event.{Event}
use Rattle.table_map.specs.Events.{read_event}
use Rattle.table_map.specs.Fields.{count_sign_bits, is_field}
use Rattle.record.specs.Records.{most_columns}
use Rattle.map_check.specs.declared.declare.Declared.{Declared}
use Rattle.map_check.specs.Columns.{meta_bytes, declared, is_accepted}
use Rattle.map_check.specs.Fields.{rival_of}
use Rattle.map_check.specs.Keys.{keys_from}
use Rattle.map_check.specs.Passes.{Member, ColumnsAre, Contents}

-- ---- how many columns
-- the event is read, and has too many
pub data TooMany (s : List ℕ) (post_header : ℕ) : ℕ → Type 0 where
  too_many : {e : Event} → read_event s post_header ≡ ok e → most_columns < length (lent_part s e.types) → TooMany s post_header 0

-- ---- columns: of the types, and of the metadata from the first one's on
-- the first is taken: its type is one that is known, its metadata is there, and is accepted
pub record FirstTaken (kind : ℕ) (meta : List ℕ) : Type 0 where
  pub known : is_known (family_of kind) ≡ true
  pub there : meta_bytes kind ≤ length meta
  pub accepted : is_accepted (declared kind meta) ≡ true

-- column j is the first that is not taken, for its type
pub data TypeNotTaken : List ℕ → List ℕ → ℕ → Type 0 where
  type_here : {kind : ℕ} {types meta : List ℕ} → is_known (family_of kind) ≡ false → TypeNotTaken (kind ∷ types) meta 0
  type_behind : {kind j : ℕ} {types meta : List ℕ} → FirstTaken kind meta → TypeNotTaken types (drop (meta_bytes kind) meta) j
      → TypeNotTaken (kind ∷ types) meta (suc j)

-- or for its metadata; or all are taken, j is their number, and metadata is left over
pub data MetadataWrong : List ℕ → List ℕ → ℕ → Type 0 where
  short : {kind : ℕ} {types meta : List ℕ} → is_known (family_of kind) ≡ true → length meta < meta_bytes kind
      → MetadataWrong (kind ∷ types) meta 0
  not_accepted : {kind : ℕ} {types meta : List ℕ} → is_known (family_of kind) ≡ true → meta_bytes kind ≤ length meta
      → is_accepted (declared kind meta) ≡ false
      → MetadataWrong (kind ∷ types) meta 0
  left_over : {meta : List ℕ} → 0 < length meta → MetadataWrong [] meta 0
  metadata_behind : {kind j : ℕ} {types meta : List ℕ} → FirstTaken kind meta → MetadataWrong types (drop (meta_bytes kind) meta) j
      → MetadataWrong (kind ∷ types) meta (suc j)

-- so of an event that is read, and has not too many
pub data InColumns (P : List ℕ → List ℕ → ℕ → Type 0) (s : List ℕ) (post_header : ℕ) : ℕ → Type 0 where
  in_columns : {e : Event} {j : ℕ} → read_event s post_header ≡ ok e → length (lent_part s e.types) ≤ most_columns
      → P (lent_part s e.types) (lent_part s e.metadata) j → InColumns P s post_header j

-- ---- optional fields, one behind the other. A fault is told by the types of the fields before, the last one first, by the type, and by
-- the value
-- the fields from one place of the bytes up to another, and their types: each is whole, of a type that is known, and without fault
pub data Stand (s : List ℕ) (Fault : List ℕ → ℕ → List ℕ → Type 0) (from : ℕ) : ℕ → List ℕ → Type 0 where
  no_field : Stand s Fault from from []
  a_field : {o len start : ℕ} {before : List ℕ} → Stand s Fault from o before → is_field (get_or s o 0) ≡ true
      → read_packed s (o + 1) ≡ ok (len, start) → start + len ≤ length s → (Fault before (get_or s o 0) (take len (drop start s)) → ⊥)
      → Stand s Fault from (start + len) (get_or s o 0 ∷ before)

-- the refusal of the field at a place o, behind fields of the types `before`, where the walk may come to such a place: its number, and
-- where it is told
pub data FieldRefused (s : List ℕ) (Comes : ℕ → List ℕ → Type 0) (Fault : List ℕ → ℕ → List ℕ → Type 0) : ℕ → ℕ → Type 0 where
  -- the bytes end in its length or in its value
  cut : {o : ℕ} {before : List ℕ} → Comes o before → o < length s → Cut s string (o + 1) → FieldRefused s Comes Fault 1 (o + 1)
  -- its length starts with 251 or 255
  unpacked : {o : ℕ} {before : List ℕ} → Comes o before → o < length s → Unpacked s string (o + 1) → FieldRefused s Comes Fault 2 (o + 1)
  -- it is whole, and its type is not known
  unknown : {o q : ℕ} {before : List ℕ} → Comes o before → Whole s string (o + 1) q → is_field (get_or s o 0) ≡ false
      → FieldRefused s Comes Fault 6 o
  -- it is whole, its type is known, and it has a fault
  faulty : {o len start : ℕ} {before : List ℕ} → Comes o before → is_field (get_or s o 0) ≡ true → read_packed s (o + 1) ≡ ok (len, start)
      → start + len ≤ length s → Fault before (get_or s o 0) (take len (drop start s)) → FieldRefused s Comes Fault 7 o

-- ---- the fields of a map, in the check
-- the rules that a field may break: "a type stands at most once; not both 2 and 3, 10 and 11, 8 and 9"; and the clause of its contents.
-- That a key stands twice is told behind all fields
pub data Breaks (d : Dialect) (cs : List Declared) (before : List ℕ) (kind : ℕ) (value : List ℕ) : Type 0 where
  twice : Member kind before → Breaks d cs before kind value
  rivalled : Member (rival_of kind) before → Breaks d cs before kind value
  contents : (Contents d cs kind value → ⊥) → Breaks d cs before kind value

-- an event that is read, has not too many columns, and all of them taken
pub record ColumnsTaken (s : List ℕ) (post_header : ℕ) : Type 0 where
  pub event : Event
  pub read : read_event s post_header ≡ ok event
  pub few : length (lent_part s event.types) ≤ most_columns
  pub columns : List Declared
  pub columns_are : ColumnsAre (lent_part s event.types) (lent_part s event.metadata) columns

-- its fields up to a place stand
abbrev pub StandTo : (d : Dialect) (s : List ℕ) (post_header : ℕ) → ColumnsTaken s post_header → ℕ → List ℕ → Type 0
StandTo d s post_header x o before = Stand s (Breaks d x.columns) x.event.optional.start o before

-- and the one behind them is refused
pub data InFields (d : Dialect) (s : List ℕ) (post_header number : ℕ) : ℕ → Type 0 where
  in_fields : {p : ℕ} (x : ColumnsTaken s post_header)
      → FieldRefused s (StandTo d s post_header x) (Breaks d x.columns) number p → InFields d s post_header number p

-- ---- its keys, where all fields stand
-- "8 simple key, 9 key with prefix"
abbrev pub keys_field : Bool → ℕ
keys_field paired = cond paired 9 8

-- item j of a value of keys stands at p of it and repeats the column of an earlier one; no item before it does
pub record Repeats (paired : Bool) (value : List ℕ) (p : ℕ) : Type 0 where
  pub j : ℕ
  pub there : j < length (keys_from paired value 0)
  pub stands : (get_or (keys_from paired value 0) j (0, 0)).0 ≡ p
  pub earlier : ℕ
  pub before : earlier < j
  pub same : (get_or (keys_from paired value 0) earlier (0, 0)).1 ≡ (get_or (keys_from paired value 0) j (0, 0)).1
  pub first : (i k : ℕ) → i < k → k < j → (get_or (keys_from paired value 0) i (0, 0)).1 ≡ (get_or (keys_from paired value 0) k (0, 0)).1 → ⊥

-- such an item in the value of the field at a place o, by its place in the event
pub data KeyRepeated (d : Dialect) (s : List ℕ) (post_header : ℕ) : ℕ → Type 0 where
  repeated : {o len start p : ℕ} {before types : List ℕ} (paired : Bool) (x : ColumnsTaken s post_header)
      → StandTo d s post_header x (length s) types → StandTo d s post_header x o before → get_or s o 0 ≡ keys_field paired
      → read_packed s (o + 1) ≡ ok (len, start) → start + len ≤ length s → Repeats paired (take len (drop start s)) p
      → KeyRepeated d s post_header (start + p)

-- ---- the fields up to the names, which are looked for by the walk over fields alone
-- "The walk judges contents only so: 1 holds ceil(numeric/8) bytes and 12 ceil(n/8), no more; 2 and 10 start with a packed integer."
pub data WalkBreaks (numeric n : ℕ) (before : List ℕ) : ℕ → List ℕ → Type 0 where
  not_signs : {value : List ℕ} → (length value ≡ bytes_for numeric → ⊥) → WalkBreaks numeric n before 1 value
  not_visible : {value : List ℕ} → (length value ≡ bytes_for n → ⊥) → WalkBreaks numeric n before 12 value
  no_default : {value : List ℕ} → ((v next : ℕ) → read_packed value 0 ≡ ok (v, next) → ⊥) → WalkBreaks numeric n before 2 value
  no_choice : {value : List ℕ} → ((v next : ℕ) → read_packed value 0 ≡ ok (v, next) → ⊥) → WalkBreaks numeric n before 10 value

abbrev pub WalkFault : Dialect → List ℕ → List ℕ → ℕ → List ℕ → Type 0
WalkFault d types = WalkBreaks (count_sign_bits d types) (length types)

-- the field that is refused, in an event that is read, stands behind others that the walk lets pass, of which none is the names
pub data BeforeNames (d : Dialect) (s : List ℕ) (post_header number : ℕ) : ℕ → Type 0 where
  before_names : {e : Event} {p : ℕ} → read_event s post_header ≡ ok e
      → FieldRefused s (λ o before. Stand s (WalkFault d (lent_part s e.types)) e.optional.start o before × (Member 4 before → ⊥))
      (WalkFault d (lent_part s e.types)) number p
      → BeforeNames d s post_header number p
