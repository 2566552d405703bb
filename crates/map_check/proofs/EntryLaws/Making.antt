-- The making of a record: a turn gives the next column's entry, and entries are written one behind the other. Assumes nothing.
use Prim.Native.Nat.{ℕ, suc, ◌+◌, ◌*◌, ◌≤◌, ◌<◌}
use mathlib.Core.Path.{◌≡◌, refl, sym, ap, ◌∙◌}
use mathlib.Core.Bool.{Bool, true, false, cond, ◌||◌}
use mathlib.Core.List.{List, [], ◌∷◌}
use native.Mathlib.Omega.{arith}
use lib.ListN.{length, get_or, drop, drop_of_length-le}
use lib.Seq.{drop-cons, drop-drop}
use Rattle.wire.specs.Outcome.{ok}
use Rattle.wire.specs.Number.{le_bytes}
use Rattle.wire.specs.Stored.{stored, store, left_of}
use Rattle.wire.proofs.Stores.{length_stored, stored_none, stored_stored, store_fits, Wrote, wrote, wrote_two}
use Rattle.value.specs.declared.classes.Dialect.{Dialect}
use Rattle.value.specs.declared.types.Family.{Family}
use Rattle.value.specs.declared.types.Family.TheVariants.{Integer, Float, Double, Year, Timestamp, Date, Time, Datetime, Timestamp2}
use Rattle.value.specs.declared.types.Family.TheVariants.{Datetime2, Time2, Varchar, Char, Blob, Json, Bit, Decimal, Enum, Set, Unknown}
use Rattle.value.specs.Types.{family_of, metadata_bytes}
use Rattle.value.specs.Classes.{is_character, has_charset, is_enum_or_set}
use Rattle.record.specs.declared.entry.Entry.{Entry}
use Rattle.record.specs.Entries.{entry_bytes}
use Rattle.record.specs.Records.{entry_at, head_bytes, entries_bytes, record_bytes}
use Rattle.record.proofs.Made.{made_length}
use Rattle.map_check.specs.declared.declare.Declared.{Declared}
use Rattle.map_check.specs.declared.rank.TablePlace.{TablePlace}
use Rattle.map_check.specs.declared.rank.Ranks.{Ranks}
use Rattle.map_check.specs.declared.facts.Facts.{Facts}
use Rattle.map_check.specs.declared.charset.CharsetTurn.{CharsetTurn}
use Rattle.map_check.specs.declared.entries.Progress.{Progress}
use Rattle.map_check.specs.declared.entries.EntryTurn.{EntryTurn}
use Rattle.map_check.specs.Columns.{meta_bytes, declared}
use Rattle.map_check.specs.Inner.Columns.{declare_all}
use Rattle.map_check.specs.Ranks.{table_place, no_ranks, ranks_after}
use Rattle.map_check.specs.Profile.{charset_by, charset_for, entry_with, entry_for, entries_from}
use Rattle.map_check.specs.Inner.Making.{CharsetTurnedIf, Ready, Begins, to_come, Came}
use Rattle.map_check.proofs.ColumnLaws.Declares.{declared_length_lem}
use Rattle.map_check.proofs.ColumnLaws.Counts.{at_most_after}

-- ---- lengths
pub few_metadata : (f : Family) → metadata_bytes f ≤ 2
unfolding metadata_bytes
few_metadata (Integer k) = omega arith
few_metadata Float = omega arith
few_metadata Double = omega arith
few_metadata Year = omega arith
few_metadata Timestamp = omega arith
few_metadata Date = omega arith
few_metadata Time = omega arith
few_metadata Datetime = omega arith
few_metadata Timestamp2 = omega arith
few_metadata Datetime2 = omega arith
few_metadata Time2 = omega arith
few_metadata Varchar = omega arith
few_metadata Char = omega arith
few_metadata Blob = omega arith
few_metadata Json = omega arith
few_metadata Bit = omega arith
few_metadata Decimal = omega arith
few_metadata Enum = omega arith
few_metadata Set = omega arith
few_metadata Unknown = omega arith

-- there is an entry for each column
pub entries_length : (d : Dialect) (s : List ℕ) (x : Facts) (cs : List Declared) (j : TablePlace) (k : Ranks)
    → length (entries_from d s x cs j k) ≡ length cs
unfolding entries_from
entries_length d s x [] j k = refl
entries_length d s x (c ∷ cs) j k = ap suc (entries_length d s x cs (table_place (suc j.0)) (ranks_after d k c))

entry_length : (e : Entry) → length (entry_bytes e) ≡ 6
unfolding entry_bytes le_bytes
entry_length e = refl

head_length : (n : ℕ) → length (head_bytes n) ≡ 6
unfolding head_bytes le_bytes
head_length n = refl

-- six bytes for each
bytes_length : (es : List Entry) → length (entries_bytes es) ≡ 6 * length es
unfolding record_bytes head_bytes le_bytes
bytes_length es = omega (arith, made_length es)

-- ---- the next entry
-- a charset is counted for every column that has one
counted_charset : (character counted : Bool) (u w : ℕ) → cond character (cond (character || counted) u 0) w ≡ cond character u w
counted_charset true counted u w = refl
counted_charset false counted u w = refl

found_charset : (d : Dialect) (s : List ℕ) (x : Facts) (c : Declared) (k : Ranks) (a b : ℕ)
    → a ≡ cond (has_charset d c.real) (charset_by s x.characters k.character) 0
    → b ≡ cond (is_enum_or_set c.real) (charset_by s x.choices k.choice) 0
    → cond (is_character c.real) a b ≡ charset_for s x c k
unfolding charset_for has_charset
found_charset d s x c k a b e f = rw (e, f) (counted_charset (is_character c.real) _ (charset_by s x.characters k.character) _)

-- what the code of a turn has gathered
pub record Gathered (d : Dialect) (s : List ℕ) (x : Facts) (types meta : List ℕ) (j : ℕ) (k : Progress) (c : Declared) (a b : CharsetTurn)
    (t : EntryTurn) : Type 0 where
  pub column : c ≡ declared (get_or types j 0) (drop k.metadata meta)
  pub character : CharsetTurnedIf (has_charset d c.real) s x.characters k.ranks.character a
  pub choice : CharsetTurnedIf (is_enum_or_set c.real) s x.choices k.ranks.choice b
  pub entry : t.entry ≡ entry_with s x c (table_place j) k.ranks (cond (is_character c.real) a.charset b.charset)
  pub metadata : t.next.metadata ≡ k.metadata + meta_bytes (get_or types j 0)
  pub ranks : t.next.ranks ≡ ranks_after d k.ranks c
  pub characters : t.next.characters ≡ a.next
  pub choices : t.next.choices ≡ b.next

-- the first of the entries to come, and those behind it
come_first : (d : Dialect) (s : List ℕ) (x : Facts) (types meta : List ℕ) (j at : ℕ) (k : Ranks) (c : Declared) → j < length types
    → c ≡ declared (get_or types j 0) (drop at meta)
    → entries_from d s x (declare_all (drop j types) (drop at meta)) (table_place j) k
    ≡ entry_for s x c (table_place j) k
    ∷ entries_from d s x (declare_all (drop (suc j) types) (drop (at + meta_bytes (get_or types j 0)) meta)) (table_place (suc j))
    (ranks_after d k c)
unfolding entries_from declare_all
come_first d s x types meta j at k c h e = rw (drop-cons types j 0 h, drop-drop (meta_bytes (get_or types j 0)) at meta, e)

-- they are the turn's entry, and those to come behind it
come_behind : (d : Dialect) (s : List ℕ) (x : Facts) (types meta : List ℕ) (j : ℕ) (k : Progress) (c : Declared) (a b : CharsetTurn) (t : EntryTurn)
    → j < length types
    → Gathered d s x types meta j k c a b t → to_come d s x types meta j k ≡ t.entry ∷ to_come d s x types meta (j + 1) t.next
come_behind d s x types meta j k c a b t h f =
    let n : j + 1 ≡ suc j = omega arith in
    let e : t.entry ≡ entry_for s x c (table_place j) k.ranks
    =
    f.entry ∙ ap (entry_with s x c (table_place j) k.ranks)
    (found_charset d s x c k.ranks a.charset b.charset f.character.charset f.choice.charset) in
    come_first d s x types meta j k.metadata k.ranks c h f.column
    ∙ rw (e, f.metadata, f.ranks, n)

ready_behind : (d : Dialect) (s : List ℕ) (x : Facts) (types meta : List ℕ) (j : ℕ) (k : Progress) (c : Declared) (a b : CharsetTurn)
    (t : EntryTurn)
    → Gathered d s x types meta j k c a b t → Ready s x j k → Ready s x (j + 1) t.next
unfolding ranks_after
ready_behind d s x types meta j k c a b t f r =
    record {
      ranks = rw f.ranks (at_most_after d c r.ranks);
      metadata = rw f.metadata (omega (arith, r.metadata, few_metadata (family_of (get_or types j 0))));
      characters = rw (f.ranks, f.characters) f.character.next;
      choices = rw (f.ranks, f.choices) f.choice.next;
    }

pub came : (d : Dialect) (s : List ℕ) (x : Facts) (types meta : List ℕ) (j : ℕ) (k : Progress) (c : Declared) (a b : CharsetTurn)
    (t : EntryTurn)
    → j < length types → Ready s x j k
    → Gathered d s x types meta j k c a b t → Came d s x types meta j k t
came d s x types meta j k c a b t h r f = record {
  entry = come_behind d s x types meta j k c a b t h f;
  ready = ready_behind d s x types meta j k c a b t f r;
}

-- ---- writing
-- before the first column all are to come
all_come : (d : Dialect) (s : List ℕ) (x : Facts) (types meta : List ℕ) (k : Progress) → Begins s x k
    → to_come d s x types meta 0 k ≡ entries_from d s x (declare_all types meta) (table_place 0) no_ranks
all_come d s x types meta k h = rw (h.metadata, h.ranks)

pub start_stored : (d : Dialect) (s : List ℕ) (x : Facts) (types meta : List ℕ) (k : Progress) (buf : List ℕ) → Begins s x k
    → stored (entries_bytes (to_come d s x types meta 0 k)) buf (entry_at 0)
    ≡ stored (entries_bytes (entries_from d s x (declare_all types meta) (table_place 0) no_ranks)) buf (entry_at 0)
start_stored d s x types meta k buf h = rw (all_come d s x types meta k h)

-- behind the last none is
none_come : (d : Dialect) (s : List ℕ) (x : Facts) (types meta : List ℕ) (j : ℕ) (k : Progress) → length types ≤ j
    → to_come d s x types meta j k ≡ []
unfolding declare_all entries_from
none_come d s x types meta j k h = rw (drop_of_length-le types {i = j} h)

-- a turn's entry is stored where the entries to come were, and what is left to come behind it
pub turn_stored : (d : Dialect) (s : List ℕ) (x : Facts) (types meta : List ℕ) (j : ℕ) (k : Progress) (t : EntryTurn) (buf buf' z : List ℕ)
    → Came d s x types meta j k t
    → j < length types → entry_at (length types) ≤ length buf
    → buf' ≡ left_of (store (entry_bytes t.entry) buf (entry_at j)) buf
    → stored (entries_bytes (to_come d s x types meta j k)) buf (entry_at j) ≡ z
    → (length buf' ≡ length buf) × (stored (entries_bytes (to_come d s x types meta (j + 1) t.next)) buf' (entry_at (j + 1)) ≡ z)
unfolding entries_bytes
turn_stored d s x types meta j k t buf buf' z c h l e g =
    let at = entry_at j in
    let v = entry_bytes t.entry in
    let n : length v ≡ 6 = entry_length t.entry in
    let f = store_fits buf v at (omega arith) in
    let p : buf' ≡ stored v buf at = e ∙ rw f in
    let m : entry_at (j + 1) ≡ at + length v = omega arith in
    let w = entries_bytes (to_come d s x types meta (j + 1) t.next) in (
      ap length p ∙ length_stored buf at v (omega arith),
      rw (p, m) (stored_stored buf at v w (omega arith) ∙ ap (λ (es : List Entry). stored (entries_bytes es) buf at) (sym c.entry) ∙ g),
    )

-- when none is to come, all is stored
pub all_stored : (d : Dialect) (s : List ℕ) (x : Facts) (types meta : List ℕ) (j : ℕ) (k : Progress) (buf z : List ℕ) (at : ℕ)
    → length types ≤ j
    → stored (entries_bytes (to_come d s x types meta j k)) buf at ≡ z → buf ≡ z
unfolding entries_bytes
all_stored d s x types meta j k buf z at h g =
    sym (stored_none buf at) ∙ ap (λ (es : List Entry). stored (entries_bytes es) buf at) (sym (none_come d s x types meta j k h)) ∙ g

-- the whole record: its head, and its entries
pub record_written : (es : List Entry) (n : ℕ) (old x₁ x : List ℕ) → length es ≡ n → entry_at n ≤ length old
    → x₁ ≡ left_of (store (head_bytes n) old 0) old
    → x ≡ stored (entries_bytes es) x₁ (entry_at 0) → Wrote old 0 (record_bytes es) (ok (entry_at n)) x
unfolding record_bytes
record_written es n old x₁ x e h p q =
    let m : length (entries_bytes es) ≡ 6 * n = bytes_length es ∙ ap (λ (k : ℕ). 6 * k) e in
    let f = store_fits old (head_bytes n) 0 (omega (arith, head_length n)) in
    let y : x₁ ≡ stored (head_bytes n) old 0 = p ∙ rw f in
    let l : length x₁ ≡ length old = ap length y ∙ length_stored old 0 (head_bytes n) (omega (arith, head_length n)) in
    rw e (wrote_two old (head_bytes n) (entries_bytes es) x₁ x 0 6 (ok (entry_at n)) (head_length n) (omega arith) p
    (wrote x₁ (entries_bytes es) x 6 (6 * n) (entry_at n) m (omega arith) refl q))

-- a record's entries are as many as the types
pub map_entries_length : (d : Dialect) (s : List ℕ) (x : Facts) (types meta : List ℕ)
    → length (entries_from d s x (declare_all types meta) (table_place 0) no_ranks) ≡ length types
map_entries_length d s x types meta = entries_length d s x (declare_all types meta) (table_place 0) no_ranks ∙ declared_length_lem types meta
