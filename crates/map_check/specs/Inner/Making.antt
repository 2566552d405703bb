-- What the check keeps of the fields. Where the making of a record stands between two columns: a cursor in each class's charsets, so that a
-- charset is found by one look; what holds there, and what is to come. Assumes nothing.
use Rattle.std.specs.Prelude.{None, Option, Some}
use Rattle.std.specs.Prelude.{ℕ, ◌+◌, ◌*◌, ◌≤◌, ◌≡◌, Bool, true, cond, List, ◌∷◌, length, get_or, drop, eqb}
use Rattle.wire.specs.Outcome.{Outcome, ok, refused}
use Rattle.wire.specs.Packed.{read_packed}
use Rattle.wire.specs.declared.part.Part.{Part}
use Rattle.wire.specs.Parts.{lent_part}
use Rattle.value.specs.declared.classes.Dialect.{Dialect}
use Rattle.table_map.specs.Lists.{Stepped, end, walk_items, integer_item, pair_item}
use Rattle.record.specs.declared.entry.Entry.{Entry}
use Rattle.record.specs.Records.{most_columns}
use Rattle.map_check.specs.declared.contents.Meaning.TheVariants.{Charset}
use Rattle.map_check.specs.declared.rank.Rank.{Rank}
use Rattle.map_check.specs.declared.facts.Facts.{Facts}
use Rattle.map_check.specs.declared.facts.Charsets.{Charsets}
use Rattle.map_check.specs.declared.facts.KeptFields.{KeptFields}
use Rattle.map_check.specs.declared.charset.CharsetCursor.{CharsetCursor}
use Rattle.map_check.specs.declared.charset.CharsetTurn.{CharsetTurn}
use Rattle.map_check.specs.declared.entries.Progress.{Progress}
use Rattle.map_check.specs.declared.entries.EntryTurn.{EntryTurn}
use Rattle.map_check.specs.Inner.Columns.{declare_all}
use Rattle.map_check.specs.Ranks.{table_place, no_ranks, rank_after}
use Rattle.map_check.specs.Inner.Ranks.{AtMost}
use Rattle.map_check.specs.Contents.{exactly, integer_holds, pairs_hold, default_holds}
use Rattle.map_check.specs.Fields.{value_in}
use Rattle.map_check.specs.Profile.{pair_or, from_pairs, charset_by, entries_from}

-- ---- the fields that are kept, as the check goes on with them; `at` tells where the value of each type stands
abbrev pub kept_by : Part → (ℕ → Option Part) → KeptFields
kept_by bits at =
    record {
      simple = at 8;
      prefixed = at 9;
      facts = record {
        bits = bits;
        signs = at 1;
        visibility = at 12;
        characters = record { default = at 2; list = at 3 };
        choices = record { default = at 10; list = at 11 };
      };
    }

-- ---- the charsets of a class
-- its fields are as the check lets them pass
pub record ClassHolds (s : List ℕ) (class : Charsets) : Type 0 where
  pub size : ℕ
  pub list : (p : Part) → class.list ≡ Some p → exactly integer_item (integer_holds Charset) size (lent_part s p) ≡ true
  pub default : (p : Part) → class.default ≡ Some p → default_holds size (lent_part s p) ≡ true

-- a cursor, and a charset with the cursor for the next
abbrev pub charset_cursor : ℕ → ℕ → CharsetCursor
charset_cursor at default = record { at = at; default = default }

abbrev pub charset_turn : ℕ → CharsetCursor → CharsetTurn
charset_turn charset next = record { charset = charset; next = next }

-- the cursor behind the default, at the first pair
abbrev pub behind_default : Outcome (ℕ × ℕ) → CharsetCursor
behind_default (ok c) = charset_cursor c.1 c.0
behind_default (refused r) = charset_cursor 0 0

-- the charset that a step in a list met
abbrev pub list_turn : CharsetCursor → Outcome (Stepped ℕ ℕ) → CharsetTurn
list_turn c (ok end) = charset_turn 0 c
list_turn c (ok (Some (charset, next))) = charset_turn charset (charset_cursor next c.default)
list_turn c (refused r) = charset_turn 0 c

-- the charset of a rank by the pair that a step met: if it is of a later rank, it is met again
abbrev pub pair_turn : CharsetCursor → ℕ → Outcome (Stepped (ℕ × ℕ) ℕ) → CharsetTurn
pair_turn c r (ok end) = charset_turn c.default c
pair_turn c r (ok (Some (p, next))) = cond (eqb p.0 r) (charset_turn p.1 (charset_cursor next c.default)) (charset_turn c.default c)
pair_turn c r (refused w) = charset_turn c.default c

-- the charset that stands at a place, if one does, is one of 16 bits: as an integer of a list or a default, and in a pair
abbrev pub IntegerFits : List ℕ → ℕ → Type 0
IntegerFits value at = (charset next : ℕ) → read_packed value at ≡ ok (charset, next) → charset ≤ 65535

abbrev pub PairFits : List ℕ → ℕ → Type 0
PairFits value at = (r charset next : ℕ) → pair_item value at ≡ ok ((r, charset), next) → charset ≤ 65535

-- ---- what holds of a cursor where the charset of rank r is the next
-- in a list: the charsets from r on are left, and all of them fit
pub record ListLeft (value : List ℕ) (r : ℕ) (c : CharsetCursor) : Type 0 where
  pub left : (walk_items integer_item value c.at).items ≡ drop r (walk_items integer_item value 0).items
  pub fits : (i : ℕ) → get_or (walk_items integer_item value 0).items i 0 ≤ 65535

-- behind a default: the pairs left tell of the ranks from r on what all tell; they rise, and all fit
pub record PairsLeft (value : List ℕ) (r : ℕ) (c : CharsetCursor) : Type 0 where
  pub left : (i : ℕ) → r ≤ i → from_pairs value i (read_packed value 0) ≡ pair_or c.default i (walk_items pair_item value c.at).items
  pub size : ℕ
  pub rise : pairs_hold size r (walk_items pair_item value c.at).items ≡ true

abbrev pub StandsIn : List ℕ → Option Part → Option Part → ℕ → CharsetCursor → Type 0
StandsIn s default (Some p) r c = ListLeft (lent_part s p) r c
StandsIn s default None r c = PairsLeft (value_in s default) r c

abbrev pub Stands : List ℕ → Charsets → ℕ → CharsetCursor → Type 0
Stands s class r c = StandsIn s class.default class.list r c

-- a turn gives the charset of rank r, and leaves the cursor where that of the next rank is the next
pub record CharsetTurned (s : List ℕ) (class : Charsets) (r : Rank) (t : CharsetTurn) : Type 0 where
  pub charset : t.charset ≡ charset_by s class r
  pub next : Stands s class (r.0 + 1) t.next

-- the same after a column that may be of the class
pub record CharsetTurnedIf (member : Bool) (s : List ℕ) (class : Charsets) (r : Rank) (t : CharsetTurn) : Type 0 where
  pub charset : t.charset ≡ cond member (charset_by s class r) 0
  pub next : Stands s class (rank_after r member).0 t.next

-- ---- the entries
-- what the writer of a record needs
pub record Writable (s types : List ℕ) (x : Facts) : Type 0 where
  pub few : length types ≤ most_columns
  pub characters : ClassHolds s x.characters
  pub choices : ClassHolds s x.choices

-- what holds between two columns, before that at place j: ranks and offset are no more than the columns before can have made them, and the
-- cursors stand at the ranks
pub record Ready (s : List ℕ) (x : Facts) (j : ℕ) (k : Progress) : Type 0 where
  pub ranks : AtMost j k.ranks
  pub metadata : k.metadata ≤ 2 * j
  pub characters : Stands s x.characters k.ranks.character.0 k.characters
  pub choices : Stands s x.choices k.ranks.choice.0 k.choices

-- before the first column
pub record Begins (s : List ℕ) (x : Facts) (k : Progress) : Type 0 where
  pub metadata : k.metadata ≡ 0
  pub ranks : k.ranks ≡ no_ranks
  pub ready : Ready s x 0 k

-- the entries to come
abbrev pub to_come : Dialect → List ℕ → Facts → List ℕ → List ℕ → ℕ → Progress → List Entry
to_come d s x types meta j k = entries_from d s x (declare_all (drop j types) (drop k.metadata meta)) (table_place j) k.ranks

-- a turn gives the first of them, and leaves the others to come
pub record Came (d : Dialect) (s : List ℕ) (x : Facts) (types meta : List ℕ) (j : ℕ) (k : Progress) (t : EntryTurn) : Type 0 where
  pub entry : to_come d s x types meta j k ≡ t.entry ∷ to_come d s x types meta (j + 1) t.next
  pub ready : Ready s x (j + 1) t.next
