-- Request 6: more than 255 columns. "Up to 255 columns the check still writes kind 1, so stored records stay good; above that kind 2. A
-- kind 2 record with 255 columns or fewer is not valid, so each map keeps one record"; "refusal 3 now begins at 4,097". What an entry
-- means is stated once, in `ValidRecord` of `Profiles` as in `entry_in` of the crate `record`, and demand 3 is over every valid record,
-- whatever its kind. That the check gives 3 for no fewer columns is in `Refusals`. `records` in proofs/Records.antt proves it. Assumes
-- nothing.
use Rattle.std.specs.Prelude.{ℕ, ◌+◌, ◌*◌, ◌/◌, ◌%◌, ◌≤◌, ◌<◌, ◌≡◌, true, false, List, ◌∷◌, length}
use Rattle.wire.specs.Number.{Bytes}
use Rattle.wire.specs.Outcome.{ok, refuse}
use Rattle.wire.specs.Parts.{lent_part}
use Rattle.value.specs.declared.classes.Dialect.{Dialect}
use Rattle.table_map.specs.declared.event.Event.{Event}
use Rattle.table_map.specs.Events.{read_event}
use Rattle.record.specs.declared.entry.Entry.{Entry}
use Rattle.record.specs.Records.{count_of, entries_in, record_valid, entries_bytes, record_bytes}
use Rattle.map_check.specs.Check.{check}
use Rattle.promises.specs.Profiles.{ValidColumn, byte, number}

-- document 01's record, byte by byte, as it was before there was a second kind
pub record Kind1 (profile : List ℕ) : Type 0 where
  pub said : number profile 0 ≡ length profile
  pub kind_low : byte profile 2 ≡ 1
  pub kind_high : byte profile 3 ≡ 0
  pub zero : byte profile 5 ≡ 0
  pub whole : length profile ≡ 6 + 6 * byte profile 4
  pub columns : (j : ℕ) → j < byte profile 4
      → ValidColumn (byte profile (6 + 6 * j)) (byte profile (7 + 6 * j)) (byte profile (8 + 6 * j)) (byte profile (9 + 6 * j))
      (number profile (10 + 6 * j))

-- of how many bytes the record of some columns is
abbrev pub size_of : List Entry → ℕ
size_of es = 6 + 6 * length es

pub record Records : Type 0 where
  -- up to 255 columns the record is document 01's, byte for byte: length, kind 1, n, zero, entries
  pub kept_kind_1 : (es : List Entry) → length es ≤ 255
      → record_bytes es ≡ size_of es % 256 ∷ size_of es / 256 ∷ 1 ∷ 0 ∷ length es ∷ 0 ∷ entries_bytes es
  -- and a record that document 01 has for valid is valid
  pub kept_valid : (profile : List ℕ) → Bytes profile → Kind1 profile → record_valid profile ≡ true
  -- above, it is of kind 2: "length (2), kind 2 (2), count (2), entries as before"
  pub kind_2 : (es : List Entry) → 255 < length es → length es ≤ 4096
      → record_bytes es ≡ size_of es % 256 ∷ size_of es / 256 ∷ 2 ∷ 0 ∷ length es % 256 ∷ length es / 256 ∷ entries_bytes es
  -- a valid record is the record of its own entries
  pub one_record : (profile : List ℕ) → Bytes profile → record_valid profile ≡ true
      → record_bytes (entries_in (count_of profile) profile 0) ≡ profile
  -- so no two valid records have the same entries
  pub same_entries : (profile s : List ℕ) → Bytes profile → Bytes s → record_valid profile ≡ true → record_valid s ≡ true
      → entries_in (count_of profile) profile 0 ≡ entries_in (count_of s) s 0 → profile ≡ s
  -- no record of kind 2 with 255 columns or fewer is valid, and none of kind 1 with more; nor one of another kind, or with more than 4,096
  pub kind_2_only_above : (profile : List ℕ) → number profile 2 ≡ 2 → number profile 4 ≤ 255 → record_valid profile ≡ false
  pub kind_1_only_below : (profile : List ℕ) → number profile 2 ≡ 1 → 255 < number profile 4 → record_valid profile ≡ false
  pub no_other_kind : (profile : List ℕ) → (number profile 2 ≡ 1 → ⊥) → (number profile 2 ≡ 2 → ⊥) → record_valid profile ≡ false
  pub no_more_columns : (profile : List ℕ) → 4096 < number profile 4 → record_valid profile ≡ false
  -- a map of 4,097 columns or more is refused with 3 at 0, whatever its columns are, and whatever the room
  pub too_many : (d : Dialect) (s : List ℕ) (post_header : ℕ) (e : Event) (buf : List ℕ) → read_event s post_header ≡ ok e
      → 4096 < length (lent_part s e.types) → check d s post_header buf ≡ refuse 3 0
