-- What a row can rely on: the record of a map that the check accepts is valid. Assumes nothing.
use Prim.Native.Nat.{ℕ, zero, suc, ◌+◌, ◌≤◌, ◌<◌}
use mathlib.Core.Path.{◌≡◌, refl, sym, ap, subst, ◌∙◌}
use mathlib.Core.Bool.{true}
use mathlib.Core.List.{List, [], ◌∷◌}
use native.Mathlib.Omega.{arith}
use borrow.Author.Tests.{le-leb, leb-true}
use lib.ListN.{length, get_or, take, drop}
use lib.Dec.{leb, eqb}
use Rattle.wire.specs.Outcome.{ok, why}
use Rattle.wire.specs.declared.part.Part.{Part}
use Rattle.wire.specs.Parts.{lent_part}
use Rattle.wire.specs.Stored.{stored, store}
use Rattle.wire.proofs.Outcomes.{after_is_ok, test_is_ok, same_ok}
use Rattle.wire.proofs.Stores.{stored_part}
use Rattle.value.specs.declared.classes.Dialect.{Dialect}
use Rattle.table_map.specs.declared.event.Event.{Event}
use Rattle.table_map.specs.Events.{read_event}
use Rattle.record.specs.declared.entry.Entry.{Entry}
use Rattle.record.specs.Entries.{unsigned_flag, entry_holds}
use Rattle.record.specs.Records.{most_columns, record_bytes, record_valid}
use Rattle.record.proofs.Made.{Kept, made_valid}
use Rattle.map_check.specs.declared.declare.Declared.{Declared}
use Rattle.map_check.specs.declared.rank.TablePlace.{TablePlace}
use Rattle.map_check.specs.declared.rank.Ranks.{Ranks}
use Rattle.map_check.specs.declared.facts.Facts.{Facts}
use Rattle.map_check.specs.Columns.{meta_bytes, declared, is_accepted, take_columns}
use Rattle.map_check.specs.Ranks.{table_place, no_ranks, ranks_after, sizes_of}
use Rattle.map_check.specs.Contents.{contents_full}
use Rattle.map_check.specs.Fields.{fields_at, keep_fields}
use Rattle.map_check.specs.Keys.{keys_hold}
use Rattle.map_check.specs.Profile.{facts_of, flags_of, entry_for, entries_from}
use Rattle.map_check.specs.Inner.Making.{ClassHolds}
use Rattle.map_check.specs.Check.{few_enough, entries_of, check_event, check_map, check}
use Rattle.map_check.proofs.ColumnLaws.Declares.{taken_turn, taken_all, declared_length_lem}
use Rattle.map_check.proofs.ColumnLaws.Accepts.{accepted_taken, accepted_numeric}
use Rattle.map_check.proofs.FieldLaws.KeptFields.{kept_first}
use Rattle.map_check.proofs.EntryLaws.Making.{entries_length}
use Rattle.map_check.proofs.EntryLaws.Profiles.{column_narrow, charset_holds_lem, flags_hold_lem}

-- ---- the check's tests, one by one
pub record Chain (d : Dialect) (s : List ℕ) (e : Event) (es : List Entry) : Type 0 where
  pub few : length (lent_part s e.types) ≤ most_columns
  pub columns : List Declared
  pub taken : take_columns (lent_part s e.types) (lent_part s e.metadata) 0 ≡ ok columns
  pub fields : List (ℕ × Part)
  pub kept : keep_fields (sizes_of d columns) (fields_at d (lent_part s e.types) e.optional.start) s ≡ ok fields
  pub once : keys_hold s fields ≡ ok tt
  pub said : es ≡ entries_of d s e columns fields

pub chained : (d : Dialect) (s : List ℕ) (e : Event) (es : List Entry) → check_event d s e ≡ ok es → Chain d s e es
unfolding check_event few_enough
chained d s e es h =
    let types = lent_part s e.types in
    let meta = lent_part s e.metadata in
    let a = after_is_ok (few_enough types) _ es h in
    let b = after_is_ok (take_columns types meta 0) _ es a.2 in
    let c = after_is_ok (keep_fields (sizes_of d b.0) (fields_at d types e.optional.start) s) _ es b.2 in
    let k = after_is_ok (keys_hold s c.0) _ es c.2 in
    let f = test_is_ok (leb (length types) most_columns) tt (why 3 0) a.0 a.1 in
    record {
      few = leb-true (length types) most_columns f.0;
      columns = b.0;
      taken = b.1;
      fields = c.0;
      kept = c.1;
      once = k.1;
      said = sym (same_ok k.2);
    }

-- and what passes each test, passes
pub unchained : {d : Dialect} {s : List ℕ} {e : Event} {es : List Entry} → Chain d s e es → check_event d s e ≡ ok es
unfolding check_event few_enough
unchained {d} {s} {e} p = rw (le-leb (length (lent_part s e.types)) most_columns p.few, p.taken, p.kept, p.once, p.said)

-- ---- the fields of charsets are as the writer of the record needs them
pub classes : {d : Dialect} {s : List ℕ} {e : Event} {es : List Entry} (p : Chain d s e es)
    → ClassHolds s (facts_of e.bits p.fields).characters × ClassHolds s (facts_of e.bits p.fields).choices
unfolding contents_full
classes {d} {s} {e} p =
    let k = sizes_of d p.columns in
    let full = kept_first k (fields_at d (lent_part s e.types) e.optional.start) s p.fields p.kept in (
      record { size = k.character.0; list = λ q v. full 3 q v; default = λ q v. full 2 q v },
      record { size = k.choice.0; list = λ q v. full 11 q v; default = λ q v. full 10 q v },
    )

-- ---- each entry is one that a record may have
entry_kept : (s : List ℕ) (x : Facts) (kind : ℕ) (meta : List ℕ) (j : TablePlace) (k : Ranks) → ClassHolds s x.characters
    → ClassHolds s x.choices
    → is_accepted (declared kind meta) ≡ true → Kept (entry_for s x (declared kind meta) j k)
unfolding entry_holds
entry_kept s x kind meta j k h g a =
    let c = declared kind meta in
    record {
      holds =
          rw (
            accepted_taken c (unsigned_flag (flags_of s x c j k)) a,
            flags_hold_lem s x c j k (accepted_numeric kind meta a),
            charset_holds_lem s x c j k,
          ) refl;
      charset_fits = column_narrow s x c k h g;
    }

entries_kept : (d : Dialect) (s : List ℕ) (x : Facts) (types meta : List ℕ) (p : ℕ) (cs : List Declared) (j : TablePlace) (k : Ranks)
    (z : Entry)
    → ClassHolds s x.characters → ClassHolds s x.choices → take_columns types meta p ≡ ok cs
    → (i : ℕ) → i < length cs → Kept (get_or (entries_from d s x cs j k) i z)
unfolding entries_from take_columns
entries_kept d s x [] meta p cs j k z h g e i l =
    let n : [] ≡ cs = (test_is_ok (eqb (length meta) 0) [] (why 5 p) cs e).1 in
    let m : length cs ≡ 0 = ap length (sym n) in
    absurd (omega arith)
entries_kept d s x (kind ∷ types) meta p cs j k z h g e i l =
    let t = taken_turn kind types meta p cs e in
    subst (λ (y : List Declared). (i : ℕ) → i < length y → Kept (get_or (entries_from d s x y j k) i z)) (sym t.1)
    (go t (entries_kept d s x types (drop (meta_bytes kind) meta) (suc p) t.0 (table_place (suc j.0))
    (ranks_after d k (declared kind meta)) z h g t.2)) i l
  where
    go : (t : (cs' : List Declared) × (cs ≡ declared kind meta ∷ cs') × (take_columns types (drop (meta_bytes kind) meta) (suc p) ≡ ok cs')
        × (is_accepted (declared kind meta) ≡ true) × (meta_bytes kind ≤ length meta))
        → ((i : ℕ) → i < length t.0
        → Kept (get_or (entries_from d s x t.0 (table_place (suc j.0)) (ranks_after d k (declared kind meta))) i z))
        → (i : ℕ) → i < length (declared kind meta ∷ t.0) → Kept (get_or (entries_from d s x (declared kind meta ∷ t.0) j k) i z)
    go t again zero l = entry_kept s x kind meta j k h g t.3
    go t again (suc i) l = again i (omega arith)

-- ---- so its record is valid, and has a column for each type byte
pub as_many : {d : Dialect} {s : List ℕ} {e : Event} {es : List Entry} → Chain d s e es → length es ≡ length (lent_part s e.types)
as_many {d} {s} {e} {es} p =
    let types = lent_part s e.types in
    let meta = lent_part s e.metadata in
    ap length p.said
    ∙ entries_length d s (facts_of e.bits p.fields) p.columns (table_place 0) no_ranks
    ∙ ap length (taken_all types meta 0 p.columns p.taken)
    ∙ declared_length_lem types meta

pub valid : {d : Dialect} {s : List ℕ} {e : Event} {es : List Entry} → Chain d s e es → record_valid (record_bytes es) ≡ true
valid {d} {s} {e} {es} p =
    let x = facts_of e.bits p.fields in
    let z : Entry = record { real = 0; flags = 0; m0 = 0; m1 = 0; charset = 0 } in
    let w = classes p in
    let n : length es ≤ most_columns = omega (arith, as_many p, p.few) in
    let m : length (entries_of d s e p.columns p.fields) ≡ length p.columns =
    entries_length d s x p.columns (table_place 0) no_ranks in
    made_valid es z n
    (subst (λ (y : List Entry). (i : ℕ) → i < length y → Kept (get_or y i z)) (sym p.said)
    (λ i l. entries_kept d s x (lent_part s e.types) (lent_part s e.metadata) 0 p.columns (table_place 0) no_ranks z w.0 w.1
    p.taken i (omega (arith, m, l))))

-- ---- of the call: the record of an accepted map, and what is left at the buffer's start
pub accepted_valid : (d : Dialect) (s : List ℕ) (post_header : ℕ) (es : List Entry) → check_map d s post_header ≡ ok es
    → record_valid (record_bytes es) ≡ true
unfolding check_map
accepted_valid d s post_header es h =
    let x = after_is_ok (read_event s post_header) (λ e. check_event d s e) es h in
    valid (chained d s x.0 es x.2)

pub checked_valid : (d : Dialect) (s : List ℕ) (post_header : ℕ) (buf : List ℕ) (n : ℕ) (left : List ℕ)
    → check d s post_header buf ≡ ok (n, left)
    → record_valid (take n left) ≡ true
unfolding check store
checked_valid d s post_header buf n left h =
    let x = after_is_ok (check_map d s post_header) (λ es. store (record_bytes es) buf 0) (n, left) h in
    let r = record_bytes x.0 in
    let y = test_is_ok (leb (0 + length r) (length buf)) (0 + length r, stored r buf 0) (why 8 0) (n, left) x.2 in
    let i : 0 + length r ≡ n = ap (λ (v : ℕ × List ℕ). v.0) y.1 in
    let j : stored r buf 0 ≡ left = ap (λ (v : ℕ × List ℕ). v.1) y.1 in
    let l : length r ≡ n = omega arith in
    let t : take n left ≡ r = ap (take n) (sym j) ∙ ap (λ (k : ℕ). take k (stored r buf 0)) (sym l) ∙ stored_part buf 0 r (omega arith) in
    rw t (accepted_valid d s post_header x.0 x.1)
