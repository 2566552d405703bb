-- What the check of an input leaves in a buffer that has room for every record: of an accepted map the record, from which its columns are
-- read back; of any other why it is refused. Assumes nothing.
use Prim.Native.Nat.{ℕ, zero, suc, ◌+◌, ◌-◌, ◌/◌, ◌≤◌, ◌<◌, ◌^◌}
use mathlib.Core.Path.{◌≡◌, refl, sym, ap, subst, ◌∙◌}
use mathlib.Core.List.{List, [], ◌∷◌}
use native.Mathlib.Omega.{arith}
use borrow.Author.Tests.{lt-ltb, le-ltb}
use lib.ListN.{length, take, drop, get_or, drop_of_length-le}
use lib.Seq.{drop-cons}
use Rattle.wire.specs.declared.part.Part.{Part}
use Rattle.wire.specs.declared.refusal.Refusal.{Refusal}
use Rattle.wire.specs.Outcome.{Outcome, ok, refused, why}
use Rattle.wire.specs.Stored.{answer_of, left_of}
use Rattle.wire.proofs.Outcomes.{after_is_ok, ok_not_refused, same_ok, same_refused}
use Rattle.wire.proofs.Stores.{store_fits, stored_part}
use Rattle.value.specs.declared.classes.Dialect.{Dialect}
use Rattle.table_map.specs.Events.{read_event}
use Rattle.record.specs.declared.entry.Entry.{Entry}
use Rattle.record.specs.Records.{most_columns, entry_at, entries_in, record_bytes}
use Rattle.record.proofs.Made.{made_length, made_back}
use Rattle.map_check.specs.declared.declare.Declared.{Declared}
use Rattle.map_check.specs.declared.rank.TablePlace.{TablePlace}
use Rattle.map_check.specs.declared.rank.Ranks.{Ranks}
use Rattle.map_check.specs.Ranks.{table_place, no_ranks, ranks_after}
use Rattle.map_check.specs.Profile.{facts_of, entries_from}
use Rattle.map_check.specs.Inner.Making.{ClassHolds}
use Rattle.map_check.specs.Check.{check_event, check_map, check}
use Rattle.map_check.proofs.MapLaws.Relied.{chained, classes, as_many}
use Rattle.map_check.proofs.EntryLaws.Profiles.{column_narrow}
use Rattle.profile.specs.Text.{profiled}

-- ---- the columns of an accepted map: as many as a record may have, each with a charset of two bytes
abbrev pub none : Entry
none = record { real = 0; flags = 0; m0 = 0; m1 = 0; charset = 0 }

charsets_fit : (d : Dialect) (s : List ℕ) (bits : Part) (fs : List (ℕ × Part)) (cs : List Declared) (j : TablePlace) (k : Ranks)
    → ClassHolds s (facts_of bits fs).characters → ClassHolds s (facts_of bits fs).choices → (i : ℕ)
    → i < length (entries_from d s (facts_of bits fs) cs j k) → (get_or (entries_from d s (facts_of bits fs) cs j k) i none).charset < 2 ^ 16
unfolding entries_from
charsets_fit d s bits fs [] j k h g i l = absurd (omega arith)
charsets_fit d s bits fs (c ∷ cs) j k h g zero l = column_narrow s (facts_of bits fs) c k h g
charsets_fit d s bits fs (c ∷ cs) j k h g (suc i) l =
    charsets_fit d s bits fs cs (table_place (suc j.0)) (ranks_after d k c) h g i (omega arith)

pub record Columns (es : List Entry) : Type 0 where
  pub few : length es ≤ most_columns
  pub fit : (i : ℕ) → i < length es → (get_or es i none).charset < 2 ^ 16

accepted : (d : Dialect) (s : List ℕ) (es : List Entry) → check_map d s 8 ≡ ok es → Columns es
unfolding check_map
accepted d s es h =
    let x = after_is_ok (read_event s 8) (λ e. check_event d s e) es h in
    let p = chained d s x.0 es x.2 in
    let w = classes p in
    record {
      few = omega (arith, as_many p, p.few);
      fit =
          subst (λ (y : List Entry). (i : ℕ) → i < length y → (get_or y i none).charset < 2 ^ 16) (sym p.said)
          (charsets_fit d s x.0.bits p.fields p.columns (table_place 0) no_ranks w.0 w.1);
    }

-- they are read back from their record
back_from : (m : ℕ) (es : List Entry) (j : ℕ) → Columns es → j + m ≡ length es → entries_in m (record_bytes es) j ≡ drop j es
unfolding entries_in
back_from zero es j c h = sym (drop_of_length-le es {i = j} (omega arith))
back_from (suc m) es j c h =
    let l : j < length es = omega arith in
    rw (drop-cons es j none l, made_back es none j l (c.fit j l), back_from m es (suc j) c (omega arith))

pub back : (es : List Entry) → Columns es → entries_in (length es) (record_bytes es) 0 ≡ es
back es c = back_from (length es) es 0 c (omega arith)

-- ---- what the check leaves
pub record Kept (d : Dialect) (s : List ℕ) (n : ℕ) (left : List ℕ) : Type 0 where
  pub es : List Entry
  pub passed : check_map d s 8 ≡ ok es
  pub columns : Columns es
  pub size : n ≡ entry_at (length es)
  pub bytes : take n left ≡ record_bytes es

room : (buf : List ℕ) (es : List Entry) → 24582 ≤ length buf → Columns es → 0 + length (record_bytes es) ≤ length buf
room buf es b c = omega (arith, made_length es, c.few)

pub kept : (d : Dialect) (s buf left : List ℕ) (n : ℕ) → ok n ≡ answer_of (check d s 8 buf) → left ≡ left_of (check d s 8 buf) buf
    → 24582 ≤ length buf → Kept d s n left
unfolding check
kept d s buf left n h e b = go (check_map d s 8) refl
  where
    go : (o : Outcome (List Entry)) → check_map d s 8 ≡ o → Kept d s n left
    go (refused w) p =
        let q : ◌≡◌ {A = Outcome ℕ} (ok n) (refused w) = rw p at h in
        absurd (ok_not_refused q)
    go (ok es) p =
        let c = accepted d s es p in
        let r = record_bytes es in
        let f = store_fits buf r 0 (room buf es b c) in
        let q : ok n ≡ ok (0 + length r) = rw (p, f) at h in
        let m : n ≡ length r = omega (arith, same_ok q) in
        record {
          es = es;
          passed = p;
          columns = c;
          size = m ∙ made_length es;
          bytes = rw (e, m, p, f) (stored_part buf 0 r (omega arith));
        }

pub not_kept : (d : Dialect) (s buf : List ℕ) (w : Refusal) → refused w ≡ answer_of (check d s 8 buf) → 24582 ≤ length buf
    → check_map d s 8 ≡ refused w
unfolding check
not_kept d s buf w h b = go (check_map d s 8) refl
  where
    go : (o : Outcome (List Entry)) → check_map d s 8 ≡ o → check_map d s 8 ≡ refused w
    go (refused v) p = p ∙ ap refused (sym (same_refused (h ∙ rw p refl)))
    go (ok es) p =
        let c = accepted d s es p in
        let f = store_fits buf (record_bytes es) 0 (room buf es b c) in
        let q : ◌≡◌ {A = Outcome ℕ} (refused w) (ok (0 + length (record_bytes es))) = rw (p, f) at h in
        absurd (ok_not_refused (sym q))

-- so the columns of what was left are those of the map
pub read_back : {d : Dialect} {s left : List ℕ} {n : ℕ} (k : Kept d s n left) → entries_in ((n - 6) / 6) (take n left) 0 ≡ k.es
read_back {n} k =
    let m : (n - 6) / 6 ≡ length k.es = omega (arith, k.size) in
    rw (m, k.bytes) (back k.es k.columns)

-- ---- what is printed
pub too_long_lem : (d : Dialect) (s : List ℕ) (w : Refusal) → 65536 < length s → w ≡ why 8 0 → profiled d s ≡ refused w
unfolding profiled
too_long_lem d s w h e = rw (lt-ltb 65536 (length s) h, e)

pub taken : (d : Dialect) (s : List ℕ) → length s ≤ 65536 → profiled d s ≡ check_map d s 8
unfolding profiled
taken d s h = rw (le-ltb 65536 (length s) h)
