-- The check accepts the maps that pass, and no others, with the entries that their columns and fields say. Assumes nothing.
use Prim.Native.Nat.{ℕ}
use mathlib.Core.Path.{◌≡◌, refl, sym, ap, subst, ◌∙◌}
use mathlib.Core.Bool.{true, false}
use mathlib.Core.List.{List, []}
use lib.ListN.{length}
use lib.Dec.{ltb}
use Rattle.wire.specs.Outcome.{ok}
use Rattle.wire.specs.Parts.{lent_part}
use Rattle.value.specs.declared.classes.Dialect.{Dialect}
use Rattle.table_map.specs.declared.event.Event.{Event}
use Rattle.table_map.specs.declared.field.Fields.{Fields as FieldCursor}
use Rattle.table_map.specs.Lists.{ItemsWalked, walk_items}
use Rattle.record.specs.declared.entry.Entry.{Entry}
use Rattle.map_check.specs.declared.declare.Declared.{Declared}
use Rattle.map_check.specs.Columns.{take_columns}
use Rattle.map_check.specs.Ranks.{ranks_from, sizes_of}
use Rattle.map_check.specs.declared.rank.Ranks.{Ranks}
use Rattle.map_check.specs.Contents.{key_item, contents_full}
use Rattle.map_check.specs.Fields.{fields_at}
use Rattle.map_check.specs.Check.{entries_of, check_event}
use Rattle.map_check.specs.Passes.{Member, Each, Distinct, signed, count, Field, Contents, KeysAre, simple_keys, prefix_keys}
use Rattle.map_check.specs.Passes.{EntriesAre, Passes}
use Rattle.map_check.proofs.ColumnLaws.Declares.{taken_all, declared_length_lem}
use Rattle.map_check.proofs.ColumnLaws.Counts.{sizes_signs}
use Rattle.map_check.proofs.KeyLaws.KeyItems.{key_moves}
use Rattle.map_check.proofs.ContentsLaws.Laid.{laid_walk, list_laid, simple_laid, laid_simple, prefixed_laid, laid_prefixed}
use Rattle.map_check.proofs.ContentsLaws.Filled.{sized, Held, contents_held, held_contents}
use Rattle.map_check.proofs.FieldLaws.Lined.{columns_taken, taken_columns, bare, Stood, kept_stood, stood_kept}
use Rattle.map_check.proofs.EntryLaws.Entered.{Known, entries_given, entries_said}
use Rattle.map_check.proofs.MapLaws.Relied.{Chain, chained, unchained, classes}

-- ---- the walk counts columns as they are counted here
pub record Counted (d : Dialect) (cs : List Declared) (c : FieldCursor) : Type 0 where
  pub numeric : c.numeric ≡ count (signed d) cs
  pub columns : c.columns ≡ length cs

pub counted : (d : Dialect) (types meta : List ℕ) (at : ℕ) (cs : List Declared) → take_columns types meta 0 ≡ ok cs
    → Counted d cs (fields_at d types at)
counted d types meta at cs e = record {
  numeric = sym (sizes_signs d types meta 0 cs e) ∙ (sized d cs).sign;
  columns = sym (ap length (taken_all types meta 0 cs e) ∙ declared_length_lem types meta);
}

held : {d : Dialect} {cs : List Declared} {c : FieldCursor} → Counted d cs c → {fs : List Field}
    → Each (λ (f : Field). Contents d cs f.0 f.1) fs
    → Each (λ (f : Field). Held c.numeric c.columns (sizes_of d cs) f.0 f.1) fs
held {d} {cs} n h f m = rw (n.numeric, n.columns) (contents_held (sized d cs) (h f m))

full : {d : Dialect} {cs : List Declared} {c : FieldCursor} → Counted d cs c → {fs : List Field}
    → Each (λ (f : Field). Held c.numeric c.columns (sizes_of d cs) f.0 f.1) fs
    → Each (λ (f : Field). Contents d cs f.0 f.1) fs
full {d} {cs} {c} n h f m =
    held_contents (sized d cs) f.0 f.1
    (subst (λ (k : ℕ). Held (count (signed d) cs) k (sizes_of d cs) f.0 f.1) n.columns
    (subst (λ (k : ℕ). Held k c.columns (sizes_of d cs) f.0 f.1) n.numeric (h f m)))

-- ---- the keys of a field, as they are said and as the check reads them
keys_said : {sizes : Ranks} {c : FieldCursor} {s : List ℕ} {fs : List Field} → Stood sizes c s fs
    → (kind : ℕ) (value keys : List ℕ) → Member (kind, value) fs → KeysAre kind value keys → Distinct keys
keys_said x kind value keys m (simple_keys b) =
    subst Distinct (ap (λ (w : ItemsWalked ℕ). w.items) (laid_walk (key_item false) (key_moves false) (laid_simple b) refl))
    (x.simple value m)
keys_said x kind value keys m (prefix_keys b) =
    subst Distinct (ap (λ (w : ItemsWalked ℕ). w.items) (laid_walk (key_item true) (key_moves true) (laid_prefixed b) refl))
    (x.prefixed value m)

simple_read : {d : Dialect} {cs : List Declared} {fs : List Field} → Each (λ (f : Field). Contents d cs f.0 f.1) fs
    → ((kind : ℕ) (value keys : List ℕ) → Member (kind, value) fs → KeysAre kind value keys → Distinct keys)
    → (value : List ℕ) → Member (8, value) fs → Distinct (walk_items (key_item false) value 0).items
unfolding ranks_from contents_full
simple_read {d} {cs} h once value m =
    let f = (contents_held (sized d cs) (h (8, value) m)).full in
    let y = list_laid (key_item false) (key_moves false) (λ k. ltb k (length cs)) value f in
    once 8 value _ m (simple_keys (simple_laid y.0))

prefixed_read : {d : Dialect} {cs : List Declared} {fs : List Field} → Each (λ (f : Field). Contents d cs f.0 f.1) fs
    → ((kind : ℕ) (value keys : List ℕ) → Member (kind, value) fs → KeysAre kind value keys → Distinct keys)
    → (value : List ℕ) → Member (9, value) fs → Distinct (walk_items (key_item true) value 0).items
unfolding ranks_from contents_full
prefixed_read {d} {cs} h once value m =
    let f = (contents_held (sized d cs) (h (9, value) m)).full in
    let y = list_laid (key_item true) (key_moves true) (λ k. ltb k (length cs)) value f in
    let w = prefixed_laid y.0 in
    subst Distinct w.1 (once 9 value _ m (prefix_keys w.2))

-- ---- what is accepted passes
known : {d : Dialect} {s : List ℕ} {e : Event} {es : List Entry} (p : Chain d s e es)
    → Stood (sizes_of d p.columns) (fields_at d (lent_part s e.types) e.optional.start) s (bare s p.fields)
    → Known s e.bits p.fields
known p x =
    let w = classes p in
    record { once = x.once; not_2_3 = x.not_2_3; not_10_11 = x.not_10_11; characters = w.0; choices = w.1 }

pub passed : (d : Dialect) (s : List ℕ) (e : Event) (es : List Entry) → check_event d s e ≡ ok es → Passes d s e es
unfolding ranks_from
passed d s e es h =
    let p = chained d s e es h in
    let types = lent_part s e.types in
    let meta = lent_part s e.metadata in
    let c = fields_at d types e.optional.start in
    let x = kept_stood (sizes_of d p.columns) c s p.fields p.kept p.once in
    record {
      few = p.few;
      columns = p.columns;
      columns_are = taken_columns types meta 0 p.columns p.taken;
      fields = bare s p.fields;
      fields_are = x.fields_are;
      once = x.once;
      not_2_3 = x.not_2_3;
      not_10_11 = x.not_10_11;
      not_8_9 = x.not_8_9;
      contents = full (counted d types meta e.optional.start p.columns p.taken) x.held;
      keys_once = keys_said x;
      entries_are =
          subst (EntriesAre d (lent_part s e.bits) (bare s p.fields) [] p.columns) (sym p.said)
          (entries_given d (known p x) p.columns []);
    }

-- ---- and what passes is accepted
pub passes : {d : Dialect} {s : List ℕ} {e : Event} {es : List Entry} → Passes d s e es → check_event d s e ≡ ok es
unfolding ranks_from
passes {d} {s} {e} {es} p =
    let types = lent_part s e.types in
    let meta = lent_part s e.metadata in
    let c = fields_at d types e.optional.start in
    let t = columns_taken p.columns_are 0 in
    let x : Stood (sizes_of d p.columns) c s p.fields = record {
      fields_are = p.fields_are;
      once = p.once;
      not_2_3 = p.not_2_3;
      not_10_11 = p.not_10_11;
      not_8_9 = p.not_8_9;
      held = held (counted d types meta e.optional.start p.columns t) p.contents;
      simple = simple_read p.contents p.keys_once;
      prefixed = prefixed_read p.contents p.keys_once;
    } in
    let y = stood_kept (sizes_of d p.columns) c s p.fields x in
    let k : Chain d s e (entries_of d s e p.columns y.0) =
    record { few = p.few; columns = p.columns; taken = t; fields = y.0; kept = y.1; once = y.2; said = refl } in
    let z = known k (subst (Stood (sizes_of d p.columns) c s) (sym y.3) x) in
    let q = entries_said z
    (subst (λ (fs : List Field). EntriesAre d (lent_part s e.bits) fs [] p.columns es) (sym y.3) p.entries_are) in
    unchained k ∙ ap (λ (l : List Entry). ok l) (sym q)
