-- The check link by link: each refuses as its own test does, and a map that passes all of them has its entries. Assumes nothing.
use Prim.Native.Nat.{ℕ, ◌≤◌, ◌<◌}
use mathlib.Core.Path.{◌≡◌, sym, ap, subst, ◌∙◌}
use mathlib.Core.Bool.{true, false}
use mathlib.Core.List.{List}
use mathlib.Core.Logic.{⊎_elim}
use borrow.Author.Tests.{le-leb, lt-leb}
use lib.ListN.{length}
use Rattle.wire.specs.declared.refusal.Refusal.{Refusal}
use Rattle.wire.specs.Outcome.{Outcome, ok, refused, refuse, after}
use Rattle.wire.specs.declared.part.Part.{Part}
use Rattle.wire.specs.Parts.{lent_part}
use Rattle.wire.proofs.Outcomes.{after_is_ok, after_refuses, ok_not_refused, same_ok}
use Rattle.value.specs.declared.classes.Dialect.{Dialect}
use Rattle.table_map.specs.declared.event.Event.{Event}
use Rattle.table_map.specs.declared.field.Fields.{Fields as FieldCursor}
use Rattle.record.specs.Records.{most_columns}
use Rattle.map_check.specs.declared.declare.Declared.{Declared}
use Rattle.map_check.specs.declared.rank.Ranks.{Ranks}
use Rattle.map_check.specs.declared.facts.KeptFields.{KeptFields}
use Rattle.map_check.specs.Columns.{take_columns}
use Rattle.map_check.specs.Inner.Columns.{declare_all}
use Rattle.map_check.specs.Ranks.{table_place, no_ranks, sizes_of}
use Rattle.map_check.specs.Contents.{contents_full}
use Rattle.map_check.specs.Fields.{fields_at, first_of, keep_fields}
use Rattle.map_check.specs.Keys.{once_in, keys_hold}
use Rattle.map_check.specs.Profile.{entries_from}
use Rattle.map_check.specs.Inner.Making.{kept_by, Writable}
use Rattle.map_check.specs.Check.{few_enough, entries_of, check_event}
use Rattle.map_check.proofs.ColumnLaws.Declares.{taken_all}
use Rattle.map_check.proofs.FieldLaws.FieldTurns.{handed}
use Rattle.map_check.proofs.FieldLaws.KeptFields.{kept_first}

-- ---- how far a map came: its columns are taken, and there are k of each class
pub record Columned (d : Dialect) (s : List ℕ) (e : Event) (types meta : List ℕ) (k : Ranks) : Type 0 where
  pub types_are : types ≡ lent_part s e.types
  pub meta_are : meta ≡ lent_part s e.metadata
  pub few : length types ≤ most_columns
  pub counted : after (take_columns types meta 0) (λ cs. ok (sizes_of d cs)) ≡ ok k

-- and its fields are kept, as x tells them
pub record Fielded (d : Dialect) (s : List ℕ) (e : Event) (types meta : List ℕ) (k : Ranks) (c : FieldCursor) (x : KeptFields) : Type 0
  where
    pub columns : Columned d s e types meta k
    pub cursor : c ≡ fields_at d types e.optional.start
    pub fields : List (ℕ × Part)
    pub kept : keep_fields k c s ≡ ok fields
    pub told : kept_by e.bits (λ i. first_of i fields) ≡ x

pub columned : (d : Dialect) (s : List ℕ) (e : Event) (types meta : List ℕ) (k : Ranks) → types ≡ lent_part s e.types
    → meta ≡ lent_part s e.metadata
    → length types ≤ most_columns → after (take_columns types meta 0) (λ cs. ok (sizes_of d cs)) ≡ ok k → Columned d s e types meta k
columned d s e types meta k t m h q = record { types_are = t; meta_are = m; few = h; counted = q }

pub fielded : {d : Dialect} {s : List ℕ} {e : Event} {types meta : List ℕ} {k : Ranks} {c : FieldCursor} {x : KeptFields}
    → Columned d s e types meta k
    → c ≡ fields_at d types e.optional.start → handed e.bits (keep_fields k c s) ≡ ok x → Fielded d s e types meta k c x
fielded {d} {s} {e} {types} {meta} {k} {c} {x} q a h =
    let y = after_is_ok (keep_fields k c s) (λ fs. ok (kept_by e.bits (λ i. first_of i fs))) x h in
    record { columns = q; cursor = a; fields = y.0; kept = y.1; told = same_ok y.2 }

-- ---- the columns on paper
record Taken (d : Dialect) (s : List ℕ) (e : Event) (types meta : List ℕ) (k : Ranks) : Type 0 where
  cs : List Declared
  taken : take_columns (lent_part s e.types) (lent_part s e.metadata) 0 ≡ ok cs
  sizes : sizes_of d cs ≡ k
  all : cs ≡ declare_all types meta

taken_of : {d : Dialect} {s : List ℕ} {e : Event} {types meta : List ℕ} {k : Ranks} → Columned d s e types meta k → Taken d s e types meta k
taken_of {d} {s} {e} {types} {meta} {k} c =
    let x = after_is_ok (take_columns types meta 0) (λ cs. ok (sizes_of d cs)) k c.counted in
    record {
      cs = x.0;
      taken = rw (← c.types_are, ← c.meta_are) x.1;
      sizes = same_ok x.2;
      all = taken_all types meta 0 x.0 x.1;
    }

-- ---- what stands behind the first test
behind : (d : Dialect) (s : List ℕ) (e : Event) → length (lent_part s e.types) ≤ most_columns
    → check_event d s e
    ≡ after (take_columns (lent_part s e.types) (lent_part s e.metadata) 0) (λ cs.
    after (keep_fields (sizes_of d cs) (fields_at d (lent_part s e.types) e.optional.start) s) (λ fs.
    after (keys_hold s fs) (λ once.
    ok (entries_of d s e cs fs))))
unfolding check_event few_enough
behind d s e h = rw (le-leb (length (lent_part s e.types)) most_columns h)

few_lent : {d : Dialect} {s : List ℕ} {e : Event} {types meta : List ℕ} {k : Ranks} → Columned d s e types meta k
    → length (lent_part s e.types) ≤ most_columns
few_lent c = rw (← c.types_are) c.few

-- ---- the links
pub too_many : (d : Dialect) (s : List ℕ) (e : Event) (types : List ℕ) → types ≡ lent_part s e.types → most_columns < length types
    → check_event d s e ≡ refuse 3 0
unfolding check_event few_enough
too_many d s e types t h =
    let l : most_columns < length (lent_part s e.types) = rw (← t) h in
    rw (lt-leb (length (lent_part s e.types)) most_columns l)

pub columns_refuse : (d : Dialect) (s : List ℕ) (e : Event) (types meta : List ℕ) (w : Refusal) → types ≡ lent_part s e.types
    → meta ≡ lent_part s e.metadata
    → length types ≤ most_columns → after (take_columns types meta 0) (λ cs. ok (sizes_of d cs)) ≡ refused w → check_event d s e ≡ refused w
columns_refuse d s e types meta w t m h r =
    let l : length (lent_part s e.types) ≤ most_columns = rw (← t) h in
    let x : take_columns types meta 0 ≡ refused w =
    ⊎_elim (λ y. y) (λ y. absurd (ok_not_refused y.2)) (after_refuses (take_columns types meta 0) (λ cs. ok (sizes_of d cs)) w r) in
    let y : take_columns (lent_part s e.types) (lent_part s e.metadata) 0 ≡ refused w = rw (← t, ← m) x in
    behind d s e l ∙ rw y

-- where the fields stand is told by the event
at_fields : {d : Dialect} {s : List ℕ} {e : Event} {types meta : List ℕ} {k : Ranks} {c : FieldCursor} → Columned d s e types meta k
    → c ≡ fields_at d types e.optional.start → c ≡ fields_at d (lent_part s e.types) e.optional.start
at_fields {d} {s} {e} q a = a ∙ ap (λ (t : List ℕ). fields_at d t e.optional.start) q.types_are

pub fields_refuse : {d : Dialect} {s : List ℕ} {e : Event} {types meta : List ℕ} {k : Ranks} (c : FieldCursor) (w : Refusal)
    → Columned d s e types meta k
    → c ≡ fields_at d types e.optional.start → handed e.bits (keep_fields k c s) ≡ refused w → check_event d s e ≡ refused w
fields_refuse {d} {s} {e} {types} {meta} {k} c w q a r =
    let x = taken_of q in
    let y : keep_fields k c s ≡ refused w =
    ⊎_elim (λ z. z) (λ z. absurd (ok_not_refused z.2))
    (after_refuses (keep_fields k c s) (λ fs. ok (kept_by e.bits (λ i. first_of i fs))) w r) in
    let f : keep_fields k (fields_at d (lent_part s e.types) e.optional.start) s ≡ refused w =
    subst (λ (z : FieldCursor). keep_fields k z s ≡ refused w) (at_fields q a) y in
    behind d s e (few_lent q) ∙ rw (x.taken, x.sizes, f)

-- the fields on paper
fields_kept : {d : Dialect} {s : List ℕ} {e : Event} {types meta : List ℕ} {k : Ranks} {c : FieldCursor} {x : KeptFields}
    (q : Fielded d s e types meta k c x)
    → keep_fields k (fields_at d (lent_part s e.types) e.optional.start) s ≡ ok q.fields
fields_kept {d} {s} {e} {types} {meta} {k} {c} q =
    subst (λ (y : FieldCursor). keep_fields k y s ≡ ok q.fields) (at_fields q.columns q.cursor) q.kept

-- what the code asks of the two fields of keys
abbrev pub asked : List ℕ → KeptFields → Outcome (Unit {0})
asked s x = after (once_in false s x.simple) (λ u. once_in true s x.prefixed)

pub keys_refuse : {d : Dialect} {s : List ℕ} {e : Event} {types meta : List ℕ} {k : Ranks} {c : FieldCursor} {x : KeptFields} (w : Refusal)
    → Fielded d s e types meta k c x → asked s x ≡ refused w → check_event d s e ≡ refused w
unfolding keys_hold
keys_refuse {d} {s} {e} w q r =
    let x = taken_of q.columns in
    let y : asked s (kept_by e.bits (λ i. first_of i q.fields)) ≡ refused w =
    subst (λ (z : KeptFields). asked s z ≡ refused w) (sym q.told) r in
    behind d s e (few_lent q.columns) ∙ rw (x.taken, x.sizes, fields_kept q, y)

pub keys_pass : {d : Dialect} {s : List ℕ} {e : Event} {types meta : List ℕ} {k : Ranks} {c : FieldCursor} {x : KeptFields}
    → Fielded d s e types meta k c x
    → asked s x ≡ ok tt → check_event d s e ≡ ok (entries_from d s x.facts (declare_all types meta) (table_place 0) no_ranks)
unfolding keys_hold
keys_pass {d} {s} {e} {types} {meta} q r =
    let x = taken_of q.columns in
    let y : asked s (kept_by e.bits (λ i. first_of i q.fields)) ≡ ok tt =
    subst (λ (z : KeptFields). asked s z ≡ ok tt) (sym q.told) r in
    behind d s e (few_lent q.columns) ∙ rw (x.taken, x.sizes, fields_kept q, y, x.all)
    (ap (λ (z : KeptFields). ok (entries_from d s z.facts (declare_all types meta) (table_place 0) no_ranks)) q.told)

-- ---- and the writer of the record may count on it
pub takes : {d : Dialect} {s : List ℕ} {e : Event} {types meta : List ℕ} {k : Ranks} {c : FieldCursor} {x : KeptFields}
    → Fielded d s e types meta k c x
    → Writable s types x.facts
unfolding contents_full
takes {d} {s} {e} {types} {meta} {k} {c} q =
    let full = kept_first k c s q.fields q.kept in
    subst (λ (y : KeptFields). Writable s types y.facts) q.told
    (record {
      few = q.columns.few;
      characters = record { size = k.character.0; list = λ p v. full 3 p v; default = λ p v. full 2 p v };
      choices = record { size = k.choice.0; list = λ p v. full 11 p v; default = λ p v. full 10 p v };
    })
