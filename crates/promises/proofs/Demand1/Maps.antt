-- The refusals of events, lists and fields, of the check and of names. Assumes nothing.
use Prim.Native.Nat.{ℕ, zero, suc, ◌+◌, ◌^◌, ◌≤◌, ◌<◌}
use mathlib.Core.Path.{◌≡◌, refl, sym, ap, subst}
use mathlib.Core.Bool.{true, false}
use mathlib.Core.List.{List, [], ◌∷◌}
use native.Mathlib.Omega.{arith}
use borrow.Author.Tests.{leb-true, leb-false, ltb-true, ltb-false, eqb-false}
use lib.ListN.{length, drop}
use lib.Dec.{leb, ltb, eqb}
use Rattle.std.specs.Prelude.{Some}
use Rattle.wire.specs.Number.{Bytes}
use Rattle.wire.specs.Bits.{bytes_for}
use Rattle.wire.specs.declared.refusal.Refusal.{Refusal}
use Rattle.wire.specs.Outcome.{Outcome, ok, refused, why}
use Rattle.wire.specs.Packed.{read_packed}
use Rattle.wire.specs.declared.part.Part.{Part}
use Rattle.wire.specs.Parts.{lent_part, within}
use Rattle.wire.specs.Layouts.{bytes, named, string, all_integer, Cut, Unpacked, Layout, ◌then◌, counting, whatever, Starts, here, behind}
use Rattle.wire.specs.Layouts.{CutShort, cut_at, NotPacked, unpacked_at}
use Rattle.wire.proofs.Outcomes.{after_is_ok, test_is_ok, same_ok}
use Rattle.wire.proofs.Parts.{within_ok}
use Rattle.wire.proofs.Layouts.{bytes_whole}
use Rattle.value.specs.declared.classes.Dialect.{Dialect}
use Rattle.value.specs.Types.{family_of, is_known}
use Rattle.table_map.specs.declared.field.Fields.{Fields}
use Rattle.table_map.specs.Parts.{short_part, long_part}
use Rattle.table_map.specs.Events.{id_bytes, read_names, read_columns, read_event}
use Rattle.table_map.specs.Writes.{EventParts, is_event, event_bytes, write_event, event_size}
use Rattle.table_map.specs.Lists.{Rule, Stepped, end, step, pair_item, string_item, strings, group_item}
use Rattle.table_map.specs.Fields.{is_field, contents_hold, cut_field, judge_field, field_item, field_step}
use Rattle.table_map.specs.Layouts.{event_layout, pair_layout, strings_layout, group_layout}
use Rattle.table_map.proofs.Chains.{each_within}
use Rattle.table_map.proofs.Layouts.{name_whole, string_whole}
use Rattle.table_map.proofs.Items.{long_moves}
use Rattle.table_map.proofs.Steps.{item_read}
use Rattle.record.specs.Records.{most_columns, record_bytes}
use Rattle.map_check.specs.Columns.{meta_bytes, declared, is_accepted, take_column, take_columns}
use Rattle.map_check.specs.Ranks.{sizes_of}
use Rattle.map_check.specs.Fields.{keep_fields, fields_at}
use Rattle.map_check.specs.Keys.{keys_hold}
use Rattle.map_check.specs.Check.{few_enough, check_event, check_map, check}
use Rattle.map_check.specs.Names.{met_string, string_at, names_field}
use Rattle.map_check.specs.Places.{TooMany, too_many, TypeNotTaken, type_here, type_behind, MetadataWrong, short, not_accepted, left_over}
use Rattle.map_check.specs.Places.{metadata_behind, InColumns, in_columns, cut, unpacked, unknown, faulty, InFields, in_fields, KeyRepeated}
use Rattle.map_check.specs.Places.{BeforeNames, before_names}
use Rattle.map_check.proofs.MapLaws.Places.{column_taken}
use Rattle.map_check.proofs.MapLaws.Refused.{names_refuses, many_told, type_refused, metadata_refused, fields_told, fields_refuse}
use Rattle.map_check.proofs.MapLaws.Refused.{keys_told, keys_refuse}
use Rattle.promises.specs.Refusals.{Line, OneOf, just, under, such, just_part, under_part, later, map_lines}
use Rattle.promises.proofs.Demand1.Only.{Listed, done, stop, hand, chain, test, bytes_there, long_part_lem, Told, then_told, count_told}
use Rattle.promises.proofs.Demand1.Only.{bytes_laid, named_laid, integer_laid, string_laid, count_laid, room}

-- ---- the event, part by part
names : {ls : List Line} {l : Layout} (s : List ℕ) (o : ℕ) → Told ls s (named then bytes 1 then named then bytes 1 then l) o
    → Listed ls (read_names s o)
unfolding read_names
names s o t =
    chain (short_part s o) _ (named_laid t) (λ d e.
    let t₁ = then_told t (name_whole s o d e) in
    chain (within s d.1 1 d.1) _ (bytes_laid t₁) (λ a f.
    let t₂ = then_told t₁ (bytes_whole s d.1 1 d.1 a f) in
    chain (short_part s a) _ (named_laid t₂) (λ x g.
    let t₃ = then_told t₂ (name_whole s a x g) in
    chain (within s x.1 1 x.1) _ (bytes_laid t₃) (λ b i. done _))))

-- and what is behind the names
names_told_lem : {ls : List Line} {l : Layout} (s : List ℕ) (o : ℕ) (x : Part × Part × ℕ) → read_names s o ≡ ok x
    → Told ls s (named then bytes 1 then named then bytes 1 then l) o → Told ls s l x.2
unfolding read_names
names_told_lem {ls} {l} s o x e t =
    let d = after_is_ok (short_part s o) _ x e in
    let a = after_is_ok (within s d.0.1 1 d.0.1) _ x d.2 in
    let y = after_is_ok (short_part s a.0) _ x a.2 in
    let b = after_is_ok (within s y.0.1 1 y.0.1) _ x y.2 in
    let q : b.0 ≡ x.2 = ap (λ (z : Part × Part × ℕ). z.2) (same_ok b.2) in
    let t₁ = then_told t (name_whole s o d.0 d.1) in
    let t₂ = then_told t₁ (bytes_whole s d.0.1 1 d.0.1 a.0 a.1) in
    let t₃ = then_told t₂ (name_whole s a.0 y.0 y.1) in
    subst (Told ls s l) q (then_told t₃ (bytes_whole s y.0.1 1 y.0.1 b.0 b.1))

columns : {ls : List Line} (s : List ℕ) (o : ℕ) → Told ls s (counting (λ n. bytes n then string then bytes (bytes_for n) then whatever)) o
    → Listed ls (read_columns s o)
unfolding read_columns
columns s o t =
    chain (read_packed s o) _ (count_laid t) (λ n e.
    let t₁ = count_told t e in
    chain (within s n.1 n.0 n.1) _ (bytes_laid t₁) (λ a f.
    let t₂ = then_told t₁ (bytes_whole s n.1 n.0 n.1 a f) in
    chain (long_part s a) _ (string_laid t₂) (λ m g.
    let t₃ = then_told t₂ (string_whole s a m g) in
    chain (within s m.1 (bytes_for n.0) m.1) _ (bytes_laid t₃) (λ b i. done _))))

pub event_read : {ls : List Line} (s : List ℕ) (post_header : ℕ) → Told ls s (event_layout post_header) 0 → Listed ls (read_event s post_header)
unfolding read_event
event_read s post_header t =
    chain (within s 0 (id_bytes post_header) 0) _ (bytes_laid t) (λ a e.
    let t₁ = then_told t (bytes_whole s 0 (id_bytes post_header) 0 a e) in
    chain (within s a 2 a) _ (bytes_laid t₁) (λ b f.
    let t₂ = then_told t₁ (bytes_whole s a 2 a b f) in
    chain (read_names s b) _ (names s b t₂) (λ x g.
    chain (read_columns s x.2) _ (columns s x.2 (names_told_lem s b x g t₂)) (λ y i. done _))))

-- ---- a pair, and a group
pub pair_item_lem : {ls : List Line} (s : List ℕ) (o : ℕ) → Told ls s pair_layout o → Listed ls (pair_item s o)
unfolding pair_item
pair_item_lem s o t =
    chain (read_packed s o) _ (integer_laid t) (λ a e.
    chain (read_packed s a.1) _ (integer_laid (then_told t (all_integer e))) (λ b f. done _))

all_strings : {ls : List Line} (s : List ℕ) (n o : ℕ) → Told ls s (strings_layout n) o → Listed ls (strings n s o)
unfolding strings strings_layout
all_strings s zero o t = done _
all_strings s (suc n) o t = chain (long_part s o) _ (string_laid t) (λ x e. all_strings s n x.1 (then_told t (string_whole s o x e)))

pub group_item_lem : {ls : List Line} (s : List ℕ) (o : ℕ) → Told ls s group_layout o → Listed ls (group_item s o)
unfolding group_item
group_item_lem s o t =
    chain (read_packed s o) _ (count_laid t) (λ n e.
    chain (strings n.0 s n.1) _ (all_strings s n.0 n.1 (count_told t e)) (λ b f. done _))

-- ---- the event written, and its size
pub event_written : {ls : List Line} (p : EventParts) (buf : List ℕ) → OneOf ls (why 13 0) → OneOf ls (why 8 0)
    → Listed ls (write_event p buf)
unfolding write_event
event_written p buf thirteen eight = test (is_event p) (λ u. room buf 0 (event_bytes p) eight) (λ u. stop thirteen)

pub event_sized : {ls : List Line} (p : EventParts) → OneOf ls (why 13 0) → OneOf ls (why 8 0) → Listed ls (event_size p)
unfolding event_size
event_sized p thirteen eight =
    test (is_event p) (λ u. test (ltb (length (event_bytes p)) (2 ^ 64)) (λ u. done _) (λ u. stop eight)) (λ u. stop thirteen)

-- ---- a step over any items: past the bytes it is 1, before their end it is the item's
pub stepped : {A : Type 0} {ls : List Line} (rule : Rule A) (s : List ℕ) (o : ℕ) → (length s < o → OneOf ls (why 1 o))
    → (o < length s → Listed ls (rule s o))
    → Listed ls (step rule s o)
unfolding step
stepped rule s o past before =
    test (eqb o (length s)) (λ u. done _)
    (λ u. test (ltb (length s) o) (λ v. stop (past (ltb-true (length s) o v)))
    (λ v.
    let n = eqb-false o (length s) u in
    let l = ltb-false (length s) o v in
    chain (rule s o) _ (before (omega arith)) (λ x e. done _)))

-- a field cut out: its length is behind its type byte
pub field_cut : {ls : List Line} (s : List ℕ) (o : ℕ) → (length s < o + 1 → OneOf ls (why 1 o))
    → (Cut s string (o + 1) → OneOf ls (why 1 (o + 1)))
    → (Unpacked s string (o + 1) → OneOf ls (why 2 (o + 1))) → Listed ls (cut_field s o)
unfolding cut_field
field_cut {ls} s o none one two =
    chain (within s o 1 o) _ (bytes_there s o 1 o none) (λ a e.
    let q : o + 1 ≡ a = sym (within_ok s o 1 o a e).0 in
    chain (long_part s a) _ (subst (λ (p : ℕ). Listed ls (long_part s p)) q (long_part_lem s (o + 1) one two)) (λ v f. done _))

-- and judged
pub field_judged : {ls : List Line} (numeric columns : ℕ) (s : List ℕ) (o : ℕ) (f : ℕ × Part)
    → (is_field f.0 ≡ false → OneOf ls (why 6 o))
    → (is_field f.0 ≡ true → OneOf ls (why 7 o)) → Listed ls (judge_field numeric columns s o f)
unfolding judge_field
field_judged numeric columns s o f six seven =
    test (is_field f.0)
    (λ u. test (contents_hold numeric columns f.0 (lent_part s f.1)) (λ v. done _) (λ v. stop (seven u)))
    (λ u. stop (six u))

field_item_lem : {ls : List Line} (numeric columns : ℕ) (s : List ℕ) (o : ℕ) → (length s < o + 1 → OneOf ls (why 1 o))
    → (Cut s string (o + 1) → OneOf ls (why 1 (o + 1)))
    → (Unpacked s string (o + 1) → OneOf ls (why 2 (o + 1)))
    → ((f : ℕ × Part) (q : ℕ) → cut_field s o ≡ ok (f, q) → is_field f.0 ≡ false → OneOf ls (why 6 o))
    → ((f : ℕ × Part) (q : ℕ) → cut_field s o ≡ ok (f, q) → is_field f.0 ≡ true → OneOf ls (why 7 o))
    → Listed ls (field_item numeric columns s o)
unfolding field_item
field_item_lem numeric columns s o none one two six seven =
    chain (cut_field s o) _ (field_cut s o none one two) (λ x e.
    chain (judge_field numeric columns s o x.0) _
    (field_judged numeric columns s o x.0 (six x.0 x.1 e) (seven x.0 x.1 e)) (λ held f. done _))

pub field_stepped : {ls : List Line} (c : Fields) (s : List ℕ) → OneOf ls (why 1 c.at) → OneOf ls (why 1 (c.at + 1))
    → OneOf ls (why 2 (c.at + 1)) → OneOf ls (why 6 c.at)
    → OneOf ls (why 7 c.at) → Listed ls (field_step c s)
unfolding field_step
field_stepped c s past one two six seven =
    chain (step (field_item c.numeric c.columns) s c.at) _
    (stepped (field_item c.numeric c.columns) s c.at (λ h. past)
    (λ h. field_item_lem c.numeric c.columns s c.at (λ l. past) (λ x. one) (λ x. two) (λ f q e u. six) (λ f q e u. seven)))
    (λ x e. done _)

-- ---- the check
-- the columns from p on: 4 and 5 at the first that is not taken, 5 behind them all for metadata left over
columns_taken : {ls : List Line} (types meta : List ℕ) (p : ℕ) → ((j : ℕ) → TypeNotTaken types meta j → OneOf ls (why 4 (p + j)))
    → ((j : ℕ) → MetadataWrong types meta j → OneOf ls (why 5 (p + j))) → Listed ls (take_columns types meta p)
unfolding take_columns take_column
columns_taken {ls} [] meta p four five =
    let z : p + 0 ≡ p = omega arith in
    test (eqb (length meta) 0) (λ u. done _)
    (λ u.
    let n = eqb-false (length meta) 0 u in
    stop (subst (λ (q : ℕ). OneOf ls (why 5 q)) z (five 0 (left_over (omega arith)))))
columns_taken {ls} (kind ∷ types) meta p four five =
    let z : p + 0 ≡ p = omega arith in
    let four₀ : TypeNotTaken (kind ∷ types) meta 0 → OneOf ls (why 4 p) = λ x. subst (λ (q : ℕ). OneOf ls (why 4 q)) z (four 0 x) in
    let five₀ : MetadataWrong (kind ∷ types) meta 0 → OneOf ls (why 5 p) = λ x. subst (λ (q : ℕ). OneOf ls (why 5 q)) z (five 0 x) in
    let y : (j : ℕ) → p + suc j ≡ suc p + j = λ j. omega arith in
    chain (take_column kind meta p) _
    (test (is_known (family_of kind))
    (λ a. test (leb (meta_bytes kind) (length meta))
    (λ b. test (is_accepted (declared kind meta)) (λ c. done _)
    (λ c. stop (five₀ (not_accepted a (leb-true (meta_bytes kind) (length meta) b) c))))
    (λ b. stop (five₀ (short a (leb-false (meta_bytes kind) (length meta) b)))))
    (λ a. stop (four₀ (type_here a))))
    (λ c e.
    let t = column_taken kind meta p c e in
    chain (take_columns types (drop (meta_bytes kind) meta) (suc p)) _
    (columns_taken types (drop (meta_bytes kind) meta) (suc p)
    (λ j x. subst (λ (q : ℕ). OneOf ls (why 4 q)) (y j) (four (suc j) (type_behind t x)))
    (λ j x. subst (λ (q : ℕ). OneOf ls (why 5 q)) (y j) (five (suc j) (metadata_behind t x))))
    (λ cs f. done _))

-- a field that is refused, by its number
in_fields_told : {ls : List Line} (d : Dialect) (s : List ℕ) (post_header : ℕ)
    → ((p : ℕ) → InFields d s post_header 1 p → OneOf ls (why 1 p)) → ((p : ℕ) → InFields d s post_header 2 p → OneOf ls (why 2 p))
    → ((p : ℕ) → InFields d s post_header 6 p → OneOf ls (why 6 p)) → ((p : ℕ) → InFields d s post_header 7 p → OneOf ls (why 7 p))
    → {number p : ℕ} → InFields d s post_header number p → OneOf ls (why number p)
in_fields_told d s post_header one two six seven (in_fields x (cut {o} u l c)) = one (o + 1) (in_fields x (cut u l c))
in_fields_told d s post_header one two six seven (in_fields x (unpacked {o} u l c)) = two (o + 1) (in_fields x (unpacked u l c))
in_fields_told d s post_header one two six seven (in_fields x (unknown {o} u c k)) = six o (in_fields x (unknown u c k))
in_fields_told d s post_header one two six seven (in_fields x (faulty {o} u k r h f)) = seven o (in_fields x (faulty u k r h f))

before_names_told : {ls : List Line} (d : Dialect) (s : List ℕ) (post_header : ℕ)
    → ((p : ℕ) → BeforeNames d s post_header 1 p → OneOf ls (why 1 p)) → ((p : ℕ) → BeforeNames d s post_header 2 p → OneOf ls (why 2 p))
    → ((p : ℕ) → BeforeNames d s post_header 6 p → OneOf ls (why 6 p)) → ((p : ℕ) → BeforeNames d s post_header 7 p → OneOf ls (why 7 p))
    → {number p : ℕ} → BeforeNames d s post_header number p → OneOf ls (why number p)
before_names_told d s post_header one two six seven (before_names r (cut {o} u l c)) = one (o + 1) (before_names r (cut u l c))
before_names_told d s post_header one two six seven (before_names r (unpacked {o} u l c)) = two (o + 1) (before_names r (unpacked u l c))
before_names_told d s post_header one two six seven (before_names r (unknown {o} u c k)) = six o (before_names r (unknown u c k))
before_names_told d s post_header one two six seven (before_names r (faulty {o} u k i h f)) = seven o (before_names r (faulty u k i h f))

pub names_found : {ls : List Line} (d : Dialect) (s : List ℕ) (post_header : ℕ) → Told ls s (event_layout post_header) 0
    → ((p : ℕ) → BeforeNames d s post_header 1 p → OneOf ls (why 1 p)) → ((p : ℕ) → BeforeNames d s post_header 2 p → OneOf ls (why 2 p))
    → ((p : ℕ) → BeforeNames d s post_header 6 p → OneOf ls (why 6 p)) → ((p : ℕ) → BeforeNames d s post_header 7 p → OneOf ls (why 7 p))
    → Listed ls (names_field d s post_header)
names_found {ls} d s post_header told one two six seven =
    chain (read_event s post_header) _ (event_read s post_header told) (λ e r w q.
    let c = fields_at d (lent_part s e.types) e.optional.start in
    let x = names_refuses c s w (omega (arith, (each_within s post_header e r).optional)) q in
    subst (OneOf ls) (sym x.2) (before_names_told d s post_header one two six seven (before_names r x.3)))

pub checked : {ls : List Line} (d : Dialect) (s : List ℕ) (post_header : ℕ) (buf : List ℕ) → Told ls s (event_layout post_header) 0
    → ((p : ℕ) → TooMany s post_header p → OneOf ls (why 3 p))
    → ((j : ℕ) → InColumns TypeNotTaken s post_header j → OneOf ls (why 4 j))
    → ((j : ℕ) → InColumns MetadataWrong s post_header j → OneOf ls (why 5 j))
    → ((p : ℕ) → InFields d s post_header 1 p → OneOf ls (why 1 p)) → ((p : ℕ) → InFields d s post_header 2 p → OneOf ls (why 2 p))
    → ((p : ℕ) → InFields d s post_header 6 p → OneOf ls (why 6 p)) → ((p : ℕ) → InFields d s post_header 7 p → OneOf ls (why 7 p))
    → ((p : ℕ) → KeyRepeated d s post_header p → OneOf ls (why 7 p)) → OneOf ls (why 8 0) → Listed ls (check d s post_header buf)
unfolding check check_map check_event few_enough
checked {ls} d s post_header buf told three four five one two six seven again eight =
    chain (check_map d s post_header) _
    (chain (read_event s post_header) _ (event_read s post_header told) (λ e r.
    let types = lent_part s e.types in
    let meta = lent_part s e.metadata in
    let z : (j : ℕ) → j ≡ 0 + j = λ j. omega arith in
    chain (few_enough types) _
    (test (leb (length types) most_columns) (λ u. done _) (λ u. stop (three 0 (too_many r (leb-false (length types) most_columns u)))))
    (λ few f.
    let l = leb-true (length types) most_columns (test_is_ok (leb (length types) most_columns) tt (why 3 0) few f).0 in
    chain (take_columns types meta 0) _
    (columns_taken types meta 0
    (λ j x. subst (λ (p : ℕ). OneOf ls (why 4 p)) (z j) (four j (in_columns r l x)))
    (λ j x. subst (λ (p : ℕ). OneOf ls (why 5 p)) (z j) (five j (in_columns r l x))))
    (λ cs g.
    chain (keep_fields (sizes_of d cs) (fields_at d types e.optional.start) s) _
    (λ w i.
    let x = fields_refuse d s post_header e cs w r l g i in
    subst (OneOf ls) (sym x.2) (in_fields_told d s post_header one two six seven x.3))
    (λ fs i.
    chain (keys_hold s fs) _
    (λ w j.
    let x = keys_refuse d s post_header e cs fs w r l g i j in
    subst (OneOf ls) (sym x.1) (again x.0 x.2))
    (λ o j. done _))))))
    (λ es e. room buf 0 (record_bytes es) eight)

-- and the other way: what is refused so, by the event or of the map, whatever the room
pub event_refused : (d : Dialect) (s : List ℕ) (post_header : ℕ) (buf : List ℕ) (w : Refusal) → read_event s post_header ≡ refused w
    → check d s post_header buf ≡ refused w
unfolding check check_map
event_refused d s post_header buf w e = rw e

no_line : {ls : List Line} {w : Refusal} → OneOf ls w → ls ≡ [] → ⊥
no_line just e = let z = ap length e in omega arith
no_line (under h) e = let z = ap length e in omega arith
no_line (such h) e = let z = ap length e in omega arith
no_line (just_part l m) e = let z = ap length e in omega arith
no_line (under_part h l m) e = let z = ap length e in omega arith
no_line (later o) e = let z = ap length e in omega arith

pub map_refused : (d : Dialect) (s : List ℕ) (post_header : ℕ) (buf : List ℕ) (w : Refusal) → Bytes s → OneOf (map_lines d s post_header) w
    → check d s post_header buf ≡ refused w
unfolding check
map_refused d s post_header buf w b o = rw (go o)
  where
    go : {w : Refusal} → OneOf (map_lines d s post_header) w → check_map d s post_header ≡ refused w
    go (such x) = many_told d x
    go (later (such x)) = type_refused d x
    go (later (later (such x))) = metadata_refused d x
    go (later (later (later (such x)))) = fields_told b x
    go (later (later (later (later (such x))))) = fields_told b x
    go (later (later (later (later (later (such x)))))) = fields_told b x
    go (later (later (later (later (later (later (such x))))))) = fields_told b x
    go (later (later (later (later (later (later (later (such x)))))))) = keys_told x
    go (later (later (later (later (later (later (later (later o)))))))) = absurd (no_line o refl)

-- ---- names: of the strings up to the one asked, the first that fails
pub string_found : {ls : List Line} (s : List ℕ) (asked : ℕ) → OneOf ls (why 14 asked)
    → ((p : ℕ) → p < length s → CutShort s (strings_layout (suc asked)) 0 p → OneOf ls (why 1 p))
    → ((p : ℕ) → NotPacked s (strings_layout (suc asked)) 0 p → OneOf ls (why 2 p))
    → Listed ls (string_at asked asked s 0)
unfolding string_at strings_layout
string_found {ls} s asked none one two = go asked 0 (omega arith) (λ q a. a)
  where
    seen : (o : ℕ) → Starts s (strings_layout (suc asked)) 0 string o → o < length s → Listed ls (long_part s o)
    seen o a l = long_part_lem s o (λ c. one o l (cut_at a c)) (λ c. two o (unpacked_at a c))

    handed : {A : Type 0} (o : ℕ) → o ≤ length s → Starts s (strings_layout (suc asked)) 0 string o → (found : Part → ℕ → Outcome A)
        → ((p : Part) (q : ℕ) → long_part s o ≡ ok (p, q) → Listed ls (found p q))
        → (x : Outcome (Stepped Part ℕ)) → step string_item s o ≡ x → Listed ls (met_string found asked x)
    handed o h a found k (ok end) e = stop none
    handed o h a found k (ok (Some x)) e = k x.0 x.1 (item_read string_item s o x.0 x.1 e).1
    handed o h a found k (refused w) e = hand (step string_item s o) w (stepped string_item s o (λ l. absurd (omega arith)) (seen o a)) e

    -- a string that starts among those from o on is one of all
    go : (i o : ℕ) → o ≤ length s
        → ((q : ℕ) → Starts s (strings_layout (suc i)) o string q → Starts s (strings_layout (suc asked)) 0 string q)
        → Listed ls (string_at i asked s o)
    go zero o h into = handed o h (into o here) _ (λ p q e. done _) (step string_item s o) refl
    go (suc i) o h into =
        handed o h (into o here) _
        (λ p q e. go i q (long_moves s o p q e).2 (λ r a. into r (behind (string_whole s o (p, q) e) a))) (step string_item s o) refl
