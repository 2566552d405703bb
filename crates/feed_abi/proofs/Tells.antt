-- What a call leaves, from what its code did. Assumes nothing.
use Prim.Native.Nat.{ℕ, ◌+◌, ◌≤◌, ◌<◌}
use mathlib.Core.Path.{◌≡◌, refl, sym, ap, subst, ◌∙◌}
use mathlib.Core.List.{List, [], ◌∷◌, ◌++◌}
use native.Mathlib.Omega.{arith}
use borrow.Author.Tests.{le-leb, lt-leb, lt-ltb, le-ltb}
use lib.ListN.{length}
use Rattle.std.specs.Prelude.{Option}
use Rattle.wire.specs.declared.refusal.Refusal.{Refusal}
use Rattle.wire.specs.Outcome.{Outcome, ok, refused, refuse, after}
use Rattle.wire.specs.Stored.{stored, answer_of, left_of}
use Rattle.wire.proofs.Outcomes.{ok_not_refused, same_ok, same_refused}
use Rattle.wire.proofs.Stores.{stored_stored}
use Rattle.wire.specs.declared.part.Part.{Part}
use Rattle.wire.specs.Parts.{lent_part}
use Rattle.value.specs.declared.classes.Dialect.{Dialect}
use Rattle.table_map.specs.declared.event.Event.{Event}
use Rattle.table_map.specs.declared.field.Fields.{Fields}
use Rattle.table_map.specs.Events.{read_event}
use Rattle.record.specs.Records.{entry_in, read_record}
use Rattle.map_check.specs.Fields.{fields_at}
use Rattle.map_check.specs.Names.{names_field}
use Rattle.rows_event.specs.declared.event.Rows.{Rows}
use Rattle.rows_event.specs.declared.images.Images.{Images}
use Rattle.rows_event.specs.Images.{ImageStepped as Told₁, next_image}
use Rattle.feed_abi.specs.Answers.{answer_number, answer_numbers, status_of, numbers_left, bytes_left}
use Rattle.image.specs.Split.{ColumnStepped}
use Rattle.feed_abi.specs.Calls.{said, said_with, entry_numbers, names_given, given_numbers, told_numbers, Held, sets_asked, dialect_of}
use Rattle.feed_abi.specs.Calls.{feed_column, feed_names}
use Rattle.feed_abi.specs.Fields.{fields_numbers, feed_fields}

-- the status s and the numbers x that a call leaves
abbrev pub Tells : ℕ → List ℕ → Outcome (List ℕ) → ℕ → List ℕ → Type 0
Tells k out o s x = (s ≡ status_of k o out) × (x ≡ numbers_left k o out)

-- and the bytes b that a writer leaves
abbrev pub Leaves : ℕ → List ℕ → List ℕ → Outcome (List ℕ × List ℕ) → ℕ → List ℕ → List ℕ → Type 0
Leaves k out buf o s x b = (s ≡ status_of k (answer_of o) out) × ((x ≡ numbers_left k (answer_of o) out) × (b ≡ bytes_left k o out buf))

-- ---- without room for the numbers
pub no_numbers : (k : ℕ) (out : List ℕ) (o : Outcome (List ℕ)) → length out < k → Tells k out o 8 out
unfolding status_of numbers_left
no_numbers k out o h = rw (lt-leb k (length out) h) (refl, refl)

pub no_bytes : (k : ℕ) (out buf : List ℕ) (o : Outcome (List ℕ × List ℕ)) → length out < k → Leaves k out buf o 8 out buf
unfolding status_of numbers_left bytes_left
no_bytes k out buf o h = rw (lt-leb k (length out) h) (refl, (refl, refl))

-- ---- with room: an answer, or a refusal
pub tells_ok : (k : ℕ) (out : List ℕ) (o : Outcome (List ℕ)) (ns : List ℕ) (s : ℕ) (x : List ℕ) → k ≤ length out → o ≡ ok ns → s ≡ 0
    → x ≡ stored ns out 0 → Tells k out o s x
unfolding status_of numbers_left
tells_ok k out o ns s x h e p q = rw (le-leb k (length out) h, e) (p, q)

pub tells_refused : (k : ℕ) (out : List ℕ) (o : Outcome (List ℕ)) (r : Refusal) (s : ℕ) (x : List ℕ) → k ≤ length out → o ≡ refused r
    → s ≡ r.number
    → x ≡ stored (r.place ∷ r.part ∷ []) out 0 → Tells k out o s x
unfolding status_of numbers_left
tells_refused k out o r s x h e p q = rw (le-leb k (length out) h, e) (p, q)

-- of a call whose answer is said in numbers
pub said_ok : {A : Type 0} (k : ℕ) (out : List ℕ) (f : A → List ℕ) (o : Outcome A) (a : A) (s : ℕ) (x : List ℕ) → k ≤ length out → o ≡ ok a
    → s ≡ 0 → x ≡ stored (f a) out 0
    → Tells k out (said f o) s x
said_ok k out f o a s x h e p q = tells_ok k out (said f o) (f a) s x h (rw e) p q

pub said_refused : {A : Type 0} (k : ℕ) (out : List ℕ) (f : A → List ℕ) (o : Outcome A) (r : Refusal) (s : ℕ) (x : List ℕ) → k ≤ length out
    → o ≡ refused r → s ≡ r.number
    → x ≡ stored (r.place ∷ r.part ∷ []) out 0 → Tells k out (said f o) s x
said_refused k out f o r s x h e p q = tells_refused k out (said f o) r s x h (rw e) p q

-- of a call that tells what another answered
pub tells_told : (k : ℕ) (out : List ℕ) (o a : Outcome (List ℕ)) (s : ℕ) (x : List ℕ) → k ≤ length out → a ≡ o → s ≡ answer_number a
    → x ≡ stored (answer_numbers a) out 0
    → Tells k out o s x
unfolding status_of numbers_left
tells_told k out o a s x h e p q = rw (le-leb k (length out) h, sym e) (p, q)

-- ---- a writer w, whose answer is said in numbers
pub wrote_ok : {A : Type 0} (k : ℕ) (out buf : List ℕ) (f : A → List ℕ) (w : Outcome (A × List ℕ)) (o : Outcome (List ℕ × List ℕ)) (a : A)
    (s : ℕ) (x b : List ℕ) → k ≤ length out
    → o ≡ said_with f w → answer_of w ≡ ok a → s ≡ 0 → x ≡ stored (f a) out 0 → b ≡ left_of w buf → Leaves k out buf o s x b
unfolding status_of numbers_left bytes_left
wrote_ok k out buf f (ok y) o a s x b h d e p q u =
    let z : y.0 ≡ a = same_ok e in
    rw (le-leb k (length out) h, d, z) (p, (q, u))
wrote_ok k out buf f (refused r) o a s x b h d e p q u = absurd (ok_not_refused (sym e))

pub wrote_refused : {A : Type 0} (k : ℕ) (out buf : List ℕ) (f : A → List ℕ) (w : Outcome (A × List ℕ)) (o : Outcome (List ℕ × List ℕ))
    (r : Refusal) (s : ℕ) (x b : List ℕ)
    → k ≤ length out → o ≡ said_with f w → answer_of w ≡ refused r → s ≡ r.number → x ≡ stored (r.place ∷ r.part ∷ []) out 0
    → b ≡ left_of w buf → Leaves k out buf o s x b
unfolding status_of numbers_left bytes_left
wrote_refused k out buf f (ok y) o r s x b h d e p q u = absurd (ok_not_refused e)
wrote_refused k out buf f (refused v) o r s x b h d e p q u =
    let z : v ≡ r = same_refused e in
    rw (le-leb k (length out) h, d, z) (p, (q, u))

-- either way
pub wrote_told : {A : Type 0} (k : ℕ) (out buf : List ℕ) (f : A → List ℕ) (w : Outcome (A × List ℕ)) (o : Outcome (List ℕ × List ℕ))
    (a : Outcome A) (s : ℕ) (x b : List ℕ)
    → k ≤ length out → o ≡ said_with f w → a ≡ answer_of w → s ≡ answer_number (said f a) → x ≡ stored (answer_numbers (said f a)) out 0
    → b ≡ left_of w buf → Leaves k out buf o s x b
wrote_told k out buf f w o (ok y) s x b h d e p q u = wrote_ok k out buf f w o y s x b h d (sym e) p q u
wrote_told k out buf f w o (refused r) s x b h d e p q u = wrote_refused k out buf f w o r s x b h d (sym e) p q u

-- a refusal before the writer was called
pub not_called : (k : ℕ) (out buf : List ℕ) (o : Outcome (List ℕ × List ℕ)) (r : Refusal) (s : ℕ) (x : List ℕ) → k ≤ length out
    → o ≡ refused r → s ≡ r.number
    → x ≡ stored (r.place ∷ r.part ∷ []) out 0 → Leaves k out buf o s x buf
unfolding status_of numbers_left bytes_left
not_called k out buf o r s x h e p q = rw (le-leb k (length out) h, e) (p, (q, refl))

-- ---- a column of a record
pub column_refused : (r : List ℕ) (j : ℕ) (w : Refusal) → read_record r ≡ refused w → feed_column r j ≡ refused w
unfolding feed_column
column_refused r j w e = rw e

pub column_none : (r : List ℕ) (j n : ℕ) → read_record r ≡ ok n → n ≤ j → feed_column r j ≡ refuse 14 j
unfolding feed_column
column_none r j n e h = rw (e, le-ltb j n h)

pub column_at : (r : List ℕ) (j n : ℕ) → read_record r ≡ ok n → j < n → feed_column r j ≡ ok (entry_numbers (entry_in r j))
unfolding feed_column
column_at r j n e h = rw (e, lt-ltb j n h)

-- ---- the names of a map, asked in the dialect of a number
pub names_asked : (event : List ℕ) (post_header n : ℕ) (d : Dialect) (o : Outcome (Option Part)) → dialect_of n ≡ ok d
    → names_field d event post_header ≡ o
    → feed_names event post_header n ≡ said (λ f. given_numbers (names_given f)) o
unfolding feed_names
names_asked event post_header n d o e g =
    ap (λ (x : Outcome Dialect). after x (λ d. said (λ f. given_numbers (names_given f)) (names_field d event post_header))) e
    ∙ ap (said (λ f. given_numbers (names_given f))) g

pub no_dialect : (event : List ℕ) (post_header n : ℕ) (r : Refusal) → dialect_of n ≡ refused r → feed_names event post_header n ≡ refused r
unfolding feed_names
no_dialect event post_header n r e = rw e

-- ---- the cursor of a map's fields, asked in the dialect of a number
pub fields_asked : (event : List ℕ) (post_header n : ℕ) (d : Dialect) (e : Event) (types : List ℕ) (c : Fields) → dialect_of n ≡ ok d
    → read_event event post_header ≡ ok e → types ≡ lent_part event e.types → c ≡ fields_at d types e.optional.start
    → feed_fields event post_header n ≡ ok (fields_numbers c)
unfolding feed_fields
fields_asked event post_header n d e types c g h t f = rw (g, h, f, t)

pub fields_not_read : (event : List ℕ) (post_header n : ℕ) (d : Dialect) (r : Refusal) → dialect_of n ≡ ok d
    → read_event event post_header ≡ refused r
    → feed_fields event post_header n ≡ refused r
unfolding feed_fields
fields_not_read event post_header n d r g h = rw (g, h)

pub fields_no_dialect : (event : List ℕ) (post_header n : ℕ) (r : Refusal) → dialect_of n ≡ refused r
    → feed_fields event post_header n ≡ refused r
unfolding feed_fields
fields_no_dialect event post_header n r e = rw e

-- ---- a step, which says too that a value told is one that the machine can hold
abbrev Steps : List ℕ → Outcome ColumnStepped → ℕ → List ℕ → Type 0
Steps out o s x = (s ≡ status_of 11 (said told_numbers o) out) × ((x ≡ numbers_left 11 (said told_numbers o) out) × (s ≡ 0 → Held o))

pub no_step : (out : List ℕ) (o : Outcome ColumnStepped) → length out < 11 → Steps out o 8 out
no_step out o h =
    let t = no_numbers 11 out (said told_numbers o) h in
    (t.0, (t.1, λ e. absurd (omega arith)))

pub step_ok : (out : List ℕ) (o : Outcome ColumnStepped) (a : ColumnStepped) (s : ℕ) (x : List ℕ) → 11 ≤ length out → o ≡ ok a → s ≡ 0
    → x ≡ stored (told_numbers a) out 0 → Held (ok a) → Steps out o s x
step_ok out o a s x h e p q u =
    let t = said_ok 11 out told_numbers o a s x h e p q in
    (t.0, (t.1, λ z. subst Held (sym e) u))

pub step_refused : (out : List ℕ) (o : Outcome ColumnStepped) (r : Refusal) (s : ℕ) (x : List ℕ) → 11 ≤ length out → o ≡ refused r
    → s ≡ r.number → x ≡ stored (r.place ∷ r.part ∷ []) out 0 → Steps out o s x
step_refused out o r s x h e p q =
    let t = said_refused 11 out told_numbers o r s x h e p q in
    (t.0, (t.1, λ z. subst Held (sym e) tt))

-- ---- k numbers, and the parts behind them
pub head_then : (k : ℕ) (out x y head ps : List ℕ) → length head ≡ k → k ≤ length out → x ≡ stored head out 0 → y ≡ stored ps x k
    → y ≡ stored (head ++ ps) out 0
head_then k out x y head ps e h p q =
    let n : 0 + length head ≡ k = omega arith in
    q ∙ ap (λ (d : List ℕ). stored ps d k) p
    ∙ subst (λ (m : ℕ). stored ps (stored head out 0) m ≡ stored (head ++ ps) out 0) n (stored_stored out 0 head ps (omega arith))

-- ---- a step over images: what the code's step answered is the rule's answer under the sets that were asked for
pub image_asked : (r s : List ℕ) (before : Part) (second after : Option Part) (w : Rows) (c : Images) (o : Outcome Told₁)
    → w ≡ sets_asked before second → second ≡ after
    → o ≡ next_image r w s c → next_image r (sets_asked before after) s c ≡ o
image_asked r s before second after w c o e d h = sym (h ∙ ap (λ (x : Rows). next_image r x s c) (e ∙ ap (sets_asked before) d))
