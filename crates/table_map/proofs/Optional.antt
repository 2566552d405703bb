-- Optional fields: how many columns have a signedness bit; what a field that was cut out is; what a step answers, by what it met; what a
-- field that was read is; that fields move. Assumes nothing.
use Rattle.std.specs.Prelude.{Some, count_by}
use Prim.Native.Nat.{ℕ, suc, ◌+◌, ◌≤◌, ◌<◌}
use mathlib.Core.Path.{◌≡◌, refl, sym, subst}
use mathlib.Core.Logic.{◌⊎◌, ⊎_elim}
use mathlib.Core.Bool.{Bool, true, false, cond}
use mathlib.Core.List.{List, [], ◌∷◌}
use native.Mathlib.Omega.{arith}
use borrow.Author.Tests.{lt-leb, eqb-true}
use lib.ListN.{length, get_or, drop}
use lib.Seq.{drop-cons}
use Rattle.std.proofs.lemmas.List.Recursion.{is_count_by}
use Rattle.wire.specs.Bits.{bytes_for}
use Rattle.wire.specs.declared.refusal.Refusal.{Refusal}
use Rattle.wire.specs.Outcome.{Outcome, ok, refused, after}
use Rattle.wire.specs.Packed.{read_packed}
use Rattle.wire.specs.declared.part.Part.{Part}
use Rattle.wire.specs.Parts.{part_of, lent_part, within}
use Rattle.wire.proofs.Outcomes.{by_test, after_after, after_is_ok, ok_not_refused, same_ok, same_refused}
use Rattle.wire.proofs.Parts.{within_ok, lent_is}
use Rattle.value.specs.declared.classes.Dialect.{Dialect}
use Rattle.value.specs.Classes.{has_sign_bit}
use Rattle.table_map.specs.declared.field.Fields.{Fields}
use Rattle.table_map.specs.Parts.{long_part}
use Rattle.table_map.specs.Lists.{Stepped, end, item, step, default_charset}
use Rattle.table_map.specs.Fields.{sign_bits, count_sign_bits, is_field, is_read, contents_hold, cut_field, judge_field, field_item}
use Rattle.table_map.specs.Fields.{with_cursor, field_step}
use Rattle.table_map.proofs.Steps.{Early, step_end, step_else, same_item}
use Rattle.table_map.proofs.Items.{Moves, long_moves}

-- ---- counting
one_at_most : (t : Bool) → cond t 1 0 ≤ 1
one_at_most true = omega arith
one_at_most false = omega arith

pub sign_bits_most : (d : Dialect) (t : ℕ) → sign_bits d t ≤ 1
unfolding sign_bits
sign_bits_most d t = one_at_most (has_sign_bit d t)

-- no more columns have one than there are
pub signed_within : (d : Dialect) (types : List ℕ) → count_sign_bits d types ≤ length types
unfolding count_sign_bits
signed_within d [] = omega arith
signed_within d (t ∷ types) = omega (arith, sign_bits_most d t, signed_within d types)

-- to count the bits is to count the columns that have one
pub signed_counted : (d : Dialect) (types : List ℕ) → count_sign_bits d types ≡ count_by (has_sign_bit d) types
unfolding count_sign_bits sign_bits
signed_counted d = is_count_by (count_sign_bits d) (has_sign_bit d) refl (λ t types. turn (has_sign_bit d t) (count_sign_bits d types))
  where
    turn : (b : Bool) (n : ℕ) → cond b 1 0 + n ≡ cond b (1 + n) n
    turn true n = refl
    turn false n = omega arith

-- a turn of the loop, and its end
pub signed_turn : (d : Dialect) (types : List ℕ) (i : ℕ) → i < length types
    → count_sign_bits d (drop i types) ≡ sign_bits d (get_or types i 0) + count_sign_bits d (drop (i + 1) types)
unfolding count_sign_bits
signed_turn d types i h =
    let e : i + 1 ≡ suc i = omega arith in
    rw (e, drop-cons types i 0 h)

pub signed_none : (d : Dialect) → count_sign_bits d [] ≡ 0
unfolding count_sign_bits
signed_none d = refl

-- ---- a field that was cut out: its type byte, and its value behind a length behind that
pub cut_read : (s : List ℕ) (at : ℕ) (a : ℕ × Part) (next : ℕ) → cut_field s at ≡ ok (a, next)
    → (get_or s at 0 ≡ a.0) × (long_part s (at + 1) ≡ ok (a.1, next))
unfolding cut_field
cut_read s at a next e =
    let kind = get_or s at 0 in
    let x = after_is_ok (within s at 1 at) (λ b. after (long_part s b) (λ v. ok ((kind, v.0), v.1))) (a, next) e in
    let y = after_is_ok (long_part s x.0) (λ v. ok ((kind, v.0), v.1)) (a, next) x.2 in
    let b : x.0 ≡ at + 1 = (within_ok s at 1 at x.0 x.1).0 in
    subst (λ (z : (ℕ × Part) × ℕ). (kind ≡ z.0.0) × (long_part s (at + 1) ≡ ok (z.0.1, z.1))) (same_ok y.2)
    (refl, subst (λ (z : ℕ). long_part s z ≡ ok y.0) b y.1)

-- it takes bytes, and ends within them
pub cut_moves : Moves cut_field
cut_moves = record {
  moves = λ s at a next e.
      let m = long_moves s (at + 1) a.1 next (cut_read s at a next e).1 in
      (omega arith, m.2);
}

-- past the bytes nothing is cut out, and so no field is read
pub field_early : (numeric columns : ℕ) → Early (field_item numeric columns)
unfolding field_item cut_field within
field_early numeric columns = record {
  early = λ s at h.
      let l : length s < at + 1 = omega arith in
      rw (lt-leb (at + 1) (length s) l);
}

-- a value that was cut out is lent whole
pub value_lent : (s : List ℕ) (at : ℕ) (p : Part) (next : ℕ) → long_part s at ≡ ok (p, next) → lent_part s p ≡ part_of s p
value_lent s at p next e =
    let m = long_moves s at p next e in
    lent_is s p (omega arith)

-- ---- a step, but at the end, is the field's, cut out and judged
step_by_item : (c : Fields) (s : List ℕ) → (c.at ≡ length s → ⊥)
    → field_step c s ≡ after (field_item c.numeric c.columns s c.at) (λ x. ok (with_cursor c (item x.0 x.1)))
unfolding field_step
step_by_item c s n =
    rw (step_else (field_item c.numeric c.columns) (field_early c.numeric c.columns) s c.at n)
    (after_after (field_item c.numeric c.columns s c.at) _ _)

-- it is not whole
pub not_cut : (c : Fields) (s : List ℕ) (w : Refusal) → (c.at ≡ length s → ⊥) → cut_field s c.at ≡ refused w → field_step c s ≡ refused w
unfolding field_item
not_cut c s w n e = rw (step_by_item c s n, e)

-- its type is unknown, or its contents break a rule
pub not_held : (c : Fields) (s : List ℕ) (f : ℕ × Part) (next : ℕ) (w : Refusal) → (c.at ≡ length s → ⊥)
    → cut_field s c.at ≡ ok (f, next)
    → judge_field c.numeric c.columns s c.at f ≡ refused w → field_step c s ≡ refused w
unfolding field_item
not_held c s f next w n e j = rw (step_by_item c s n, e, j)

-- all is well
pub a_field_lem : (c : Fields) (s : List ℕ) (f : ℕ × Part) (next : ℕ) → (c.at ≡ length s → ⊥) → cut_field s c.at ≡ ok (f, next)
    → judge_field c.numeric c.columns s c.at f ≡ ok tt
    → field_step c s ≡ ok (item f (record { at = next; numeric = c.numeric; columns = c.columns }))
unfolding field_item
a_field_lem c s f next n e j = rw (step_by_item c s n, e, j)

pub at_end : (c : Fields) (s : List ℕ) → c.at ≡ length s → field_step c s ≡ ok end
unfolding field_step
at_end c s e = rw (step_end (field_item c.numeric c.columns) s c.at e)

-- the ways in which a step from a cursor goes
pub ruleset field_steps = (at_end, not_cut, not_held, a_field_lem)

-- ---- the other way: a step from a cursor is the walk's step at its place, and keeps its counts
pub field_stepped : (c : Fields) (s : List ℕ) (a : ℕ × Part) (next : Fields) → field_step c s ≡ ok (item a next)
    → (step (field_item c.numeric c.columns) s c.at ≡ ok (item a next.at)) × (next.numeric ≡ c.numeric)
    × (next.columns ≡ c.columns)
unfolding field_step
field_stepped c s a next e = go (step (field_item c.numeric c.columns) s c.at) e
  where
    go : (o : Outcome (Stepped (ℕ × Part) ℕ)) → after o (λ x. ok (with_cursor c x)) ≡ ok (item a next)
        → (o ≡ ok (item a next.at)) × (next.numeric ≡ c.numeric) × (next.columns ≡ c.columns)
    go (ok end) f = let z : ◌≡◌ {A = ℕ} 0 1 = cc in absurd (omega arith)
    go (ok (Some (b, at))) f =
        let x = same_item f in
        (rw (x.0, ← x.1), rw (← x.1), rw (← x.1))
    go (refused w) f = absurd (ok_not_refused (sym f))

pub field_ended : (c : Fields) (s : List ℕ) → field_step c s ≡ ok end → step (field_item c.numeric c.columns) s c.at ≡ ok end
unfolding field_step
field_ended c s e = go (step (field_item c.numeric c.columns) s c.at) e
  where
    go : (o : Outcome (Stepped (ℕ × Part) ℕ)) → after o (λ x. ok (with_cursor c x)) ≡ ok end → o ≡ ok end
    go (ok end) f = refl
    go (ok (Some (b, at))) f = let z : ◌≡◌ {A = ℕ} 0 1 = cc in absurd (omega arith)
    go (refused w) f = absurd (ok_not_refused (sym f))

pub field_broken : (c : Fields) (s : List ℕ) (w : Refusal) → field_step c s ≡ refused w
    → step (field_item c.numeric c.columns) s c.at ≡ refused w
unfolding field_step
field_broken c s w e = go (step (field_item c.numeric c.columns) s c.at) e
  where
    go : (o : Outcome (Stepped (ℕ × Part) ℕ)) → after o (λ x. ok (with_cursor c x)) ≡ refused w → o ≡ refused w
    go (ok x) f = absurd (ok_not_refused f)
    go (refused v) f = let x : v ≡ w = same_refused f in rw x

-- ---- what a field that was read is
pub record Read (numeric columns : ℕ) (s : List ℕ) (at : ℕ) (a : ℕ × Part) (next : ℕ) : Type 0 where
  -- its type byte, which is known
  pub kind : get_or s at 0 ≡ a.0
  pub known : is_field a.0 ≡ true
  -- its value, behind a length behind the type byte
  pub value : long_part s (at + 1) ≡ ok (a.1, next)
  pub holds : contents_hold numeric columns a.0 (part_of s a.1) ≡ true

-- a field that passes has a known type, and contents as the walk asks
judge_read : (numeric columns : ℕ) (s : List ℕ) (at : ℕ) (f : ℕ × Part) → judge_field numeric columns s at f ≡ ok tt
    → (is_field f.0 ≡ true) × (contents_hold numeric columns f.0 (lent_part s f.1) ≡ true)
unfolding judge_field
judge_read numeric columns s at f e =
    by_test (is_field f.0) _ _ _ e
    (λ t g. by_test (contents_hold numeric columns f.0 (lent_part s f.1)) _ _ _ g (λ u i. (t, u))
    (λ u i. absurd (ok_not_refused (sym i))))
    (λ t g. absurd (ok_not_refused (sym g)))

-- one that was read was cut out, and passed
pub field_cut : (numeric columns : ℕ) (s : List ℕ) (at : ℕ) (a : ℕ × Part) (next : ℕ) → field_item numeric columns s at ≡ ok (a, next)
    → (cut_field s at ≡ ok (a, next)) × (judge_field numeric columns s at a ≡ ok tt)
unfolding field_item
field_cut numeric columns s at a next e =
    let x = after_is_ok (cut_field s at) (λ z. after (judge_field numeric columns s at z.0) (λ held. ok z)) (a, next) e in
    let y = after_is_ok (judge_field numeric columns s at x.0.0) (λ held. ok x.0) (a, next) x.2 in
    subst (λ (z : (ℕ × Part) × ℕ). (cut_field s at ≡ ok z) × (judge_field numeric columns s at z.0 ≡ ok tt)) (same_ok y.2) (x.1, y.1)

pub field_read : (numeric columns : ℕ) (s : List ℕ) (at : ℕ) (a : ℕ × Part) (next : ℕ) → field_item numeric columns s at ≡ ok (a, next)
    → Read numeric columns s at a next
field_read numeric columns s at a next e =
    let x = field_cut numeric columns s at a next e in
    let y = cut_read s at a next x.0 in
    let z = judge_read numeric columns s at a x.1 in
    record { kind = y.0; known = z.0; value = y.1; holds = rw (← value_lent s (at + 1) a.1 next y.1) z.1 }

-- what its contents are, where the walk judges them: bits for each column that has one, or a default charset
pub signs_there : (numeric columns : ℕ) (value : List ℕ) → contents_hold numeric columns 1 value ≡ true → length value ≡ bytes_for numeric
unfolding contents_hold
signs_there numeric columns value h = eqb-true (length value) (bytes_for numeric) h

pub visible_there : (numeric columns : ℕ) (value : List ℕ) → contents_hold numeric columns 12 value ≡ true → length value ≡ bytes_for columns
unfolding contents_hold
visible_there numeric columns value h = eqb-true (length value) (bytes_for columns) h

is_read_lem : {A : Type 0} (o : Outcome A) → is_read o ≡ true → (a : A) × (o ≡ ok a)
is_read_lem (ok a) h = (a, refl)
is_read_lem (refused w) h = let z : ◌≡◌ {A = ℕ} 0 1 = cc in absurd (omega arith)

pub charset_there : (numeric columns kind : ℕ) (value : List ℕ) → (kind ≡ 2) ⊎ (kind ≡ 10) → contents_hold numeric columns kind value ≡ true
    → (x : ℕ × ℕ) × (default_charset value ≡ ok x)
unfolding contents_hold
charset_there numeric columns kind value k h =
    ⊎_elim (λ (e : kind ≡ 2). is_read_lem (read_packed value 0) (rw e at h)) (λ (e : kind ≡ 10). is_read_lem (read_packed value 0) (rw e at h)) k

-- ---- fields move
pub field_moves : (numeric columns : ℕ) → Moves (field_item numeric columns)
field_moves numeric columns = record { moves = λ s at a next e. cut_moves.moves s at a next (field_cut numeric columns s at a next e).0 }
