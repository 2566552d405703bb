-- Bytes put behind a string or an optional field: only a refusal 1 may change. Assumes nothing.
use Prim.Native.Nat.{ℕ, ◌+◌, ◌≤◌, ◌<◌}
use mathlib.Core.Path.{◌≡◌, refl, sym, ◌∙◌}
use mathlib.Core.Logic.{dite}
use mathlib.Core.List.{List, ◌++◌}
use native.Mathlib.Decide.{dec_lt}
use native.Mathlib.Omega.{arith}
use borrow.Author.Tests.{ne_eqb, lt-ltb, le-ltb}
use lib.ListN.{length, length-append, get_or-append}
use Rattle.wire.specs.Outcome.{why, Stays, same, ended}
use Rattle.wire.specs.Parts.{lent_part}
use Rattle.wire.specs.declared.part.Part.{Part}
use Rattle.wire.proofs.Parts.{within_ok, lent_is}
use Rattle.wire.proofs.Appends.{stays_eq, stays_after, stays_chain, part_more, within_more, packed_more}
use Rattle.table_map.specs.declared.field.Fields.{Fields}
use Rattle.table_map.specs.Parts.{long_part}
use Rattle.table_map.specs.Lists.{Rule, item, step}
use Rattle.table_map.specs.Fields.{cut_field, judge_field, field_item, with_cursor, field_step}
use Rattle.table_map.proofs.Items.{long_moves}
use Rattle.table_map.proofs.Optional.{cut_read}

-- ---- a string
pub long_more : (s t : List ℕ) (at : ℕ) → Stays 1 (long_part s at) (long_part (s ++ t) at)
unfolding long_part
long_more s t at =
    stays_chain _ _ (packed_more s t at) (λ n e. stays_chain _ _ (within_more s t n.1 n.0 at) (λ b q. same _))

-- ---- a field
pub cut_more : (s t : List ℕ) (at : ℕ) → Stays 1 (cut_field s at) (cut_field (s ++ t) at)
unfolding cut_field
cut_more s t at =
    stays_chain _ _ (within_more s t at 1 at) (λ a e.
    let w = within_ok s at 1 at a e in
    stays_chain _ _ (long_more s t a) (λ v q. stays_eq _ _ (rw (get_or-append s t 0 at (omega (arith, w.0, w.1))))))

-- a part that ends within the bytes has the same bytes
lent_more : (s t : List ℕ) (p : Part) → p.start + p.len ≤ length s → lent_part (s ++ t) p ≡ lent_part s p
lent_more s t p h =
    lent_is (s ++ t) p (omega (arith, length-append s t)) ∙ part_more s t p.start p.len h ∙ sym (lent_is s p h)

judge_more : (numeric columns : ℕ) (s t : List ℕ) (at : ℕ) (f : ℕ × Part) → f.1.start + f.1.len ≤ length s
    → judge_field numeric columns (s ++ t) at f ≡ judge_field numeric columns s at f
unfolding judge_field
judge_more numeric columns s t at f h = rw (lent_more s t f.1 h)

pub field_more : (numeric columns : ℕ) (s t : List ℕ) (at : ℕ)
    → Stays 1 (field_item numeric columns s at) (field_item numeric columns (s ++ t) at)
unfolding field_item
field_more numeric columns s t at =
    stays_chain _ _ (cut_more s t at) (λ x e.
    let m = long_moves s (at + 1) x.0.1 x.1 (cut_read s at x.0 x.1 e).1 in
    stays_eq _ _ (rw (judge_more numeric columns s t at x.0 (omega arith))))

-- ---- a step, anywhere but at the length
pub step_more : {A : Type 0} (rule : Rule A) (s t : List ℕ) (at : ℕ) → Stays 1 (rule s at) (rule (s ++ t) at) → (at ≡ length s → ⊥)
    → Stays 1 (step rule s at) (step rule (s ++ t) at)
unfolding step
step_more rule s t at h n =
    let m = length-append s t in
    dite (dec_lt (length s) at)
    (λ (l : length s < at). rw (ne_eqb at (length s) n, lt-ltb (length s) at l) (ended (why 1 at) _ refl))
    (λ l.
    let b : at < length s = omega (arith, n) in
    rw (
      ne_eqb at (length s) n,
      ne_eqb at (length (s ++ t)) (λ e. omega arith),
      le-ltb (length s) at (omega arith),
      le-ltb (length (s ++ t)) at (omega arith),
    )
    (stays_after (λ x. item x.0 x.1) h))

pub fields_more : (c : Fields) (s t : List ℕ) → (c.at ≡ length s → ⊥) → Stays 1 (field_step c s) (field_step c (s ++ t))
unfolding field_step
fields_more c s t n =
    stays_after (with_cursor c)
    (step_more (field_item c.numeric c.columns) s t c.at (field_more c.numeric c.columns s t c.at) n)
