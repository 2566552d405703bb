-- The tests before a call on an image: what they tell when they went well, and when they go well. Assumes nothing.
use Prim.Native.Nat.{ℕ, ◌≤◌}
use mathlib.Core.Path.{◌≡◌, refl, ap, subst, ◌∙◌}
use mathlib.Core.Bool.{true}
use mathlib.Core.List.{List}
use native.Mathlib.Omega.{arith}
use borrow.Author.Tests.{eqb-true, eq-eqb}
use lib.ListN.{length}
use lib.Dec.{eqb}
use Rattle.wire.specs.Outcome.{ok, why}
use Rattle.wire.specs.Bits.{bytes_for}
use Rattle.wire.proofs.Outcomes.{after_is_ok, test_is_ok}
use Rattle.record.specs.Records.{count_of, record_valid, read_record}
use Rattle.record.proofs.Valid.{read_valid, valid_few}
use Rattle.image.specs.declared.cursor.Head.{Head}
use Rattle.image.specs.declared.step.InnerCursor.{InnerCursor}
use Rattle.image.specs.Present.{count_bits}
use Rattle.image.specs.Split.{head_with, head_of}
use Rattle.image.specs.Puts.{head_nulls}
use Rattle.image.specs.Inner.Steps.{Placed}

-- ---- what they tell
-- the record is valid; the columns that it counts, those of them that are present, and the bytes of a null bit for each of these
pub record Tested (r p : List ℕ) (h : Head) : Type 0 where
  pub valid : record_valid r ≡ true
  pub columns : h.columns ≡ count_of r
  pub present : h.present ≡ count_bits p h.columns
  pub nulls : h.nulls ≡ bytes_for h.present

pub head_tested : (r p : List ℕ) {h : Head} → head_of r p ≡ ok h → Tested r p h
unfolding head_of
head_tested r p {h} e =
    let w = after_is_ok (read_record r) _ h e in
    let n = w.0 in
    let t = test_is_ok (eqb (length p) (bytes_for n)) (head_with n (count_bits p n)) (why 12 0) h w.2 in
    let v = read_valid r n w.1 in
    subst (Tested r p) t.1 (record { valid = v.0; columns = v.1; present = refl; nulls = refl })

-- so a cursor that stands in the record, and knows its rank, can be counted on
pub placed : (r p : List ℕ) {h : Head} (at : InnerCursor) → head_of r p ≡ ok h → at.cursor.column ≤ h.columns
    → at.rank ≡ count_bits p at.cursor.column
    → Placed r p h.columns at
placed r p at e l k =
    let t = head_tested r p e in
    record { count = t.columns; few = omega (arith, t.columns, valid_few r t.valid); column = l; rank = k }

-- with null bits: the same tests, and they are just so many bytes
pub nulls_tested : (r p nulls : List ℕ) {h : Head} → head_nulls r p nulls ≡ ok h → (head_of r p ≡ ok h) × (length nulls ≡ h.nulls)
unfolding head_nulls
nulls_tested r p nulls {h} e =
    let w = after_is_ok (head_of r p) _ h e in
    let a = w.0 in
    let t = test_is_ok (eqb (length nulls) a.nulls) a (why 12 0) h w.2 in
    (w.1 ∙ ap ok t.1, eqb-true (length nulls) a.nulls t.0 ∙ ap (λ (x : Head). x.nulls) t.1)

-- ---- when they go well
pub record Over (r p : List ℕ) : Type 0 where
  pub valid : record_valid r ≡ true
  pub bits : length p ≡ bytes_for (count_of r)

-- how many bytes of null bits there are
abbrev pub null_bytes : List ℕ → List ℕ → ℕ
null_bytes r p = bytes_for (count_bits p (count_of r))

pub head_is : (r p : List ℕ) → Over r p → head_of r p ≡ ok (head_with (count_of r) (count_bits p (count_of r)))
unfolding head_of read_record
head_is r p u = rw (u.valid, eq-eqb (length p) (bytes_for (count_of r)) u.bits)
