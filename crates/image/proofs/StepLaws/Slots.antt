-- One present column of an image, NULL or a value: read, it is in the domain and had just its bytes; or its bytes are no value. Assumes
-- nothing.
use Prim.Native.Nat.{ℕ, ◌≤◌}
use mathlib.Core.Path.{◌≡◌, refl, sym, ap, subst, ◌∙◌}
use mathlib.Core.Bool.{Bool, true, false, cond, true≢false}
use mathlib.Core.List.{List, [], ◌++◌}
use native.Mathlib.Omega.{arith}
use borrow.Author.Tests.{eqb-true}
use lib.ListN.{length, take}
use Rattle.wire.specs.declared.refusal.Refusal.{Refusal}
use Rattle.wire.specs.Outcome.{ok, refused}
use Rattle.wire.specs.Number.{Bytes}
use Rattle.wire.proofs.Outcomes.{same_ok, ok_not_refused}
use Rattle.value.specs.declared.shape.Shape.{Shape}
use Rattle.value.specs.declared.shape.Shape.TheVariants.{Unsigned, Signed, FloatBits, DoubleBits, YearByte, Timed, Fixed, Counted}
use Rattle.value.specs.declared.shape.Shape.TheVariants.{NotTaken}
use Rattle.value.specs.Data.{Datum, null, tag}
use Rattle.value.specs.Domains.{domain}
use Rattle.value.specs.Columns.{is_taken}
use Rattle.value.specs.Shapes.{bytes_of}
use Rattle.value.specs.Inner.Shapes.{Sized}
use Rattle.value.specs.Reading.{Fails}
use Rattle.value.proofs.Facts.{made, is_made}
use Rattle.value.proofs.Laws.{back, sound, fails, fails_back}
use Rattle.image.specs.Present.{Present}
use Rattle.image.specs.Split.{Slot}
use Rattle.image.specs.Walk.{read_slot}
use Rattle.image.specs.Rows.{is_null}

-- ---- NULL is one datum, and no column's domain has it
pub only_null : (d : Datum) → is_null d ≡ true → d ≡ null
unfolding is_null
only_null d e = sym (is_made d) ∙ ap (λ (k : ℕ). made k d) (eqb-true (tag d) 0 e)

no_null : (sh : Shape) → domain sh null ≡ true → ⊥
unfolding domain tag
no_null (Unsigned k) e = true≢false (sym e)
no_null (Signed k) e = true≢false (sym e)
no_null FloatBits e = true≢false (sym e)
no_null DoubleBits e = true≢false (sym e)
no_null YearByte e = true≢false (sym e)
no_null (Timed k) e = true≢false (sym e)
no_null (Fixed n) e = true≢false (sym e)
no_null (Counted k) e = true≢false (sym e)
no_null (NotTaken n) e = true≢false (sym e)

pub not_null : (sh : Shape) (d : Datum) → domain sh d ≡ true → is_null d ≡ false
not_null sh d h = go (is_null d) refl
  where
    go : (b : Bool) → is_null d ≡ b → is_null d ≡ false
    go true e = absurd (no_null sh (subst (λ (x : Datum). domain sh x ≡ true) (only_null d e) h))
    go false e = e

null_is_null : is_null null ≡ true
unfolding is_null tag
null_is_null = refl

-- ---- one of a row: whether its column takes it, and its bytes
abbrev pub in_cell : Present → Datum → Bool
in_cell c d = cond (is_null d) true (domain c.shape d)

abbrev pub cell : Present → Datum → List ℕ
cell c d = cond (is_null d) [] (bytes_of c.shape d)

-- read-back
pub slot_back : (i : Slot) (d : Datum) (rest : List ℕ) → in_cell i.present d ≡ true → i.null ≡ is_null d
    → read_slot i (cell i.present d ++ rest) ≡ ok (d, length (cell i.present d))
unfolding read_slot
slot_back i d rest h e = go (is_null d) refl
  where
    go : (b : Bool) → is_null d ≡ b → read_slot i (cell i.present d ++ rest) ≡ ok (d, length (cell i.present d))
    go true n = rw (e, n) (ap (λ (x : Datum). ok (x, 0)) (sym (only_null d n)))
    go false n = rw (e, n) (back i.present.shape d i.present.column rest (rw n at h))

-- what a reading that went well says
pub record Held (i : Slot) (s : List ℕ) (d : Datum) (n : ℕ) : Type 0 where
  pub marked : i.null ≡ is_null d
  pub inside : in_cell i.present d ≡ true
  pub fits : n ≤ length s
  pub bytes : cell i.present d ≡ take n s

pub slot_sound : (i : Slot) (s : List ℕ) (d : Datum) (n : ℕ) → Sized i.present.shape → Bytes s → read_slot i s ≡ ok (d, n) → Held i s d n
unfolding read_slot
slot_sound i s d n z h e = go i.null refl
  where
    go : (b : Bool) → i.null ≡ b → Held i s d n
    go true m =
        let o = same_ok (rw m at e) in
        let x : null ≡ d = ap (λ (y : Datum × ℕ). y.0) o in
        let y : is_null d ≡ true = ap is_null (sym x) ∙ null_is_null in
        let k : 0 ≡ n = ap (λ (y : Datum × ℕ). y.1) o in
        record { marked = m ∙ sym y; inside = rw y; fits = omega arith; bytes = rw (y, ← k) }
    go false m =
        let w = sound i.present.shape i.present.column s d n z h (rw m at e) in
        let y = not_null i.present.shape d w.0 in
        record { marked = m ∙ sym y; inside = rw y w.0; fits = w.1; bytes = rw y w.2 }

-- a refusal is for bytes that are no value
pub slot_fails : (i : Slot) (s : List ℕ) (w : Refusal) → is_taken i.present.shape ≡ true → read_slot i s ≡ refused w
    → (i.null ≡ false) × Fails i.present.shape s i.present.column w
unfolding read_slot
slot_fails i s w t e = go i.null refl
  where
    go : (b : Bool) → i.null ≡ b → (i.null ≡ false) × Fails i.present.shape s i.present.column w
    go true m = absurd (ok_not_refused (rw m at e))
    go false m = (m, fails i.present.shape i.present.column s w t (rw m at e))

-- and such bytes are refused
pub slot_fails_back : (i : Slot) (s : List ℕ) (w : Refusal) → is_taken i.present.shape ≡ true → i.null ≡ false
    → Fails i.present.shape s i.present.column w → read_slot i s ≡ refused w
unfolding read_slot
slot_fails_back i s w t e f = rw e (fails_back i.present.shape i.present.column s w t f)
