-- Request 6: more than 255 columns. Assumes nothing.
use Prim.Native.Nat.{ℕ, ◌/◌, ◌%◌, ◌≤◌, ◌<◌}
use mathlib.Core.Path.{◌≡◌, refl, sym, ap, subst, ◌∙◌}
use mathlib.Core.Bool.{Bool, true, false}
use mathlib.Core.List.{List, ◌∷◌, ◌++◌}
use mathlib.Core.Logic.{dite}
use native.Mathlib.Omega.{arith}
use native.Mathlib.Decide.{dec_le}
use lib.ListN.{length}
use Rattle.wire.specs.Number.{Bytes}
use Rattle.record.specs.declared.entry.Entry.{Entry}
use Rattle.record.specs.Records.{count_of, record_valid, entries_bytes, record_bytes}
use Rattle.record.proofs.Heads.{kind_few, kind_many, head_is}
use Rattle.record.proofs.Valid.{Head, valid_head}
use Rattle.record.proofs.Made.{valid_made}
use Rattle.map_check.specs.Check.{check}
use Rattle.map_check.specs.Places.{too_many}
use Rattle.map_check.proofs.MapLaws.Refused.{many_told}
use Rattle.promises.specs.Profiles.{number, KindOf, few}
use Rattle.promises.specs.Records.{Kind1, size_of, Records}
use Rattle.promises.proofs.Readings.Profiles.{two_from, count_is, profiles}

-- ---- what is written
kept_kind_1 : (es : List Entry) → length es ≤ 255
    → record_bytes es ≡ size_of es % 256 ∷ size_of es / 256 ∷ 1 ∷ 0 ∷ length es ∷ 0 ∷ entries_bytes es
unfolding record_bytes
kept_kind_1 es h =
    let n = length es in
    let a : size_of es / 256 % 256 ≡ size_of es / 256 = omega arith in
    let b : length es % 256 ≡ length es = omega arith in
    let c : length es / 256 % 256 ≡ 0 = omega arith in
    ap (λ (l : List ℕ). l ++ entries_bytes es) (head_is n (size_of es) 1 refl (sym (kind_few n h))) ∙ rw (a, b, c)

kind_2 : (es : List Entry) → 255 < length es → length es ≤ 4096
    → record_bytes es ≡ size_of es % 256 ∷ size_of es / 256 ∷ 2 ∷ 0 ∷ length es % 256 ∷ length es / 256 ∷ entries_bytes es
unfolding record_bytes
kind_2 es h l =
    let n = length es in
    let a : size_of es / 256 % 256 ≡ size_of es / 256 = omega arith in
    let c : length es / 256 % 256 ≡ length es / 256 = omega arith in
    ap (λ (b : List ℕ). b ++ entries_bytes es) (head_is n (size_of es) 2 refl (sym (kind_many n h))) ∙ rw (a, c)

-- ---- what is valid
kept_valid : (r : List ℕ) → Bytes r → Kind1 r → record_valid r ≡ true
kept_valid r h k =
    let n : number r 4 ≤ 255 = omega (arith, k.zero, h 4) in
    let o : number r 2 ≡ 1 = omega (arith, k.kind_low, k.kind_high) in
    profiles.so_valid r h (record {
      said = k.said;
      kind = subst (λ (m : ℕ). KindOf m (number r 4)) (sym o) (few (number r 4) n);
      whole = omega (arith, k.whole, k.zero);
      columns = λ j l. k.columns j (omega (arith, k.zero, l));
    })

not_valid : (r : List ℕ) → (Head r → ⊥) → record_valid r ≡ false
not_valid r f = go (record_valid r) refl
  where
    go : (b : Bool) → record_valid r ≡ b → b ≡ false
    go true e = absurd (f (valid_head r e))
    go false e = refl

kind_2_only_above : (r : List ℕ) → number r 2 ≡ 2 → number r 4 ≤ 255 → record_valid r ≡ false
kind_2_only_above r k n =
    not_valid r (λ t. omega (arith, k, two_from r 2, t.kind, kind_few (count_of r) (omega (arith, count_is r, n))))

kind_1_only_below : (r : List ℕ) → number r 2 ≡ 1 → 255 < number r 4 → record_valid r ≡ false
kind_1_only_below r k n =
    not_valid r (λ t. omega (arith, k, two_from r 2, t.kind, kind_many (count_of r) (omega (arith, count_is r, n))))

no_other_kind : (r : List ℕ) → (number r 2 ≡ 1 → ⊥) → (number r 2 ≡ 2 → ⊥) → record_valid r ≡ false
no_other_kind r one two =
    not_valid r (λ t.
    let e = sym (two_from r 2) ∙ t.kind in
    dite (dec_le (count_of r) 255) (λ l. one (e ∙ kind_few (count_of r) l)) (λ l. two (e ∙ kind_many (count_of r) (omega arith))))

no_more_columns : (r : List ℕ) → 4096 < number r 4 → record_valid r ≡ false
no_more_columns r n = not_valid r (λ t. omega (arith, count_is r, t.few, n))

pub records : Records
unfolding check
records = record {
  kept_kind_1 = kept_kind_1;
  kept_valid = kept_valid;
  kind_2 = kind_2;
  one_record = valid_made;
  same_entries = λ r s a b v w e. sym (valid_made r a v) ∙ ap record_bytes e ∙ valid_made s b w;
  kind_2_only_above = kind_2_only_above;
  kind_1_only_below = kind_1_only_below;
  no_other_kind = no_other_kind;
  no_more_columns = no_more_columns;
  too_many = λ d s post_header e buf r l. rw (many_told d (too_many r l));
}
