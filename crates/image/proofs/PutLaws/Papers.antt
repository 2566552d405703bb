-- Every row on paper can be given to the writer: values with their bytes, and null bits written one by one. Assumes nothing.
use Prim.Native.Nat.{ℕ, suc, ◌+◌, ◌-◌, ◌*◌, ◌/◌, ◌≤◌, ◌<◌}
use mathlib.Core.Path.{◌≡◌, refl, sym, ap, subst, ◌∙◌}
use mathlib.Core.Bool.{Bool, true}
use mathlib.Core.List.{List, [], ◌∷◌}
use native.Mathlib.Omega.{arith}
use borrow.Author.Tests.{le-leb}
use lib.ListN.{length, get_or, replicate, length-replicate}
use lib.Seq.{take-length}
use Rattle.wire.specs.Number.{Bytes}
use Rattle.wire.specs.Bits.{bytes_for, lsb0}
use Rattle.wire.specs.Stored.{stored}
use Rattle.wire.proofs.Inverse.{bytes_one}
use Rattle.wire.proofs.Stores.{length_stored, stored_bytes_lem}
use Rattle.wire.proofs.Digits.{with_digit, with_below, lsb0_written, lsb0_kept}
use Rattle.value.specs.Data.{Datum, null, int, uint, float, double, year, temporal, bytes, bytes_in}
use Rattle.value.specs.Reading.{placed, datum_of}
use Rattle.value.specs.Storing.{bytes_at, is_lent}
use Rattle.value.proofs.Most.{zero_bytes}
use Rattle.record.specs.Records.{count_of, record_valid}
use Rattle.image.specs.Present.{present}
use Rattle.image.specs.Rows.{Row, is_null, in_domains, Marks}
use Rattle.image.specs.WriteRow.{LentValue, row_of, are_lent, Fit}
use Rattle.image.proofs.PutLaws.WriteRows.{marks_same}

-- ---- a value, with just its bytes beside it
unfoldable pub give : Datum → LentValue
unfolding bytes_in placed
give d = record { lent = bytes_in d; value = placed (length (bytes_in d)) d }

give_says : (d : Datum) → datum_of (give d).lent (give d).value ≡ d
unfolding give datum_of bytes_in placed
give_says null = refl
give_says (int z) = refl
give_says (uint n) = refl
give_says (float n) = refl
give_says (double n) = refl
give_says (year n) = refl
give_says (temporal t) = refl
give_says (bytes b) =
    let z : length b - length b ≡ 0 = omega arith in
    rw z (ap bytes (take-length b))

give_lent : (d : Datum) → is_lent (give d).lent (give d).value ≡ true
unfolding give bytes_in placed is_lent bytes_at
give_lent null = refl
give_lent (int z) = refl
give_lent (uint n) = refl
give_lent (float n) = refl
give_lent (double n) = refl
give_lent (year n) = refl
give_lent (temporal t) = refl
give_lent (bytes b) = le-leb (length b - length b + length b) (length b) (omega arith)

unfoldable pub give_row : Row → List LentValue
unfolding give
give_row [] = []
give_row (d ∷ ds) = give d ∷ give_row ds

pub give_row_lem : (ds : Row) → row_of (give_row ds) ≡ ds
unfolding row_of give_row
give_row_lem [] = refl
give_row_lem (d ∷ ds) = rw (give_says d, give_row_lem ds)

give_all : (ds : Row) → are_lent (give_row ds) ≡ true
unfolding are_lent give_row
give_all [] = refl
give_all (d ∷ ds) = rw (give_lent d) (give_all ds)

-- ---- null bits written one by one, from bit k on
abbrev bit_written : List ℕ → ℕ → Bool → List ℕ
bit_written s i on = stored (with_digit (get_or s (i / 8) 0) (lsb0 i) on ∷ []) s (i / 8)

unfoldable marked : List ℕ → ℕ → Row → List ℕ
unfolding stored with_digit is_null
marked s k [] = s
marked s k (d ∷ ds) = bit_written (marked s (suc k) ds) k (is_null d)

marked_is : (s : List ℕ) (k : ℕ) (ds : Row) → k + length ds ≤ 8 * length s
    → (length (marked s k ds) ≡ length s) × Marks (marked s k ds) k ds
unfolding marked Marks
marked_is s k [] h = (refl, tt)
marked_is s k (d ∷ ds) h =
    let t = marked s (suc k) ds in
    let i = marked_is s (suc k) ds (omega arith) in
    let l : length t ≡ length s = i.0 in
    let b : k / 8 < length t = omega arith in (
      length_stored t (k / 8) (with_digit (get_or t (k / 8) 0) (lsb0 k) (is_null d) ∷ []) (omega arith) ∙ l,
      (
        lsb0_written t k (is_null d) b,
        marks_same ds (suc k) t (bit_written t k (is_null d)) (λ j g f. lsb0_kept t k j (is_null d) b (λ e. omega arith)) i.1,
      ),
    )

unfoldable pub row_nulls : Row → List ℕ
unfolding marked
row_nulls ds = marked (replicate (bytes_for (length ds)) 0) 0 ds

row_nulls_lem : (ds : Row) → (length (row_nulls ds) ≡ bytes_for (length ds)) × Marks (row_nulls ds) 0 ds
unfolding row_nulls
row_nulls_lem ds =
    let z = length-replicate {A = ℕ} (bytes_for (length ds)) 0 in
    let w = marked_is (replicate (bytes_for (length ds)) 0) 0 ds (omega arith) in
    (w.0 ∙ z, w.1)

-- they are bytes
marked_bytes : (s : List ℕ) (k : ℕ) (ds : Row) → Bytes s → Bytes (marked s k ds)
unfolding marked
marked_bytes s k [] h = h
marked_bytes s k (d ∷ ds) h =
    let t = marked s (suc k) ds in
    let i = marked_bytes s (suc k) ds h in
    let b = with_digit (get_or t (k / 8) 0) (lsb0 k) (is_null d) in
    stored_bytes_lem t (k / 8) (b ∷ []) i (bytes_one b (with_below (get_or t (k / 8) 0) (lsb0 k) 8 (is_null d) (i (k / 8)) (omega arith)))

pub nulls_bytes : (ds : Row) → Bytes (row_nulls ds)
unfolding row_nulls
nulls_bytes ds = marked_bytes (replicate (bytes_for (length ds)) 0) 0 ds (zero_bytes (bytes_for (length ds)))

-- ---- so no row in the domains is left out
pub row_given : (r p : List ℕ) (ds : Row) → record_valid r ≡ true → length p ≡ bytes_for (count_of r) → in_domains (present r p) ds ≡ true
    → Fit r p (row_nulls ds) (give_row ds)
row_given r p ds v b d =
    let n = row_nulls_lem ds in
    let e = give_row_lem ds in
    record {
      valid = v;
      bits = b;
      row = subst (λ (x : Row). in_domains (present r p) x ≡ true) (sym e) d;
      lent = give_all ds;
      marks = subst (Marks (row_nulls ds) 0) (sym e) n.1;
      size = subst (λ (x : Row). length (row_nulls ds) ≡ bytes_for (length x)) (sym e) n.0;
    }
