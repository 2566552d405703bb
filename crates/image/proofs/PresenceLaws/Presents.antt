-- The present columns of a record: how many they are, what holds of each, and which bits say all this. Assumes nothing.
use Prim.Native.Nat.{ℕ, zero, suc, ◌+◌, ◌*◌, ◌/◌, ◌≤◌, ◌<◌}
use mathlib.Core.Path.{◌≡◌, refl}
use mathlib.Core.Bool.{Bool, true, false, cond}
use mathlib.Core.List.{List, [], ◌∷◌, ◌++◌}
use native.Mathlib.Nat.{add-zero, sub-zero}
use native.Mathlib.Omega.{arith}
use lib.ListN.{length, get_or-append}
use Rattle.wire.specs.Bits.{bit_lsb0}
use Rattle.value.proofs.Tables.{sized}
use Rattle.record.specs.Entries.{column_of}
use Rattle.record.specs.Records.{count_of, entry_in, record_valid}
use Rattle.record.proofs.Valid.{valid_column}
use Rattle.image.specs.Present.{Present, count_bits, shape_at, present_from, present}
use Rattle.image.specs.Split.{slots, slots_at}
use Rattle.image.specs.Rows.{Among}
use Rattle.image.proofs.PresenceLaws.Firsts.{present_at, count_set, count_not, count_none}
use Rattle.image.proofs.StepLaws.Splits.{Each, Good}

-- ---- how many
pub present_count : (m : ℕ) (r p : List ℕ) (j : ℕ) → count_bits p j + length (present_from m r p j) ≡ count_bits p (j + m)
unfolding present_from
present_count zero r p j = let e : j + 0 ≡ j = omega arith in rw (e, add-zero)
present_count (suc m) r p j = go (present_count m r p (suc j)) (bit_lsb0 p j) refl
  where
    go : count_bits p (suc j) + length (present_from m r p (suc j)) ≡ count_bits p (suc j + m) → (b : Bool) → bit_lsb0 p j ≡ b
        → count_bits p j + length (present_from (suc m) r p j) ≡ count_bits p (j + suc m)
    go i true e =
        let n : j + suc m ≡ suc j + m = omega arith in
        rw (n, e) (omega (arith, i, count_set p j e))
    go i false e =
        let n : j + suc m ≡ suc j + m = omega arith in
        rw (n, e) (omega (arith, i, count_not p j e))

pub present_length : (r p : List ℕ) → length (present r p) ≡ count_bits p (count_of r)
present_length r p =
    let e : 0 + count_of r ≡ count_of r = omega arith in
    let c = present_count (count_of r) r p 0 in
    let z = count_none p in
    let c' : count_bits p 0 + length (present r p) ≡ count_bits p (count_of r) = rw e at c in
    omega arith

-- ---- what holds of each of the columns from j on whose bit is set
pub each_from : (P : Present → Type 0) (m : ℕ) (r p : List ℕ) (j : ℕ) → ((i : ℕ) → i < j + m → bit_lsb0 p i ≡ true → P (present_at r i))
    → Each P (present_from m r p j)
unfolding Each present_from
each_from P zero r p j h = tt
each_from P (suc m) r p j h = go (each_from P m r p (suc j) (λ i a. h i (omega arith))) (bit_lsb0 p j) refl
  where
    go : Each P (present_from m r p (suc j)) → (b : Bool) → bit_lsb0 p j ≡ b
        → Each P (cond b (present_at r j ∷ present_from m r p (suc j)) (present_from m r p (suc j)))
    go g true e = (h j (omega arith) e, g)
    go g false e = g

-- of a valid record
pub good_from : (m : ℕ) (r p : List ℕ) (j : ℕ) → record_valid r ≡ true → j + m ≤ count_of r → Each Good (present_from m r p j)
unfolding shape_at
good_from m r p j v h =
    each_from Good m r p j (λ i a b. record { sized = sized (column_of (entry_in r i)); taken = valid_column r i v (omega arith) })

pub good_present : (r p : List ℕ) → record_valid r ≡ true → Each Good (present r p)
good_present r p v = good_from (count_of r) r p 0 v (omega arith)

-- a present column is one of the record's, and its bit is set
pub among_present : (r p : List ℕ) → Each (λ c. Among r p c.column) (present r p)
among_present r p = each_from (λ c. Among r p c.column) (count_of r) r p 0 (λ i a b. record { column = omega arith; bit = b })

-- ---- presence bits: no others than the record's columns' are looked at
present_bits : (m : ℕ) (r a b : List ℕ) (j : ℕ) → ((i : ℕ) → i < j + m → bit_lsb0 a i ≡ bit_lsb0 b i)
    → present_from m r a j ≡ present_from m r b j
unfolding present_from
present_bits zero r a b j h = refl
present_bits (suc m) r a b j h = rw (h j (omega arith), present_bits m r a b (suc j) (λ i l. h i (omega arith)))

pub present_same : (r a b : List ℕ) → ((i : ℕ) → i < count_of r → bit_lsb0 a i ≡ bit_lsb0 b i) → present r a ≡ present r b
present_same r a b h = present_bits (count_of r) r a b 0 (λ i l. h i (omega arith))

-- ---- null bits: no others than the first, one for each present column
pub slots_same : (cs : List Present) (k : ℕ) (a b : List ℕ) → ((i : ℕ) → i < k + length cs → bit_lsb0 a i ≡ bit_lsb0 b i)
    → slots cs k a ≡ slots cs k b
unfolding slots
slots_same [] k a b h = refl
slots_same (c ∷ cs) k a b h = rw (h k (omega arith), slots_same cs (suc k) a b (λ i l. h i (omega arith)))

pub bit_front : (a b : List ℕ) (i : ℕ) → i < 8 * length a → bit_lsb0 (a ++ b) i ≡ bit_lsb0 a i
unfolding bit_lsb0
bit_front a b i h = rw (get_or-append a b 0 (i / 8) (omega arith))

-- so what stands behind the null bits is not looked at
pub slots_front : (cs : List Present) (a b : List ℕ) → length cs ≤ 8 * length a → slots cs 0 (a ++ b) ≡ slots cs 0 a
slots_front cs a b h = slots_same cs 0 (a ++ b) a (λ i l. bit_front a b i (omega arith))

-- all of them, from the first cursor's column on
pub slots_all : (r p nulls : List ℕ) → slots_at r p nulls 0 ≡ slots (present r p) 0 nulls
unfolding slots_at
slots_all r p nulls = rw (sub-zero (count_of r), count_none p)
