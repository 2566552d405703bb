-- A valid record, byte by byte. What depends on a type byte alone is computed for each of the 256. Assumes nothing.
use Prim.Native.Nat.{ℕ, zero, suc, ◌+◌, ◌-◌, ◌*◌, ◌/◌, ◌%◌, ◌≤◌, ◌<◌}
use mathlib.Core.Path.{◌≡◌, refl, sym, ap, subst, ◌∙◌}
use mathlib.Core.Bool.{Bool, true, false, cond, ◌&&◌, ◌||◌, true≢false, false≢true}
use mathlib.Core.List.{List, [], ◌∷◌}
use mathlib.Core.Logic.{dite}
use native.Mathlib.Omega.{arith}
use native.Mathlib.Decide.{dec_le}
use borrow.Author.Tests.{le-leb, leb-true, lt-ltb, ltb-true, eq-eqb, ne_eqb, eqb-true, eqb-false}
use lib.Dec.{T, leb, ltb, eqb}
use lib.ListN.{length, take, drop}
use lib.Seq.{get_or-drop}
use Rattle.wire.specs.Number.{Bytes, le_value, is_among}
use Rattle.wire.proofs.Each.{each, below}
use Rattle.wire.proofs.Outcomes.{both_true}
use Rattle.value.specs.declared.shape.Shape.{Shape}
use Rattle.value.specs.declared.shape.Shape.TheVariants.{NotTaken}
use Rattle.value.specs.declared.column.Column.{Column}
use Rattle.value.specs.declared.types.Family.{Family}
use Rattle.value.specs.declared.types.Family.TheVariants.{Integer, Float, Double, Year, Timestamp, Date, Time, Datetime, Timestamp2}
use Rattle.value.specs.declared.types.Family.TheVariants.{Datetime2, Time2, Varchar, Char, Blob, Json, Bit, Decimal, Enum, Set, Unknown}
use Rattle.value.specs.Types.{family_of, is_numeric, or30}
use Rattle.value.specs.Columns.{shape_if, shape_in, shape_of, is_taken}
use Rattle.value.specs.Classes.{is_character, is_enum_or_set}
use Rattle.value.proofs.Bits.{same, same_so}
use Rattle.record.specs.declared.entry.Entry.{Entry}
use Rattle.record.specs.Entries.{unsigned_flag, column_of, flags_hold, charset_holds, entry_holds}
use Rattle.record.specs.Records.{most_columns, kind_for, count_of, entry_at, entry_in, entries_hold, head_holds, record_valid}
use Rattle.record.proofs.Looks.{entry_bytes_lem}
use Rattle.record.proofs.Heads.{kind_few, kind_many}
use Rattle.record.proofs.Valid.{valid_head, valid_entry}
use Rattle.map_check.specs.declared.declare.Declared.{Declared}
use Rattle.map_check.specs.Columns.{is_real, is_accepted}
use Rattle.promises.specs.Profiles.{Accepted, none, float, double, fraction, blob, json, text, bit, decimal, enum, set, char}
use Rattle.promises.specs.Profiles.{ValidColumn, byte, number, KindOf, few, many, ValidRecord, ListedColumn, Profiles}

-- ---- facts of every byte
-- either way
whether : {P : Type 0} (t : Bool) → (t ≡ true → P) → (t ≡ false → P) → P
whether true f g = f refl
whether false f g = g refl

-- one follows from the other
abbrev implies : Bool → Bool → Bool
implies true b = b
implies false b = true

implied : (a b : Bool) → T (implies a b) → a ≡ true → b ≡ true
implied true true t e = refl
implied true false t e = absurd t
implied false b t e = absurd (false≢true e)

abbrev numbers : List ℕ
numbers = 1 ∷ 2 ∷ 3 ∷ 4 ∷ 5 ∷ 8 ∷ 9 ∷ 246 ∷ []

abbrev texts : List ℕ
texts = 15 ∷ 247 ∷ 248 ∷ 252 ∷ 253 ∷ 254 ∷ []

numeric_is : (k : ℕ) → k < 256 → is_numeric (family_of k) ≡ is_among k numbers
unfolding is_numeric family_of is_among
numeric_is k h = same_so _ _ (below (λ (t : ℕ). same (is_numeric (family_of t)) (is_among t numbers)) 256 tt k h)

charset_is : (k : ℕ) → k < 256 → (is_character k || is_enum_or_set k) ≡ is_among k texts
unfolding is_character is_enum_or_set is_among
charset_is k h = same_so _ _ (below (λ (t : ℕ). same (is_character t || is_enum_or_set t) (is_among t texts)) 256 tt k h)

-- ---- metadata
-- families by the line of the table that they are in
abbrev line : Family → ℕ
line (Integer k) = 0
line Float = 1
line Double = 2
line Year = 0
line Timestamp = 0
line Date = 0
line Time = 0
line Datetime = 0
line Timestamp2 = 3
line Datetime2 = 3
line Time2 = 3
line Varchar = 6
line Char = 11
line Blob = 4
line Json = 5
line Bit = 7
line Decimal = 8
line Enum = 9
line Set = 10
line Unknown = 12

-- the types of a line
in_line : (n : ℕ) (ts : List ℕ) (k : ℕ) → T (each (λ (t : ℕ). implies (eqb (line (family_of t)) n) (eqb t 10 || is_among t ts)) 256)
    → k < 256 → (k ≡ 10 → ⊥) → line (family_of k) ≡ n → is_among k ts ≡ true
in_line n ts k t h d e =
    let i = implied (eqb (line (family_of k)) n) (eqb k 10 || is_among k ts)
    (below (λ (t : ℕ). implies (eqb (line (family_of t)) n) (eqb t 10 || is_among t ts)) 256 t k h) (eq-eqb _ _ e) in
    rw (ne_eqb k 10 d) at i

-- the type of a line of one
the_one : (n m k : ℕ) → T (each (λ (t : ℕ). implies (eqb (line (family_of t)) n) (eqb t m)) 256) → k < 256 → line (family_of k) ≡ n → k ≡ m
the_one n m k t h e =
    eqb-true k m (implied (eqb (line (family_of k)) n) (eqb k m)
    (below (λ (t : ℕ). implies (eqb (line (family_of t)) n) (eqb t m)) 256 t k h) (eq-eqb _ _ e))

given_so : (t : Bool) (sh : Shape) → is_taken (shape_if t sh) ≡ true → t ≡ true
unfolding is_taken
given_so true sh e = refl
given_so false sh e = absurd (false≢true e)

abbrev nones : List ℕ
nones = 1 ∷ 2 ∷ 3 ∷ 7 ∷ 8 ∷ 9 ∷ 11 ∷ 12 ∷ 13 ∷ 14 ∷ []

abbrev fractions : List ℕ
fractions = 17 ∷ 18 ∷ 19 ∷ []

abbrev blobs : List ℕ
blobs = 242 ∷ 249 ∷ 250 ∷ 251 ∷ 252 ∷ 255 ∷ []

zeros : (k m0 m1 : ℕ) → is_among k nones ≡ true → (eqb m0 0 && eqb m1 0) ≡ true → Accepted k m0 m1
zeros k m0 m1 i t =
    let g = both_true _ _ t in
    rw (eqb-true m0 0 g.0, eqb-true m1 0 g.1) (none k i)

parts : (k m0 m1 : ℕ) → is_among k fractions ≡ true → (leb m0 6 && eqb m1 0) ≡ true → Accepted k m0 m1
parts k m0 m1 i t =
    let g = both_true _ _ t in
    rw (eqb-true m1 0 g.1) (fraction k m0 i (leb-true m0 6 g.0))

set_bytes : (m1 : ℕ) → m1 < 256 → (leb 1 m1 && (leb m1 4 || eqb m1 8)) ≡ is_among m1 (1 ∷ 2 ∷ 3 ∷ 4 ∷ 8 ∷ [])
unfolding is_among
set_bytes m1 h = same_so _ _ (below (λ (m : ℕ). same (leb 1 m && (leb m 4 || eqb m 8)) (is_among m (1 ∷ 2 ∷ 3 ∷ 4 ∷ 8 ∷ []))) 256 tt m1 h)

char_bytes : (m0 : ℕ) → m0 < 256 → eqb (or30 m0) 254 ≡ is_among m0 (0xce ∷ 0xde ∷ 0xee ∷ 0xfe ∷ [])
unfolding is_among
char_bytes m0 h = same_so _ _ (below (λ (m : ℕ). same (eqb (or30 m) 254) (is_among m (0xce ∷ 0xde ∷ 0xee ∷ 0xfe ∷ []))) 256 tt m0 h)

-- what is taken stands in the table
module _ (k m0 m1 : ℕ) (u : Bool) (h : k < 256) (h₀ : m0 < 256) (h₁ : m1 < 256) (d : k ≡ 10 → ⊥) where
  in_table : (f : Family) → family_of k ≡ f → is_taken (shape_in f m0 m1 u) ≡ true → Accepted k m0 m1
  unfolding shape_in is_taken family_of is_among
  in_table (Integer w) e t = zeros k m0 m1 (in_line 0 nones k tt h d (ap line e)) (given_so _ _ t)
  in_table Float e t =
      let g = both_true _ _ (given_so (eqb m0 4 && eqb m1 0) _ t) in
      rw (the_one 1 4 k tt h (ap line e), eqb-true m0 4 g.0, eqb-true m1 0 g.1) float
  in_table Double e t =
      let g = both_true _ _ (given_so (eqb m0 8 && eqb m1 0) _ t) in
      rw (the_one 2 5 k tt h (ap line e), eqb-true m0 8 g.0, eqb-true m1 0 g.1) double
  in_table Year e t = zeros k m0 m1 (in_line 0 nones k tt h d (ap line e)) (given_so _ _ t)
  in_table Timestamp e t = zeros k m0 m1 (in_line 0 nones k tt h d (ap line e)) (given_so _ _ t)
  in_table Date e t = zeros k m0 m1 (in_line 0 nones k tt h d (ap line e)) (given_so _ _ t)
  in_table Time e t = zeros k m0 m1 (in_line 0 nones k tt h d (ap line e)) (given_so _ _ t)
  in_table Datetime e t = zeros k m0 m1 (in_line 0 nones k tt h d (ap line e)) (given_so _ _ t)
  in_table Timestamp2 e t = parts k m0 m1 (in_line 3 fractions k tt h d (ap line e)) (given_so _ _ t)
  in_table Datetime2 e t = parts k m0 m1 (in_line 3 fractions k tt h d (ap line e)) (given_so _ _ t)
  in_table Time2 e t = parts k m0 m1 (in_line 3 fractions k tt h d (ap line e)) (given_so _ _ t)
  in_table Varchar e t = text k m0 m1 (in_line 6 (15 ∷ 253 ∷ []) k tt h d (ap line e))
  in_table Char e t =
      rw (the_one 11 254 k tt h (ap line e)) (char m0 m1 (sym (char_bytes m0 h₀) ∙ given_so (eqb (or30 m0) 254) _ t))
  in_table Blob e t =
      let g = both_true _ _ (given_so (leb 1 m0 && (leb m0 4 && eqb m1 0)) _ t) in
      let f = both_true _ _ g.1 in
      rw (eqb-true m1 0 f.1) (blob k m0 (in_line 4 blobs k tt h d (ap line e)) (leb-true 1 m0 g.0) (leb-true m0 4 f.0))
  in_table Json e t =
      let g = both_true _ _ (given_so (eqb m0 4 && eqb m1 0) _ t) in
      rw (the_one 5 245 k tt h (ap line e), eqb-true m0 4 g.0, eqb-true m1 0 g.1) json
  in_table Bit e t =
      let g = both_true _ _ (given_so (leb m0 7 && (leb 1 (8 * m1 + m0) && leb (8 * m1 + m0) 64)) _ t) in
      let f = both_true _ _ g.1 in
      rw (the_one 7 16 k tt h (ap line e)) (bit m0 m1 (leb-true m0 7 g.0) (leb-true 1 _ f.0) (leb-true _ 64 f.1))
  in_table Decimal e t =
      let g = both_true _ _ (given_so (leb 1 m0 && (leb m0 65 && (leb m1 30 && leb m1 m0))) _ t) in
      let f = both_true _ _ g.1 in
      let i = both_true _ _ f.1 in
      rw (the_one 8 246 k tt h (ap line e))
      (decimal m0 m1 (leb-true 1 m0 g.0) (leb-true m0 65 f.0) (leb-true m1 30 i.0) (leb-true m1 m0 i.1))
  in_table Enum e t =
      let g = both_true _ _ (given_so (leb 1 m1 && leb m1 2) _ t) in
      rw (the_one 9 247 k tt h (ap line e)) (enum m0 m1 (leb-true 1 m1 g.0) (leb-true m1 2 g.1))
  in_table Set e t =
      rw (the_one 10 248 k tt h (ap line e)) (set m0 m1 (sym (set_bytes m1 h₁) ∙ given_so (leb 1 m1 && (leb m1 4 || eqb m1 8)) _ t))
  in_table Unknown e t = absurd (false≢true t)

-- a column of these bytes
abbrev column_with_lem : ℕ → ℕ → ℕ → Bool → Column
column_with_lem k m0 m1 u = record { real = k; m0 = m0; m1 = m1; unsigned = u }

taken_in : (k m0 m1 : ℕ) (u : Bool) → k < 256 → m0 < 256 → m1 < 256 → is_taken (shape_of (column_with_lem k m0 m1 u)) ≡ true → Accepted k m0 m1
unfolding shape_of is_taken
taken_in k m0 m1 u h h₀ h₁ t =
    whether (eqb k 10)
    (λ d. absurd (false≢true (rw d at t)))
    (λ d. in_table k m0 m1 u h h₀ h₁ (eqb-false k 10 d) (family_of k) refl
    (ap (λ (x : Bool). is_taken (cond x (NotTaken 4) (shape_in (family_of k) m0 m1 u))) (sym d) ∙ t))

-- and what stands in the table is taken: both ways of flags, computed for each type of a line
abbrev both_taken : ℕ → ℕ → Bool
both_taken k m0 = is_taken (shape_of (column_with_lem k m0 0 true)) && is_taken (shape_of (column_with_lem k m0 0 false))

either : (k m0 : ℕ) (u : Bool) → both_taken k m0 ≡ true → is_taken (shape_of (column_with_lem k m0 0 u)) ≡ true
either k m0 true t = (both_true (is_taken (shape_of (column_with_lem k m0 0 true))) (is_taken (shape_of (column_with_lem k m0 0 false))) t).0
either k m0 false t = (both_true (is_taken (shape_of (column_with_lem k m0 0 true))) (is_taken (shape_of (column_with_lem k m0 0 false))) t).1

of_line : (f : ℕ → ℕ) (ts : List ℕ) (n top : ℕ) → T (each (λ (m : ℕ). each (λ (t : ℕ). implies (is_among t ts) (both_taken t (f m))) 256) top)
    → n < top → (k : ℕ) → k < 256 → is_among k ts ≡ true → both_taken k (f n) ≡ true
of_line f ts n top t l k h i =
    let s = below (λ (m : ℕ). each (λ (t : ℕ). implies (is_among t ts) (both_taken t (f m))) 256) top t n l in
    implied _ _ (below (λ (t : ℕ). implies (is_among t ts) (both_taken t (f n))) 256 s k h) i

among_two : (t a b : ℕ) → is_among t (a ∷ b ∷ []) ≡ true → (P : ℕ → Type 0) → P a → P b → P t
unfolding is_among
among_two t a b i P x y =
    whether (eqb t a)
    (λ e. subst P (sym (eqb-true t a e)) x)
    (λ e. subst P (sym (eqb-true t b (whether (eqb t b) (λ f. f) (λ f. absurd (false≢true (rw (e, f) at i)))))) y)

taken_of : (k m0 m1 : ℕ) (u : Bool) → k < 256 → m0 < 256 → m1 < 256 → Accepted k m0 m1 → is_taken (shape_of (column_with_lem k m0 m1 u)) ≡ true
unfolding shape_of is_taken is_among
taken_of k m0 m1 u h h₀ h₁ (none t i) = either t 0 u (of_line (λ m. m) nones 0 1 tt (omega arith) t h i)
taken_of k m0 m1 u h h₀ h₁ float = refl
taken_of k m0 m1 u h h₀ h₁ double = refl
taken_of k m0 m1 u h h₀ h₁ (fraction t m i l) = either t m u (of_line (λ m. m) fractions m 7 tt (omega arith) t h i)
taken_of k m0 m1 u h h₀ h₁ (blob t m i l l') =
    let e : suc (m - 1) ≡ m = omega arith in
    subst (λ (x : ℕ). is_taken (shape_of (column_with_lem t x 0 u)) ≡ true) e
    (either t (suc (m - 1)) u (of_line suc blobs (m - 1) 4 tt (omega arith) t h i))
taken_of k m0 m1 u h h₀ h₁ json = refl
taken_of k m0 m1 u h h₀ h₁ (text t m n i) = among_two t 15 253 i (λ (x : ℕ). is_taken (shape_of (column_with_lem x m n u)) ≡ true) refl refl
taken_of k m0 m1 u h h₀ h₁ (bit m n l l' l'') = rw (le-leb m 7 l, le-leb 1 (8 * n + m) l', le-leb (8 * n + m) 64 l'')
taken_of k m0 m1 u h h₀ h₁ (decimal p s a b c d) = rw (le-leb 1 p a, le-leb p 65 b, le-leb s 30 c, le-leb s p d)
taken_of k m0 m1 u h h₀ h₁ (enum m n l l') = rw (le-leb 1 n l, le-leb n 2 l')
taken_of k m0 m1 u h h₀ h₁ (set m n i) = rw (set_bytes n h₁ ∙ i)
taken_of k m0 m1 u h h₀ h₁ (char m n i) = rw (char_bytes m h₀ ∙ i)

-- ---- a column
-- flags, n being whether it is numeric
flags_so : (n : Bool) (f : ℕ) → cond n (leb (f % 2) (f / 4 % 2)) (eqb (f % 2) 0 && eqb (f / 4 % 2) 0) ≡ true
    → (f % 2 ≡ 1 → f / 4 % 2 ≡ 1) × (f / 4 % 2 ≡ 1 → n ≡ true)
flags_so true f t =
    let l = leb-true (f % 2) (f / 4 % 2) t in
    ((λ e. omega arith), (λ e. refl))
flags_so false f t =
    let g = both_true (eqb (f % 2) 0) (eqb (f / 4 % 2) 0) t in
    let a = eqb-true (f % 2) 0 g.0 in
    let b = eqb-true (f / 4 % 2) 0 g.1 in
    ((λ e. omega arith), (λ e. absurd (omega arith)))

so_flags : (n : Bool) (f : ℕ) → (f % 2 ≡ 1 → f / 4 % 2 ≡ 1) → (f / 4 % 2 ≡ 1 → n ≡ true)
    → cond n (leb (f % 2) (f / 4 % 2)) (eqb (f % 2) 0 && eqb (f / 4 % 2) 0) ≡ true
so_flags true f a b =
    le-leb (f % 2) (f / 4 % 2) (dite (dec_le (f % 2) 0) (λ z. omega arith) (λ z. let y = a (omega arith) in omega arith))
so_flags false f a b =
    let z : f / 4 % 2 ≡ 0 = dite (dec_le (f / 4 % 2) 0) (λ x. omega arith) (λ x. absurd (false≢true (b (omega arith)))) in
    let y : f % 2 ≡ 0 = dite (dec_le (f % 2) 0) (λ x. omega arith) (λ x. let w = a (omega arith) in absurd (omega arith)) in
    rw (eq-eqb (f % 2) 0 y, eq-eqb (f / 4 % 2) 0 z)

-- the charset, a and b being whether it is a character column, or ENUM or SET
charset_so : (a b : Bool) (c : ℕ) → (a || (b || eqb c 0)) ≡ true → (a || b) ≡ false → c ≡ 0
charset_so true b c t e = absurd (true≢false e)
charset_so false true c t e = absurd (true≢false e)
charset_so false false c t e = eqb-true c 0 t

so_charset : (a b : Bool) (c : ℕ) → ((a || b) ≡ false → c ≡ 0) → (a || (b || eqb c 0)) ≡ true
so_charset true b c h = refl
so_charset false true c h = refl
so_charset false false c h = eq-eqb c 0 (h refl)

abbrev entry_with_lem : ℕ → ℕ → ℕ → ℕ → ℕ → Entry
entry_with_lem k f m0 m1 c = record { real = k; flags = f; m0 = m0; m1 = m1; charset = c }

module _ (k f m0 m1 c : ℕ) (h : k < 256) (h₀ : m0 < 256) (h₁ : m1 < 256) where
  column_so : entry_holds (entry_with_lem k f m0 m1 c) ≡ true → ValidColumn k f m0 m1 c
  unfolding entry_holds flags_hold charset_holds
  column_so t =
      let e = entry_with_lem k f m0 m1 c in
      let a = both_true (is_taken (shape_of (column_of e))) (flags_hold e && charset_holds e) t in
      let b = both_true (flags_hold e) (charset_holds e) a.1 in
      let g = both_true (ltb f 16) (cond (is_numeric (family_of k)) (leb (f % 2) (f / 4 % 2)) (eqb (f % 2) 0 && eqb (f / 4 % 2) 0)) b.0 in
      let w = flags_so (is_numeric (family_of k)) f g.1 in
      record {
        metadata = taken_in k m0 m1 _ h h₀ h₁ a.0;
        below_16 = ltb-true f 16 g.0;
        unsigned = w.0;
        known = λ e. sym (numeric_is k h) ∙ w.1 e;
        no_charset = λ e. charset_so (is_character k) (is_enum_or_set k) c b.1 (charset_is k h ∙ e);
      }

  so_column : ValidColumn k f m0 m1 c → entry_holds (entry_with_lem k f m0 m1 c) ≡ true
  unfolding entry_holds flags_hold charset_holds
  so_column v =
      let t = taken_of k m0 m1 (unsigned_flag f) h h₀ h₁ v.metadata in
      let g = so_flags (is_numeric (family_of k)) f v.unsigned (λ e. numeric_is k h ∙ v.known e) in
      let x = so_charset (is_character k) (is_enum_or_set k) c (λ e. v.no_charset (sym (charset_is k h) ∙ e)) in
      rw (t, lt-ltb f 16 v.below_16, g, x)

-- ---- the record
two : (l : List ℕ) → le_value (take 2 l) ≡ number l 0
unfolding le_value
two [] = refl
two (x ∷ []) = refl
two (x ∷ y ∷ l) = omega arith

pub two_from : (l : List ℕ) (o : ℕ) → le_value (take 2 (drop o l)) ≡ number l o
two_from l o =
    let z : o + 0 ≡ o = omega arith in
    two (drop o l) ∙ rw (get_or-drop o l 0 0, get_or-drop o l 1 0, z)

pub count_is : (r : List ℕ) → count_of r ≡ number r 4
unfolding count_of
count_is r = two_from r 4

entry_is : (r : List ℕ) (j : ℕ)
    → entry_in r j
    ≡ entry_with_lem (byte r (6 + 6 * j)) (byte r (7 + 6 * j)) (byte r (8 + 6 * j)) (byte r (9 + 6 * j)) (number r (10 + 6 * j))
unfolding entry_in
entry_is r j =
    let a : 6 + 6 * j + 1 ≡ 7 + 6 * j = omega arith in
    let b : 6 + 6 * j + 2 ≡ 8 + 6 * j = omega arith in
    let c : 6 + 6 * j + 3 ≡ 9 + 6 * j = omega arith in
    let d : 6 + 6 * j + 4 ≡ 10 + 6 * j = omega arith in
    entry_bytes_lem r (6 + 6 * j) ∙ rw (a, b, c, d, two_from r (10 + 6 * j))

-- the kind of a count, as the definition has it
kind_so : (n : ℕ) → n ≤ most_columns → KindOf (kind_for n) n
kind_so n h =
    dite (dec_le n 255) (λ l. subst (λ (k : ℕ). KindOf k n) (sym (kind_few n l)) (few n l))
    (λ l. subst (λ (k : ℕ). KindOf k n) (sym (kind_many n (omega arith))) (many n (omega arith) h))

so_kind : (k n : ℕ) → KindOf k n → (k ≡ kind_for n) × (n ≤ most_columns)
so_kind _ _ (few n h) = (sym (kind_few n h), omega arith)
so_kind _ _ (many n h l) = (sym (kind_many n h), l)

valid_so : (r : List ℕ) → Bytes r → record_valid r ≡ true → ValidRecord r
valid_so r h v =
    let t = valid_head r v in
    let n = count_is r in
    record {
      said = sym (two r) ∙ t.announced;
      kind =
          subst (λ (m : ℕ). KindOf (number r 2) m) n
          (subst (λ (k : ℕ). KindOf k (count_of r)) (sym t.kind ∙ two_from r 2) (kind_so (count_of r) t.few));
      whole = t.whole ∙ ap entry_at n;
      columns = λ j l.
          column_so _ _ _ _ _ (h (6 + 6 * j)) (h (8 + 6 * j)) (h (9 + 6 * j))
          (subst (λ (x : Entry). entry_holds x ≡ true) (entry_is r j) (valid_entry r j v (omega (arith, n, l))));
    }

all_hold : (m : ℕ) (r : List ℕ) (j : ℕ) → ((i : ℕ) → i < m → entry_holds (entry_in r (j + i)) ≡ true) → entries_hold m r j ≡ true
unfolding entries_hold
all_hold zero r j f = refl
all_hold (suc m) r j f =
    let z : j + 0 ≡ j = omega arith in
    let a : entry_holds (entry_in r j) ≡ true = rw z at (f 0 (omega arith)) in
    let b = all_hold m r (suc j) (λ i l. let y : j + suc i ≡ suc j + i = omega arith in rw y at (f (suc i) (omega arith))) in
    rw (a, b)

so_valid : (r : List ℕ) → Bytes r → ValidRecord r → record_valid r ≡ true
unfolding record_valid head_holds
so_valid r h v =
    let n = count_is r in
    let x = so_kind (number r 2) (number r 4) v.kind in
    let l : length r ≡ entry_at (count_of r) = v.whole ∙ ap entry_at (sym n) in
    let k : le_value (take 2 (drop 2 r)) ≡ kind_for (count_of r) = two_from r 2 ∙ x.0 ∙ ap kind_for (sym n) in
    let m : count_of r ≤ most_columns = omega (arith, n, x.1) in
    let a = all_hold (count_of r) r 0 (λ i g.
    let z : 0 + i ≡ i = omega arith in
    rw z (subst (λ (e : Entry). entry_holds e ≡ true) (sym (entry_is r i))
    (so_column _ _ _ _ _ (h (6 + 6 * i)) (h (8 + 6 * i)) (h (9 + 6 * i)) (v.columns i (omega (arith, n, g)))))) in
    rw (le-leb 6 (length r) (omega arith), eq-eqb _ _ (two r ∙ v.said), eq-eqb _ _ k, le-leb _ _ m, eq-eqb _ _ l, a)

-- ---- the check's table
or_none_lem : (a b c : Bool) → (a || (b || (c || false))) ≡ (a || (b || c))
or_none_lem true b c = refl
or_none_lem false true c = refl
or_none_lem false false true = refl
or_none_lem false false false = refl

real_so : (kind real : ℕ) → is_real kind real ≡ true → kind ≡ 254 → is_among real (247 ∷ 248 ∷ 254 ∷ []) ≡ true
unfolding is_real is_among
real_so kind real h e = or_none_lem (eqb real 247) (eqb real 248) (eqb real 254) ∙ (rw (eq-eqb kind 254 e) at h)

so_real : (kind real : ℕ) → (kind ≡ 254 → is_among real (247 ∷ 248 ∷ 254 ∷ []) ≡ true) → is_real kind real ≡ true
unfolding is_real is_among
so_real kind real h =
    whether (eqb kind 254)
    (λ t. rw t (sym (or_none_lem (eqb real 247) (eqb real 248) (eqb real 254)) ∙ h (eqb-true kind 254 t)))
    (λ t. rw t)

accepted_so : (c : Declared) → c.real < 256 → c.m0 < 256 → c.m1 < 256 → is_accepted c ≡ true → ListedColumn c
unfolding is_accepted
accepted_so c k a b e =
    let x = both_true (is_real c.kind c.real) _ e in
    (taken_in c.real c.m0 c.m1 false k a b x.1, real_so c.kind c.real x.0)

so_accepted : (c : Declared) → c.real < 256 → c.m0 < 256 → c.m1 < 256 → ListedColumn c → is_accepted c ≡ true
unfolding is_accepted
so_accepted c k a b (x, y) = rw (so_real c.kind c.real y) (taken_of c.real c.m0 c.m1 false k a b x)

pub profiles : Profiles
profiles = record { valid_so = valid_so; so_valid = so_valid; accepted_so = accepted_so; so_accepted = so_accepted }
