-- A row on paper: for each present column NULL or a value; its bytes; and what an image must be for the answers that a walk over it gives.
-- Assumes nothing.
use Rattle.std.specs.Prelude.{ℕ, suc, ◌+◌, ◌≤◌, ◌<◌, ◌≡◌, Bool, true, false, cond, ◌&&◌, List, [], ◌∷◌, ◌++◌, length, eqb}
use Rattle.wire.specs.declared.refusal.Refusal.{Refusal}
use Rattle.wire.specs.Outcome.{ok, refused, refuse, why, out_of}
use Rattle.wire.specs.Bits.{bytes_for, bit_lsb0}
use Rattle.value.specs.Data.{Datum, tag}
use Rattle.value.specs.Shapes.{bytes_of}
use Rattle.value.specs.Domains.{domain}
use Rattle.value.specs.Reading.{Fails}
use Rattle.record.specs.Records.{count_of}
use Rattle.image.specs.Present.{Present, present}
use Rattle.image.specs.Walk.{RowWalked}

-- a datum for each present column; NULL is the datum `null`, which is in no column's domain
abbrev pub Row : Type 0
Row = List Datum

unfoldable pub is_null : Datum → Bool
unfolding tag
is_null d = eqb (tag d) 0

-- each NULL or in its column's domain, one for each present column
unfoldable pub in_domains : List Present → Row → Bool
unfolding is_null domain
in_domains [] [] = true
in_domains [] (d ∷ ds) = false
in_domains (c ∷ cs) [] = false
in_domains (c ∷ cs) (d ∷ ds) = cond (is_null d) true (domain c.shape d) && in_domains cs ds

-- the values' bytes laid end to end, none for NULL
unfoldable pub row_bytes : List Present → Row → List ℕ
unfolding is_null bytes_of
row_bytes [] ds = []
row_bytes (c ∷ cs) [] = []
row_bytes (c ∷ cs) (d ∷ ds) = cond (is_null d) [] (bytes_of c.shape d) ++ row_bytes cs ds

-- the answers of a row, one for each present column in order
unfoldable pub answers_of : List Present → Row → List (ℕ × Datum)
answers_of [] ds = []
answers_of (c ∷ cs) [] = []
answers_of (c ∷ cs) (d ∷ ds) = (c.column, d) ∷ answers_of cs ds

-- the bits from k on say which of the row is NULL
unfoldable pub Marks : List ℕ → ℕ → Row → Type 0
unfolding bit_lsb0 is_null
Marks nulls k [] = Unit {0}
Marks nulls k (d ∷ ds) = (bit_lsb0 nulls k ≡ is_null d) × Marks nulls (suc k) ds

-- ---- demand 3: what an image must be for what the walk over it gives, cs being the present columns
pub data Says (cs : List Present) (image : List ℕ) : RowWalked → Type 0 where
  -- null bits and all values are there: one answer for each present column, in order, each NULL or in its domain, and the bytes used are
  -- these
  read : (nulls rest : List ℕ) (ds : Row) → length nulls ≡ bytes_for (length cs) → in_domains cs ds ≡ true → Marks nulls 0 ds
      → image ≡ nulls ++ (row_bytes cs ds ++ rest)
      → Says cs image (record { answers = answers_of cs ds; how = ok (length nulls + length (row_bytes cs ds)) })
  -- the null bits are not whole
  short : length image < bytes_for (length cs) → Says cs image (record { answers = []; how = refuse 9 0 })
  -- every value before that of c is there, c is not NULL, and its bytes end early (9) or have a part out of range (10, with the first such
  -- part)
  broken : (nulls rest : List ℕ) (before : List Present) (c : Present) (behind : List Present) (ds : Row) (w : Refusal)
      → cs ≡ before ++ (c ∷ behind)
      → length nulls ≡ bytes_for (length cs) → in_domains before ds ≡ true → Marks nulls 0 ds → bit_lsb0 nulls (length before) ≡ false
      → image ≡ nulls ++ (row_bytes before ds ++ rest) → Fails c.shape rest c.column w
      → Says cs image (record { answers = answers_of before ds; how = refused w })

-- ---- no other refusal: short null bits, or a present column whose value ends early or has a part out of range
-- a present column of the record: there is such a column, and its bit is set
pub record Among (profile presence : List ℕ) (j : ℕ) : Type 0 where
  pub column : j < count_of profile
  pub bit : bit_lsb0 presence j ≡ true

pub data WalkRefusal (profile presence image : List ℕ) : Refusal → Type 0 where
  in_nulls : length image < bytes_for (length (present profile presence)) → WalkRefusal profile presence image (why 9 0)
  ends_early : (j : ℕ) → Among profile presence j → WalkRefusal profile presence image (why 9 j)
  out_of_range : (j part : ℕ) → 1 ≤ part → part ≤ 8 → Among profile presence j → WalkRefusal profile presence image (out_of j part)
