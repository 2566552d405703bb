-- Which columns an image has: bits of presence, the lowest of each byte first, as many as the record has columns. Assumes nothing.
use Rattle.std.specs.Prelude.{ℕ, zero, suc, ◌+◌, cond, List, [], ◌∷◌}
use Rattle.wire.specs.Bits.{bit_lsb0}
use Rattle.value.specs.declared.shape.Shape.{Shape}
use Rattle.value.specs.Columns.{shape_of}
use Rattle.record.specs.Entries.{column_of}
use Rattle.record.specs.Records.{count_of, entry_in}

-- how many of the first n bits are set
unfoldable pub count_bits : List ℕ → ℕ → ℕ
unfolding bit_lsb0
count_bits s zero = 0
count_bits s (suc n) = count_bits s n + cond (bit_lsb0 s n) 1 0

-- the first set bit of the m from j on, or where they end
unfoldable pub first_from : ℕ → List ℕ → ℕ → ℕ
unfolding bit_lsb0
first_from zero s j = j
first_from (suc m) s j = cond (bit_lsb0 s j) j (first_from m s (suc j))

-- how the record says that column j is stored
unfoldable pub shape_at : List ℕ → ℕ → Shape
unfolding shape_of entry_in
shape_at profile j = shape_of (column_of (entry_in profile j))

-- a present column: its place in the table, and how it is stored
pub record Present : Type 0 where
  pub column : ℕ
  pub shape : Shape

-- the present ones of the m columns from j on
unfoldable pub present_from : ℕ → List ℕ → List ℕ → ℕ → List Present
unfolding bit_lsb0 shape_at
present_from zero profile presence j = []
present_from (suc m) profile presence j =
    cond (bit_lsb0 presence j) (record { column = j; shape = shape_at profile j } ∷ present_from m profile presence (suc j))
    (present_from m profile presence (suc j))

-- all of them
abbrev pub present : List ℕ → List ℕ → List Present
present profile presence = present_from (count_of profile) profile presence 0
