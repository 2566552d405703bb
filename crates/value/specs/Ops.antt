-- A shape as one byte, its op, and the shape that any byte names: 0 names none, and a value of it is refused with 11. Assumes nothing.
use Rattle.std.specs.Prelude.{ℕ, ◌+◌, ◌-◌, ◌≤◌, ◌<◌, cond, leb, ltb}
use Rattle.temporal.specs.declared.storage.Storage.{Storage}
use Rattle.temporal.specs.declared.storage.Storage.TheVariants.{Timestamp, OldTime, OldDatetime, Newdate, Timestamp2, Datetime2, Time2}
use Rattle.value.specs.declared.shape.Shape.{Shape}
use Rattle.value.specs.declared.shape.Shape.TheVariants.{Unsigned, Signed, FloatBits, DoubleBits, YearByte, Timed, Fixed, Counted}
use Rattle.value.specs.declared.shape.Shape.TheVariants.{NotTaken}

-- the shape of an op, by ranges
unfoldable pub shape_for : ℕ → Shape
shape_for op =
    cond (ltb op 1) (NotTaken 11)
    (cond (ltb op 10) (Unsigned (op - 1))
    (cond (ltb op 18) (Signed (op - 9))
    (cond (ltb op 19) FloatBits
    (cond (ltb op 20) DoubleBits
    (cond (ltb op 21) YearByte
    (cond (ltb op 22) (Timed Timestamp)
    (cond (ltb op 23) (Timed OldTime)
    (cond (ltb op 24) (Timed OldDatetime)
    (cond (ltb op 25) (Timed Newdate)
    (cond (ltb op 32) (Timed (Timestamp2 (op - 25)))
    (cond (ltb op 39) (Timed (Datetime2 (op - 32)))
    (cond (ltb op 46) (Timed (Time2 (op - 39)))
    (cond (ltb op 51) (Counted (op - 46))
    (Fixed (op - 51)))))))))))))))

-- the op of a shape; 0 for one that has none
abbrev pub within : ℕ → ℕ → ℕ → ℕ
within most base k = cond (leb k most) (base + k) 0

unfoldable pub storage_op : Storage → ℕ
storage_op Timestamp = 21
storage_op OldTime = 22
storage_op OldDatetime = 23
storage_op Newdate = 24
storage_op (Timestamp2 m0) = within 6 25 m0
storage_op (Datetime2 m0) = within 6 32 m0
storage_op (Time2 m0) = within 6 39 m0

unfoldable pub op_of : Shape → ℕ
unfolding storage_op
op_of (Unsigned k) = within 8 1 k
op_of (Signed k) = cond (leb 1 k) (within 8 9 k) 0
op_of FloatBits = 18
op_of DoubleBits = 19
op_of YearByte = 20
op_of (Timed k) = storage_op k
op_of (Fixed n) = within 204 51 n
op_of (Counted k) = within 4 46 k
op_of (NotTaken n) = 0

-- the widths and digits that an op can tell: every accepted column has such
abbrev pub StorageOpped : Storage → Type 0
StorageOpped Timestamp = Unit {0}
StorageOpped OldTime = Unit {0}
StorageOpped OldDatetime = Unit {0}
StorageOpped Newdate = Unit {0}
StorageOpped (Timestamp2 m0) = m0 ≤ 6
StorageOpped (Datetime2 m0) = m0 ≤ 6
StorageOpped (Time2 m0) = m0 ≤ 6

abbrev pub Opped : Shape → Type 0
Opped (Unsigned k) = k ≤ 8
Opped (Signed k) = (0 < k) × (k ≤ 8)
Opped FloatBits = Unit {0}
Opped DoubleBits = Unit {0}
Opped YearByte = Unit {0}
Opped (Timed k) = StorageOpped k
Opped (Fixed n) = n ≤ 204
Opped (Counted k) = k ≤ 4
Opped (NotTaken n) = Unit {0}
