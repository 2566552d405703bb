-- `value::shape::Layout::write` meets its contract. A value that passed is of the shape's sort. Assumes nothing.
use mathlib.Core.Path.{sym}
use Rattle.value.proofs.Writers.{never, not_unsigned, not_signed, not_float, not_double, not_year, not_timed, not_fixed, not_counted, none_in}
use Rattle.value.proofs.shape.Layout.write.Goals as goal
use Rattle.value.proofs.shape.Layout.write.Goals.{in_default-via-in-Unsigned+in_default, in_default-via-in-Signed+in_default}
use Rattle.value.proofs.shape.Layout.write.Goals.{in_default-via-in-FloatBits+in_default, in_default-via-in-DoubleBits+in_default}
use Rattle.value.proofs.shape.Layout.write.Goals.{in_default-via-in-YearByte+in_default, in_default-via-in-Timed+in_default}
use Rattle.value.proofs.shape.Layout.write.Goals.{in_default-via-in-Fixed+in_default, in_default-via-in-Counted+in_default}
use Rattle.value.proofs.shape.Layout.write.Goals.{in_default-via-in_default}

pub unreachable-requires : goal.unreachable-requires
unreachable-requires c =
    never _ _ _ _ (sym c.in_ok-judge.ensures)
    (elim c.in_default.branch [
      | in_default-via-in-Unsigned+in_default w ↦ rw w.in_default.is-0 (not_unsigned _ _ _ w.in_default.not-Uint-1)
      | in_default-via-in-Signed+in_default w ↦ rw w.in_default.is-0 (not_signed _ _ _ w.in_default.not-Int-1)
      | in_default-via-in-FloatBits+in_default w ↦ rw w.in_default.is-0 (not_float _ _ w.in_default.not-Float-1)
      | in_default-via-in-DoubleBits+in_default w ↦ rw w.in_default.is-0 (not_double _ _ w.in_default.not-Double-1)
      | in_default-via-in-YearByte+in_default w ↦ rw w.in_default.is-0 (not_year _ _ w.in_default.not-Year-1)
      | in_default-via-in-Timed+in_default w ↦ rw w.in_default.is-0 (not_timed _ _ _ w.in_default.not-Temporal-1)
      | in_default-via-in-Fixed+in_default w ↦ rw w.in_default.is-0 (not_fixed _ _ _ w.in_default.not-Bytes-1)
      | in_default-via-in-Counted+in_default w ↦ rw w.in_default.is-0 (not_counted _ _ _ w.in_default.not-Bytes-1)
      | in_default-via-in_default w ↦ rw w.in_default.is-0 (none_in _ _ _)
    ])
