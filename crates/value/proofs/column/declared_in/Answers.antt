-- `value::column::declared_in` meets its contract. Assumes nothing.
use native.Mathlib.Omega.{arith}
use Rattle.value.specs.Columns.{declared_in}
use Rattle.value.proofs.Bits.{char_same}
use Rattle.value.proofs.column.declared_in.Goals as goal

pub returns-in-Char : goal.returns-in-Char
unfolding declared_in
returns-in-Char c = rw (c.in-Char.is, c.from-in-Char.ensures, c.from-in-Char-2.ensures) (char_same c.args.m0 c.args.m1 (omega arith))
