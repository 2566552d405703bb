-- `rows_event::parts::read_parts` meets its contract. Assumes nothing.
use mathlib.Core.Path.{sym}
use native.Mathlib.Omega.{arith}
use Rattle.wire.proofs.Parts.{fixed_bound}
use Rattle.rows_event.proofs.parts.read_parts.Goals as goal

pub overflow_cast-result : goal.overflow_cast-result
overflow_cast-result c =
    let b = fixed_bound 2 c.args.event.now 6 c.in_ok-flags.flags c.in_ok-flags.field-0-1 (λ i. omega (arith, c.type_inv.event i))
    (sym c.in_ok-flags.ensures) in
    omega arith
