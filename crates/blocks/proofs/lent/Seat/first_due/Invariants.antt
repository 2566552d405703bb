-- `blocks::lent::Seat::first_due` meets its contract. Assumes nothing.
use Rattle.blocks.proofs.Heldings.{DueFrom}
use Rattle.blocks.proofs.lent.Seat.first_due.Given as goal

abbrev pub invariant-loop-j : goal.invariant-loop-j
invariant-loop-j l = DueFrom l.presence l.nulls l.self.at.column l.columns l.j l.rank
