-- `blocks::lent::Seat::held_turn` meets its contract. Assumes nothing.
use Rattle.blocks.proofs.Seats.{nulls_few}
use Rattle.blocks.proofs.lent.Seat.held_turn.Goals as goal

pub head-requires : goal.head-requires
head-requires c = nulls_few c.args.self
