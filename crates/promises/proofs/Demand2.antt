-- Demand 2, of its parts. Assumes nothing.
pub mod Packed
pub mod Values
pub mod Events
pub mod Words
use Rattle.promises.specs.Demand2.{Demand2}
use Rattle.promises.proofs.Demand2.Packed.{packed}
use Rattle.promises.proofs.Demand2.Values.{values}
use Rattle.promises.proofs.Demand2.Events.{events}
use Rattle.promises.proofs.Demand2.Words.{time2_worded}

pub demand2 : Demand2
demand2 = record { packed = packed; values = values; events = events; time2_worded = time2_worded }
