-- Demand 1, of its parts. Assumes nothing.
pub mod Calls
pub mod Only
pub mod Maps
pub mod Rows
pub mod Plans
pub mod Arrivals
pub mod Refusals
pub mod Occurs
pub mod Buffers
pub mod Abi
pub mod Walks
pub mod Results
use Rattle.promises.specs.Demand1.{Demand1}
use Rattle.promises.proofs.Demand1.Calls.{calls}
use Rattle.promises.proofs.Demand1.Refusals.{refusals}
use Rattle.promises.proofs.Demand1.Occurs.{occurs}
use Rattle.promises.proofs.Demand1.Buffers.{buffers}
use Rattle.promises.proofs.Demand1.Abi.{abi}
use Rattle.promises.proofs.Demand1.Walks.{walks}
use Rattle.promises.proofs.Demand1.Results.{results}

pub demand1 : Demand1
demand1 = record {
  calls = calls;
  every_call = refusals;
  occurs = occurs;
  abi_calls = abi;
  buffers = buffers;
  walks = walks;
  results = results;
}
