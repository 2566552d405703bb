-- The root of all proofs. Assumes nothing.
use Rattle.promises.specs.Port.{Port}
use Rattle.promises.proofs.Demand1.{demand1}
use Rattle.promises.proofs.Demand2.{demand2}
use Rattle.promises.proofs.Demand3.{demand3}
use Rattle.promises.proofs.Readings.{readings}
use Rattle.promises.proofs.RowsEvents.{rows_events}
use Rattle.promises.proofs.FirstParts.{first_parts}
use Rattle.promises.proofs.Records.{records}
use Rattle.promises.proofs.Room.{rooms}
use Rattle.promises.proofs.RowPlans.{row_plans}
use Rattle.promises.proofs.Appended.{appended}
use Rattle.promises.proofs.Blocks.{blocks_of}

pub port : Port
port = record {
  demand1 = demand1;
  demand2 = demand2;
  demand3 = demand3;
  readings = readings;
  rows_events = rows_events;
  first_parts = first_parts;
  records = records;
  rooms = rooms;
  appended = appended;
  blocks = blocks_of;
  row_plans = row_plans;
}
