-- The port: all that is stated of it. Nothing stated stands outside. `port` in proofs/Port.antt proves it. Assumes nothing.
use Rattle.promises.specs.Demand1.{Demand1}
use Rattle.promises.specs.Demand2.{Demand2}
use Rattle.promises.specs.Demand3.{Demand3}
use Rattle.promises.specs.Readings.{Readings}
use Rattle.promises.specs.RowsEvents.{RowsEvents}
use Rattle.promises.specs.FirstParts.{FirstParts}
use Rattle.promises.specs.Records.{Records}
use Rattle.promises.specs.Room.{Rooms}
use Rattle.promises.specs.RowPlans.{RowPlans}
use Rattle.promises.specs.Appended.{Appended}
use Rattle.promises.specs.Blocks.{Blocks}

pub record Port : Type 2 where
  -- the user's three demands
  pub demand1 : Demand1
  pub demand2 : Demand2
  pub demand3 : Demand3
  -- the definitions held against the paper's own numbers
  pub readings : Readings
  -- ---- the requests of document 02
  -- request 1: rows events
  pub rows_events : RowsEvents
  -- request 4: which part was out of range
  pub first_parts : FirstParts
  -- request 6: more than 255 columns
  pub records : Records
  -- request 8: room for one image
  pub rooms : Rooms
  -- request 9: bytes after an image
  pub appended : Appended
  -- request 10: images as they arrive
  pub blocks : Blocks
  -- request 11: faster wide rows
  pub row_plans : RowPlans
