-- The statements that the port is to be judged by. `Port` holds all of them, and stands on top. `Demand1`, `Demand2`, `Demand3`: the three
-- demands. `Readings`: the definitions held against the paper's own numbers. `RowsEvents`: request 1. `FirstParts`: request 4. `Records`:
-- request 6. `Room`: request 8. `Appended`: request 9. `RowPlans`: request 11. The others are their parts: of demand 1 `Calls`, `Refusals`,
-- `Occurs`, `Abi` (the calls of `feed_abi`), `Buffers`, `Walks` and `Results`; of demand 2 `Packed`, `Values` and `Events`; of demand 3
-- `Checks`, `Names` and `MapWalks`; of the readings `Temporals`, `Metadata`, `Classes`, `WorkedMaps`, `Profiles` and `Numbers`, all over
-- `Tables`.
pub mod Calls
pub mod Refusals
pub mod Occurs
pub mod Buffers
pub mod Abi
pub mod Walks
pub mod Results
pub mod Demand1
pub mod Packed
pub mod Values
pub mod Events
pub mod Demand2
pub mod Checks
pub mod Names
pub mod MapWalks
pub mod Demand3
pub mod Tables
pub mod Temporals
pub mod Metadata
pub mod Classes
pub mod WorkedMaps
pub mod Profiles
pub mod Numbers
pub mod Readings
pub mod RowsEvents
pub mod FirstParts
pub mod Records
pub mod RowPlans
pub mod Appended
pub mod Room
pub mod Blocks
pub mod Port
