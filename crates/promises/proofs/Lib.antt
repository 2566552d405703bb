-- The laws of the crate, file for file as in specs/, by demand; `Port` proves all of it. Besides, of demand 1: `Only`, how a refusal is one
-- of those listed, with packed integers and stores; `Maps`, events, lists and fields, the check, names; `Rows`, records and row images.
pub mod RowsEvents
pub mod Demand1
pub mod Demand2
pub mod Demand3
pub mod Readings
pub mod FirstParts
pub mod Records
pub mod RowPlans
pub mod Appended
pub mod Room
pub mod Blocks
pub mod Port
