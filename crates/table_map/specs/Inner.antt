-- Definitions that no public contract and no statement reaches: what the crate's own functions go by. Nobody need believe them.
pub mod Events
pub mod Writes
