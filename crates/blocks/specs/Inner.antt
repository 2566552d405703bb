-- Definitions that no public contract and no statement reaches: what the crate's own functions and laws go by. Nobody need believe them.
pub mod Futures
pub mod Hands
