-- The laws of the crate. `Sames`: lists compared. `Decimals`: a number's digits. `Lines`: lines of numbers, and how long they are.
-- `Profiles`: the text of a map, and that it has room.
pub mod Sames
pub mod Decimals
pub mod Lines
pub mod Profiles
