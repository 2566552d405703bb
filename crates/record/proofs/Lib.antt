-- The laws of the crate. `Places`: where an entry stands, as a machine has it. `Looks`: the entry of a column, by the bytes where it
-- stands. `Turns`: entries one by one. `Heads`: how a record begins. `Valid`: what a valid record says. `Made`: the record of columns is
-- valid, and says them; a valid record is that of its own entries.
pub mod Places
pub mod Looks
pub mod Turns
pub mod Heads
pub mod Valid
pub mod Made
