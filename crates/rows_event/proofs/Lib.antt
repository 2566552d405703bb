-- The laws of the crate. `Steps`: what a step tells, and that the walk ends. `Says`: the walk gives what the bytes say, and nothing else.
-- `Accepted`: what is known of an event that was read. `Appends`: bytes put behind an event.
pub mod Steps
pub mod Says
pub mod Accepted
pub mod Appends
