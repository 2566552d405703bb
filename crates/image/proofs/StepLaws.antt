-- Laws of `step`. `Steps`: what a step answers. `Slots`: one present column, NULL or a value. `Splits`: all of them, one after the other,
-- both ways. `Walks`: steps over slots are that reading.
pub mod Steps
pub mod Slots
pub mod Splits
pub mod Walks
