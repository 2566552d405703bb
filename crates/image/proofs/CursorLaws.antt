-- Laws of `cursor`. `Heads`: the tests before a call. `Ways`: from any cursor the walk is a step and the walk from its cursor.
pub mod Heads
pub mod Ways
