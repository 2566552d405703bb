-- The definitions of the crate: what people must believe. `States`: what a call leaves for the next, and what it answers. `Turns`: what the
-- bytes at hand say of a value. `Fits`: which states are fit. `Gives`: the call that takes a block, and the first one. `Ends`: the call
-- that ends the input. `Streams`, `Joins`, `Runs`: blocks given one after the other, and what all the calls told. `Inner`: what the crate's
-- own functions and laws go by, which nobody need believe.
pub mod States
pub mod Turns
pub mod Fits
pub mod Gives
pub mod Ends
pub mod Streams
pub mod Joins
pub mod Runs
pub mod Inner
