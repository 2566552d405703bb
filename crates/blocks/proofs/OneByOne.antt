-- Laws that ask for facts, one by one or in the records of `Hands`, where the functions have a `Lent`, a `Seat` or a `Call` that holds them.
-- `Fitting`: the tests of a state, and the calls behind them. `Sitting`: the Open phase. `Values`: a value that is due, and parts of one.
pub mod Hands
pub mod Fitting
pub mod Sitting
pub mod Values
