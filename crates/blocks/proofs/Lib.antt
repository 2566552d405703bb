-- The laws of the crate, after the modules of src. `Ons`, `Longs`: what is to come from a state does not change across a call. `Finals`:
-- the end call tells what is to come when nothing comes. `Joins`, `Wholes`: the stream from the first state, long values joined, is the
-- walk. `Runs`: so blocks given one after the other tell the walk. `Fits`: fit states are those that the laws speak of. `Taken`: what a
-- call takes, counts and leaves. `Answers`: which refusals a call has. `Carries`, `Turned`, `Spends`: what these lean on. `Hands`, `Opens`,
-- `Counts`, `Values`, `Sitting`, `Heldings`, `Seats`, `Fitting`: for the functions. `OneByOne`: laws that ask for facts, not for types.
-- `Steps`: steps of code that the crate has no more. `Worked`: document 01's worked image, cut at every place, computed.
pub mod Carries
pub mod Turned
pub mod Spends
pub mod Ons
pub mod Longs
pub mod Joins
pub mod Wholes
pub mod Finals
pub mod Fits
pub mod Runs
pub mod Answers
pub mod Taken
pub mod Lasts
pub mod Hands
pub mod Counts
pub mod Opens
pub mod Values
pub mod Sitting
pub mod Heldings
pub mod Seats
pub mod Fitting
pub mod Steps
pub mod OneByOne
mod Worked
