-- What the crate's own functions go by. `Numbers`: a value told as numbers. `Fast`: a value read fast, or left. `Paused`: a run through one
-- image.
pub mod Numbers
pub mod Fast
pub mod Paused
