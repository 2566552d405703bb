-- Laws of `column`, `declare` and `rank`. `Declares`: columns one by one. `Accepts`: what an accepted column is for the record. `Counts`:
-- ranks as they are counted.
pub mod Declares
pub mod Accepts
pub mod Counts
