-- Laws of `put`. `Sorts`: which values are NULL. `Fills`: null bits with the spare bits set. `Puts`: what the writer answers and leaves.
-- `WriteRows`: a row written, and read back. `Papers`: every row on paper can be given to the writer.
pub mod Sorts
pub mod Fills
pub mod Puts
pub mod WriteRows
pub mod Papers
