-- The definitions of the crate: what people must believe. `Present`: which columns an image has. `Split`: the split of an image, a step
-- over it. `Walk`: the whole walk. `Rows`: rows on paper, and demand 3. `Puts`: the writer. `WriteRow`: a whole row written. `Grown`: what
-- an answer may become when bytes are put behind the image. `Room`: the most bytes that an image can take. `Inner`: what the crate's own
-- functions go by, which nobody need believe.
pub mod Present
pub mod Split
pub mod Walk
pub mod Rows
pub mod Puts
pub mod WriteRow
pub mod Grown
pub mod Room
pub mod Inner
