-- The laws of the crate. `Facts`: what each shape owes, a clause for each. `Laws`: what follows for all shapes at once: a stored form is
-- unique. `Tables`: what holds of every column. `Charts`: document 01's own facts of column types, computed. `Bits`: type 254 by its bits.
-- `Readers`, `Writers`: what the proofs of readers and of writers use. `Arms`, `Sorts`: for a match with an arm that serves several
-- families, or several sorts of values or shapes.
-- `Ops`: the op of a shape tells it. `Appends`: bytes put behind a value. `Moves`: a value read wherever its bytes stand. `Narrows`: how
-- many bytes a value has that does not tell its own length. `Most`: how many bytes a value takes at most, and one that takes them.
pub mod Facts
pub mod Laws
pub mod Tables
pub mod Charts
pub mod Bits
pub mod Readers
pub mod Writers
pub mod Arms
pub mod Sorts
pub mod Ops
pub mod Appends
pub mod Moves
pub mod Narrows
pub mod Most
