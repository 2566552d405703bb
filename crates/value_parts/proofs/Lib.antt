-- The laws of the crate. `Takes`: the parts that a sort takes. `Holds`: values whose parts are within their bits. `Backs`: a value's sort
-- and parts make the same value again. `Givens`: a value that was made has the sort and parts that it was made of. `Inside`: a value in a
-- column's domain is one that the machine can hold.
pub mod Takes
pub mod Holds
pub mod Backs
pub mod Givens
pub mod Inside
