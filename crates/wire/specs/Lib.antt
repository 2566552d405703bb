-- The definitions of the crate: what people must believe. `Outcome`: what a call answers, on paper. `Number` and `Signed`: numbers and
-- their bytes. `Stored`: what a writer leaves. `Bits`: bits of bytes. `Parts`: parts of the lent bytes. `Packed`: packed integers.
-- `Layouts`: how bytes are laid out. `Inner`: what the crate's own functions go by, which nobody need believe.
pub mod Outcome
pub mod Number
pub mod Signed
pub mod Stored
pub mod Bits
pub mod Parts
pub mod Packed
pub mod Layouts
pub mod Inner
