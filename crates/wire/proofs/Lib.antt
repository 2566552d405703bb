-- The laws of the crate. `Rules`: the rule set that proofs of functions search with. `Each`: tests at each number below a bound.
-- `Outcomes`: answers and chains of them. `Bytes`: the bytes of a number one by one. `Eight`: the eight bytes that std makes of a number. `Inverse`: numbers and bytes, both ways.
-- `Signs`: two's complement, both ways. `Stores`: buffers with bytes stored in them. `Digits`: bits. `Parts`: parts of the lent bytes, and
-- the numbers read there. `Forms`: packed integers. `Layouts`: parts that were read are whole. `Appends`: bytes put behind those that were
pub mod Rules
pub mod Each
pub mod Outcomes
pub mod Bytes
pub mod Eight
pub mod Inverse
pub mod Signs
pub mod Stores
pub mod Digits
pub mod Parts
pub mod Forms
pub mod Layouts
pub mod Appends
pub mod Moves
pub mod Turns
