-- The laws of the crate. `Leaves`: what a call leaves that has room for its numbers, or not. `Tells`: what a call leaves, from what its code
-- did. `Backs`: what a step tells of a value is taken as that value where it is put. `Arrives`: what a call over blocks tells. `Worked`,
-- `WorkedBlocks`: rows by a plan and an image in blocks, computed.
pub mod Leaves
pub mod Tells
pub mod Backs
pub mod Arrives
mod Worked
mod WorkedBlocks
