-- The laws of the crate. `Chains`: the parts of an event that was read stand in order, end to end, within it. `Layouts`: names and strings
-- are whole, or cut short. `Puts`: parts written one behind the other.
-- `Trips`: what is written is read back. `Canon`: what is read and written again is the same exactly if it was as a writer writes it.
-- `Steps`: a step of a walk, whatever the rule. `Items`: the items of lists move. `Walks`: a walk and its steps. `Optional`: the optional
-- fields. `Appends`: bytes put behind a field. `FieldMoves`: a field read wherever its bytes stand. `Worked` and `Examples`: events and
-- walks, computed.
pub mod Chains
pub mod Layouts
pub mod Puts
pub mod Trips
pub mod Canon
pub mod Steps
pub mod Items
pub mod Walks
pub mod Optional
pub mod Appends
pub mod FieldMoves
mod Worked
mod Examples
