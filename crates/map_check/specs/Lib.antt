-- The definitions of the crate: what people must believe. `Columns`: each column's type and metadata. `Ranks`: places and ranks.
-- `Contents`: the contents of optional fields. `Fields`: the fields one by one. `Keys`: a repeated key. `Profile`: what the record says of
-- each column. `Check`: the check, in its order. `Passes`: the maps that pass it. `Names`: the names of columns. `Places`: where refusals
-- stand. `Inner`: what the crate's own functions go by, which nobody need believe.
pub mod Columns
pub mod Ranks
pub mod Contents
pub mod Fields
pub mod Keys
pub mod Profile
pub mod Check
pub mod Passes
pub mod Names
pub mod Places
pub mod Inner
