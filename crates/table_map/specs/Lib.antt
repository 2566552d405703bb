-- The definitions of the crate: what people must believe. `Parts`: parts of the lent bytes. `Events`: the event read. `Writes`: the event
-- written. `Canonical`: which events are as a writer writes them. `Lists`: one rule for every list, and the items. `Fields`: the optional
-- fields. `Layouts`: how all of these are laid out. `Inner`: what the crate's own functions go by, which nobody need believe.
pub mod Parts
pub mod Events
pub mod Writes
pub mod Canonical
pub mod Lists
pub mod Fields
pub mod Layouts
pub mod Inner
