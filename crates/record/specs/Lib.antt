-- The definitions of the crate: what people must believe. `Entries`: what a record says of one column. `Records`: the whole record.
pub mod Entries
pub mod Records
