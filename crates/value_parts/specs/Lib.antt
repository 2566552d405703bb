-- The definitions of the crate: what people must believe. `Parts`: a value as a sort and parts, and back.
pub mod Parts
