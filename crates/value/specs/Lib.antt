-- The definitions of the crate: what people must believe. `Types`: the one table of column types. `Columns`: how the values of a column are
-- stored. `Classes`: the classes by which a map counts columns. `Data`: values, on paper. `Years`: what the byte of a YEAR says.
-- `Domains`: which values a column can hold. `Shapes`: their stored bytes. `Reading`, `Storing`: values read and written. `Ops`: a shape as
-- one byte. `Inner`: what the crate's own functions go by, which nobody need believe.
pub mod Types
pub mod Columns
pub mod Classes
pub mod Data
pub mod Years
pub mod Domains
pub mod Shapes
pub mod Reading
pub mod Storing
pub mod Ops
pub mod Inner
