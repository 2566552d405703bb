-- The definitions of the crate: what people must believe. `Fraction` and `Ranges`: what the temporals share. `Times`, `Datetimes`: the
-- parts of stored numbers, and back. `Storage`: the same for each column type, in one table. `Domains`: which temporals a column can hold.
-- `Reading`: stored bytes read and written. `Firsts`: which part is the first out of range. `Words`: document 01 on TIME2, word for word.
-- `Inner`: what the crate's own functions go by, which nobody need believe.
pub mod Fraction
pub mod Ranges
pub mod Times
pub mod Datetimes
pub mod Storage
pub mod Domains
pub mod Reading
pub mod Firsts
pub mod Words
pub mod Inner
