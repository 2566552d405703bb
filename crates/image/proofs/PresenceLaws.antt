-- Laws of `presence`. `Firsts`: the first present column from a column on. `Presents`: the present columns of a record.
pub mod Firsts
pub mod Presents
