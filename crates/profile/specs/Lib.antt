-- The definitions of the crate: what people must believe. `Words`: what the words ask for. `Text`: what is printed.
pub mod Words
pub mod Text
