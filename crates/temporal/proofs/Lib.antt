-- The laws of the crate. `Units`: the fraction of a second, over its width. `Ranges`: parts in range, by either judge. `Radices`: the
-- fields of a number, bits or decimals. `Sorts`: sorts of temporals. `Holds`: what the domains say. `Numbers`: each storage's two numbers,
-- both ways. `Steps`: what the functions do is what the definitions say. `DirectLaws`: the same for the readers of one storage each.
-- `Forms`: stored forms, once for all storages: read back, sound, refused. `Firsts`: the first part out of range. `Words`: document 01's own
-- words for TIME2.
pub mod Units
pub mod Ranges
pub mod Radices
pub mod Sorts
pub mod Holds
pub mod Numbers
pub mod Steps
pub mod DirectLaws
pub mod Forms
pub mod Firsts
pub mod Words
