-- Laws of `charset` and `entries`. `Cursors`: the charsets of a class, one after the other. `Making`: entries one by one, and the record of
-- them. `Profiles`: what may be said of an entry. `Entered`: entries as columns and fields say them.
pub mod Cursors
pub mod Making
pub mod Profiles
pub mod Entered
