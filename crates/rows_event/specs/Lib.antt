-- The definitions of the crate: what people must believe. `Events`: the parts of an event. `Layouts`: how it is laid out. `Images`: its
-- images, one after the other. `Says`: what its bytes must be for the images that are met.
pub mod Events
pub mod Layouts
pub mod Images
pub mod Says
