-- Laws of `room`. `Adds`: how the code comes to it, column by column. `Rooms`: no image takes more, written or read, and one takes just
-- that; the writer that is lent so much never wants for room.
pub mod Adds
pub mod Rooms
