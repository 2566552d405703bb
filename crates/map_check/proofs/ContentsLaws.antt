-- Laws of `contents`. `Tallies`: lists judged item by item. `Bounds`: charsets take two bytes. `Between`: the items of a walk between two
-- places. `Laid`: lists end to end. `Filled`: contents, type by type.
pub mod Tallies
pub mod Bounds
pub mod Between
pub mod Laid
pub mod Filled
