-- Laws of `map`, the check. `Links`: the check link by link. `Places`: columns that are not taken. `Refused`: when a field is refused, and
-- a key, and so the map. `Relied`: the record of what is accepted is valid. `Passing`: the check accepts the maps that pass. `Worked`:
-- maps, computed.
pub mod Links
pub mod Places
pub mod Refused
pub mod Relied
pub mod Passing
pub mod Worked
