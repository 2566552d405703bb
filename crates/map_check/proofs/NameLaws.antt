-- Laws of `names`. `NameLooks`: names one by one. `Naming`: the names of a map that is accepted. `Named`: names, computed.
pub mod NameLooks
pub mod Naming
pub mod Named
