-- Laws of `keys`. `KeyItems`: the items of fields 8 and 9. `Repeats`: keys, none twice. `Twice`: which key is told.
pub mod KeyItems
pub mod Repeats
pub mod Twice
