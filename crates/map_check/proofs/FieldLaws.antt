-- Laws of `field`. `FieldTurns`: fields one by one. `KeptFields`: fields that are kept. `Lined`: columns and fields in the bytes.
pub mod FieldTurns
pub mod KeptFields
pub mod Lined
