-- The laws of the crate, after the modules of src: `ColumnLaws`, `ContentsLaws`, `FieldLaws`, `KeyLaws`, `EntryLaws`, `NameLaws` and
-- `MapLaws`. `Handed`: what `?` hands on.
mod Handed
pub mod ColumnLaws
pub mod ContentsLaws
pub mod FieldLaws
pub mod KeyLaws
pub mod EntryLaws
pub mod NameLaws
pub mod MapLaws
