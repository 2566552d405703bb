-- The laws of the crate, after the modules of src: `PresenceLaws`, `CursorLaws`, `StepLaws`, `EndLaws`, `PutLaws` and `RoomLaws`.
-- `AppendLaws`: bytes put behind an image. `Worked`: document 01's worked reading, computed.
mod Worked
pub mod PresenceLaws
pub mod CursorLaws
pub mod StepLaws
pub mod EndLaws
pub mod PutLaws
pub mod AppendLaws
pub mod RoomLaws
