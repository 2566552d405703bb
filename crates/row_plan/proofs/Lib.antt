-- The laws of the crate. `Items`: what was put into a plan is what is read out of it. `Rows`: a step by a plan that was made of a record is
-- the step under that record. `Goes`: what a step answers, by what the code finds. `Puts`: a plan made in a buffer. `Makes`: what its maker
-- answers. `NumberLaws`: a value as numbers. `EightLaws`: numbers cut out of eight bytes. `FastLaws`: values read fast. `RunLaws`: what a
-- run does at an item, and where it turns. `ReadLaws`: a run through images, and what its caller is told. `Walked`: a run is the walk.
-- `InPlace`: values read fast at their place. `Told`: the first cursor, room, and op 0. `Worked`: document 01's worked row, computed.
pub mod Items
pub mod Rows
pub mod Goes
pub mod Puts
pub mod Makes
pub mod NumberLaws
pub mod EightLaws
pub mod FastLaws
pub mod RunLaws
pub mod InPlace
pub mod ReadLaws
pub mod Walked
pub mod Told
pub mod Worked
pub mod Writes
pub mod PlanWrites
