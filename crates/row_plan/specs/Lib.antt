-- The definitions of the crate: what people must believe. `Plan`: the bytes of a plan, what any bytes say as one, and a step by it.
-- `Runs`: many values at once, as numbers. `Rows`: a run held against a walk. `Puts`: a value written by a plan. `Inner`: what the crate's
-- own functions go by, which nobody need believe.
pub mod Plan
pub mod Runs
pub mod Rows
pub mod Puts
pub mod Inner
