-- The definitions of the crate: what people must believe. `Answers`: what every call leaves. `Calls`: what each call answers, over the rule
-- of the call of the library. `Fields`: the same of the calls over a map's parts, optional fields and lists. `Blocks`: the same of the
-- calls over an image that arrives in blocks. `Inner`: what the crate's own functions go by, which nobody need believe.
pub mod Answers
pub mod Calls
pub mod Fields
pub mod Blocks
pub mod Inner
