-- Lemmas of this crate.
-- Reasons, Takes: what nothing standing against a call says. Heads: what the format allows. Plainly: what values mean. Telling: loops over boards and views.
-- Settling: where a board's steps end. Worked: the examples, computed.
pub mod Reasons
pub mod Heads
pub mod Takes
pub mod Plainly
pub mod Telling
pub mod Settling
pub mod Worked
