-- The words of the contracts of this crate.
-- One file: which bytes a buffer holds.
pub mod Held
