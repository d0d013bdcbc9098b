-- The words that the contract of writing uses.
-- One file: what is written, and why nothing is.
pub mod Writes
