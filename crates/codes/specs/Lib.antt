-- The words of the contracts of this crate.
-- One file: which number and name each code has.
pub mod Codes
