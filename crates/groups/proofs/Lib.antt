-- Lemmas of this crate.
-- Walks: digits and changes, one after another. Worked: the examples.
mod Walks
pub mod Worked
