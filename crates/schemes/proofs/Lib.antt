-- Lemmas that layers above may cite: Refusals and Since for any scheme, Rows for the register.
pub mod Refusals
pub mod Rows
pub mod Since
