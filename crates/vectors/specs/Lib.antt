-- What it means that a published vector agrees.
-- The program counts those that do.
pub mod Agrees
