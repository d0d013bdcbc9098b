-- What good tags are, and when a message is genuine.
-- Checks is what callers read; Parts are the steps of the functions behind.
pub mod Checks
pub mod Parts
