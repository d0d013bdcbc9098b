-- The laws of votes.
-- Voters: what every voter keeps. Takes: what a message says that a row takes.
pub mod Voters
pub mod Takes
