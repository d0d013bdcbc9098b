-- The words of the contracts of the program.
-- Audits: whose tags are good. Plays: what a script answers.
pub mod Audits
pub mod Plays
