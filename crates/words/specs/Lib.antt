-- The words of statements.
-- Said is what callers read; Openings is the steps of the functions behind.
pub mod Said
pub mod Openings
