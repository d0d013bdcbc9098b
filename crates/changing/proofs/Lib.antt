-- The laws of changing.
-- Takes: what holds of a change that a row takes.
pub mod Takes
