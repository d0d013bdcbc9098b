-- The words of counting.
-- Counts: what a counted message leaves, and what goes out once a count is full.
pub mod Counts
