-- Lemmas of the bench.
-- Desks: desks and pages, one call at a desk. Runs: from moves to a history. Told: the story.
pub mod Desks
pub mod Runs
pub mod Told
