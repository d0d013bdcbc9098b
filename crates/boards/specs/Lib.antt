-- The words that the contracts of sets of boards use.
-- One file: what a set, its size and a rank are, and when two sets must meet.
pub mod Boards
