-- The words of the bench.
-- Story is what a story shows; Moves, what a move does on the bench; Ends, how a row should end.
pub mod Story
pub mod Moves
pub mod Ends
