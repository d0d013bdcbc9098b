-- The words of a board's calls.
-- Boards: what each call does to both halves of a board.
pub mod Boards
