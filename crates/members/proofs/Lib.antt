-- What the tests over boards share.
-- Boards: a search over the eight boards.
pub mod Boards
