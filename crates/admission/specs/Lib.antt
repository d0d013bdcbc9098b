-- The words of judging a message that is heard.
-- Judged: whether it is of this layer, and why a row does not take it.
pub mod Judged
