-- The words of voting.
-- Votes: what holds of a message that a row answers, and the tags that it keeps of one.
pub mod Votes
