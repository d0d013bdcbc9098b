-- Lemmas of a message's tags, by rising board number.
-- Listed: what stands at a board's place. Lowest: the lowest earlier rank, found from the last reply to the first.
pub mod Listed
pub mod Lowest
