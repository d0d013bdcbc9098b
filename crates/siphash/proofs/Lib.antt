-- Lemmas on bytes and words.
-- They serve the functions that cut a message and a key.
pub mod Words
