-- Lemmas of checks, for the layers above.
-- Genuine: what a genuine message gives. Sounds: what is sound in a formed message. Finding: the good boards, one board at a time.
pub mod Genuine
pub mod Sounds
pub mod Finding
