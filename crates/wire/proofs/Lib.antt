-- Lemmas of the format, for the laws here and for the crates that read, write and sign.
-- Each file says in its first lines what it is for.
pub mod Packed
pub mod Widths
pub mod Speakers
pub mod Tells
pub mod Signs
pub mod Spelt
pub mod Eights
pub mod Answered
pub mod Worked
pub mod Walks
