-- Lemmas of reading: from bytes and shifts to the bits of the format, and from one part to a message.
-- Each file says in its first lines what it is for.
pub mod Bridge
pub mod Masks
pub mod Values
pub mod Loops
pub mod Finish
