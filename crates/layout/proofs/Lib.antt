-- The lemmas of layouts, for the layers above.
-- Rests: what may stand first. Turns: a `try_fold` over the boards. Packed: bits. Stored, Replies: rows. Fronts, Seals, Allowed: messages.
pub mod Rests
pub mod Turns
pub mod Stored
pub mod Replies
pub mod Packed
pub mod Seals
pub mod Fronts
pub mod Allowed
