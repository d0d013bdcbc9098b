-- The words of messages, of their bytes and of what boards sign.
-- Kinds are the kinds, Fields and Format the table of the bytes, Messages what a value means, Reads what bytes are, Acts what tags stand for.
pub mod Kinds
pub mod Fields
pub mod Messages
pub mod Format
pub mod Acts
pub mod Reads
pub mod Laws
pub mod Examples
