-- The words that the contracts of reading use.
-- Places: a place in the bytes, and what one field says there. Parts: what stands behind heads. Told: a whole message, or its fault.
pub mod Places
pub mod Parts
pub mod Told
