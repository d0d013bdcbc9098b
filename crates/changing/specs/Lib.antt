-- The words of changing.
-- Changes: which messages are changes, and to whom a row passes one on.
pub mod Changes
