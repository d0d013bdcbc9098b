-- The words of the tests are those of crate row; here are those of the entries that boards tell.
-- Told: the entry of each board of a message, and whether some board told one that passes a test.
pub mod Told
