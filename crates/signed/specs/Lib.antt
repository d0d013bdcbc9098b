-- The words of a message's tags: whose they are, what they stand for, and where they lie.
-- Signed is what callers read; Places is the steps of the functions behind.
pub mod Signed
pub mod Places
