-- The words of sending.
-- Sends: when a message goes out, and when a board can sign and send its own.
pub mod Sends
