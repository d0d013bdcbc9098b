-- The laws of asks.
-- Asking: when an ask is not refused, and whom a board trusts. Searches: the highest board that passes a test.
pub mod Asking
pub mod Searches
