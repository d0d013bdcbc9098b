-- The words of this crate's contracts.
-- Laws: what follows from the calls' promises at one row. Examples: two of them, with the messages that they hear.
pub mod Laws
pub mod Examples
