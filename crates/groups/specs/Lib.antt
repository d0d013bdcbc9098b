-- The words of the contracts of this crate.
-- Groups: what is answered of a group and its changes. Examples: some of it, worked out.
pub mod Groups
pub mod Examples
