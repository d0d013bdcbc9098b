-- The words of the contracts of this crate.
-- Shares: what n members can bear. Groups: one change of a group. Histories: views one after another. Laws: what holds of them.
pub mod Shares
pub mod Groups
pub mod Histories
pub mod Laws
