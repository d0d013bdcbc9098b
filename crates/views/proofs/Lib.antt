-- The laws of shares, groups and views, for the layers above: they cite these and open no definition.
-- Rule: shares. Groups: one change of a group, and its manager. Histories: views one after another. Calls: what defining keeps.
pub mod Rule
pub mod Groups
pub mod Histories
pub mod Calls
