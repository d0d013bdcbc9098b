-- The laws of sets of boards, for the layers above: they cite these and never open a bit.
-- Chosen: whether all or some pass a test. Members: bits. Counts: how many pass. Sets: sizes. Meets: quorums. Sums: sums. Lists, Yields: walks.
pub mod Chosen
pub mod Members
pub mod Counts
pub mod Sets
pub mod Meets
pub mod Sums
pub mod Lists
pub mod Yields
