-- The laws of counts.
-- Leaders: what every leader keeps. Tallies: what is counted, and its certificate. Takes: which tally a message is.
-- Suggests: the suggest-last of what was told.
pub mod Leaders
pub mod Tallies
pub mod Takes
pub mod Suggests
