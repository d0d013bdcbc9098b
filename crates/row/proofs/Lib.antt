-- The laws of a row's words, for the calls and the crates above: they cite these and open no definition.
-- Chosen: boards picked by a test. Picked: sets put together of boards, and who has a rank. Held: what every row keeps, fact by fact.
pub mod Chosen
pub mod Picked
pub mod Held
