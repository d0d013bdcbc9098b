-- The words of a row.
-- States: what a row holds. Rows: what every row keeps. Refusals: why a call is refused. Effects: what one that is not does.
pub mod States
pub mod Rows
pub mod Refusals
pub mod Effects
pub mod Calls
