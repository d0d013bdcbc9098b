-- The words of a board's reports.
-- Reports: what a board holds. Endings: who ends, where the cut is, when a view is left. Refusals: why a call is refused. Effects: what one that is not does.
-- Calls: what each call promises. Ranges: what the format allows of a head. Laws: what follows for every board. Plain: what the program's values mean. Examples: worked ones.
pub mod Reports
pub mod Endings
pub mod Refusals
pub mod Effects
pub mod Calls
pub mod Ranges
pub mod Laws
pub mod Plain
pub mod Examples
