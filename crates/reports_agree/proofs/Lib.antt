-- The argument, in layers that each rest on the one before; each file says its law first.
-- What one board's reports keep, whatever the words in which it is told what it did.
pub mod Held
pub mod Keeps
-- From the contract of a call to what the board did.
pub mod Passed
pub mod Facts
pub mod Leaving
pub mod Events
pub mod Words
pub mod EventSigns
-- Each board alone, in every history.
pub mod Alone
pub mod Turns
pub mod Closing
pub mod WentOn
pub mod OneBoard
-- All boards, in histories that are vouched for.
pub mod Causes
pub mod Theorem
-- Good tags vouch.
pub mod Tags
-- There are such histories: tests that compute, of data and of histories; the moves that make one; the history.
pub mod WitnessData
pub mod WitnessMoves
pub mod WitnessHistory
pub mod Witness
