-- The argument, in layers that each rest on the one before; each file says its law first.
-- One view: OneView, Shared, OneRank, Binds, OneChange, SomebodyAsked.
pub mod OneView
pub mod Shared
pub mod OneRank
pub mod Binds
pub mod OneChange
pub mod SomebodyAsked
-- One row: its deeds, and the laws that tie its state to them.
pub mod Deeds
pub mod Floor
pub mod OneVote
pub mod KeptProposal
pub mod LastTells
pub mod Course
pub mod Suspects
pub mod RowLaws
-- All rows and all views.
pub mod Group
pub mod SameViews
-- From the contracts of calls to deeds.
pub mod Passed
pub mod StepDeeds
pub mod Ranges
pub mod Plays
pub mod Written
pub mod Signing
pub mod Lowest
pub mod Causes
pub mod Steps
pub mod Growth
pub mod Lives
pub mod Earned
pub mod Theorem
-- Good tags vouch.
pub mod Tags
-- There are such histories.
pub mod Witness
