-- The words of the contracts of this crate.
-- Lines: what adding a text to a line does. Texts: numbers, bytes, sets, tags and entries as text. Shown: messages as text.
-- Audits: whose tags are good, as text. Groups: views as text. Outcomes: answers as text. Words: the words of a line. Hex: reading hexadecimal. Calls: the calls of a script.
pub mod Lines
pub mod Texts
pub mod Shown
pub mod Audits
pub mod Groups
pub mod Outcomes
pub mod Words
pub mod Hex
pub mod Calls
