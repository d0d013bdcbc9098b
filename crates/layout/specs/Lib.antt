-- The words that the contracts of layouts use.
-- Measures: tags and entries against their set. Layouts: the bytes of a layout, and when it is a message's.
pub mod Measures
pub mod Layouts
