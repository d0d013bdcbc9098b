-- The lemmas of writing.
-- Puts: parts one after another. Fronts: a head's bytes. Rows: tags and replies board by board. Lengths: a layout, part by part.
pub mod Puts
pub mod Fronts
pub mod Rows
pub mod Lengths
