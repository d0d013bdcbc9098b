-- Lemmas of heads: fields side by side in one number, the number in four bytes, and one field more of what a grammar allows.
-- Joins is said of bits alone, Steps of grammars and tables.
pub mod Joins
pub mod Steps
