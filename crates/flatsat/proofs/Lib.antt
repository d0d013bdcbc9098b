-- Lemmas of the program.
-- Turns: one line of a script after another. Leaving: a set without the boards of another. Halves: two digits a byte.
mod Turns
mod Leaving
mod Halves
