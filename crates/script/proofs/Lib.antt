-- Lemmas of this crate.
-- Chains: one part of a line after another. Listings: one item of a list after another. Sources: which items lists have. Stored: tags by board number.
-- Fronts: the front of bytes that passes a test. Wording: words. Undoing: hexadecimal.
mod Chains
mod Listings
mod Sources
mod Stored
mod Fronts
mod Wording
mod Undoing
