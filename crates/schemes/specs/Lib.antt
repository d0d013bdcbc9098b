-- What a scheme means, what the two schemes are, and the laws of runs of calls.
-- Layers above cite Meaning, and Runs for the laws.
pub mod Meaning
pub mod Registers
pub mod Keys
pub mod Bounds
pub mod Runs
pub mod Counts
