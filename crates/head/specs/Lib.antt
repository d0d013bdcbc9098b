-- The words of heads.
-- Heads: what a head holds, what one more field does to it, and the bytes it has. Shapes: what kinds open with, in any table.
pub mod Heads
pub mod Shapes
