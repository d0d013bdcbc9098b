-- The law of the order of reasons, and what a message that is taken passed.
-- Early: a reason that comes before the tags holds whatever the tags are.
pub mod Early
pub mod Tags
