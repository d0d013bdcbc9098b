-- Lemmas of statements: the head of each lone kind, and words put together from a head and a payload.
-- Each file says in its first lines what it is for.
pub mod Stating
pub mod Spelling
