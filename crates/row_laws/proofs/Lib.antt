-- The laws: Calls, what holds in every call; Stages, of a leader; Row, floor, stage and views; Again, what is taken only once. The examples: Worked.
-- Each file says what it is for.
pub mod Calls
pub mod Stages
pub mod Row
pub mod Again
pub mod Worked
