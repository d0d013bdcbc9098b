-- The words of this crate's contracts.
-- Agreement is the statement; OneBoard, what holds of each board alone; Tags, what the premise on tags gives; Grounds, a history of the sort. The argument stands in proofs/.
pub mod Agreement
pub mod OneBoard
pub mod Tags
pub mod Grounds
