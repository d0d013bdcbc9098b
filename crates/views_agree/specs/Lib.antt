-- The words of this crate's contracts.
-- Agreement is the statement; Grounds, that it speaks of something; Tags, what the premise on tags gives. The argument stands in proofs/.
pub mod Agreement
pub mod Grounds
pub mod Tags
