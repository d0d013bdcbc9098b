-- The law `SignedAllowed` as its carrier's contract.
-- Proved in proofs/Answered.antt.
use Rattle.wire.proofs.Answered.{signed_are_allowed}
use Rattle.wire.proofs.laws.signed_acts_are_allowed.Goals as goal

pub returns : goal.returns
returns c = signed_are_allowed
