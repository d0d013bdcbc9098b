-- The law `TooLong` as its carrier's contract.
-- Proved in proofs/Answered.antt.
use Rattle.wire.proofs.Answered.{too_long}
use Rattle.wire.proofs.laws.added_bytes_are_left_over.Goals as goal

pub returns : goal.returns
returns c = too_long
