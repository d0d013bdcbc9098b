-- The law `LeftOver` as its carrier's contract.
-- Proved in proofs/Answered.antt.
use Rattle.wire.proofs.Answered.{left_over}
use Rattle.wire.proofs.laws.left_over_behind_a_message.Goals as goal

pub returns : goal.returns
returns c = left_over
