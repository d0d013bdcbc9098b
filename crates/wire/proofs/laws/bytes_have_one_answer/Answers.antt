-- The law `OneAnswer` as its carrier's contract.
-- Proved in proofs/Answered.antt.
use Rattle.wire.proofs.Answered.{one_answer}
use Rattle.wire.proofs.laws.bytes_have_one_answer.Goals as goal

pub returns : goal.returns
returns c = one_answer
