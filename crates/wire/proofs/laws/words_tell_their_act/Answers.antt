-- The law `WordsTell` as its carrier's contract.
-- Proved in proofs/Answered.antt.
use Rattle.wire.proofs.Answered.{words_tell}
use Rattle.wire.proofs.laws.words_tell_their_act.Goals as goal

pub returns : goal.returns
returns c = words_tell
