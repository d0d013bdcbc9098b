-- The law `CutShort` as its carrier's contract.
-- Proved in proofs/Answered.antt.
use Rattle.wire.proofs.Answered.{cut_short}
use Rattle.wire.proofs.laws.cut_short_lacks_bytes.Goals as goal

pub returns : goal.returns
returns c = cut_short
