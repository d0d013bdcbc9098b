-- The examples as their carrier's contract.
-- Proved in proofs/Worked.antt.
use Rattle.wire.proofs.Worked.{worked}
use Rattle.wire.proofs.laws.examples_stand.Goals as goal

pub returns : goal.returns
returns c = worked
