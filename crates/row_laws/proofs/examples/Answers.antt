-- The examples as their carrier's contract.
-- They are worked out in proofs/Worked.antt.
use Rattle.row_laws.proofs.Worked.{worked}
use Rattle.row_laws.proofs.examples.Goals as goal

pub returns : goal.returns
returns c = worked
