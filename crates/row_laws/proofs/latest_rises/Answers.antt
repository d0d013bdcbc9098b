-- The law as its carrier's contract, at the scheme that the function is given.
-- The proof is in proofs/Row.antt.
use Rattle.row_laws.proofs.Row.{latest_rises}
use Rattle.row_laws.proofs.latest_rises.Goals as goal

pub returns : goal.returns
returns g c = latest_rises g.S.Scheme
