-- The law as its carrier's contract, at the scheme that the function is given.
-- The proof is in proofs/Row.antt.
use Rattle.row_laws.proofs.Row.{floor_falls}
use Rattle.row_laws.proofs.floor_falls.Goals as goal

pub returns : goal.returns
returns g c = floor_falls g.S.Scheme
