-- The law as its carrier's contract, at the scheme that the function is given.
-- The proof is in proofs/Again.antt.
use Rattle.row_laws.proofs.Again.{not_twice}
use Rattle.row_laws.proofs.not_twice.Goals as goal

pub returns : goal.returns
returns g c = not_twice g.S.Scheme
