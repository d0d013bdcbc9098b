-- The law as its carrier's contract, at the scheme that the function is given.
-- The proof is in proofs/Again.antt.
use Rattle.row_laws.proofs.Again.{full_count}
use Rattle.row_laws.proofs.full_count.Goals as goal

pub returns : goal.returns
returns g c = full_count g.S.Scheme
