-- The law stands for every scheme.
-- It is the induction over a run.
use Rattle.schemes.proofs.Since.{lasting}
use Rattle.schemes.proofs.laws.good_stays.Goals as goal

pub returns : goal.returns
returns g c = lasting g.S.Scheme.good g.S.Scheme.spent
