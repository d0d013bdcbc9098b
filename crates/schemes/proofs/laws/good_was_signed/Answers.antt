-- The law stands for every scheme.
-- It is the induction over a run.
use Rattle.schemes.proofs.Since.{earned}
use Rattle.schemes.proofs.laws.good_was_signed.Goals as goal

pub returns : goal.returns
returns g c = earned g.S.Scheme.good g.S.Scheme.spent
