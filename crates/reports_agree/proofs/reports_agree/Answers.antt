-- The theorem, at the scheme that the function is given.
-- Its proof is in proofs/Theorem.antt.
use Rattle.reports_agree.proofs.Theorem.{reports_agree}
use Rattle.reports_agree.proofs.reports_agree.Goals as goal

pub returns : goal.returns
returns g c = reports_agree g.S.Scheme
