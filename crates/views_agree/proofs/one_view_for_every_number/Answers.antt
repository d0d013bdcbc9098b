-- The theorem, at the scheme that the function is given.
-- Its proof is in proofs/Theorem.antt.
use Rattle.views_agree.proofs.Theorem.{views_agree}
use Rattle.views_agree.proofs.one_view_for_every_number.Goals as goal

pub returns : goal.returns
returns g c = views_agree g.S.Scheme
