-- What was signed was handed to the scheme that the function is given.
-- The proof is in proofs/Signing.antt.
use Rattle.views_agree.proofs.Signing.{signed_was_handed}
use Rattle.views_agree.proofs.signed_was_handed.Goals as goal

pub returns : goal.returns
returns g c = signed_was_handed g.S.Scheme
