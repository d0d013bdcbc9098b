-- Good tags vouch, in the scheme that the function is given.
-- The proof is in proofs/Tags.antt.
use Rattle.reports_agree.proofs.Tags.{tags_vouch}
use Rattle.reports_agree.proofs.good_tags_vouch.Goals as goal

pub returns : goal.returns
returns g c = tags_vouch g.S.Scheme
