-- What the scheme answers is a tag for an allowed act, or a refusal that only a spent scheme gives.
-- From the law of refusals.
use Rattle.std.proofs.Common.{◌∙◌}
use Rattle.words.specs.Said.{said}
use Rattle.sending.proofs.Lones.{signed_for}
use Rattle.sending.proofs.signed.Goals as goal

pub returns : goal.returns
returns g c =
    signed_for g.S.Scheme c.args.board (said c.args.statement.now) _ _ _ c.sign.result _ c.ok.ensures.value (c.as_slice.ensures ∙ c.in_ok-words.ensures.1) c.in_ok-words.ensures.0 c.sign.ensures
