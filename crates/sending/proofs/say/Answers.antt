-- Without a proof there are no acks.
-- From the law of stored tags.
use Rattle.std.proofs.Common.{replicate}
use Rattle.wire.specs.Messages.{stored_tags}
use Rattle.sending.proofs.Lones.{no_acks, no_tags}
use Rattle.sending.proofs.say.Goals as goal

pub returns : goal.returns
returns g c =
    no_acks g.S.Scheme c.args.board c.args.to.bits _ (stored_tags 0 (replicate 8 0)) _ _ _ _ c.speak.result (no_tags (replicate 8 0)) c.speak.ensures
