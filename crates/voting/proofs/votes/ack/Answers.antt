-- The ack can be sent: rank and change are in range.
-- From the laws of lone messages.
use Rattle.sending.proofs.Lones.{can_ack, goes_out}
use Rattle.voting.proofs.votes.ack.Goals as goal

pub unwrap-sent-requires : goal.unwrap-sent-requires
unwrap-sent-requires g c =
    goes_out g.S.Scheme _ _ _ _ _ _ _ c.say.result _ _
    (can_ack g.S.Scheme c.args.row.now _ _ c.args.rank c.args.change _ _ c.board.ensures.is c.latest.ensures c.requires.asked.0 c.requires.asked.1 c.requires.asked.2 c.requires.able)
    c.say.ensures
