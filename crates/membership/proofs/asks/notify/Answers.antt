-- A notify can be sent: the board is in range.
-- From the laws of lone messages.
use Rattle.sending.proofs.Lones.{can_notify, goes_out}
use Rattle.membership.proofs.asks.notify.Goals as goal

pub unwrap-requires : goal.unwrap-requires
unwrap-requires g c =
    goes_out g.S.Scheme _ _ _ _ _ _ _ c.say.result _ _
    (can_notify g.S.Scheme c.args.row.now _ _ c.args.change _ _ c.board.ensures.is c.latest.ensures c.requires.board c.requires.able)
    c.say.ensures
