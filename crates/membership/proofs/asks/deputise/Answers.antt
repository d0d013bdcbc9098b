-- A deputy message can be sent: a member has a rank from 1 to 8.
-- From the laws of lone messages.
use Rattle.std.proofs.Common.{subst, arith}
use Rattle.boards.specs.Boards.{Rank}
use Rattle.boards.proofs.Sets.{place_below, size_le}
use Rattle.sending.proofs.Lones.{can_deputy, goes_out}
use Rattle.membership.proofs.asks.deputise.Goals as goal

pub unwrap-requires : goal.unwrap-requires
unwrap-requires g c =
    let k = c.unwrap-rank.result in
    let v = c.view.result.set.bits in
    let r = subst (Rank v c.args.board) c.unwrap-rank.ensures c.rank.ensures in
    goes_out g.S.Scheme _ _ _ _ _ _ _ c.say.result _ _
    (can_deputy g.S.Scheme c.args.row.now _ _ k _ _ c.board.ensures.is c.latest.ensures (omega (arith, r.1)) (omega (arith, r.1, place_below v c.args.board r.0, size_le v)) c.requires.able)
    c.say.ensures
