-- The ready can be sent, and what is kept has a rank, a change and acks to show for it.
-- From the laws of lone messages and of voters.
use Rattle.std.proofs.Common.{◌≤◌, sym, subst}
use Rattle.boards.specs.Boards.{size}
use Rattle.row.specs.declared.state.Count.{Count}
use Rattle.sending.proofs.Lones.{can_ready, goes_out}
use Rattle.voting.proofs.Voters.{keeps_proposal}
use Rattle.voting.proofs.votes.ready.Goals as goal

pub unwrap-sent-requires : goal.unwrap-sent-requires
unwrap-sent-requires g c =
    goes_out g.S.Scheme _ _ _ _ _ _ _ c.say.result _ _
    (can_ready g.S.Scheme c.args.row.now _ _ c.args.rank c.args.change _ _ c.board.ensures.is c.latest.ensures c.requires.asked.0 c.requires.asked.1 c.requires.asked.2 c.requires.able)
    c.say.ensures

pub invariant_of-row-clause-keeps : goal.invariant_of-row-clause-keeps
invariant_of-row-clause-keeps g c =
    let some = subst (λ (n : Count). 1 ≤ size n.set.bits) (sym c.heard_count.ensures) c.requires.some in
    keeps_proposal c.args.row.now.state.voter _ c.args.rank c.args.change c.heard_count.result c.requires.asked.0 c.requires.asked.1 c.requires.asked.2 some
