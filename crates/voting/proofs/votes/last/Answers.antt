-- The last can be sent: a row can tell what its voter keeps.
-- From the law of voters.
use Rattle.std.proofs.Common.{◌<◌, rules}
use Rattle.sending.proofs.Lones.{goes_out}
use Rattle.voting.proofs.Voters.{can_tell}
use Rattle.voting.proofs.votes.last.Goals as goal

pub unwrap-sent-requires : goal.unwrap-sent-requires
unwrap-sent-requires g c =
    let n = c.shown-proof.result in
    let byte : n.set.bits < 256 = search rules in
    goes_out g.S.Scheme _ _ _ _ _ _ _ c.speak.result _ _
    (can_tell g.S.Scheme c.args.row.now _ _ c.args.rank n.set.bits c.kept_entry-entry.result n.tags _ _ c.board.ensures.is c.latest.ensures c.kept_entry-entry.ensures c.shown-proof.ensures.set byte c.requires.asked.0 c.requires.asked.1 c.requires.able)
    c.speak.ensures
