-- The suggest-last is formed and short, and the leader keeps what every leader keeps.
-- From the law of suggest-lasts; opens `tells` and `proves`.
use Rattle.std.proofs.Common.{◌<◌, ◌≤◌, sym, subst, arith, rules}
use Rattle.boards.specs.Boards.{size}
use Rattle.boards.proofs.Sets.{size_le}
use Rattle.row.specs.Rows.{tells, proves}
use Rattle.sending.proofs.Certificates.{Certified, certified_posted}
use Rattle.counting.proofs.Suggests.{certified_suggest_last, few}
use Rattle.counting.proofs.lasts.last.Goals as goal

pub invariant_of-row-clause-tells : goal.invariant_of-row-clause-tells
unfolding tells
invariant_of-row-clause-tells c = c.requires.tells

pub invariant_of-row-clause-proves : goal.invariant_of-row-clause-proves
unfolding proves
invariant_of-row-clause-proves c = c.requires.proves

pub unwrap-requires : goal.unwrap-requires
unwrap-requires c =
    let w = c.args.row.now in
    let n = c.at-full.result in
    let v1 = subst (λ x. 1 ≤ x) (sym c.latest.ensures) w.sound.counted.2 in
    let v2 = subst (λ x. x ≤ 64) (sym c.latest.ensures) w.sound.counted.3 in
    let members = c.view-view.result.set.bits in
    let six : size n.set.bits ≤ 6 = omega (arith, few (size members) (size_le members), c.len.ensures.is, c.if-len-quorum.true, c.quorum.ensures) in
    let byte : c.args.leader.proof.set.bits < 256 = search rules in
    certified_posted _ _ _ c.post.result _
    (subst Certified (sym c.certificate-m.ensures)
    (certified_suggest_last c.latest.result c.args.rank c.args.leader n v1 v2 c.requires.rank.0 c.requires.rank.1 c.requires.tells c.requires.proves c.at-full.ensures.is c.at-full.ensures.byte six byte))
    c.requires.room c.post.ensures
