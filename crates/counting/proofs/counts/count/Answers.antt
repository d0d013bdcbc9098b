-- The certificate is formed and short, and what the leader was told stays.
-- What is left is what the rules say of the message. From the laws of tallies; opens `tells` and `proves`.
use Rattle.std.proofs.Common.{◌≤◌, sym, ◌∙◌, subst, rules}
use Rattle.wire.specs.Messages.{meaning}
use Rattle.row.specs.Rows.{tells, proves}
use Rattle.sending.proofs.Certificates.{Certified, certified_posted}
use Rattle.counting.proofs.Tallies.{as_heard, certified}
use Rattle.counting.proofs.counts.count.Goals as goal

pub invariant_of-row-clause-tells : goal.invariant_of-row-clause-tells
unfolding tells
invariant_of-row-clause-tells c = c.gained-leader.ensures.tells ∙ c.args.row.now.tells

pub invariant_of-row-clause-proves : goal.invariant_of-row-clause-proves
unfolding proves
invariant_of-row-clause-proves c = c.gained-leader.ensures.proves ∙ c.args.row.now.proves

pub unwrap-requires : goal.unwrap-requires
unwrap-requires c =
    let w = c.args.row.now in
    let v1 = subst (λ x. 1 ≤ x) (sym c.latest.ensures) w.sound.counted.2 in
    let v2 = subst (λ x. x ≤ 64) (sym c.latest.ensures) w.sound.counted.3 in
    certified_posted _ _ _ c.post.result _ (subst Certified (sym c.certificate-certificate.ensures) (certified c.args.tally c.latest.result c.at-full.result c.requires.tallied.range v1 v2 c.at-full.ensures.byte)) c.requires.room c.post.ensures

pub returns-then-len-least : goal.returns-then-len-least
returns-then-len-least c = rw (← as_heard c.args.row.now.state (meaning c.args.m.now) c.args.tally c.args.speaker c.own_tag.result c.requires.tallied c.own_tag.ensures) (search rules)

pub returns-else-len-least : goal.returns-else-len-least
returns-else-len-least c = rw (← as_heard c.args.row.now.state (meaning c.args.m.now) c.args.tally c.args.speaker c.own_tag.result c.requires.tallied c.own_tag.ensures) (search rules)
