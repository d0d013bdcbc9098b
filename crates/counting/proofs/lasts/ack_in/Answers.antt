-- A board's ack is the number of its bytes; another board has none.
-- From the law of acks.
use Rattle.std.proofs.Common.{◌^◌, ◌<◌, ◌∙◌, IfSome, rules}
use Rattle.wire.specs.Messages.{meaning}
use Rattle.counting.proofs.Takes.{ack_as}
use Rattle.counting.proofs.lasts.ack_in.Goals as goal

pub returns : goal.returns
returns c =
    let fits : IfSome c.proof_tag.result (λ x. x < 2 ^ 64) = search rules in
    c.unwrap_or.ensures ∙ ack_as (meaning c.args.m.now) c.args.proof.bits c.args.board c.proof_tag.result c.requires c.proof_tag.ensures fits
