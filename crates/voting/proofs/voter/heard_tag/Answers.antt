-- A signer's tag is the number of its bytes; another board has none.
-- From the law of tags that are kept.
use Rattle.std.proofs.Common.{◌^◌, ◌<◌, ◌∙◌, IfSome, rules}
use Rattle.admission.proofs.Tags.{tag_or_zero}
use Rattle.voting.proofs.voter.heard_tag.Goals as goal

pub returns : goal.returns
returns c =
    let fits : IfSome c.tag.result (λ x. x < 2 ^ 64) = search rules in
    c.unwrap_or.ensures ∙ tag_or_zero _ c.args.board _ c.tag.result (c.requires c.args.board) c.tag.ensures fits
