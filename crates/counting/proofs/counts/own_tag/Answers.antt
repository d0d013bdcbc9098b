-- The tag of a speaker is the number of its bytes.
-- It stands alone in the message.
use Rattle.std.proofs.Common.{◌^◌, ◌<◌, sym, ◌∙◌, subst, rules}
use Rattle.wire.specs.Messages.{meaning}
use Rattle.signed.specs.Signed.{SignerTagged}
use Rattle.sending.proofs.Numbers.{number_is}
use Rattle.counting.specs.Counts.{own_tag}
use Rattle.counting.proofs.counts.own_tag.Goals as goal

pub returns : goal.returns
returns c =
    let m = meaning c.args.m.now in
    let x = c.unwrap.result in
    let fits : x < 2 ^ 64 = search rules in
    let t = subst (SignerTagged m c.args.speaker) c.unwrap.ensures c.tag.ensures in
    sym (number_is x (own_tag m) fits (t.1 ∙ c.requires.alone))
