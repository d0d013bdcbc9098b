-- The speaker of an echo has a tag, the number of its bytes.
-- From the laws of messages that are heard.
use Rattle.std.proofs.Common.{◌^◌, ◌<◌, sym, subst, rules}
use Rattle.wire.specs.Messages.{meaning}
use Rattle.signed.specs.Signed.{SignerTagged}
use Rattle.delivery.specs.Calls.{TagOf}
use Rattle.wire.specs.Messages.{said_in}
use Rattle.delivery.proofs.Takes.{speaker_number, speaker_tagged}
use Rattle.delivery.proofs.accepted.own_tag.Goals as goal

pub unwrap-requires : goal.unwrap-requires
unwrap-requires c = speaker_tagged c.args.m.now.view c.args.m.now.body c.in-Echo.content c.in-Echo.own c.tag.result c.in-Echo.is c.requires c.tag.ensures

pub returns-in-Echo : goal.returns-in-Echo
returns-in-Echo c =
    let x = c.unwrap.result in
    let fits : x < 2 ^ 64 = search rules in
    let t = subst (SignerTagged (meaning c.args.m.now) c.in-Echo.own.speaker) c.unwrap.ensures c.tag.ensures in
    subst (λ b. TagOf (said_in c.args.m.now.view b) x) (sym c.in-Echo.is) (speaker_number c.args.m.now.view c.args.m.now.body c.in-Echo.content c.in-Echo.own x c.in-Echo.is fits c.requires t)
