-- The echo can be sent: its head is in range. It goes out with the new tag, and its content is kept.
-- From the laws of heads.
use Rattle.std.proofs.Common.{sym, ap, subst}
use Rattle.wire.specs.Acts.{Act}
use Rattle.delivery.specs.Reports.{content, now}
use Rattle.delivery.specs.Ranges.{AllowedHead}
use Rattle.delivery.specs.Plain.{plain}
use Rattle.sending.proofs.Lones.{goes_out}
use Rattle.delivery.proofs.Heads.{allowed_echo, can_echo, signs_as}
use Rattle.delivery.proofs.Plainly.{plain_with_echo}
use Rattle.delivery.proofs.reports.Reports.echo_init.Goals as goal

pub unwrap-sent-requires : goal.unwrap-sent-requires
unwrap-sent-requires g c =
    let q = c.args.said in
    let r = subst (λ v. AllowedHead v q.sender q.number (content q.sort q.payload.now)) (sym c.now.ensures.is) c.requires.head in
    goes_out g.S.Scheme _ _ _ _ _ _ _ c.say.result _ _
    (can_echo g.S.Scheme c.now.result q.sender q.number (content q.sort q.payload.now) c.board.result _ _ r c.board.ensures.below c.requires.able)
    c.say.ensures

pub returns : goal.returns
returns g c =
    let q = c.args.said in
    let d = plain c.args.self.now in (
      plain_with_echo c.args.self.now q.sender c.of.result (content q.sort q.payload.now) c.of.ensures,
      signs_as g.S.Scheme _ c.args.row.now.state.board _ _ _ _ _ _ c.say.result c.unwrap-sent.result _ _ c.unwrap-sent.ensures c.board.ensures.is c.only.ensures
          (ap (λ v. Act.echo v q.sender q.number q.sort q.payload.now) c.now.ensures.is) c.say.ensures,
      allowed_echo (now d) q.sender q.number (content q.sort q.payload.now) c.requires.head,
    )
