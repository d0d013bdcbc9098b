-- What each kind asks holds of a message that nothing stands against.
-- From the laws of messages that are heard.
use Rattle.delivery.specs.Plain.{plain}
use Rattle.delivery.proofs.Heads.{most}
use Rattle.delivery.proofs.Takes.{takes_init, takes_echo, takes_commit}
use Rattle.delivery.proofs.reports.Reports.accept.Goals as goal

pub echo_init-requires-clause-able : goal.echo_init-requires-clause-able
echo_init-requires-clause-able g c =
    let t = takes_init c.args.row.now.state (plain c.args.self.now) c.args.m.now.view c.args.m.now.body _ _ _ c.requires.formed c.requires.unrefused c.in-Init.content _ c.in-Init.is in
    record { roomy = t.0; unspent = t.1 }

pub echo_init-requires-clause-head : goal.echo_init-requires-clause-head
echo_init-requires-clause-head g c =
    (takes_init c.args.row.now.state (plain c.args.self.now) c.args.m.now.view c.args.m.now.body _ _ _ c.requires.formed c.requires.unrefused c.in-Init.content _ c.in-Init.is).2

pub collect-requires-clause-seated : goal.collect-requires-clause-seated
collect-requires-clause-seated g c =
    (takes_echo c.args.row.now.state (plain c.args.self.now) c.args.m.now.view c.args.m.now.body _ _ _ c.requires.formed c.requires.unrefused _ c.in-Echo.own c.in-Echo.is).1

pub collect-requires-clause-head : goal.collect-requires-clause-head
collect-requires-clause-head g c =
    (takes_echo c.args.row.now.state (plain c.args.self.now) c.args.m.now.view c.args.m.now.body _ _ _ c.requires.formed c.requires.unrefused _ c.in-Echo.own c.in-Echo.is).2

pub deliver-requires-clause-sender : goal.deliver-requires-clause-sender
deliver-requires-clause-sender g c =
    (takes_commit c.args.row.now.state (plain c.args.self.now) c.args.m.now.view c.args.m.now.body _ _ _ c.requires.formed c.requires.unrefused c.in-Commit.content _ c.in-Commit.is).sender

pub deliver-requires-clause-fits : goal.deliver-requires-clause-fits
deliver-requires-clause-fits g c =
    let r = takes_commit c.args.row.now.state (plain c.args.self.now) c.args.m.now.view c.args.m.now.body _ _ _ c.requires.formed c.requires.unrefused c.in-Commit.content _ c.in-Commit.is in
    most _ _ r.content.long
