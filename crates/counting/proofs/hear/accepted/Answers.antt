-- Each kind but a last is its tally, from its speaker; a last tells what a leader may count.
-- The fields of the message are those of its kind.
use Rattle.std.proofs.Common.{◌≡◌, true, eqb, sym, subst}
use Rattle.row.specs.declared.state.Count.{Count}
use Rattle.row.specs.Rows.{alike, nothing}
use Rattle.counting.proofs.Takes.{tally_notify, tally_ack, tally_ready, tally_deputy, tallied_as, telling_as}
use Rattle.counting.proofs.hear.accepted.Goals as goal

pub count-requires-clause-tallied : goal.count-requires-clause-tallied
count-requires-clause-tallied c = tallied_as _ _ _ _ _ c.in-Notify.is (tally_notify _ _ _ _) c.requires.formed

pub count-requires-in-Ack-clause-tallied : goal.count-requires-in-Ack-clause-tallied
count-requires-in-Ack-clause-tallied c = tallied_as _ _ _ _ _ c.in-Ack.is (tally_ack _ _ _ _ _) c.requires.formed

pub count-requires-in-Ready-clause-tallied : goal.count-requires-in-Ready-clause-tallied
count-requires-in-Ready-clause-tallied c = tallied_as _ _ _ _ _ c.in-Ready.is (tally_ready _ _ _ _ _) c.requires.formed

pub count-requires-in-Deputy-clause-tallied : goal.count-requires-in-Deputy-clause-tallied
count-requires-in-Deputy-clause-tallied c = tallied_as _ _ _ _ _ c.in-Deputy.is (tally_deputy _ _ _ _) c.requires.formed

pub own_tag-requires : goal.own_tag-requires
own_tag-requires c = (telling_as c.args.row.now.state _ _ _ _ _ _ _ c.in-Last.is c.requires).spoken

pub acks_in-requires : goal.acks_in-requires
acks_in-requires c = (telling_as c.args.row.now.state _ _ _ _ _ _ _ c.in-Last.is c.requires).whole

pub told-leader-requires : goal.told-leader-requires
told-leader-requires c =
    let w = c.args.row.now in
    let t = telling_as w.state _ _ _ _ _ _ _ c.in-Last.is c.requires in
    let shown = subst (λ (n : Count). alike (nothing c.in-Last.entry) (eqb n.set.bits 0) ≡ true) (sym c.acks_in.ensures) t.shown in
    record { seated = t.seated; new = t.new; fits = t.fits; shown = shown; told_so = w.tells; proved_so = w.proves }

pub last-requires-clause-rank : goal.last-requires-clause-rank
last-requires-clause-rank c = (telling_as c.args.row.now.state _ _ _ _ _ _ _ c.in-Last.is c.requires).range
