-- There is room for a change that is taken, and it leads to a next view.
-- From the laws of changes that are taken.
use Rattle.std.proofs.Common.{◌≤◌, length, sym, subst}
use Rattle.wire.specs.Messages.{said_in}
use Rattle.wire.specs.Format.{form}
use Rattle.changing.proofs.Takes.{goes_on, has_room, opens}
use Rattle.changing.proofs.hear.Goals as goal

pub pass_on-sent-requires-clause-room : goal.pass_on-sent-requires-clause-room
pass_on-sent-requires-clause-room g c =
    let h = goes_on g.S.Scheme c.args.row.now.state c.args.scheme.now _ _ _ _ _ _ c.in-Change.is c.in-Ok.is c.in_ok-judge.ensures in
    subst (λ x. length (form (said_in c.args.m.now.view x)) ≤ length c.args.out.now) (sym c.in-Change.is) (has_room g.S.Scheme _ _ _ _ _ _ _ _ h)

pub next-requires : goal.next-requires
next-requires g c =
    let w = c.args.row.now in
    let h = goes_on g.S.Scheme w.state c.args.scheme.now _ _ _ _ _ _ c.in-Change.is c.in-Ok.is c.in_ok-judge.ensures in
    opens g.S.Scheme _ _ _ _ _ _ _ _ w.sound h
