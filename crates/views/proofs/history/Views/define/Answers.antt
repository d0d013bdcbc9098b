-- One view more leaves a sound history: the change was open.
-- The laws of that are in Histories.
use Rattle.views.specs.Histories.{grown}
use Rattle.views.proofs.Histories.{grown_sound, opens}
use Rattle.views.proofs.history.Views.define.Goals as goal

pub invariant_of-self : goal.invariant_of-self
unfolding grown
invariant_of-self c =
    let h = c.args.self.now.history in
    let sound = c.args.self.now.sound in
    let next = c.in_ok-changed.field-0 in
    let told = c.in_ok-changed.ensures in
    let may = opens h c.args.c c.current.result.set.bits next.set.bits sound told.0 c.if-latest-eq-LAST.false c.current.ensures told.1 next.some in
    record { sound = grown_sound h c.args.c sound may }
