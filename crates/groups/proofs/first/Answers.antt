-- The boards of all digits make the first view.
-- The laws are in Walks.
use Rattle.std.proofs.Common.{subst, arith}
use Rattle.std.proofs.lemmas.List.{take_all}
use Rattle.groups.proofs.Walks.{Gathered, gathered_none, begins}
use Rattle.groups.proofs.first.Goals as goal

pub loop-digit-init : goal.loop-digit-init
loop-digit-init c = gathered_none

pub returns : goal.returns
returns c =
    let ms = c.args.members.now in
    begins ms c.loop-digit.set c.try_from.result
    (subst (λ ds. Gathered ds c.loop-digit.set.bits) (take_all c.loop-digit.digit-index ms (omega (arith, c.loop-digit-test.false))) c.loop-digit.invariant) c.try_from.ensures
