-- One view after another.
-- From how the lowest of the views from one on goes on.
use Rattle.std.proofs.Common.{arith, sym, ◌∙◌}
use Rattle.delivery.proofs.Telling.{lowest_here, lowest_on, lowest_over, placed}
use Rattle.delivery.proofs.endings.lowest.Goals as goal

pub returns-then-may_stay-clause-is : goal.returns-then-may_stay-clause-is
returns-then-may_stay-clause-is c = sym (c.loop-v.invariant.3 ∙ lowest_here _ c.loop-v.v _ (omega (arith, c.loop-v-test.true, c.loop-v.invariant.2)) (sym c.may_stay.ensures ∙ c.if-may_stay.true))

pub returns-then-may_stay-clause-placed : goal.returns-then-may_stay-clause-placed
returns-then-may_stay-clause-placed c = placed c.loop-v.v (omega (arith, c.loop-v.invariant.1, c.requires)) (omega (arith, c.loop-v-test.true, c.latest-latest.ensures.few))

pub loop-v-preserved : goal.loop-v-preserved
loop-v-preserved c = (
  omega (arith, c.loop-v-test.true, c.latest-latest.ensures.few),
  omega (arith, c.loop-v.invariant.1),
  c.loop-v.invariant.2,
  c.loop-v.invariant.3 ∙ lowest_on _ c.loop-v.v _ _ (omega (arith, c.loop-v-test.true, c.loop-v.invariant.2)) (sym c.may_stay.ensures ∙ c.if-may_stay.false),
)

pub returns-clause-is : goal.returns-clause-is
returns-clause-is c = sym (c.loop-v.invariant.3 ∙ lowest_over _ c.loop-v.v _ (omega (arith, c.loop-v-test.false, c.loop-v.invariant.2)))
