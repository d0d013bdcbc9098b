-- The member of the last rank is the highest member.
-- From the law of `manager_in`.
use Rattle.std.proofs.Common.{sym, ap, ◌∙◌}
use Rattle.row.specs.States.{manager_in}
use Rattle.row.proofs.Picked.{manager_is}
use Rattle.row.proofs.row.Row.manager.Goals as goal

pub returns : goal.returns
returns c = record {
  is = sym (manager_is c.view.result.set.bits c.manager.result c.manager.ensures.is) ∙ ap manager_in c.view.ensures;
  below = c.manager.ensures.below;
}
