-- A member leaves, another board joins: either way the set is the changed one.
-- The laws of that are in Groups.
use Rattle.std.proofs.Common.{sym, ◌∙◌, arith}
use Rattle.views.proofs.Groups.{left_is, joined_is}
use Rattle.views.proofs.view.turned.Goals as goal

pub returns-then-has : goal.returns-then-has
returns-then-has c =
    left_is c.args.set.bits c.args.c c.without.result.bits (omega arith) (omega arith) (sym c.has.ensures.is ∙ c.if-has.true) c.without.ensures.each

pub returns-else-has : goal.returns-else-has
returns-else-has c =
    joined_is c.args.set.bits c.args.c c.with.result.bits (omega arith) (omega arith) (sym c.has.ensures.is ∙ c.if-has.false) c.with.ensures.each
