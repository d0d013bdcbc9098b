-- A rank fits its type.
-- From what the calls ensure.
use Rattle.std.proofs.Common.{arith}
use Rattle.boards.proofs.Sets.{place_below}
use Rattle.changing.proofs.is_hearer.Goals as goal

pub overflow_add-after : goal.overflow_add-after
overflow_add-after c = omega (arith, c.in-Some.ensures.1, place_below c.args.view.now.set.bits c.args.board c.in-Some.ensures.0)
