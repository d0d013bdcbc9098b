-- Of at most eight members few may be faulty, so one more fits a byte.
-- From the law of shares.
use Rattle.std.proofs.Common.{arith}
use Rattle.boards.specs.Boards.{size}
use Rattle.boards.proofs.Sets.{size_le}
use Rattle.views.proofs.Rule.{share_is}
use Rattle.views.proofs.view.View.one_correct.Goals as goal

pub overflow_add-result : goal.overflow_add-result
overflow_add-result c =
    let s = c.args.self.now.set.bits in
    omega (arith, share_is (size s), size_le s, c.shares.ensures.faulty)
