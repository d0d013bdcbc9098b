-- The good boards as the check of tags finds them, and the others of the part.
-- A board of the part is good or bad.
use Rattle.std.proofs.Common.{subst}
use Rattle.boards.specs.Boards.{Minus}
use Rattle.wire.specs.Messages.{meaning}
use Rattle.schemes.specs.Keys.{good_under}
use Rattle.checks.specs.Checks.{boards_in, good_in}
use Rattle.flatsat.proofs.Leaving.{rest_fails}
use Rattle.flatsat.proofs.audit.verdict.Goals as goal

pub returns : goal.returns
returns c formed =
    let part = c.args.part in
    let m = meaning c.args.m.now in
    let good = c.good_boards-good.result.bits in
    let bad = c.minus.result.bits in
    let found = c.good_boards-good.ensures.formed formed in
    let rest : Minus (boards_in part m) good bad = subst (λ a. Minus a good bad) c.boards_of.ensures c.minus.ensures in
    record { good_ones = found; bad_ones = λ b. rest_fails (boards_in part m) good bad b (good_in part (good_under c.args.scheme.now) m b) rest (found b) }
