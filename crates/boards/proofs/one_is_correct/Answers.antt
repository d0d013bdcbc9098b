-- The theorem that enough boards have a correct one among them.
-- Its argument is in Meets.
use Rattle.boards.proofs.Meets.{one_is_correct}
use Rattle.boards.proofs.one_is_correct.Goals as goal

pub returns : goal.returns
returns c = one_is_correct
