-- The theorem that two quorums meet.
-- Its argument is in Meets.
use Rattle.boards.proofs.Meets.{quorums_meet}
use Rattle.boards.proofs.quorums_meet.Goals as goal

pub returns : goal.returns
returns c = quorums_meet
