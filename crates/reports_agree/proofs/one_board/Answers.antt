-- What holds of one board, in the scheme that the function is given.
-- The proof is in proofs/OneBoard.antt.
use Rattle.reports_agree.proofs.OneBoard.{one_board_holds}
use Rattle.reports_agree.proofs.one_board.Goals as goal

pub returns : goal.returns
returns g c = one_board_holds g.S.Scheme
