-- The history of thirty-five calls.
-- It is made in proofs/Witness.antt.
use Rattle.reports_agree.proofs.Witness.{some_closing}
use Rattle.reports_agree.proofs.some_history_closes_a_view.Goals as goal

pub returns : goal.returns
returns c = some_closing
