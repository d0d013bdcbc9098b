-- The history of four steps.
-- It is made in proofs/Witness.antt.
use Rattle.views_agree.proofs.Witness.{some_change}
use Rattle.views_agree.proofs.some_history_changes_the_view.Goals as goal

pub returns : goal.returns
returns c = some_change
