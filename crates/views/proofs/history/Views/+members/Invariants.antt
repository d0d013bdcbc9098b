-- Each call asks for an earlier view.
-- So the number of the view falls.
use Rattle.views.proofs.history.Views.+members.Given as goal

abbrev pub decreases-members : goal.decreases-members
decreases-members l = l.v
