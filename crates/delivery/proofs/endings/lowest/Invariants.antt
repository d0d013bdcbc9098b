-- What is sought from here on is what was sought from the start.
-- Each turn looks at one view.
use Rattle.std.proofs.Common.{◌≡◌, ◌≤◌, ◌+◌, ◌-◌}
use Rattle.delivery.specs.Endings.{may_stay, lowest_from}
use Rattle.delivery.proofs.endings.lowest.Given as goal

abbrev pub invariant-loop-v : goal.invariant-loop-v
invariant-loop-v l = (l.v ≤ 65) × (l.from ≤ l.v) × (l.latest ≡ l.views.history.latest)
    × (lowest_from (may_stay l.views.history l.board) l.from (l.views.history.latest + 1 - l.from) ≡ lowest_from (may_stay l.views.history l.board) l.v (l.views.history.latest + 1 - l.v))

abbrev pub decreases-loop-v : goal.decreases-loop-v
decreases-loop-v l = l.latest + 1 - l.v
