-- The set so far: the boards below this one that a change is passed on to.
-- Each turn looks at one board.
use Rattle.std.proofs.Common.{◌≡◌}
use Rattle.row.specs.States.{set_of}
use Rattle.row.specs.Effects.{passed_on}
use Rattle.changing.proofs.hearers.Given as goal

abbrev pub invariant-loop-board : goal.invariant-loop-board
invariant-loop-board l = l.to.bits ≡ set_of (passed_on l.row.state) l.board
