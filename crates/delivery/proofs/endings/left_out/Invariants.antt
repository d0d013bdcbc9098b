-- The highest of the boards so far that the next view leaves out.
-- Each turn looks at one board.
use Rattle.std.proofs.Common.{◌≡◌, is_some}
use Rattle.std.specs.Option.{unwrap_or}
use Rattle.boards.specs.Boards.{any}
use Rattle.row.specs.States.{highest}
use Rattle.delivery.specs.Endings.{is_left_out}
use Rattle.delivery.proofs.endings.left_out.Given as goal

abbrev pub invariant-loop-s : goal.invariant-loop-s
invariant-loop-s l = (unwrap_or l.gone 8 ≡ highest (is_left_out l.views.history l.y) l.s) × (is_some l.gone ≡ any (is_left_out l.views.history l.y) l.s)
