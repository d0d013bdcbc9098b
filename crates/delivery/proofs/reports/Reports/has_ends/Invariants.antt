-- Whether the ends of the boards so far that stay are delivered.
-- Each turn looks at one board.
use Rattle.std.proofs.Common.{◌≡◌, not, ◌||◌, is_some}
use Rattle.boards.specs.Boards.{every}
use Rattle.delivery.specs.Reports.{claim_of}
use Rattle.delivery.specs.Endings.{stays}
use Rattle.delivery.specs.Plain.{plain}
use Rattle.delivery.proofs.reports.Reports.has_ends.Given as goal

abbrev pub invariant-loop-s : goal.invariant-loop-s
invariant-loop-s l = l.all ≡ every (λ s. not (stays l.views.history l.y s) || is_some (claim_of (plain l.self) s)) l.s
