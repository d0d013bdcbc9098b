-- The largest claim of the boards so far that stay.
-- Each turn looks at one board.
use Rattle.std.proofs.Common.{◌≡◌, cond}
use Rattle.delivery.specs.Reports.{claim_of, or_zero}
use Rattle.delivery.specs.Endings.{largest, stays}
use Rattle.delivery.specs.Plain.{plain}
use Rattle.delivery.proofs.reports.Reports.cut.Given as goal

abbrev pub invariant-loop-s : goal.invariant-loop-s
invariant-loop-s l = l.top ≡ largest (λ s. cond (stays l.views.history l.y s) (or_zero (claim_of (plain l.self) s)) 0) l.s
