-- What was played goes on with what is left of the script.
-- Each turn leaves less of it.
use Rattle.std.proofs.Common.{length}
use Rattle.flatsat.specs.Plays.{state_of}
use Rattle.flatsat.proofs.Turns.{Going}
use Rattle.flatsat.proofs.play.lines.Given as goal

abbrev pub invariant-loop-rest : goal.invariant-loop-rest
invariant-loop-rest l = Going l.initial.rest (state_of l.initial.page) l.rest (state_of l.page)

abbrev pub decreases-loop-rest : goal.decreases-loop-rest
decreases-loop-rest l = length l.rest
