-- What the moves that are left lead to, all lead to.
-- Each turn makes the next.
use Rattle.std.proofs.Common.{drop}
use Rattle.bench.specs.declared.desk.Bench.{Bench}
use Rattle.bench.specs.Moves.{Played}
use Rattle.bench.proofs.desk.Bench.played.Given as goal

abbrev pub invariant-loop-one : goal.invariant-loop-one
invariant-loop-one l = (end : Bench) → Played (drop l.one-index l.moves) l.self end → Played l.fn.moves l.fn.self end
