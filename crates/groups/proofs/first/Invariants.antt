-- The set has the boards of the digits so far, and none of these stands for no board.
-- The laws are in Walks.
use Rattle.std.proofs.Common.{take}
use Rattle.groups.proofs.Walks.{Gathered}
use Rattle.groups.proofs.first.Given as goal

abbrev pub invariant-loop-digit : goal.invariant-loop-digit
invariant-loop-digit l = Gathered (take l.digit-index l.members) l.set.bits
