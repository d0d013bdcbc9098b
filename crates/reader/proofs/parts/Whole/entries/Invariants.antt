-- The entries passed so far, from the reader that the loop began with.
-- `highest` is the highest earlier rank among them.
use Rattle.reader.proofs.Loops.{Going}
use Rattle.reader.proofs.parts.Whole.entries.Given as goal

abbrev pub invariant-loop : goal.invariant-loop
invariant-loop l = Going l.n l.counter l.highest l.initial.self.reader l.rest.reader
