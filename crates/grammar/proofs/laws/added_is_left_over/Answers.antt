-- The law of this name, `over`, as its carrier's contract.
-- Proved in proofs/Cuts.antt.
use Rattle.grammar.proofs.Cuts.{over}
use Rattle.grammar.proofs.laws.added_is_left_over.Goals as goal

pub returns : goal.returns
returns c = over
