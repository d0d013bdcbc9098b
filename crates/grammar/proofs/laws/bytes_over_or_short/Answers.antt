-- The law of this name, `over_or_short`, as its carrier's contract.
-- Proved in proofs/Cuts.antt.
use Rattle.grammar.proofs.Cuts.{over_or_short}
use Rattle.grammar.proofs.laws.bytes_over_or_short.Goals as goal

pub returns : goal.returns
returns c = over_or_short
