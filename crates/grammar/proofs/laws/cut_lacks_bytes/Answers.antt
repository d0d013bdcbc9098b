-- The law of this name, `cut`, as its carrier's contract.
-- Proved in proofs/Cuts.antt.
use Rattle.grammar.proofs.Cuts.{cut}
use Rattle.grammar.proofs.laws.cut_lacks_bytes.Goals as goal

pub returns : goal.returns
returns c = cut
