-- The law of this name, `field_fault`, as its carrier's contract.
-- Proved in proofs/Cuts.antt.
use Rattle.grammar.proofs.Cuts.{field_fault}
use Rattle.grammar.proofs.laws.field_not_allowed.Goals as goal

pub returns : goal.returns
returns c = field_fault
