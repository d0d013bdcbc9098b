-- A tag that is missing is the fault of board and tag.
-- What is read well needs no proof here.
use Rattle.std.proofs.Common.{rules}
use Rattle.grammar.specs.Grammar.{Grammar}
use Rattle.reader.proofs.parts.Whole.spoken.Goals as goal

pub returns-in_err-tag : goal.returns-in_err-tag
returns-in_err-tag c = search (rules, c.in_ok-speaker.ensures.on (λ _. Grammar.part 8 (λ _. Grammar.done)), c.in_err-tag.ensures 0)
