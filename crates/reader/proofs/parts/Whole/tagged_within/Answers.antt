-- Tags that are missing are the fault of set and tags.
-- What is read well needs no proof here.
use Rattle.std.proofs.Common.{rules, ◌*◌}
use Rattle.boards.specs.Boards.{size}
use Rattle.grammar.specs.Grammar.{Grammar}
use Rattle.reader.proofs.parts.Whole.tagged_within.Goals as goal

pub returns-in_err-tags : goal.returns-in_err-tags
returns-in_err-tags c = search (rules, c.in_ok-set.ensures.on (λ b. Grammar.part (8 * size b) (λ _. Grammar.done)), c.in_err-tags.ensures 0)
