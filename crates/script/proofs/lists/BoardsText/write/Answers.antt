-- Each board of the set stands for its number.
-- The law is the contract of `at_boards`.
use Rattle.std.proofs.Common.{decimal, rules}
use Rattle.script.proofs.lists.BoardsText.write.Goals as goal

pub returns : goal.returns
returns c = c.at_boards.ensures decimal (λ b item k. search rules)
