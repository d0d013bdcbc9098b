-- The board that is found has the rank; where none is found, no board has it.
-- What the test says of each board is the rank's own contract.
use Rattle.std.proofs.Common.{rules}
use Rattle.std.proofs.lemmas.Iterator.{first_from_Range}
use borrow.Author.Tests.{tests}
use Rattle.boards.proofs.Sets.{Ranked, held}
use Rattle.boards.proofs.Set.at.Goals as goal

pub returns : goal.returns
returns c =
    let has = Ranked c.args.self.bits c.args.rank in
    held c.args.self.bits c.args.rank c.find.result
    (first_from_Range _ _ _ c.find.result has (λ b. has b → ⊥) c.find.ensures.ran (λ x q k. search (rules, tests)) (λ x q k. search (rules, tests)))
