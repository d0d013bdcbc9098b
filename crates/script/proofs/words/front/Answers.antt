-- The front ends at the first byte that passes the test.
-- The laws are in Fronts and in the library.
use Rattle.std.proofs.Common.{◌≡◌, true, false, sym, ◌∙◌, rules}
use Rattle.std.proofs.lemmas.Iterator.{YieldsList-from_slice, IsFirst-from_position, index_from_first}
use borrow.Author.Tests.{tests}
use Rattle.script.proofs.Fronts.{before_first, first_none, first_hit, first_miss}
use Rattle.script.proofs.words.front.Goals as goal

pub returns-clause-is : goal.returns-clause-is
returns-clause-is g c = λ test h.
    let bs = c.args.bytes.now in
    c.unwrap_or.ensures
    ∙ sym (index_from_first (before_first test) (λ b. true ≡ test b) (λ b. false ≡ test b) (first_none test) (first_hit test) (first_miss test) bs c.position.result
    (IsFirst-from_position _ _ c.position.result (λ b. true ≡ test b) (λ b. false ≡ test b) c.position.ensures.ran (YieldsList-from_slice bs c.iter.ensures.rest)
    (λ x q k. search (rules, tests, h)) (λ x q k. search (rules, tests, h))))
