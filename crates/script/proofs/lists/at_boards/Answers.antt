-- What stands at the boards of a set is what a walk over it gives.
-- A walk gives boards below 8 alone.
use Rattle.std.proofs.Common.{rules}
use Rattle.std.proofs.lemmas.Iterator.{YieldsList-from_map_by}
use Rattle.std.proofs.lemmas.Iterator.Adapters.{serves_from_places}
use Rattle.std.proofs.lemmas.Iterator.Consumers.{YieldsList-at}
use Rattle.boards.proofs.Yields.{YieldsList-from_boards}
use Rattle.wire.proofs.Walks.{map_boards}
use Rattle.script.proofs.Listings.{written}
use Rattle.script.proofs.Sources.{below}
use Rattle.script.proofs.lists.at_boards.Goals as goal

pub commas-requires-clause-can : goal.commas-requires-clause-can
commas-requires-clause-can g c = (
  search rules,
  serves_from_places (YieldsList-at c.map.ensures.source (YieldsList-from_boards c.boards.ensures))
      (λ x q r. search rules) (λ x k h e. search (rules, c.requires x (below c.args.set.bits x k h e))),
)

-- a call of `at` leaves it as it was
pub returns : goal.returns
returns g c = λ text h.
    written c.commas.ensures
    (YieldsList-from_map_by _ g.T.Text.text text (YieldsList-at c.map.ensures.source (YieldsList-from_boards c.boards.ensures))
    c.map.ensures.closure (λ x r q k. (g.met.F.Fn.1.step_stays _ _ _ _ k, h x r ((g.met.F.FnMut.1.post_iff _ _ _).1 (q, k)))))
    (map_boards c.args.set.bits text)
