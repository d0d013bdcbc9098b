-- The chain asks every board.
-- From the law of searches over boards.
use Rattle.std.proofs.Common.{ℕ, ◌∙◌, refl, rules, tests}
use Rattle.std.proofs.lemmas.Iterator.{YieldsList-from_range}
use Rattle.std.proofs.lemmas.Iterator.Search.{any_from_yields_List}
use Rattle.wire.specs.Messages.{meaning}
use Rattle.members.specs.Told.{entry_by, told}
use Rattle.members.proofs.Boards.{any_board}
use Rattle.members.proofs.entries.some_told.Goals as goal

pub returns : goal.returns
returns g c = λ test h.
    let P = λ (b : ℕ). told test (entry_by (meaning c.args.m.now) b) in
    any_from_yields_List P _ _ c.any.result c.any.ensures.ran (YieldsList-from_range 0 8 8 refl refl) (λ x b q k. search (rules, tests, h)) ∙ any_board P
