-- The boards of the set from the last to the first, each put before what is found behind it.
-- The tags beside the entries do not matter.
use Rattle.std.proofs.Common.{get_or, ◌∙◌, rules, tests}
use Rattle.std.proofs.lemmas.Iterator.Consumers.{fold_from_yields_List}
use Rattle.boards.proofs.Yields.{YieldsList-from_boards_back}
use Rattle.wire.specs.Messages.{none, tag_bytes}
use Rattle.wire.specs.Acts.{lower}
use Rattle.signed.proofs.Lowest.{lowest_listed}
use Rattle.signed.proofs.replies.lowest_stored.Goals as goal

pub returns : goal.returns
returns c = λ ts.
    let es = c.args.entries.now in
    fold_from_yields_List _ (λ f b. lower (get_or es b none) f) none c.fold.result c.fold.ensures.ran
    (YieldsList-from_boards_back c.rev.ensures.source c.boards.ensures)
    (λ a x b q k. search (rules, tests))
    ∙ lowest_listed c.args.set.bits (λ b. record { entry = get_or es b none; tag = tag_bytes (get_or ts b 0) })
