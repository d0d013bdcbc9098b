-- The replies from the last to the first, each put before what is found behind it.
-- The chain gives their entries in that order.
use Rattle.std.proofs.Common.{fold, ap, ◌∙◌, rules, tests}
use Rattle.std.proofs.lemmas.Iterator.Consumers.{fold_from_yields_List}
use Rattle.std.specs.Slice.Iter.{chunks_rest, chunks_size}
use Rattle.wire.specs.Messages.{none}
use Rattle.wire.specs.Acts.{lower}
use Rattle.signed.proofs.Lowest.{heard_yields, lowest_back, heard_back}
use Rattle.signed.proofs.replies.lowest_heard.Goals as goal

pub returns : goal.returns
returns c =
    let source = c.rev.ensures.source in
    let nine = ap chunks_size source ∙ c.chunks.ensures.size in
    let rest = ap chunks_rest source ∙ c.chunks.ensures.rest in
    fold_from_yields_List _ (λ f e. lower e f) none c.fold.result c.fold.ensures.ran (heard_yields c.rev.result nine) (λ a x b q k. search (rules, tests))
    ∙ ap (λ xs. fold (λ f e. lower e f) none (heard_back xs)) rest ∙ lowest_back c.args.bytes.now
