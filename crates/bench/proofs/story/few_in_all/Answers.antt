-- All views of a row are looked at.
-- The chain asks each number.
use Rattle.std.proofs.Common.{ℕ, ◌∙◌, refl, rules, tests}
use Rattle.std.proofs.lemmas.Iterator.{YieldsList-from_range}
use Rattle.std.proofs.lemmas.Iterator.Search.{all_from_yields_List}
use Rattle.views.specs.Histories.{members_of}
use Rattle.bench.specs.Ends.{few_faulty, few_in_all}
use Rattle.bench.proofs.Desks.{all_below}
use Rattle.bench.proofs.story.few_in_all.Goals as goal

pub returns : goal.returns
unfolding few_in_all
returns c =
    let P = λ (x : ℕ). few_faulty c.args.faulty.bits (members_of c.args.row.now.state.views x) in
    all_from_yields_List P _ _ c.all.result c.all.ensures.ran (YieldsList-from_range 0 65 65 refl refl) (λ x b q k. search (rules, tests)) ∙ all_below P 65
