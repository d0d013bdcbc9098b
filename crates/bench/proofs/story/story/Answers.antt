-- What was played is a story.
-- The law is in Told.
use Rattle.std.proofs.Common.{sym, ap, ◌∙◌, subst, rules, tests}
use Rattle.std.proofs.lemmas.Iterator.{YieldsList-from_slice}
use Rattle.std.proofs.lemmas.Iterator.Search.{all_from_yields_List}
use Rattle.boards.specs.declared.Set.{Set}
use Rattle.views_agree.specs.Agreement.{Started}
use Rattle.bench.specs.declared.desk.Desk.{Desk}
use Rattle.bench.specs.Moves.{states}
use Rattle.bench.specs.Ends.{ends}
use Rattle.bench.proofs.Told.{was_some, told}
use Rattle.bench.proofs.story.story.Goals as goal

pub returns-then-is_some : goal.returns-then-is_some
returns-then-is_some c = λ yes.
    let all = all_from_yields_List (λ (d : Desk). ends d.row.state) _ _ c.all.result c.all.ensures.ran (YieldsList-from_slice c.played.new.self.desks c.iter.ensures.rest) (λ x r q k. search (rules, tests)) in
    told c.args.moves.now c.start-bench.result c.played.new.self
    (subst (λ (s : Set). Started s.bits (states c.start-bench.result.desks)) c.in-Ok.ensures c.start-bench.ensures.rows) c.start-bench.ensures.pages
    (ap (λ (s : Set). s.bits) c.start-bench.ensures.faulty) c.start-bench.ensures.empty (was_some c.played.result c.if-is_some.ensures c.played.ensures) (sym all ∙ yes)
