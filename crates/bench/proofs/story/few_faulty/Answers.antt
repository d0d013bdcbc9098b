-- The faulty members of a view are counted.
-- The laws are in Desks.
use Rattle.std.proofs.Common.{sym, ap, ◌∙◌}
use Rattle.boards.specs.declared.Set.{Set}
use Rattle.boards.specs.Boards.{size}
use Rattle.views.specs.Shares.{share}
use Rattle.bench.proofs.Desks.{few_in_none, few_by_minus}
use Rattle.bench.proofs.story.few_faulty.Goals as goal

pub returns-in_default : goal.returns-in_default
returns-in_default c = sym (few_in_none c.args.faulty.bits c.args.view.bits c.in_default.ensures.0)

pub returns : goal.returns
returns c =
    few_by_minus c.args.faulty.bits c.args.view.bits c.minus.result.bits c.minus-2.result.bits c.len.result c.shares.result.f c.minus.ensures c.minus-2.ensures c.len.ensures.is
    (c.shares.ensures.faulty ∙ ap (λ (s : Set). share (size s.bits)) c.in-Ok.ensures)
