-- A set strays exactly if it is not within the view.
-- The test of the code decides `Within`; the law joins the two.
use mathlib.Core.Path.{sym, ap, ◌∙◌}
use Rattle.boards.specs.declared.Set.{Set}
use Rattle.row.specs.Refusals.{strays}
use Rattle.row.proofs.Picked.{strays_is}
use Rattle.members.proofs.ranks.strays.Goals as goal

pub returns : goal.returns
returns c =
    sym (strays_is c.args.set.bits c.set.result.bits c.within.result c.within.ensures)
    ∙ ap (λ (v : Set). strays c.args.set.bits v.bits) c.set.ensures
