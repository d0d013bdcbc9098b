-- A rank after kind and view.
-- One step.
use Rattle.std.proofs.Common.{[], ◌∷◌, refl}
use Rattle.grammar.specs.Grammar.{Item}
use Rattle.wire.specs.Fields.{rank}
use Rattle.head.proofs.Steps.{along, on, stop}
use Rattle.head.proofs.shapes.ranked.Goals as goal

pub returns-in_err-opening : goal.returns-in_err-opening
returns-in_err-opening c = stop (Item.num 4 c.args.rank ∷ []) (along rank c.in_err-opening.ensures) c.from_residual.ensures

pub returns : goal.returns
returns c = on (along rank c.in_ok-opening.ensures) c.of.ensures refl refl
