-- A zero bit and a change after kind and view.
-- Each field is one step, and where one is not allowed the chain stops.
use Rattle.std.proofs.Common.{[], ◌∷◌, refl}
use Rattle.grammar.specs.Grammar.{Grammar, Item}
use Rattle.wire.specs.Fields.{zeros, change}
use Rattle.head.proofs.Steps.{along, on, stop}
use Rattle.head.proofs.shapes.noted.Goals as goal

abbrev shape : Grammar → Grammar
shape g = zeros 1 (change g)

pub returns-in_err-head : goal.returns-in_err-head
returns-in_err-head c = stop (Item.num 1 0 ∷ Item.num 3 c.args.change ∷ []) (along shape c.in_err-head.ensures) c.from_residual.ensures

pub returns-in_err-of : goal.returns-in_err-of
returns-in_err-of c = stop (Item.num 3 c.args.change ∷ []) (on (along shape c.in_ok-head.ensures) c.in_err-of.ensures refl refl) c.from_residual-in_err-of.ensures

pub returns : goal.returns
returns c = on (on (along shape c.in_ok-head.ensures) c.in_ok-of.ensures refl refl) c.of-2.ensures refl refl
