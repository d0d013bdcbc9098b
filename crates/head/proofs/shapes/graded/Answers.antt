-- Five zero bits and a change after the rank.
-- Each field is one step, and where one is not allowed the chain stops.
use Rattle.std.proofs.Common.{[], ◌∷◌, refl}
use Rattle.grammar.specs.Grammar.{Grammar, Item}
use Rattle.wire.specs.Fields.{zeros, change}
use Rattle.head.proofs.Steps.{along, on, stop}
use Rattle.head.proofs.shapes.graded.Goals as goal

abbrev rest : Grammar → Grammar
rest g = zeros 5 (change g)

pub returns-in_err-ranked : goal.returns-in_err-ranked
returns-in_err-ranked c = stop (Item.num 5 0 ∷ Item.num 3 c.args.change ∷ []) (along rest c.in_err-ranked.ensures) c.from_residual.ensures

pub returns-in_err-of : goal.returns-in_err-of
returns-in_err-of c = stop (Item.num 3 c.args.change ∷ []) (on (along rest c.in_ok-ranked.ensures) c.in_err-of.ensures refl refl) c.from_residual-in_err-of.ensures

pub returns : goal.returns
returns c = on (on (along rest c.in_ok-ranked.ensures) c.in_ok-of.ensures refl refl) c.of-2.ensures refl refl
