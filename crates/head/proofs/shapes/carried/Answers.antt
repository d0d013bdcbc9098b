-- Sender, number, sort and length after kind and view; the sort says which lengths there are.
-- The payload itself comes next in a table.
use Rattle.std.proofs.Common.{length, sym, refl, ap}
use Rattle.grammar.specs.Grammar.{from_to}
use Rattle.wire.specs.Fields.{carried}
use Rattle.head.proofs.Steps.{along, named, on, sized, stop}
use Rattle.head.proofs.shapes.carried.Goals as goal

pub returns-in_err-opening : goal.returns-in_err-opening
returns-in_err-opening c = stop _ (along carried c.in_err-opening.ensures) c.from_residual.ensures

pub returns-in_err-of : goal.returns-in_err-of
returns-in_err-of c = stop _ (on (along carried c.in_ok-opening.ensures) c.in_err-of.ensures refl refl) c.from_residual-in_err-of.ensures

pub returns-in_err-of-2 : goal.returns-in_err-of-2
returns-in_err-of-2 c =
    stop _ (on (on (along carried c.in_ok-opening.ensures) c.in_ok-of.ensures refl refl) c.in_err-of-2.ensures refl refl) c.from_residual-in_err-of-2.ensures

pub returns-in_err-of-3 : goal.returns-in_err-of-3
returns-in_err-of-3 c =
    stop _ (on (on (on (along carried c.in_ok-opening.ensures) c.in_ok-of.ensures refl refl) c.in_ok-of-2.ensures refl refl) (named c.of_sort.ensures c.in_err-of-3.ensures) (ap (from_to 0 1) (sym c.of_sort.ensures)) refl) c.from_residual-in_err-of-3.ensures

pub returns : goal.returns
returns c =
    let l = c.length.ensures in
    on (on (on (on (along carried c.in_ok-opening.ensures) c.in_ok-of.ensures refl refl) c.in_ok-of-2.ensures refl refl) (named c.of_sort.ensures c.in_ok-of-3.ensures) (ap (from_to 0 1) (sym c.of_sort.ensures)) refl) (sized l.0 c.of-4.ensures)
    (λ i. from_to (sym l.1 i) (sym l.2 i) (length c.args.content.payload.now)) refl
