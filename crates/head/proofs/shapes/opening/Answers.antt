-- Kind and view, from nothing; a kind's number fits its field.
-- A table that has the kind goes on with the view, and then with what it has for the kind.
use Rattle.std.proofs.Common.{[], ◌∷◌, refl, subst, arith}
use Rattle.grammar.specs.Grammar.{Item}
use Rattle.wire.specs.Kinds.{kind_number}
use Rattle.wire.specs.Format.{opening}
use Rattle.head.specs.Heads.{Begins}
use Rattle.head.specs.Shapes.{table}
use Rattle.head.proofs.Steps.{barred_more, named, no_head, nothing, step, wider}
use Rattle.head.proofs.shapes.opening.Goals as goal

pub returns-in_err-field : goal.returns-in_err-field
returns-in_err-field c = record {
  begins = λ has body x o e.
      let kind = step (nothing (table has body) _ refl) (named c.of_kind.ensures c.in_err-field.ensures) o (omega arith, omega arith) in
      no_head c.from_residual.ensures (barred_more (Item.num 8 c.args.view ∷ []) (kind.none refl));
}

pub returns : goal.returns
returns c = record {
  begins = λ has body x o e.
      let j = named c.of_kind.ensures c.in_ok-field.ensures in
      let b = c.in_ok-field.field-0 in
      let kind = (step (nothing (table has body) _ refl) j o (omega arith, omega arith)).holds b refl in
      subst (λ g. Begins (table has body) (opening (kind_number c.args.kind) c.args.view []) g c.of.result) e (step kind c.of.ensures refl (omega arith, omega (arith, wider (j.longer b refl))));
}
