-- A head with a payload after it.
-- Its length is small, as the table has it.
use Rattle.std.proofs.Common.{[], ◌∷◌, sym, refl, ◌∙◌, subst, arith}
use Rattle.std.proofs.lemmas.Option.{same_Some}
use Rattle.grammar.specs.Grammar.{Item, from_to}
use Rattle.head.proofs.Steps.{barred_more}
use Rattle.wire.specs.Kinds.{kind_number}
use Rattle.wire.specs.Format.{body, opening, content_values}
use Rattle.layout.specs.Layouts.{Fronts}
use Rattle.layout.proofs.Allowed.{carried_small}
use Rattle.layout.proofs.Fronts.{loaded}
use Rattle.layout.proofs.lay.loaded.Goals as goal

pub returns-in_err-carried : goal.returns-in_err-carried
returns-in_err-carried c = record {
  fronts = λ f e o k d. cc;
  none = λ e o k d. barred_more (Item.raw c.args.content.payload.now ∷ []) ((c.in_err-carried.ensures.begins (from_to 1 13) body k o d).none refl);
}

pub returns : goal.returns
returns c =
    let x = c.args.content in
    record {
      fronts = λ f e o k d.
          let h = (c.in_ok-carried.ensures.begins (from_to 1 13) body k o d).holds _ refl in
          subst (λ y. Fronts y (opening (kind_number c.args.kind) c.args.view (content_values x.sender x.number x.sort x.payload.now [])) (k x.sender)) (sym c.behind.ensures.0 ∙ same_Some _ f e)
          (loaded x.payload h refl c.behind.ensures.1 (omega (arith, (carried_small d h.goes).1)));
      none = λ e. cc;
    }
