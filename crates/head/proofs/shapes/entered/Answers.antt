-- Earlier rank, a zero bit and a change; without an earlier rank there is no change.
-- There is room for each since there is for all.
use Rattle.std.proofs.Common.{[], ◌∷◌, List, sym, refl, subst, arith}
use Rattle.std.proofs.lemmas.List.{append_assoc}
use Rattle.grammar.specs.Grammar.{Item, from_to}
use Rattle.head.specs.Heads.{Begins}
use Rattle.head.proofs.Steps.{barred_more, no_head, sized, step, wider}
use Rattle.head.proofs.shapes.entered.Goals as goal

pub returns-in_err-of : goal.returns-in_err-of
returns-in_err-of c = record {
  begins = λ g is k room p.
      let e = c.args.entry in
      let one = step p c.in_err-of.ensures refl (omega arith, omega arith) in
      let rest : List Item = Item.num 1 0 ∷ Item.num 3 e.change ∷ [] in
      subst (λ l. Begins g l (k e.earlier) c.from_residual.result) (simp append_assoc) (no_head c.from_residual.ensures (barred_more rest (one.none refl)));
  full = λ n. c.from_residual.ensures;
}

pub returns-in_err-of-2 : goal.returns-in_err-of-2
returns-in_err-of-2 c = record {
  begins = λ g is k room p.
      let e = c.args.entry in
      let one = (step p c.in_ok-of.ensures refl (omega arith, omega arith)).holds _ refl in
      let two = step one c.in_err-of-2.ensures refl (omega arith, omega (arith, wider (c.in_ok-of.ensures.longer _ refl))) in
      let rest : List Item = Item.num 3 e.change ∷ [] in
      subst (λ l. Begins g l (k e.earlier) c.from_residual-in_err-of-2.result) (simp append_assoc) (no_head c.from_residual-in_err-of-2.ensures (barred_more rest (two.none refl)));
  full = λ n. c.from_residual-in_err-of-2.ensures;
}

pub returns : goal.returns
returns c = record {
  begins = λ g is k room p.
      let e = c.args.entry in
      let f = c.entry_change.ensures in
      let wide = wider (c.in_ok-of.ensures.longer _ refl) in
      let one = (step p c.in_ok-of.ensures refl (omega arith, omega arith)).holds _ refl in
      let two = (step one c.in_ok-of-2.ensures refl (omega arith, omega (arith, wide))).holds _ refl in
      let three = step two (sized f.0 c.of-3.ensures) (λ i. from_to (sym f.1 i) (sym f.2 i) e.change) (omega arith, omega (arith, wide, wider (c.in_ok-of-2.ensures.longer _ refl))) in
      subst (λ l. Begins g l (k e.earlier) c.of-3.result) (simp append_assoc) three;
  full = λ n. (sized c.entry_change.ensures.0 c.of-3.ensures).full (λ m. n (omega arith, omega (arith, m.1, wider (c.in_ok-of.ensures.longer _ refl), wider (c.in_ok-of-2.ensures.longer _ refl))));
}
