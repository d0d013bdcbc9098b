-- Fields with fitting tags make a message.
-- Others make none.
use Rattle.std.proofs.Common.{◌≡◌, ◌<◌, ◌++◌, Bool, true, false, sym, refl, ◌∙◌, subst, arith}
use Rattle.std.specs.Bool.{then_some}
use Rattle.std.proofs.lemmas.Bool.{eqb-true}
use Rattle.grammar.proofs.Held.{rest_after}
use Rattle.wire.specs.Messages.{tags_by}
use Rattle.wire.specs.Format.{set_values}
use Rattle.layout.specs.Layouts.{Laid}
use Rattle.layout.proofs.Seals.{lays, misfit}
use Rattle.layout.proofs.plan.Front.sealed.Goals as goal

pub returns : goal.returns
returns c is ok n f o k =
    let q = c.args.by in
    let js = set_values q.set.bits (tags_by q) in
    let low : q.set.bits < 256 = omega arith in
    let P : Bool → Type 0 = λ b. c.fits.result ≡ b → Laid (is ++ js) (then_some b (record { front = c.args.self; by = q })) in
    subst (Laid (is ++ js)) (sym c.then_some.ensures)
    (elim c.fits.result as P [
      | true ↦ λ e. lays c.args.self q is ok n f low (o low) k (eqb-true _ _ (sym c.fits.ensures.told ∙ e)) c.fits.ensures.fit
      | false ↦ λ e a. misfit q.set.bits (tags_by q) ok n k (sym c.fits.ensures.told ∙ e) (rest_after js f.goes a)
    ] refl)
