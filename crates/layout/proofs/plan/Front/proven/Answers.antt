-- A proof where there is an earlier rank, none where there is none.
-- Any other may not stand.
use Rattle.std.proofs.Common.{sym, refl, ◌∙◌}
use Rattle.std.proofs.lemmas.Bool.{both_ways}
use Rattle.grammar.proofs.Held.{held, rest_after}
use Rattle.wire.specs.Messages.{tags_by}
use Rattle.wire.specs.Format.{set_values}
use Rattle.layout.proofs.plan.Front.proven.Goals as goal

pub returns-then-not-called_for : goal.returns-then-not-called_for
returns-then-not-called_for c is f a =
    both_ways _ (sym c.called_for.ensures ∙ c.if-not-called_for.true) (held (rest_after (set_values c.args.proof.set.bits (tags_by c.args.proof)) f.goes a)).2

pub returns : goal.returns
returns c is f = c.sealed.ensures is _ _ f (λ _. sym c.called_for.ensures ∙ c.if-not-called_for.false) refl
