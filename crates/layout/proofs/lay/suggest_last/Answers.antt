-- The set in the head, then the replies of its boards.
-- Then the proof for the highest earlier rank.
use Rattle.std.proofs.Common.{ℕ, ◌++◌, refl}
use Rattle.grammar.specs.Grammar.{Grammar}
use Rattle.wire.specs.Fields.{proof}
use Rattle.wire.specs.Messages.{tags_by, replies_by}
use Rattle.wire.specs.Format.{replies_values, set_values}
use Rattle.layout.proofs.Fronts.{replied, with_set}
use Rattle.layout.proofs.Seals.{unlaid, unlaid_at}
use Rattle.layout.proofs.lay.suggest_last.Goals as goal

abbrev after : ℕ → Grammar
after top = proof top Grammar.done

pub returns-in_err-head : goal.returns-in_err-head
returns-in_err-head c = λ v r p. unlaid _ c.from_residual.ensures ((with_set p c.from.ensures c.in_err-head.ensures refl).none refl)

pub returns : goal.returns
returns c = λ v r p.
    let set = (with_set p c.from.ensures c.in_ok-head.ensures refl).holds _ refl in
    let x = c.in_ok-gathered.gathered in
    let g = c.in_ok-gathered.ensures.some x refl in
    c.proven.ensures _ (replied after x c.args.replies g.0 set refl g.1)

pub returns-in_err-gathered : goal.returns-in_err-gathered
returns-in_err-gathered c = λ v r p.
    let set = (with_set p c.from.ensures c.in_ok-head.ensures refl).holds _ refl in
    let q = c.args.proof in
    unlaid_at (replies_values (replies_by c.args.replies) ++ set_values q.set.bits (tags_by q)) c.from_residual-in_err-gathered.ensures set.goes (c.in_err-gathered.ensures.none refl q.set.bits (tags_by q))
