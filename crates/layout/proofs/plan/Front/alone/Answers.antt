-- A board below 8 makes a set of one.
-- No other may stand there.
use Rattle.std.proofs.Common.{refl, ap, ◌∙◌, arith}
use Rattle.std.proofs.lemmas.Bool.{both_ways}
use Rattle.boards.specs.Boards.{size, only}
use Rattle.boards.proofs.Sets.{size_only}
use Rattle.grammar.proofs.Held.{held}
use Rattle.wire.specs.Messages.{tags_of}
use Rattle.wire.specs.Format.{set_values}
use Rattle.layout.proofs.Seals.{unlaid_at}
use Rattle.layout.proofs.plan.Front.alone.Goals as goal

pub returns-in_err-lone : goal.returns-in_err-lone
returns-in_err-lone c is ok f lo hi =
    let b = c.args.own.speaker in
    unlaid_at (set_values (only b) (tags_of (only b) c.args.own.tag)) c.from_residual.ensures f.goes (λ a. both_ways _ (hi (c.in_err-lone.ensures.none refl)) (held a).2)

pub returns : goal.returns
returns c is ok f lo hi =
    let b = c.args.own.speaker in
    let q = c.in_ok-lone.field-0 in
    let o = c.in_ok-lone.ensures.one q refl in
    rw (← o.2, ← o.1) (c.sealed.ensures is ok (λ _. 8) f (λ _. ap ok o.1 ∙ lo o.0) (omega (arith, ap size o.1, size_only b o.0)))
