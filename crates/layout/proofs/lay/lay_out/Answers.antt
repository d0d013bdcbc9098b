-- Each kind by its head and its end; a kind whose head may not stand has no layout.
-- What the table has for the kind, antt computes.
use Rattle.std.proofs.Common.{◌≡◌, ◌<◌, ℕ, ◌∷◌, [], true, refl, ap, ◌∙◌, subst, arith}
use Rattle.std.proofs.lemmas.Bool.{and_from, both_ways, le-leb}
use Rattle.boards.specs.Boards.{only}
use Rattle.grammar.specs.Grammar.{Item, from_to}
use Rattle.grammar.proofs.Held.{held}
use Rattle.wire.specs.Fields.{lone, own_tag}
use Rattle.wire.specs.Format.{opening}
use Rattle.wire.specs.declared.message.Tags.{Tags}
use Rattle.layout.specs.Layouts.{Alone}
use Rattle.layout.proofs.Fronts.{headed, headless, opened}
use Rattle.layout.proofs.Seals.{gathered, lone_above, lone_below, spoken, unlaid, unlaid_at}
use Rattle.layout.proofs.Allowed.{carried_small}
use Rattle.layout.proofs.lay.lay_out.Goals as goal

itself : (n : ℕ) → from_to n n n ≡ true
itself n = and_from _ _ (le-leb n n (omega arith)) (le-leb n n (omega arith))

pub returns-in_err-noted-in-Notify : goal.returns-in_err-noted-in-Notify
returns-in_err-noted-in-Notify c = rw c.in-Notify.is (headless _ _ c.in_err-noted-in-Notify.ensures c.from_residual.ensures refl refl)

pub returns-in_ok-noted-in-Notify : goal.returns-in_ok-noted-in-Notify
returns-in_ok-noted-in-Notify c = rw c.in-Notify.is (spoken c.in-Notify.own _ c.alone.ensures (headed _ c.in_ok-noted-in-Notify.ensures c.bare.ensures refl refl refl))

pub returns-in_err-noted-in-Suggest : goal.returns-in_err-noted-in-Suggest
returns-in_err-noted-in-Suggest c = rw c.in-Suggest.is (headless _ _ c.in_err-noted-in-Suggest.ensures c.from_residual-in_err-noted-in-Suggest.ensures refl refl)

pub returns-in_ok-noted-in-Suggest : goal.returns-in_ok-noted-in-Suggest
returns-in_ok-noted-in-Suggest c = rw c.in-Suggest.is (gathered c.in-Suggest.by _ c.sealed.ensures (headed _ c.in_ok-noted-in-Suggest.ensures c.bare-in-Suggest.ensures refl refl refl))

pub returns-in_err-graded-in-Ack : goal.returns-in_err-graded-in-Ack
returns-in_err-graded-in-Ack c = rw c.in-Ack.is (headless _ _ c.in_err-graded-in-Ack.ensures c.from_residual-in_err-graded-in-Ack.ensures refl refl)

pub returns-in_ok-graded-in-Ack : goal.returns-in_ok-graded-in-Ack
returns-in_ok-graded-in-Ack c = rw c.in-Ack.is (spoken c.in-Ack.own _ c.alone-in-Ack.ensures (headed _ c.in_ok-graded-in-Ack.ensures c.bare-in-Ack.ensures refl refl refl))

pub returns-in_err-graded-in-Proposal : goal.returns-in_err-graded-in-Proposal
returns-in_err-graded-in-Proposal c = rw c.in-Proposal.is (headless _ _ c.in_err-graded-in-Proposal.ensures c.from_residual-in_err-graded-in-Proposal.ensures refl refl)

pub returns-in_ok-graded-in-Proposal : goal.returns-in_ok-graded-in-Proposal
returns-in_ok-graded-in-Proposal c = rw c.in-Proposal.is (gathered c.in-Proposal.by _ c.sealed-in-Proposal.ensures (headed _ c.in_ok-graded-in-Proposal.ensures c.bare-in-Proposal.ensures refl refl refl))

pub returns-in_err-graded-in-Ready : goal.returns-in_err-graded-in-Ready
returns-in_err-graded-in-Ready c = rw c.in-Ready.is (headless _ _ c.in_err-graded-in-Ready.ensures c.from_residual-in_err-graded-in-Ready.ensures refl refl)

pub returns-in_ok-graded-in-Ready : goal.returns-in_ok-graded-in-Ready
returns-in_ok-graded-in-Ready c = rw c.in-Ready.is (spoken c.in-Ready.own _ c.alone-in-Ready.ensures (headed _ c.in_ok-graded-in-Ready.ensures c.bare-in-Ready.ensures refl refl refl))

pub returns-in_err-graded-in-Change : goal.returns-in_err-graded-in-Change
returns-in_err-graded-in-Change c = rw c.in-Change.is (headless _ _ c.in_err-graded-in-Change.ensures c.from_residual-in_err-graded-in-Change.ensures refl refl)

pub returns-in_ok-graded-in-Change : goal.returns-in_ok-graded-in-Change
returns-in_ok-graded-in-Change c = rw c.in-Change.is (gathered c.in-Change.by _ c.sealed-in-Change.ensures (headed _ c.in_ok-graded-in-Change.ensures c.bare-in-Change.ensures refl refl refl))

pub returns-in_err-ranked-in-Deputy : goal.returns-in_err-ranked-in-Deputy
returns-in_err-ranked-in-Deputy c = rw c.in-Deputy.is (headless _ _ c.in_err-ranked-in-Deputy.ensures c.from_residual-in_err-ranked-in-Deputy.ensures refl refl)

pub returns-in_ok-ranked-in-Deputy : goal.returns-in_ok-ranked-in-Deputy
returns-in_ok-ranked-in-Deputy c = rw c.in-Deputy.is (spoken c.in-Deputy.own _ c.alone-in-Deputy.ensures (headed _ c.in_ok-ranked-in-Deputy.ensures c.bare-in-Deputy.ensures refl refl refl))

pub returns-in_err-ranked-in-Query : goal.returns-in_err-ranked-in-Query
returns-in_err-ranked-in-Query c = rw c.in-Query.is (headless _ _ c.in_err-ranked-in-Query.ensures c.from_residual-in_err-ranked-in-Query.ensures refl refl)

pub returns-in_ok-ranked-in-Query : goal.returns-in_ok-ranked-in-Query
returns-in_ok-ranked-in-Query c = rw c.in-Query.is (gathered c.in-Query.by _ c.sealed-in-Query.ensures (headed _ c.in_ok-ranked-in-Query.ensures c.bare-in-Query.ensures refl refl refl))

pub returns-in_err-ranked-in-Last : goal.returns-in_err-ranked-in-Last
returns-in_err-ranked-in-Last c = rw c.in-Last.is (headless _ _ c.in_err-ranked-in-Last.ensures c.from_residual-in_err-ranked-in-Last.ensures refl refl)

pub returns-in_err-lone-in-Last : goal.returns-in_err-lone-in-Last
returns-in_err-lone-in-Last c =
    rw c.in-Last.is (unlaid_at {is = opening 9 c.args.m.now.view (Item.num 4 c.in-Last.rank ∷ [])} _ c.from_residual-in_err-lone-in-Last.ensures (opened _ c.in_ok-ranked-in-Last.ensures refl refl).goes (λ a. both_ways _ (lone_above c.in-Last.own.speaker (c.in_err-lone-in-Last.ensures.none refl)) (held a).2))

pub returns-in_ok-lone-in-Last : goal.returns-in_ok-lone-in-Last
returns-in_ok-lone-in-Last c =
    let x = c.in-Last in
    let q = c.in_ok-lone-in-Last.field-0 in
    let o = c.in_ok-lone-in-Last.ensures.one q refl in
    rw (x.is, ← o.2, ← o.1) (c.last.ensures c.args.m.now.view x.rank (opened _ c.in_ok-ranked-in-Last.ensures refl refl) (ap lone o.1 ∙ lone_below x.own.speaker o.0))

pub returns-in_err-ranked-in-SuggestLast : goal.returns-in_err-ranked-in-SuggestLast
returns-in_err-ranked-in-SuggestLast c = rw c.in-SuggestLast.is (headless _ _ c.in_err-ranked-in-SuggestLast.ensures c.from_residual-in_err-ranked-in-SuggestLast.ensures refl refl)

pub returns-in_ok-ranked-in-SuggestLast : goal.returns-in_ok-ranked-in-SuggestLast
returns-in_ok-ranked-in-SuggestLast c = rw c.in-SuggestLast.is (c.suggest_last.ensures c.args.m.now.view c.in-SuggestLast.rank (opened _ c.in_ok-ranked-in-SuggestLast.ensures refl refl))

pub returns-in_err-loaded-in-Init : goal.returns-in_err-loaded-in-Init
returns-in_err-loaded-in-Init c = rw c.in-Init.is (unlaid _ c.from_residual-in_err-loaded-in-Init.ensures (c.in_err-loaded-in-Init.ensures.none refl refl _ refl))

pub returns-in_ok-loaded-in-Init : goal.returns-in_ok-loaded-in-Init
returns-in_ok-loaded-in-Init c =
    let x = c.in-Init.content in
    let f = c.in_ok-loaded-in-Init.ensures.fronts _ refl refl _ refl in
    let small : x.sender < 8 = (carried_small {f = own_tag} refl f.goes).0 in
    let front = c.in_ok-loaded-in-Init.field-0 in
    let r = c.alone-in-Init.result in
    let own = subst (λ (b : ℕ). Alone front b c.spoken.result.tag r) c.spoken.ensures.speaker c.alone-in-Init.ensures in
    rw c.in-Init.is (subst (λ (t : Tags). Alone front x.sender t r) c.spoken.ensures.tag own _ _ f (λ _. itself (only x.sender)) (λ h. absurd (omega arith)))

pub returns-in_err-loaded-in-Echo : goal.returns-in_err-loaded-in-Echo
returns-in_err-loaded-in-Echo c = rw c.in-Echo.is (unlaid _ c.from_residual-in_err-loaded-in-Echo.ensures (c.in_err-loaded-in-Echo.ensures.none refl refl _ refl))

pub returns-in_ok-loaded-in-Echo : goal.returns-in_ok-loaded-in-Echo
returns-in_ok-loaded-in-Echo c = rw c.in-Echo.is (spoken c.in-Echo.own _ c.alone-in-Echo.ensures (c.in_ok-loaded-in-Echo.ensures.fronts _ refl refl _ refl))

pub returns-in_err-loaded-in-Commit : goal.returns-in_err-loaded-in-Commit
returns-in_err-loaded-in-Commit c = rw c.in-Commit.is (unlaid _ c.from_residual-in_err-loaded-in-Commit.ensures (c.in_err-loaded-in-Commit.ensures.none refl refl _ refl))

pub returns-in_ok-loaded-in-Commit : goal.returns-in_ok-loaded-in-Commit
returns-in_ok-loaded-in-Commit c = rw c.in-Commit.is (gathered c.in-Commit.by _ c.sealed-in-Commit.ensures (c.in_ok-loaded-in-Commit.ensures.fronts _ refl refl _ refl))
