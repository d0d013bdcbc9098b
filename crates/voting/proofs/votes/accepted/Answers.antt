-- What each kind asks holds of a message that is taken.
-- The fields of the message are those of its kind.
use Rattle.std.proofs.Common.{◌<◌, ◌≤◌, sym, ap, ◌∙◌, subst}
use Rattle.wire.specs.declared.message.Entry.{Entry}
use Rattle.boards.specs.Boards.{size}
use Rattle.wire.specs.Acts.{proof_of, signers}
use Rattle.wire.specs.Messages.{said_in}
use Rattle.voting.specs.Votes.{WholeTags}
use Rattle.admission.proofs.Early.{taken_as}
use Rattle.voting.proofs.Takes.{takes_suggest, takes_proposal, takes_query, takes_suggest_last}
use Rattle.voting.proofs.votes.accepted.Goals as goal

pub ack-requires-clause-asked : goal.ack-requires-clause-asked
ack-requires-clause-asked g c =
    (c.len.ensures.some, c.len.ensures.few, takes_suggest g.S.Scheme _ _ _ _ _ _ _ (taken_as g.S.Scheme _ _ _ _ _ _ c.in-Suggest.is c.requires.taken))

pub ready-requires-clause-asked : goal.ready-requires-clause-asked
ready-requires-clause-asked g c = (takes_proposal g.S.Scheme _ _ _ _ _ _ _ _ (taken_as g.S.Scheme _ _ _ _ _ _ c.in-Proposal.is c.requires.taken)).0

pub ready-requires-clause-whole : goal.ready-requires-clause-whole
ready-requires-clause-whole g c =
    let t = takes_proposal g.S.Scheme _ _ _ _ _ _ _ _ (taken_as g.S.Scheme _ _ _ _ _ _ c.in-Proposal.is c.requires.taken) in
    subst (λ x. WholeTags (said_in c.args.m.now.view x)) (sym c.in-Proposal.is) t.1

pub ready-requires-clause-some : goal.ready-requires-clause-some
ready-requires-clause-some g c =
    let t = takes_proposal g.S.Scheme _ _ _ _ _ _ _ _ (taken_as g.S.Scheme _ _ _ _ _ _ c.in-Proposal.is c.requires.taken) in
    subst (λ x. 1 ≤ size (signers (said_in c.args.m.now.view x))) (sym c.in-Proposal.is) t.2

pub last-requires-clause-asked : goal.last-requires-clause-asked
last-requires-clause-asked g c = takes_query g.S.Scheme _ _ _ _ _ _ _ (taken_as g.S.Scheme _ _ _ _ _ _ c.in-Query.is c.requires.taken)

pub ack-requires-in-SuggestLast-clause-asked : goal.ack-requires-in-SuggestLast-clause-asked
ack-requires-in-SuggestLast-clause-asked g c =
    let t = takes_suggest_last g.S.Scheme _ _ _ _ _ _ _ _ _ (taken_as g.S.Scheme _ _ _ _ _ _ c.in-SuggestLast.is c.requires.taken) in
    let low = subst (λ (e : Entry). e.change < 8) (sym (c.lowest_entry.ensures ∙ ap (λ x. (proof_of (said_in c.args.m.now.view x)).entry) c.in-SuggestLast.is)) t.2 in
    (t.0, t.1, c.called_for-change.ensures.below low)

pub returns-in-Query : goal.returns-in-Query
returns-in-Query g c = rw c.in-Query.is c.last.ensures
