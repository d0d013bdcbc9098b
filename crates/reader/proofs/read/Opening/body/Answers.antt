-- Each kind by its parts, one after another.
-- A fault in a part is the message's fault.
use Rattle.std.proofs.Common.{rules}
use Rattle.grammar.specs.Grammar.{Grammar}
use Rattle.wire.specs.Fields.{lone_tag, tagged, proof}
use Rattle.reader.proofs.read.Opening.body.Goals as goal

pub returns-in_err-change-in-Notify : goal.returns-in_err-change-in-Notify
returns-in_err-change-in-Notify c = search (rules, c.in_err-change-in-Notify.ensures (lone_tag Grammar.done))

pub returns-in_err-change-in-Suggest : goal.returns-in_err-change-in-Suggest
returns-in_err-change-in-Suggest c = search (rules, c.in_err-change-in-Suggest.ensures (tagged Grammar.done))

pub returns-in_err-by-in-Suggest : goal.returns-in_err-by-in-Suggest
returns-in_err-by-in-Suggest c = search (rules, c.in_ok-change-in-Suggest.ensures.on (tagged Grammar.done), c.in_err-by-in-Suggest.ensures)

pub returns-in_err-rank-in-Ack : goal.returns-in_err-rank-in-Ack
returns-in_err-rank-in-Ack c = search (rules, c.in_err-rank-in-Ack.ensures (lone_tag Grammar.done))

pub returns-in_err-rank-in-Ready : goal.returns-in_err-rank-in-Ready
returns-in_err-rank-in-Ready c = search (rules, c.in_err-rank-in-Ready.ensures (lone_tag Grammar.done))

pub returns-in_err-replies-in-SuggestLast : goal.returns-in_err-replies-in-SuggestLast
returns-in_err-replies-in-SuggestLast c = search (rules, c.in_err-replies-in-SuggestLast.ensures (λ top. proof top Grammar.done))

pub returns-in_err-proof-in-SuggestLast : goal.returns-in_err-proof-in-SuggestLast
returns-in_err-proof-in-SuggestLast c = search (rules, c.in_ok-replies-in-SuggestLast.ensures.on (λ top. proof top Grammar.done), c.in_err-proof-in-SuggestLast.ensures)

pub returns-in_ok-proof-in-SuggestLast : goal.returns-in_ok-proof-in-SuggestLast
returns-in_ok-proof-in-SuggestLast c = search (rules, c.in_ok-replies-in-SuggestLast.ensures.on (λ top. proof top Grammar.done), c.in_ok-proof-in-SuggestLast.ensures)
