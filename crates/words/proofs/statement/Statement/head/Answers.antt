-- Each lone kind by its shape of head.
-- What the table of signed words has for the kind, antt computes.
use Rattle.std.proofs.Common.{refl, arith}
use Rattle.grammar.specs.Grammar.{Grammar}
use Rattle.grammar.proofs.Held.{held}
use Rattle.wire.proofs.Signs.{payload_le}
use Rattle.head.specs.Shapes.{entry_byte, entry_values}
use Rattle.head.proofs.Steps.{barred_more, no_head, wide_as}
use Rattle.words.proofs.Stating.{known, states}
use Rattle.words.proofs.statement.Statement.head.Goals as goal

pub returns-in-Notify : goal.returns-in-Notify
returns-in-Notify c = known _ c.in-Notify.is (states _ refl refl (λ f. omega arith) (c.noted.ensures.begins _ _ Grammar.done refl refl))

pub returns-in-Ack : goal.returns-in-Ack
returns-in-Ack c = known _ c.in-Ack.is (states _ refl refl (λ f. omega arith) (c.graded.ensures.begins _ _ Grammar.done refl refl))

pub returns-in-Ready : goal.returns-in-Ready
returns-in-Ready c = known _ c.in-Ready.is (states _ refl refl (λ f. omega arith) (c.graded-in-Ready.ensures.begins _ _ Grammar.done refl refl))

pub returns-in-Deputy : goal.returns-in-Deputy
returns-in-Deputy c = known _ c.in-Deputy.is (states _ refl refl (λ f. omega arith) (c.ranked.ensures.begins _ _ Grammar.done refl refl))

pub returns-in_ok-ranked-in-Last : goal.returns-in_ok-ranked-in-Last
returns-in_ok-ranked-in-Last c =
    let h = (c.in_ok-ranked-in-Last.ensures.begins _ _ (entry_byte (λ _. Grammar.done)) refl refl).holds _ refl in
    known _ c.in-Last.is (states _ refl refl (λ f. omega arith) (c.entered.ensures.begins _ _ (λ _. Grammar.done) (omega arith, omega (arith, wide_as h)) h))

pub returns-in_err-ranked-in-Last : goal.returns-in_err-ranked-in-Last
returns-in_err-ranked-in-Last c =
    let b = (c.in_err-ranked-in-Last.ensures.begins _ _ (entry_byte (λ _. Grammar.done)) refl refl).none refl in
    known _ c.in-Last.is (states _ refl refl (λ f. omega arith) (no_head c.from_residual.ensures (barred_more (entry_values c.in-Last.entry) b)))

pub returns-in-Init : goal.returns-in-Init
returns-in-Init c = known _ c.in-Init.is (states _ refl refl (λ f. payload_le c.in-Init.content.sort _ (held f).3.3.3.3.3.2) (c.carried.ensures.begins _ _ (λ _. Grammar.done) refl refl))

pub returns-in-Echo : goal.returns-in-Echo
returns-in-Echo c = known _ c.in-Echo.is (states _ refl refl (λ f. payload_le c.in-Echo.content.sort _ (held f).3.3.3.3.3.2) (c.carried-in-Echo.ensures.begins _ _ (λ _. Grammar.done) refl refl))
