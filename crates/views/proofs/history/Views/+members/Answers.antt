-- A number that is no view's has no members; view 1 has those it began with, and a later one those of the view before it but for the change.
-- The laws of that are in Histories.
use Rattle.std.proofs.Common.{◌≡◌, ◌-◌, ◌+◌, ap, sym, ◌∙◌, arith}
use Rattle.views.specs.Groups.{toggle}
use Rattle.views.specs.Histories.{members_of, change_of}
use Rattle.views.proofs.Histories.{no_view_zero, no_view_past, first_view, next_view}
use Rattle.views.proofs.history.Views.+members.Goals as goal
use Rattle.views.proofs.history.Views.+members.Goals.{then-v-lt1-via-then-v-lt1, then-v-lt1-via-else-v-lt1+then-v-self}

pub returns-then-v-lt1 : goal.returns-then-v-lt1
returns-then-v-lt1 t c =
    let h = c.args.self.now.history in
    elim c.then-v-lt1.branch [
      | then-v-lt1-via-then-v-lt1 w ↦ sym (no_view_zero h c.args.v w.if-v-lt1.true)
      | then-v-lt1-via-else-v-lt1+then-v-self w ↦ sym (no_view_past h c.args.v w.if-v-self.true)
    ]

pub returns-then-v-eq1 : goal.returns-then-v-eq1
returns-then-v-eq1 t c =
    let s = c.args.self.now in
    sym (first_view s.history s.sound.counted.2) ∙ ap (members_of s.history) (sym c.if-v-eq1.true)

pub returns : goal.returns
returns t c =
    let h = c.args.self.now.history in
    let u = c.args.v - 1 in
    let v : u + 1 ≡ c.args.v = omega arith in
    c.turned.ensures ∙ ap (λ s. toggle s (change_of h u)) c.members.ensures ∙ sym (next_view h u (omega arith) (omega arith)) ∙ ap (members_of h) v
