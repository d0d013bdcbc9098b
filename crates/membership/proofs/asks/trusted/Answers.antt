-- The last board of the view that is not suspect is the highest; there is one, for the row's own board is.
-- From the law of walks from the back.
use Rattle.std.proofs.Common.{ℕ, Bool, ◌≡◌, not, ◌&&◌, sym, ap, ◌∙◌}
use Rattle.std.proofs.lemmas.Bool.{and_from, not_from_false}
use Rattle.std.specs.Option.{unwrap_or}
use Rattle.boards.specs.Boards.{member}
use Rattle.row.specs.States.{group, highest}
use Rattle.row.proofs.Chosen.{highest_same}
use Rattle.membership.proofs.Searches.{last_highest, some_found}
use Rattle.membership.proofs.asks.trusted.Goals as goal
use Rattle.membership.proofs.asks.trusted.Goals.{After-next_back}

trusts : ℕ → ℕ → ℕ → Bool
trusts v s b = member v b && not (member s b)

found : (c : After-next_back) → unwrap_or c.next_back.result 8 ≡ highest (trusts (group c.args.row.now.state) c.args.suspects.bits) 8
unfolding trusts
found c =
    last_highest _ _ _ c.next_back.ensures.steps ∙ ap (λ s. highest (member s.bits) 8) c.boards.ensures
    ∙ highest_same _ (trusts c.set.result.bits c.args.suspects.bits) 8 c.minus.ensures
    ∙ ap (λ s. highest (trusts s.bits c.args.suspects.bits) 8) c.set.ensures ∙ ap (λ v. highest (trusts v c.args.suspects.bits) 8) c.view-view.ensures

pub unwrap-requires : goal.unwrap-requires
unfolding trusts
unwrap-requires c =
    let w = c.args.row.now in
    some_found (trusts (group w.state) c.args.suspects.bits) w.state.board c.next_back.result w.seated (and_from _ _ c.requires.inside (not_from_false _ c.requires.trusts)) (found c)

pub returns : goal.returns
unfolding trusts
returns c = sym (ap (λ o. unwrap_or o 8) c.unwrap.ensures) ∙ found c.before
