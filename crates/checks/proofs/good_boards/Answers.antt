-- The chain takes up each sound board of the part and passes over any other; in a formed message the sound boards are the good ones.
-- From the law of such chains.
use Rattle.std.proofs.Common.{ap, ◌∙◌, sym, subst, refl, rules}
use Rattle.boards.specs.Boards.{boards}
use Rattle.wire.specs.Messages.{meaning}
use Rattle.checks.proofs.Finding.{Found, found_none, gathered}
use Rattle.checks.proofs.Sounds.{sound_is_good}
use Rattle.checks.proofs.good_boards.Goals as goal

pub returns-clause-sound : goal.returns-clause-sound
returns-clause-sound g c =
    let part = c.args.part in
    let good = g.S.Scheme.good c.args.scheme.now in
    let m = meaning c.args.m.now in
    let of = ap (λ w. w.left.bits) c.filter.ensures.source ∙ ap (λ s. s.bits) c.boards.ensures ∙ c.boards_of.ensures in
    let ran = c.fold.ensures.ran in
    gathered part good m (λ x b q h. search (rules)) (λ a x b q h. search (rules)) _ _ _ _ _ _ c.filter.ensures.closure refl
    (subst (λ s. Found part good m 0 (boards s)) (sym of) (found_none part good m)) ran.2 ran.3

pub returns-clause-formed : goal.returns-clause-formed
returns-clause-formed g c = sound_is_good c.args.part (g.S.Scheme.good c.args.scheme.now) (meaning c.args.m.now) c.fold.result.bits (returns-clause-sound g c)
