-- Every tag of a part is sound exactly if the boards of the part are among the sound ones.
-- The set that is compared is the part's.
use Rattle.std.proofs.Common.{sym, ap, ◌∙◌}
use Rattle.boards.specs.Boards.{member}
use Rattle.wire.specs.Messages.{meaning}
use Rattle.checks.proofs.Sounds.{within_sound}
use Rattle.checks.proofs.part_good.Goals as goal

pub returns : goal.returns
returns g c =
    let w = within_sound c.args.part (g.S.Scheme.good c.args.scheme.now) (meaning c.args.m.now) c.good_boards.result.bits c.good_boards.ensures.sound in
    let is = c.boards_of.ensures in (
      (λ y. w.0 (λ k h i. c.within.ensures.0 y k h (ap (λ s. member s k) is ∙ i))),
      (λ a. c.within.ensures.1 (λ k h i. w.1 a k h (ap (λ s. member s k) (sym is) ∙ i))),
    )
