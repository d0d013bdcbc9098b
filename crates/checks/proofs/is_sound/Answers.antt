-- What is had of a board's tag decides whether it is sound.
-- By that lemma.
use Rattle.std.proofs.Common.{rules}
use Rattle.wire.specs.Messages.{meaning}
use Rattle.checks.proofs.Finding.{decided_by}
use Rattle.checks.proofs.is_sound.Goals as goal

pub returns : goal.returns
returns g c =
    decided_by _ c.args.part (g.S.Scheme.good c.args.scheme.now) (meaning c.args.m.now) c.args.board c.stated.result c.tag_in.result c.zip.result c.is_some_and.result
    c.stated.ensures c.tag_in.ensures c.zip.ensures (λ s x k. search rules) c.is_some_and.ensures
