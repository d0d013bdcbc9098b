-- In a formed message all tags are sound exactly if the message is genuine.
-- That the parts decide whether all are sound is closed by the search.
use Rattle.std.proofs.Common.{rules}
use Rattle.wire.specs.Messages.{meaning}
use Rattle.checks.proofs.Sounds.{sound_is_genuine}
use Rattle.checks.proofs.all_good.Goals as goal

pub returns-then-part_good-clause-formed : goal.returns-then-part_good-clause-formed
returns-then-part_good-clause-formed g c =
    sound_is_genuine (g.S.Scheme.good c.args.scheme.now) (meaning c.args.m.now) c.part_good-then-part_good.result (search rules)

pub returns-else-part_good-clause-formed : goal.returns-else-part_good-clause-formed
returns-else-part_good-clause-formed g c =
    sound_is_genuine (g.S.Scheme.good c.args.scheme.now) (meaning c.args.m.now) c.part_good.result (search rules)
