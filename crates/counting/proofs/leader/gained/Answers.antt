-- A count before that of the lasts changes nothing of what is told.
-- From the laws of leaders; opens `proves`.
use Rattle.std.proofs.Common.{◌<◌, sym, refl, subst}
use Rattle.row.specs.Rows.{proves}
use Rattle.counting.proofs.Leaders.{gained_tells}
use Rattle.counting.proofs.leader.gained.Goals as goal

pub returns-clause-tells : goal.returns-clause-tells
returns-clause-tells c = gained_tells c.args.leader.now c.place.result c.counted.result (subst (λ i. i < 11) (sym c.place.ensures) c.requires.0)

pub returns-clause-proves : goal.returns-clause-proves
unfolding proves
returns-clause-proves c = refl
