-- A set is within another if the boards of both are its own.
-- The law of that is in Sets.
use Rattle.boards.proofs.Sets.{within_and}
use Rattle.boards.proofs.bits.inside.Goals as goal

pub returns : goal.returns
returns c = within_and c.args.a c.args.b c.ranges.a.fits
