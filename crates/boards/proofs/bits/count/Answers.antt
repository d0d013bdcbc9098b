-- The bits that are set are the boards of the set.
-- The law of that is in Members.
use Rattle.std.proofs.Common.{arith}
use Rattle.boards.proofs.Members.{size_ones}
use Rattle.boards.proofs.Sets.{size_le}
use Rattle.boards.proofs.bits.count.Goals as goal

pub returns : goal.returns
returns c = let e = size_ones c.args.bits c.ranges.bits.fits in (e, omega (arith, e, size_le c.args.bits))
