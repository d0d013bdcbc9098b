-- The parts together.
-- None of them is longer than the whole, which is short.
use Rattle.std.proofs.Common.{arith}
use Rattle.writer.proofs.Lengths.{layout_sum}
use Rattle.writer.proofs.room.needed.Goals as goal

pub returns : goal.returns
returns c = omega (arith, layout_sum c.args.layout.now)
