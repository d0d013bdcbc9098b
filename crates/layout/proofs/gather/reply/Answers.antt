-- A board with a rank is below 8.
-- So it is an index of a row.
use Rattle.std.proofs.Common.{arith}
use Rattle.boards.proofs.Members.{member_below}
use Rattle.layout.proofs.gather.reply.Goals as goal

pub bounds-entries-from : goal.bounds-entries-from
bounds-entries-from c = omega (arith, member_below _ _ c.in_ok-rank.ensures.0, c.from-in-Stored.ensures)

pub bounds-tags-from : goal.bounds-tags-from
bounds-tags-from c = omega (arith, member_below _ _ c.in_ok-rank.ensures.0, c.from-in-Stored-2.ensures)
