-- Replies are nine bytes for each board.
-- What else may stand there needs no proof here.
use Rattle.std.proofs.Common.{arith}
use Rattle.layout.proofs.Fronts.{replies_even}
use Rattle.writer.proofs.put.Cursor.put_middle.Goals as goal

pub put_replies-requires : goal.put_replies-requires
put_replies-requires c =
    let x = c.in-Replies.gathered in
    omega (arith, rw c.in-Replies.is at c.requires, replies_even x.replies.set.bits x.replies.entries x.even)
