-- Replies are nine bytes for each board.
-- What else may stand there needs no proof here.
use Rattle.std.proofs.Common.{arith}
use Rattle.layout.proofs.Fronts.{replies_even}
use Rattle.writer.proofs.room.of_middle.Goals as goal

pub returns-in-Replies : goal.returns-in-Replies
returns-in-Replies c =
    let x = c.in-Replies.gathered in
    rw c.in-Replies.is (omega (arith, replies_even x.replies.set.bits x.replies.entries x.even))
