-- An entry's byte, then its tag.
-- Two puts are one.
use Rattle.std.proofs.Common.{arith}
use Rattle.writer.proofs.Puts.{more_at}
use Rattle.writer.proofs.put.Cursor.put_reply.Goals as goal

pub returns : goal.returns
returns c = more_at (omega arith) (rw c.from.ensures at c.put.ensures) c.put_tags.ensures
