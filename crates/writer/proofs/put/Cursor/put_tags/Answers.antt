-- Stored tags are eight bytes for each board.
-- So there is room for them.
use Rattle.std.proofs.Common.{arith}
use Rattle.layout.proofs.Stored.{stored_long}
use Rattle.writer.proofs.put.Cursor.put_tags.Goals as goal

pub put_stored-requires : goal.put_stored-requires
put_stored-requires c = omega (arith, rw c.in-Stored.is at c.requires, stored_long c.args.by.set.bits c.in-Stored.row.now)
